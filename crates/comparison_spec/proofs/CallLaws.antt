-- Nothing to believe: laws. The call of a comparison: when each refusal is given, and what it then answers and leaves.
use Rattle.std.specs.Prelude.{◌≡◌, ◌⊎◌, ◌≢◌, ◌↔◌, Bool, ◌&&◌, List, ℕ, ◌+◌, ◌-◌, ◌*◌, ◌≤◌, ◌<◌, leb, get_or, replicate, Ok, Err}
use Rattle.std.proofs.Math.Path.{refl}
use Rattle.std.proofs.Common.{◌∙◌}
use Rattle.std.proofs.Math.Logic.{inl, inr}
use Rattle.std.proofs.Math.Bool.{true, false, cond}
use native.Mathlib.Omega.{arith}
use Rattle.std.proofs.Math.Dec.{eqb}
use Rattle.std.proofs.Math.ListN.{length, length-replicate}
use Rattle.std.proofs.lemmas.List.{get_or-replicate}
use borrow.Author.Tests.{eqb-true, eq-eqb, ne_eqb, lt-ltb, le-ltb}
use Rattle.base.proofs.Finds.{finds_le}
use Rattle.base.specs.Front.{at_front}
use Rattle.base.proofs.Front.{at_front_length, at_front_before, at_front_behind}
use Rattle.base.specs.Refusal.{unless}
use Rattle.base.proofs.Refusal.{unless_hit, unless_pass, unless_none, unless_other}
use Rattle.sheet_spec.specs.declared.Sheet.{Sheet}
use Rattle.sheet_spec.specs.Refusals.{sheet_fault, BothAccepted, Agree, CodesDiffer, Own, NotOwn}
use Rattle.sheet_spec.proofs.Chains.{further, finally}
use Rattle.sheet_spec.proofs.CheckLaws.{own_other}
use Rattle.sheet_spec.proofs.PairFaults.{pair_reference, pair_device, pair_sheet, pair_11, pair_19, pair_rest}
use Rattle.comparison_spec.specs.Comparison.{pair_count, work_words, nearest, nearest_trace, comparison_of, compare_fault, outcome_of, trace_after, work_after}

module _ (P Q : Sheet) (work trace : List ℕ) where
  -- what is tested after the refusal 12
  abbrev after12 : ℕ
  after12 = unless (leb (pair_count P Q - 1) (length trace)) 13 0

  -- what is tested after what the two sheets must share
  abbrev after_shared : ℕ
  after_shared = unless (leb (work_words P Q) (length work)) 12 after12

  -- the reference's own refusal comes first, then the device's
  pub compare_reference : sheet_fault P ≢ 0 → compare_fault P Q work trace ≡ sheet_fault P
  unfolding compare_fault
  compare_reference = pair_reference P Q after_shared

  pub compare_device : sheet_fault P ≡ 0 → sheet_fault Q ≢ 0 → compare_fault P Q work trace ≡ sheet_fault Q
  unfolding compare_fault
  compare_device = pair_device P Q after_shared

  -- a sheet's own number is given exactly for that sheet, the reference before the device
  pub compare_sheet : (m : ℕ) → Own m → (compare_fault P Q work trace ≡ m) ↔ ((sheet_fault P ≡ m) ⊎ ((sheet_fault P ≡ 0) × (sheet_fault Q ≡ m)))
  unfolding compare_fault
  compare_sheet m o =
      pair_sheet P Q after_shared m o
      (unless_other (leb (work_words P Q) (length work)) (own_other o (omega arith, λ p. omega arith))
      (unless_other (leb (pair_count P Q - 1) (length trace)) (own_other o (omega arith, λ p. omega arith)) (λ p. omega (arith, o.0))))

  -- 11: of sheets that are not refused, E differs
  pub compare_11 : (compare_fault P Q work trace ≡ 11) ↔ (BothAccepted P Q × (P.e ≢ Q.e))
  unfolding compare_fault
  compare_11 =
      pair_11 P Q after_shared
      (unless_other (leb (work_words P Q) (length work)) (λ p. omega arith) (unless_other (leb (pair_count P Q - 1) (length trace)) (λ p. omega arith) (λ p. omega arith)))

  -- 19: of sheets that are not refused and have one E, some event has another code
  pub compare_19 : (compare_fault P Q work trace ≡ 19) ↔ (BothAccepted P Q × ((P.e ≡ Q.e) × CodesDiffer P Q))
  unfolding compare_fault
  compare_19 =
      pair_19 P Q after_shared
      (unless_other (leb (work_words P Q) (length work)) (λ p. omega arith) (unless_other (leb (pair_count P Q - 1) (length trace)) (λ p. omega arith) (λ p. omega arith)))

  -- 12: of sheets that are not refused and agree, the work list is too short
  pub compare_12 : (compare_fault P Q work trace ≡ 12) ↔ ((BothAccepted P Q × Agree P Q) × (length work < 2 * pair_count P Q))
  unfolding compare_fault
  compare_12 =
      finally (pair_rest P Q after_shared 12 (inl (omega arith, λ p. omega arith)) (λ p. omega arith) (λ p. omega arith))
      (λ f. unless_hit 12 after12 (finds_le (work_words P Q) (length work)) (unless_other (leb (pair_count P Q - 1) (length trace)) (λ p. omega arith) (λ p. omega arith)))

  -- 13, or none, comes from what is tested after 12, of sheets that may be paired and a work list that is long enough
  past_12 : (m : ℕ) → (m ≡ 13) ⊎ (m ≡ 0) → (compare_fault P Q work trace ≡ m) ↔ (((BothAccepted P Q × Agree P Q) × (¬ (length work < work_words P Q))) × (after12 ≡ m))
  unfolding compare_fault
  past_12 m h =
      further (pair_rest P Q after_shared m (wide h) (not_it 11 (λ p. omega arith) (λ p. omega arith) h) (not_it 19 (λ p. omega arith) (λ p. omega arith) h))
      (λ f. unless_pass 12 after12 m (finds_le (work_words P Q) (length work)) (not_it 12 (λ p. omega arith) (λ p. omega arith) h))
    where
      wide : (m ≡ 13) ⊎ (m ≡ 0) → NotOwn m ⊎ (m ≡ 0)
      wide (inl p) = inl (omega arith, λ q. omega arith)
      wide (inr p) = inr p

      not_it : (k : ℕ) → k ≢ 13 → k ≢ 0 → (m ≡ 13) ⊎ (m ≡ 0) → k ≢ m
      not_it k a b (inl p) e = a (e ∙ p)
      not_it k a b (inr p) e = b (e ∙ p)

  -- 13: of sheets that are not refused and agree, the work list is long enough and the trace list too short
  pub compare_13 : (compare_fault P Q work trace ≡ 13) ↔ (((BothAccepted P Q × Agree P Q) × (¬ (length work < 2 * pair_count P Q))) × (length trace < pair_count P Q - 1))
  compare_13 = finally (past_12 13 (inl refl)) (λ f. unless_hit 13 0 (finds_le (pair_count P Q - 1) (length trace)) (λ p. omega arith))

  -- no refusal: of sheets that are not refused and agree, both lists are long enough
  pub compare_0 : (compare_fault P Q work trace ≡ 0) ↔ (((BothAccepted P Q × Agree P Q) × (¬ (length work < 2 * pair_count P Q))) × (¬ (length trace < pair_count P Q - 1)))
  compare_0 = finally (past_12 0 (inr refl)) (λ f. unless_none 13 (finds_le (pair_count P Q - 1) (length trace)) (λ p. omega arith))

  -- two sheets that are not refused and agree, with lists that are long enough, get no refusal
  pub compare_fits : sheet_fault P ≡ 0 → sheet_fault Q ≡ 0 → Agree P Q → 2 * pair_count P Q ≤ length work → pair_count P Q - 1 ≤ length trace → compare_fault P Q work trace ≡ 0
  compare_fits p q a w t = compare_0.1 ((((p, q), a), λ l. omega arith), λ l. omega arith)

  module _ (trace_only : Bool) where
    -- a refusal answers its number and alters nothing
    pub denied_outcome : compare_fault P Q work trace ≢ 0 → outcome_of trace_only P Q work trace ≡ Err (compare_fault P Q work trace)
    unfolding outcome_of
    denied_outcome n = rw (ne_eqb (compare_fault P Q work trace) 0 n)

    pub denied_trace : compare_fault P Q work trace ≢ 0 → trace_after trace_only P Q work trace ≡ trace
    unfolding trace_after
    denied_trace n = rw (ne_eqb (compare_fault P Q work trace) 0 n)

    pub denied_work : compare_fault P Q work trace ≢ 0 → work_after P Q work trace ≡ work
    unfolding work_after
    denied_work n = rw (ne_eqb (compare_fault P Q work trace) 0 n)

    -- without a refusal the answer is the comparison's, the trace fills the front of its list, and the work list's
    -- front is 0
    pub given_outcome : compare_fault P Q work trace ≡ 0 → outcome_of trace_only P Q work trace ≡ Ok (comparison_of trace_only P Q)
    unfolding outcome_of
    given_outcome z = rw (eq-eqb (compare_fault P Q work trace) 0 z)

    pub given_trace : compare_fault P Q work trace ≡ 0 → nearest trace_only P Q < pair_count P Q → trace_after trace_only P Q work trace ≡ at_front trace (nearest_trace trace_only P Q)
    unfolding trace_after
    given_trace z l = rw (eq-eqb (compare_fault P Q work trace) 0 z, lt-ltb (nearest trace_only P Q) (pair_count P Q) l)

    pub given_no_trace : pair_count P Q ≤ nearest trace_only P Q → trace_after trace_only P Q work trace ≡ trace
    unfolding trace_after
    given_no_trace l = rw (le-ltb (nearest trace_only P Q) (pair_count P Q) l) (off (eqb (compare_fault P Q work trace) 0))
      where
        off : (b : Bool) → cond (b && false) (at_front trace (nearest_trace trace_only P Q)) trace ≡ trace
        off true = refl
        off false = refl

    pub given_work : compare_fault P Q work trace ≡ 0 → work_after P Q work trace ≡ at_front work (replicate (2 * pair_count P Q) 0)
    unfolding work_after
    given_work z = rw (eq-eqb (compare_fault P Q work trace) 0 z)

    -- without a refusal 2 p q words of the work list are 0, place by place, and later words are left
    pub work_zero : compare_fault P Q work trace ≡ 0 → (x : ℕ) → x < 2 * pair_count P Q → get_or (work_after P Q work trace) x 1 ≡ 0
    work_zero z x l = rw (given_work z) (at_front_before work (replicate (work_words P Q) 0) x 1 (omega (arith, length-replicate {A = ℕ} (work_words P Q) 0))
        ∙ get_or-replicate {A = ℕ} (work_words P Q) x 0 1 l)

    pub work_left : compare_fault P Q work trace ≡ 0 → (x : ℕ) → get_or (work_after P Q work trace) (2 * pair_count P Q + x) 0 ≡ get_or work (2 * pair_count P Q + x) 0
    work_left z x = rw (given_work z) (at_front_behind work (replicate (work_words P Q) 0) (work_words P Q + x) 0 (omega (arith, length-replicate {A = ℕ} (work_words P Q) 0)))

    -- the work list keeps its length in every call
    pub work_kept : length (work_after P Q work trace) ≡ length work
    unfolding work_after
    work_kept = go (eqb (compare_fault P Q work trace) 0) refl
      where
        go : (b : Bool) → eqb (compare_fault P Q work trace) 0 ≡ b → length (cond b (at_front work (replicate (work_words P Q) 0)) work) ≡ length work
        go true e =
            let o = compare_0.0 (eqb-true (compare_fault P Q work trace) 0 e) in
            at_front_length work (replicate (work_words P Q) 0) (omega (arith, o.0.1, length-replicate {A = ℕ} (work_words P Q) 0))
        go false e = refl
