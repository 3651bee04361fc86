-- Nothing to believe: laws. The call that judges all tests: when each refusal is given, what is then answered, and what
-- stands in the list.
use Rattle.std.specs.Prelude.{◌≡◌, ◌⊎◌, ◌≢◌, ◌↔◌, Bool, cond, List, ℕ, ◌≤◌, ◌<◌, leb, get_or, Ok, Err}
use Rattle.std.proofs.Math.Path.{refl}
use Rattle.std.proofs.Common.{sym, ap, ◌∙◌, inl, inr, eqb-true, eq-eqb, ne_eqb}
use Rattle.std.proofs.Math.Bool.{true, false}
use native.Mathlib.Omega.{arith}
use Rattle.std.proofs.Math.Dec.{eqb}
use Rattle.std.proofs.Math.ListN.{length}
use Rattle.std.proofs.lemmas.Bool.{eqb-false}
use Rattle.base.proofs.Truth.{dec, lt_or_ge}
use Rattle.base.proofs.Finds.{finds_le}
use Rattle.base.specs.Refusal.{unless}
use Rattle.base.proofs.Refusal.{unless_hit, unless_none, unless_other}
use Rattle.base.specs.Table.{up_to}
use Rattle.base.proofs.Table.{length_up_to, get_or_up_to}
use Rattle.base.specs.Front.{at_front}
use Rattle.base.proofs.Front.{at_front_length, at_front_before, at_front_behind}
use Rattle.sheet_spec.specs.declared.Sheet.{Sheet}
use Rattle.sheet_spec.specs.Refusals.{sheet_fault, BothAccepted, Agree, CodesDiffer, Own}
use Rattle.sheet_spec.proofs.Chains.{finally}
use Rattle.sheet_spec.proofs.CheckLaws.{own_other}
use Rattle.sheet_spec.proofs.PairFaults.{pair_reference, pair_device, pair_sheet, pair_11, pair_19, pair_rest}
use Rattle.verdicts_spec.specs.Suites.{test_count, verdict_number, suite_fault, suite_of, verdicts_after}
use Rattle.verdicts_spec.specs.Numbers.{Suited, suited}

module _ (P Q : Sheet) (out : List ℕ) where
  -- what is tested after what the two sheets must share
  abbrev after_shared : ℕ
  after_shared = unless (leb (test_count P Q) (length out)) 10 0

  -- the reference's own refusal comes first, then the device's
  pub suite_reference : sheet_fault P ≢ 0 → suite_fault P Q out ≡ sheet_fault P
  unfolding suite_fault
  suite_reference = pair_reference P Q after_shared

  pub suite_device : sheet_fault P ≡ 0 → sheet_fault Q ≢ 0 → suite_fault P Q out ≡ sheet_fault Q
  unfolding suite_fault
  suite_device = pair_device P Q after_shared

  -- 11: of sheets that are not refused, E differs
  pub suite_11 : (suite_fault P Q out ≡ 11) ↔ (BothAccepted P Q × (P.e ≢ Q.e))
  unfolding suite_fault
  suite_11 = pair_11 P Q after_shared (unless_other (leb (test_count P Q) (length out)) (λ p. omega arith) (λ p. omega arith))

  -- 19: of sheets that are not refused and have one E, some event has another code
  pub suite_19 : (suite_fault P Q out ≡ 19) ↔ (BothAccepted P Q × ((P.e ≡ Q.e) × CodesDiffer P Q))
  unfolding suite_fault
  suite_19 = pair_19 P Q after_shared (unless_other (leb (test_count P Q) (length out)) (λ p. omega arith) (λ p. omega arith))

  -- 10: of sheets that are not refused and agree, the list is shorter than the tests
  pub suite_10 : (suite_fault P Q out ≡ 10) ↔ ((BothAccepted P Q × Agree P Q) × (length out < test_count P Q))
  unfolding suite_fault
  suite_10 =
      finally (pair_rest P Q after_shared 10 (inl (omega arith, λ p. omega arith)) (λ p. omega arith) (λ p. omega arith))
      (λ f. unless_hit 10 0 (finds_le (test_count P Q) (length out)) (λ p. omega arith))

  -- no refusal: of sheets that are not refused and agree, the list is long enough
  pub suite_0 : (suite_fault P Q out ≡ 0) ↔ ((BothAccepted P Q × Agree P Q) × (¬ (length out < test_count P Q)))
  unfolding suite_fault
  suite_0 =
      finally (pair_rest P Q after_shared 0 (inr refl) (λ p. omega arith) (λ p. omega arith))
      (λ f. unless_none 10 (finds_le (test_count P Q) (length out)) (λ p. omega arith))

  -- a sheet's own number is given exactly for that sheet, the reference before the device
  pub suite_sheet : (m : ℕ) → Own m → (suite_fault P Q out ≡ m) ↔ ((sheet_fault P ≡ m) ⊎ ((sheet_fault P ≡ 0) × (sheet_fault Q ≡ m)))
  unfolding suite_fault
  suite_sheet m o =
      pair_sheet P Q after_shared m o
      (unless_other (leb (test_count P Q) (length out)) (own_other o (omega arith, λ p. omega arith)) (λ e. omega (arith, o.0)))

  -- two sheets that are not refused and agree, with a list that is long enough, get no refusal
  pub suite_fits : sheet_fault P ≡ 0 → sheet_fault Q ≡ 0 → Agree P Q → test_count P Q ≤ length out → suite_fault P Q out ≡ 0
  suite_fits p q a l = suite_0.1 (((p, q), a), λ h. omega arith)

  module _ (n : suite_fault P Q out ≢ 0) where
    -- a refusal answers its number, with no other part, and alters nothing
    pub denied_suite : suite_of P Q out ≡ Err (suite_fault P Q out)
    unfolding suite_of
    denied_suite = rw (ne_eqb (suite_fault P Q out) 0 n)

    pub denied_suited : suited (suite_of P Q out) ≡ record { refusal = suite_fault P Q out; count = 0 }
    unfolding suited
    denied_suited = rw denied_suite

    pub denied_verdicts : (trace_only : Bool) → verdicts_after trace_only P Q out ≡ out
    unfolding verdicts_after
    denied_verdicts trace_only = rw (ne_eqb (suite_fault P Q out) 0 n)

  module _ (z : suite_fault P Q out ≡ 0) where
    -- without a refusal the number of tests is answered
    pub given_suite : suite_of P Q out ≡ Ok (test_count P Q)
    unfolding suite_of
    given_suite = rw (eq-eqb (suite_fault P Q out) 0 z)

    pub given_suited : suited (suite_of P Q out) ≡ record { refusal = 0; count = test_count P Q }
    unfolding suited
    given_suited = rw given_suite

    -- without a refusal there is room for every verdict
    pub given_room : test_count P Q ≤ length out
    given_room = go (lt_or_ge (length out) (test_count P Q))
      where
        go : (length out < test_count P Q) ⊎ (test_count P Q ≤ length out) → test_count P Q ≤ length out
        go (inl l) = absurd ((suite_0.0 z).1 l)
        go (inr l) = l

    module _ (trace_only : Bool) where
      -- without a refusal the verdicts stand at the front of the list
      pub given_verdicts : verdicts_after trace_only P Q out ≡ at_front out (up_to (verdict_number trace_only P Q) (test_count P Q))
      unfolding verdicts_after
      given_verdicts = rw (eq-eqb (suite_fault P Q out) 0 z)

      -- without a refusal each place below the number of tests holds its verdict's number, and behind these the list is
      -- as it was
      pub verdict_place : (k : ℕ) → k < test_count P Q → get_or (verdicts_after trace_only P Q out) k 0 ≡ verdict_number trace_only P Q k
      verdict_place k l =
          rw given_verdicts
          (at_front_before out (up_to (verdict_number trace_only P Q) (test_count P Q)) k 0 (omega (arith, length_up_to (verdict_number trace_only P Q) (test_count P Q)))
          ∙ get_or_up_to (verdict_number trace_only P Q) (test_count P Q) k 0 l)

      pub verdict_rest : (x : ℕ) → test_count P Q ≤ x → get_or (verdicts_after trace_only P Q out) x 0 ≡ get_or out x 0
      verdict_rest x l = rw given_verdicts (at_front_behind out (up_to (verdict_number trace_only P Q) (test_count P Q)) x 0 (omega (arith, length_up_to (verdict_number trace_only P Q) (test_count P Q))))

  -- every call, refused or not, says its refusal
  pub suited_refusal : (suited (suite_of P Q out)).refusal ≡ suite_fault P Q out
  suited_refusal = go (dec (eqb (suite_fault P Q out) 0))
    where
      go : (eqb (suite_fault P Q out) 0 ≡ true) ⊎ (eqb (suite_fault P Q out) 0 ≡ false) → (suited (suite_of P Q out)).refusal ≡ suite_fault P Q out
      go (inl t) = let z = eqb-true (suite_fault P Q out) 0 t in ap (λ (n : Suited). n.refusal) (given_suited z) ∙ sym z
      go (inr t) = ap (λ (n : Suited). n.refusal) (denied_suited (eqb-false (suite_fault P Q out) 0 t))

  -- the list keeps its length in every call
  pub verdicts_length : (trace_only : Bool) → length (verdicts_after trace_only P Q out) ≡ length out
  unfolding verdicts_after
  verdicts_length trace_only = go (eqb (suite_fault P Q out) 0) refl
    where
      go : (b : Bool) → eqb (suite_fault P Q out) 0 ≡ b → length (cond b (at_front out (up_to (verdict_number trace_only P Q) (test_count P Q))) out) ≡ length out
      go true e =
          let room = given_room (eqb-true (suite_fault P Q out) 0 e) in
          at_front_length out (up_to (verdict_number trace_only P Q) (test_count P Q)) (omega (arith, room, length_up_to (verdict_number trace_only P Q) (test_count P Q)))
      go false e = refl
