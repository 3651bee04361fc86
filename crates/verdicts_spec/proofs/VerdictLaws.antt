-- Nothing to believe: laws. What a verdict means (01, "A device node can do ..."): the test fails exactly if some run
-- against the device, opened and stepped as the bench does it, can end failed. And which verdicts are refused.
use Rattle.std.specs.Prelude.{◌≡◌, ◌⊎◌, ◌≢◌, ◌↔◌, Bool, eqb, leb, Result, Ok, Err}
use Rattle.std.proofs.Math.Path.{refl, ap, subst}
use Rattle.std.proofs.Common.{sym, ◌∙◌, lt-ltb, eqb-true, eq-eqb, ne_eqb}
use Rattle.std.proofs.Math.Logic.{inl, inr}
use Rattle.std.proofs.Math.Bool.{true, false, cond, false≢true}
use mathlib.Core.List.{List, [], ◌∷◌}
use Prim.Native.Nat.{ℕ, zero, suc, ◌+◌, ◌^◌, ◌≤◌, ◌<◌}
use native.Mathlib.Omega.{arith}
use Rattle.std.proofs.Math.Decide.{ℕ_discrete}
use Rattle.std.proofs.lemmas.Bool.{eqb-false}
use Rattle.base.proofs.Truth.{dec, clash, not_i}
use Rattle.base.proofs.Finds.{finds_le}
use Rattle.base.proofs.Refusal.{unless_hit, unless_none, unless_other}
use Rattle.events.specs.Bit.{bit, Within, Apart}
use Rattle.events.proofs.Bit.{bit≤1}
use Rattle.sheet_spec.specs.declared.Sheet.{Sheet}
use Rattle.sheet_spec.specs.Kept.{row, successor, acceptance, acceptances, Initial, may_stop, step}
use Rattle.sheet_spec.specs.Refusals.{sheet_fault, BothAccepted, Agree, CodesDiffer, Own}
use Rattle.sheet_spec.proofs.Chains.{finally}
use Rattle.sheet_spec.proofs.CheckLaws.{own_other}
use Rattle.sheet_spec.proofs.PairFaults.{pair_sheet, pair_11, pair_19, pair_rest}
use Rattle.sheet_spec.specs.Sound.{Sound}
use Rattle.sheet_spec.proofs.SoundLaws.{check_sound}
use Rattle.probes_spec.specs.Probes.{probes}
use Rattle.refinement_spec.specs.Refinement.{MayRefuse}
use Rattle.refinement_spec.specs.ViolatingPairs.{has_stray, has_refusal, violating}
use Rattle.refinement_spec.proofs.PairLaws.{stray_means, violates_means}
use Rattle.tests_spec.specs.declared.Run.{Run}
use Rattle.tests_spec.specs.declared.Report.{Report}
use Rattle.tests_spec.specs.declared.Report.TheVariants.{Event, Blocked}
use Rattle.tests_spec.specs.declared.Answer.{Answer}
use Rattle.tests_spec.specs.declared.Answer.TheVariants.{Going, Stray, Refused, Passed, Inconclusive, Denied}
use Rattle.verdicts_spec.specs.declared.Verdict.{Verdict}
use Rattle.verdicts_spec.specs.declared.Verdict.TheVariants.{Passes, Fails}
use Rattle.tests_spec.specs.Flags.{flag, flag_of}
use Rattle.tests_spec.proofs.Flags.{flag_clear, flag_of_lem}
use Rattle.tests_spec.specs.Runs.{probes_at, chosen, offer_of, new_run, answered, open_of, report_fault, moved_by, step_of}
use Rattle.verdicts_spec.specs.Verdicts.{CanReport, Failed, device_after, EndsFailed, FailsTest, fails_from, verdict_fault, verdict_of}
use Rattle.tests_spec.specs.Numbers.{said}
use Rattle.tests_spec.proofs.Offers.{offer_all, offer_below, offer_at_lem, offer_outside}
use Rattle.verdicts_spec.proofs.Blocks.{stop_blocks, all_blocked, block_refusal, refusal_block}
use Rattle.tests_spec.proofs.RunLaws.{open_0, open_going, blocked_taken, event_taken, answer_of_lem, run_of, kind_same, value_same, stray_step, moving_step, blocked_refused, taken}
use Rattle.tests_spec.specs.Reports.{WrongRecord, Taken, denies, moves, strays, refuses, passes, halts}
use Rattle.verdicts_spec.proofs.FaultyPairs.{StopsAt, FailsOnward, fails_next}

-- The refusals of a verdict.
module _ (P Q : Sheet) (k : ℕ) where
  -- a refused sheet's own number is given for that sheet, the reference's before the device's
  pub verdict_sheet : (m : ℕ) → Own m → (verdict_fault P Q k ≡ m) ↔ ((sheet_fault P ≡ m) ⊎ ((sheet_fault P ≡ 0) × (sheet_fault Q ≡ m)))
  unfolding verdict_fault
  verdict_sheet m o = pair_sheet P Q _ m o (unless_other (leb k 1023) (own_other o (omega arith, λ p. omega arith)) (λ e. omega (arith, o.0)))

  -- 11: of sheets that are not refused, E differs
  pub verdict_11 : (verdict_fault P Q k ≡ 11) ↔ (BothAccepted P Q × (P.e ≢ Q.e))
  unfolding verdict_fault
  verdict_11 = pair_11 P Q _ (unless_other (leb k 1023) (λ e. omega arith) (λ e. omega arith))

  -- 19: of sheets that are not refused and have one E, some event has another code
  pub verdict_19 : (verdict_fault P Q k ≡ 19) ↔ (BothAccepted P Q × ((P.e ≡ Q.e) × CodesDiffer P Q))
  unfolding verdict_fault
  verdict_19 = pair_19 P Q _ (unless_other (leb k 1023) (λ e. omega arith) (λ e. omega arith))

  -- 14: of sheets that are not refused and agree, k is above 1,023
  pub verdict_14 : (verdict_fault P Q k ≡ 14) ↔ ((BothAccepted P Q × Agree P Q) × (1023 < k))
  unfolding verdict_fault
  verdict_14 =
      finally (pair_rest P Q _ 14 (inl (omega arith, λ p. omega arith)) (λ e. omega arith) (λ e. omega arith))
      (λ h. unless_hit 14 0 (finds_le k 1023) (λ e. omega arith))

  -- no refusal: neither sheet is refused, they agree, and k is not above 1,023
  pub verdict_0 : (verdict_fault P Q k ≡ 0) ↔ ((BothAccepted P Q × Agree P Q) × (¬ (1023 < k)))
  unfolding verdict_fault
  verdict_0 =
      finally (pair_rest P Q _ 0 (inr refl) (λ e. omega arith) (λ e. omega arith)) (λ h. unless_none 14 (finds_le k 1023) (λ e. omega arith))

  -- a refused verdict has its number
  pub verdict_denied : (trace_only : Bool) → verdict_fault P Q k ≢ 0 → verdict_of trace_only P Q k ≡ Err (verdict_fault P Q k)
  unfolding verdict_of
  verdict_denied trace_only n = rw (ne_eqb (verdict_fault P Q k) 0 n)

  -- a verdict that is not refused is the test's
  pub verdict_given : (trace_only : Bool) → verdict_fault P Q k ≡ 0 → verdict_of trace_only P Q k ≡ Ok (cond (fails_from trace_only P Q k 0 0) Fails Passes)
  unfolding verdict_of
  verdict_given trace_only z = rw (eq-eqb (verdict_fault P Q k) 0 z)

-- a verdict is refused exactly with the number of its refusal
pub verdict_refused : (P Q : Sheet) (k : ℕ) (trace_only : Bool) (m : ℕ) → (verdict_of trace_only P Q k ≡ Err m) ↔ ((verdict_fault P Q k ≡ m) × (m ≢ 0))
verdict_refused P Q k trace_only m = (λ e. forth e (dec (eqb (verdict_fault P Q k) 0)), back)
  where
    forth : verdict_of trace_only P Q k ≡ Err m → (eqb (verdict_fault P Q k) 0 ≡ true) ⊎ (eqb (verdict_fault P Q k) 0 ≡ false) → (verdict_fault P Q k ≡ m) × (m ≢ 0)
    forth e (inl t) = let g = verdict_given P Q k trace_only (eqb-true _ 0 t) in cc
    forth e (inr t) =
        let n = eqb-false (verdict_fault P Q k) 0 t in
        let d = verdict_denied P Q k trace_only n in
        let q : verdict_fault P Q k ≡ m = cc in
        (q, λ z. n (q ∙ z))

    back : (verdict_fault P Q k ≡ m) × (m ≢ 0) → verdict_of trace_only P Q k ≡ Err m
    back (e, n) = verdict_denied P Q k trace_only (λ z. n (sym e ∙ z)) ∙ ap (λ (x : ℕ). Err x) e

-- an answer ends a run as failed exactly if it is a stray or "refused": passed and inconclusive are no failure
pub failed_means : (a : Answer) → Failed a ↔ (((i : ℕ) × (a ≡ Stray i)) ⊎ ((X : ℕ) × (a ≡ Refused X)))
unfolding Failed
failed_means a = (forth a, back)
  where
    forth : (a : Answer) → Failed a → ((i : ℕ) × (a ≡ Stray i)) ⊎ ((X : ℕ) × (a ≡ Refused X))
    forth (Going y) f = absurd f
    forth (Stray i) f = inl (i, refl)
    forth (Refused X) f = inr (X, refl)
    forth Passed f = absurd f
    forth Inconclusive f = absurd f
    forth (Denied m) f = absurd f

    back : ((i : ℕ) × (a ≡ Stray i)) ⊎ ((X : ℕ) × (a ≡ Refused X)) → Failed a
    back (inl (i, e)) = subst Failed (sym e) tt
    back (inr (X, e)) = subst Failed (sym e) tt

-- at a node an initial leads on to a node
leads_on : {s : Sheet} → Sound s → (v i : ℕ) → v < s.n → Initial s.e (row s v) i → (step s v i ≡ successor (row s v) i) × (successor (row s v) i < s.n)
unfolding step
leads_on {s} o v i l (k, n) = (rw (lt-ltb v s.n l, lt-ltb i s.e k), go (o.successors v i l k))
  where
    go : (successor (row s v) i ≡ 255) ⊎ (successor (row s v) i < s.n) → successor (row s v) i < s.n
    go (inl e) = absurd (n e)
    go (inr d) = d

-- at a node an event that leads on is an initial
led_on : {s : Sheet} → Sound s → (v i : ℕ) → v < s.n → step s v i < s.n → Initial s.e (row s v) i × (step s v i ≡ successor (row s v) i)
unfolding step
led_on {s} o v i l d =
    let k : i < s.e = o.graphed.labels v i d in
    let e : step s v i ≡ successor (row s v) i = rw (lt-ltb v s.n l, lt-ltb i s.e k) in
    ((k, λ z. omega (arith, e, o.ranges.n_high)), e)

-- The meaning of the test.
module _ (P Q : Sheet) (acc_p : sheet_fault P ≡ 0) (acc_q : sheet_fault Q ≡ 0) (same : P.e ≡ Q.e) (trace_only : Bool) (k : ℕ) (small : k ≤ 1023) where
  op : Sound P
  op = check_sound P acc_p

  oq : Sound Q
  oq = check_sound Q acc_q

  -- a run of this test that goes on: at node n, x events deep
  abbrev live : ℕ → ℕ → ℕ → Run
  live h n x = record { k = k; h = h; trace_only = flag_of trace_only; ended = 0; node = n; depth = x }

  -- the flag of a run that goes on is not set: it has not ended
  not_ended : ¬ (flag 0 ≡ true)
  not_ended t = clash t flag_clear

  -- the flag of a run reads as whether the test is trace-only
  traced : {b : Bool} → trace_only ≡ b → flag (flag_of trace_only) ≡ b
  traced t = flag_of_lem trace_only ∙ t

  -- the events of the two sheets are the same
  to_P : (m i : ℕ) → Initial Q.e (row Q m) i → Initial P.e (row Q m) i
  to_P m i = subst (λ (x : ℕ). Initial x (row Q m) i) (sym same)

  to_Q : (m i : ℕ) → Initial P.e (row Q m) i → Initial Q.e (row Q m) i
  to_Q m i = subst (λ (x : ℕ). Initial x (row Q m) i) same

  -- a run of this test that goes on takes every event offered, and "blocked"
  fits : (h n x : ℕ) → n < P.n → x ≤ k → ¬ WrongRecord P (live h n x)
  fits h n x a l (inl f) = omega arith
  fits h n x a l (inr (inl f)) = omega arith
  fits h n x a l (inr (inr f)) = omega arith

  takes_event : (h n x i : ℕ) → n < P.n → x ≤ k → i < P.e → bit (offer_of P (live h n x)) i ≡ 1 → report_fault P (live h n x) (Event i) ≡ 0
  takes_event h n x i a l c b = (event_taken P (live h n x) i).1 (((acc_p, not_ended), fits h n x a l), c, b)

  takes_blocked : (h n x : ℕ) → n < P.n → x ≤ k → report_fault P (live h n x) Blocked ≡ 0
  takes_blocked h n x a l = (blocked_taken P (live h n x)).1 ((acc_p, not_ended), fits h n x a l)

  -- a device that blocks where the reference may not stop: with none to go a refusal, with some to go a stop
  blocked_fails : (h left n x m : ℕ) → x + left ≡ k → n < P.n → m < Q.n → trace_only ≡ false → may_stop (row P n) ≡ false
      → MayRefuse (row Q m) (offer_of P (live h n x)) → fails_from trace_only P Q left n m ≡ true
  unfolding fails_from violating probes_at
  blocked_fails h zero n x m e a b t s r =
      (violates_means trace_only P.e (row P n) (row Q m)).1
      (inr (t, block_refusal (row P n) (row Q m) (op.counts n a).1 P.e (λ l c. op.narrow n l a c) h (offer_of P (live h n x)) s within r))
    where
      Y : ℕ
      Y = chosen (probes (acceptances (row P n)) P.e) h

      within : Within Y (offer_of P (live h n x))
      within i = go (ℕ_discrete (bit Y i) 1)
        where
          go : Dec (bit Y i ≡ 1) → bit Y i ≤ bit (offer_of P (live h n x)) i
          go (yes c) = omega (arith, c, (offer_at_lem P (live h n x) op.ranges.e_high (traced t) (omega arith) i).1 (inl c))
          go (no c) = omega (arith, c, bit≤1 Y i)
  blocked_fails h (suc left) n x m e a b t s r =
      (fails_next trace_only P Q left n m).1
      (inr (inl (
        t,
        all_blocked (row Q m) (oq.counts m b).1 P.e (λ j c. subst (λ (z : ℕ). acceptance (row Q m) j < 2 ^ z) (sym same) (oq.narrow m j b c))
            (subst (MayRefuse (row Q m)) (offer_all P (live h n x) (inr (omega arith))) r),
        s,
      )))

  -- a stray fails with any number of events to go
  stray_fails : (left n m : ℕ) → has_stray P.e (row P n) (row Q m) ≡ true → fails_from trace_only P Q left n m ≡ true
  unfolding fails_from violating
  stray_fails zero n m s = (violates_means trace_only P.e (row P n) (row Q m)).1 (inl s)
  stray_fails (suc left) n m s = (fails_next trace_only P Q left n m).1 (inl s)

  -- reports that end a run as failed do so only where the test fails
  abbrev Before : ℕ → List Report → Type 0
  Before h reports =
      (left n x m : ℕ) → x + left ≡ k → n < P.n → m < Q.n → EndsFailed P Q (live h n x) m (offer_of P (live h n x)) reports
      → fails_from trace_only P Q left n m ≡ true

  -- where a run ends failed, the test fails
  ends→ : (h : ℕ) (reports : List Report) → Before h reports
  unfolding EndsFailed CanReport Failed device_after said moved_by
  ends→ h [] left n x m e a b f = absurd f
  ends→ h (report ∷ reports) left n x m e a b (can, alt) = go (taken P (live h n x) report) alt (ends→ h reports)
    where
      Rest : Type 0
      Rest =
          ((reports ≡ []) × Failed (step_of P (live h n x) report).answer)
          ⊎ ((next : ℕ) × ((step_of P (live h n x) report).answer ≡ Going next)
          × EndsFailed P Q (step_of P (live h n x) report).run (device_after Q m report) next reports)

      moved : (i : ℕ) (left : ℕ) → x + left ≡ k → x < k → Initial P.e (row P n) i → Initial Q.e (row Q m) i
          → Before h reports
          → EndsFailed P Q (live h (successor (row P n) i) (x + 1)) (successor (row Q m) i) (offer_of P (live h (successor (row P n) i) (x + 1))) reports
          → fails_from trace_only P Q left n m ≡ true
      moved i zero e l u v ih f = absurd (omega arith)
      moved i (suc left) e l u v ih f =
          let p = leads_on op n i a u in
          let q = leads_on oq m i b v in
          (fails_next trace_only P Q left n m).1
          (inr (inr (
            i,
            u.0,
            omega (arith, p.0, p.1),
            omega (arith, q.0, q.1),
            rw (p.0, q.0) (ih left (successor (row P n) i) (x + 1) (successor (row Q m) i) (omega arith) p.1 q.1 f),
          )))

      go : Taken P (live h n x) report → Rest
          → Before h reports
          → fails_from trace_only P Q left n m ≡ true
      go (denies z p) (inl (_, f)) ih = absurd (subst Failed (answer_of_lem p) f)
      go (denies z p) (inr (next, g, f)) ih = absurd (omega (arith, kind_same (sym (answer_of_lem p) ∙ g)))
      go (passes z _ p) (inl (_, f)) ih = absurd (subst Failed (answer_of_lem p) f)
      go (passes z _ p) (inr (next, g, f)) ih = absurd (omega (arith, kind_same (sym (answer_of_lem p) ∙ g)))
      go (halts z _ p) (inl (_, f)) ih = absurd (subst Failed (answer_of_lem p) f)
      go (halts z _ p) (inr (next, g, f)) ih = absurd (omega (arith, kind_same (sym (answer_of_lem p) ∙ g)))
      go (moves i q z u l p) (inl (_, f)) ih = absurd (subst Failed (answer_of_lem p) f)
      go (moves i q z u l p) (inr (next, g, f)) ih =
          moved i left e l u (subst (CanReport Q m (offer_of P (live h n x))) q can).1 ih
          (subst (λ (y : ℕ). EndsFailed P Q (moved_by P (live h n x) i) (successor (row Q m) i) y reports) (sym (value_same (sym (answer_of_lem p) ∙ g)))
          (subst (λ (y : Report). EndsFailed P Q (moved_by P (live h n x) i) (device_after Q m y) next reports) q
          (subst (λ (y : Run). EndsFailed P Q y (device_after Q m report) next reports) (run_of p) f)))
      go (strays i q z u p) alt ih =
          stray_fails left n m
          ((stray_means P.e (row P n) (row Q m) op.ranges.e_high).1 (i, to_P m i (subst (CanReport Q m (offer_of P (live h n x))) q can).1, u))
      go (refuses q z t s p) alt ih = blocked_fails h left n x m e a b (sym (flag_of_lem trace_only) ∙ t) s (subst (CanReport Q m (offer_of P (live h n x))) q can)

  -- a run that ends failed, for some choice number
  abbrev Ends : ℕ → ℕ → ℕ → Type 0
  Ends n x m = (h : ℕ) × (h < 65536) × ((reports : List Report) × EndsFailed P Q (live h n x) m (offer_of P (live h n x)) reports)

  -- a run that ends at a stray
  stray_ends : (n x m : ℕ) → n < P.n → x ≤ k → has_stray P.e (row P n) (row Q m) ≡ true → Ends n x m
  unfolding EndsFailed CanReport Failed
  stray_ends n x m a l s =
      let w = (stray_means P.e (row P n) (row Q m) op.ranges.e_high).0 s in
      let o = offer_outside P (live 0 n x) op.ranges.e_high w.0 w.1.0 w.2 in (
        0,
        omega arith,
        (
          Event w.0 ∷ [],
          (
            (o, to_Q m w.0 w.1),
            inl (refl, subst Failed (sym (answer_of_lem (stray_step P (live 0 n x) w.0 (takes_event 0 n x w.0 a l w.1.0 o) w.2))) tt),
          ),
        ),
      )

  -- a run that ends refused
  block_ends : (h n x m : ℕ) → h < 65536 → n < P.n → x ≤ k → trace_only ≡ false → may_stop (row P n) ≡ false → MayRefuse (row Q m) (offer_of P (live h n x)) → Ends n x m
  unfolding EndsFailed CanReport Failed
  block_ends h n x m c a l t s r =
      (h, c, (Blocked ∷ [], (r, inl (refl, subst Failed (sym (answer_of_lem (blocked_refused P (live h n x) (takes_blocked h n x a l) (traced t) s))) tt))))

  -- a run that ends at a refusal, at depth k
  refusal_ends : (n x m : ℕ) → x ≡ k → n < P.n → m < Q.n → trace_only ≡ false
      → has_stray P.e (row P n) (row Q m) ≡ false → has_refusal (row P n) (row Q m) ≡ true → Ends n x m
  unfolding probes_at
  refusal_ends n x m e a b t s f =
      let w = refusal_block (row P n) (row Q m) (op.counts n a).1 P.e (λ l c. op.narrow n l a c) op.ranges.e_high f in
      let v = w.1 in
      block_ends v.0 n x m v.1 a (omega arith) t w.0 (v.2.0, v.2.1, apart v.0 v.2.0 v.2.1 v.2.2)
    where
      apart : (h j : ℕ) → j < (row Q m).c → Apart (chosen (probes (acceptances (row P n)) P.e) h) (acceptance (row Q m) j)
          → Apart (acceptance (row Q m) j) (offer_of P (live h n x))
      apart h j l z i = go (ℕ_discrete (bit (acceptance (row Q m) j) i) 1) (ℕ_discrete (bit (offer_of P (live h n x)) i) 1)
        where
          A : ℕ
          A = acceptance (row Q m) j

          none : bit A i ≡ 1 → (bit (chosen (probes (acceptances (row P n)) P.e) h) i ≡ 1) ⊎ ((i < P.e) × (¬ Initial P.e (row P n) i)) → ⊥
          none y (inl c) = omega (arith, y, c, z i)
          none y (inr c) =
              let q = oq.inside m j i b l y in
              clash ((stray_means P.e (row P n) (row Q m) op.ranges.e_high).1 (i, (c.0, λ w. omega (arith, q.1, oq.ranges.n_high)), c.1)) s

          go : Dec (bit A i ≡ 1) → Dec (bit (offer_of P (live h n x)) i ≡ 1) → bit A i + bit (offer_of P (live h n x)) i ≤ 1
          go (yes y) (yes c) = absurd (none y ((offer_at_lem P (live h n x) op.ranges.e_high (traced t) (omega arith) i).0 c))
          go (yes y) (no c) = omega (arith, y, c, bit≤1 (offer_of P (live h n x)) i)
          go (no y) c = omega (arith, y, bit≤1 A i, bit≤1 (offer_of P (live h n x)) i)

  -- a run that goes on by an event
  move_ends : (n x m i : ℕ) → n < P.n → m < Q.n → x < k → Initial P.e (row P n) i → Initial Q.e (row Q m) i
      → Ends (successor (row P n) i) (x + 1) (successor (row Q m) i) → Ends n x m
  unfolding EndsFailed CanReport device_after moved_by
  move_ends n x m i a b l u v (h, c, (reports, f)) =
      let o = (offer_below P (live h n x) (inr l) i).1 u.0 in
      let p = moving_step P (live h n x) i (takes_event h n x i a (omega arith) u.0 o) u l in (
        h,
        c,
        (
          Event i ∷ reports,
          (
            (o, v),
            inr (
              offer_of P (moved_by P (live h n x) i),
              answer_of_lem p,
              subst (λ (y : Run). EndsFailed P Q y (successor (row Q m) i) (offer_of P (moved_by P (live h n x) i)) reports) (sym (run_of p)) f,
            ),
          ),
        ),
      )

  -- where the test fails, a run ends failed
  ends← : (left n x m : ℕ) → x + left ≡ k → n < P.n → m < Q.n → fails_from trace_only P Q left n m ≡ true → Ends n x m
  ends← zero n x m e a b f = go (dec (has_stray P.e (row P n) (row Q m))) ((violates_means trace_only P.e (row P n) (row Q m)).0 (unfold fails_from violating in f))
    where
      go : (has_stray P.e (row P n) (row Q m) ≡ true) ⊎ (has_stray P.e (row P n) (row Q m) ≡ false)
          → (has_stray P.e (row P n) (row Q m) ≡ true) ⊎ ((trace_only ≡ false) × (has_refusal (row P n) (row Q m) ≡ true)) → Ends n x m
      go (inl s) w = stray_ends n x m a (omega arith) s
      go (inr s) (inl w) = absurd (clash w s)
      go (inr s) (inr w) = refusal_ends n x m (omega arith) a b w.0 s w.1
  ends← (suc left) n x m e a b f = go ((fails_next trace_only P Q left n m).0 f) (ends← left)
    where
      go : (has_stray P.e (row P n) (row Q m) ≡ true) ⊎ (StopsAt trace_only P Q n m ⊎ FailsOnward trace_only P Q left n m)
          → ((n x m : ℕ) → x + left ≡ k → n < P.n → m < Q.n → fails_from trace_only P Q left n m ≡ true → Ends n x m) → Ends n x m
      go (inl s) ih = stray_ends n x m a (omega arith) s
      go (inr (inl (t, s, r))) ih = block_ends 0 n x m (omega arith) a (omega arith) t r (stop_blocks (row Q m) (oq.counts m b).1 (offer_of P (live 0 n x)) s)
      go (inr (inr (i, c, p, q, g))) ih =
          let u = led_on op n i a p in
          let v = led_on oq m i b q in
          move_ends n x m i a b (omega arith) u.0 v.0
          (ih (successor (row P n) i) (x + 1) (successor (row Q m) i) (omega arith) (omega (arith, u.1, p)) (omega (arith, v.1, q)) (rw (u.1, v.1) at g))

  -- the test fails exactly if for some choice number a run, opened and stepped as the bench does it, can end failed
  pub fails_means : (fails_from trace_only P Q k 0 0 ≡ true) ↔ FailsTest trace_only P Q k
  unfolding said new_run
  fails_means = (forth, back)
    where
      opened : (h : ℕ) → open_of trace_only P k h ≡ answered (Going (offer_of P (live h 0 0))) (live h 0 0)
      opened h = open_going P k h trace_only ((open_0 P k).1 (acc_p, λ l. omega arith))

      forth : fails_from trace_only P Q k 0 0 ≡ true → FailsTest trace_only P Q k
      forth f = end (ends← k 0 0 0 (omega arith) op.ranges.n_low oq.ranges.n_low f)
        where
          end : Ends 0 0 0 → FailsTest trace_only P Q k
          end (h, c, (reports, g)) = (
            h,
            c,
            offer_of P (live h 0 0),
            answer_of_lem (opened h),
            (reports, subst (λ (y : Run). EndsFailed P Q y 0 (offer_of P (live h 0 0)) reports) (sym (run_of (opened h))) g),
          )

      back : FailsTest trace_only P Q k → fails_from trace_only P Q k 0 0 ≡ true
      back (h, c, offer, g, (reports, f)) =
          ends→ h reports k 0 0 0 (omega arith) op.ranges.n_low oq.ranges.n_low
          (subst (λ (y : ℕ). EndsFailed P Q (live h 0 0) 0 y reports) (sym (value_same (sym (answer_of_lem (opened h)) ∙ g)))
          (subst (λ (y : Run). EndsFailed P Q y 0 offer reports) (run_of (opened h)) f))

-- What a verdict says, of accepted sheets that agree.
module _ (P Q : Sheet) (acc_p : sheet_fault P ≡ 0) (acc_q : sheet_fault Q ≡ 0) (agree : Agree P Q) (trace_only : Bool) (k : ℕ) (small : k ≤ 1023) where
  -- the test fails exactly if some run can end failed
  means : (fails_from trace_only P Q k 0 0 ≡ true) ↔ FailsTest trace_only P Q k
  means = fails_means P Q acc_p acc_q agree.0 trace_only k small

  -- for accepted sheets that agree and k up to 1,023 nothing is refused
  unrefused : verdict_fault P Q k ≡ 0
  unrefused = (verdict_0 P Q k).1 (((acc_p, acc_q), agree), λ l. omega arith)

  -- for accepted sheets that agree and k up to 1,023 a verdict is the test's
  given : verdict_of trace_only P Q k ≡ Ok (cond (fails_from trace_only P Q k 0 0) Fails Passes)
  given = verdict_given P Q k trace_only unrefused

  -- the verdict is "fails" exactly if some run can end failed
  pub verdict_means : (verdict_of trace_only P Q k ≡ Ok Fails) ↔ FailsTest trace_only P Q k
  verdict_means =
      (λ e. means.0 (forth (fails_from trace_only P Q k 0 0) (sym given ∙ e)), λ f. given ∙ ap (λ (b : Bool). Ok (cond b Fails Passes)) (means.1 f))
    where
      forth : (b : Bool) → ◌≡◌ {A = Result Verdict ℕ} (Ok (cond b Fails Passes)) (Ok Fails) → b ≡ true
      forth true e = refl
      forth false e = cc

  -- the verdict is "passes" exactly if no run can end failed
  pub verdict_passes : (verdict_of trace_only P Q k ≡ Ok Passes) ↔ (¬ FailsTest trace_only P Q k)
  verdict_passes = (
    λ e f. forth (fails_from trace_only P Q k 0 0) (sym given ∙ e) (means.1 f),
    λ n. given ∙ ap (λ (b : Bool). Ok (cond b Fails Passes)) (not_i (λ t. n (means.0 t))),
  )
    where
      forth : (b : Bool) → ◌≡◌ {A = Result Verdict ℕ} (Ok (cond b Fails Passes)) (Ok Passes) → b ≡ true → ⊥
      forth true e t = cc
      forth false e t = false≢true t

  -- the verdict is never a refusal
  pub verdict_undenied : (m : ℕ) → verdict_of trace_only P Q k ≢ Err m
  verdict_undenied m e = let w = (verdict_refused P Q k trace_only m).0 e in w.1 (sym w.0 ∙ unrefused)
