-- Nothing to believe: laws. The numbers of the answers that an opening and a report get: in which case each kind is
-- given, and with what value.
use Rattle.std.specs.Prelude.{◌≡◌, ◌⊎◌, ◌≢◌, ◌↔◌, Bool, true, false, ℕ, eqb}
use Rattle.std.proofs.Common.{sym, ap, ◌∙◌, arith, eqb-true}
use Rattle.std.proofs.Math.Logic.{inl, inr}
use Rattle.std.proofs.lemmas.Bool.{eqb-false}
use Rattle.base.proofs.Truth.{dec}
use Rattle.sheet_spec.specs.declared.Sheet.{Sheet}
use Rattle.tests_spec.specs.declared.Run.{Run}
use Rattle.tests_spec.specs.declared.Report.{Report}
use Rattle.tests_spec.specs.declared.Report.TheVariants.{Event, Blocked}
use Rattle.tests_spec.specs.Runs.{offer_of, new_run, open_fault, open_of, report_fault, step_of}
use Rattle.tests_spec.specs.Numbers.{Said, said}
use Rattle.tests_spec.proofs.RunLaws.{open_going, open_denied, step_denied, stray_step, moving_step, passing_step, blocked_halts, blocked_at_k, blocked_stops, blocked_refused, taken}
use Rattle.tests_spec.specs.Reports.{Moving, Straying, Refusing, Passing, Halting, Taken, denies, moves, strays, refuses, passes, halts}

-- ---- an opening

module _ (trace_only : Bool) (s : Sheet) (k h : ℕ) where
  -- an opening that is not refused is of kind 1, with the first offer of the run at its start
  pub opened_said : open_fault s k ≡ 0 → said (open_of trace_only s k h).answer ≡ record { refusal = 0; kind = 1; value = offer_of s (new_run trace_only k h) }
  unfolding said
  opened_said z = rw (open_going s k h trace_only z)

  -- an opening that is refused has the number of its refusal, and 0 in every other part
  pub unopened_said : open_fault s k ≢ 0 → said (open_of trace_only s k h).answer ≡ record { refusal = open_fault s k; kind = 0; value = 0 }
  unfolding said
  unopened_said n = rw (open_denied s k h trace_only n)

  -- every opening, refused or not, says its refusal
  pub opening_refusal : (said (open_of trace_only s k h).answer).refusal ≡ open_fault s k
  opening_refusal = go (dec (eqb (open_fault s k) 0))
    where
      go : (eqb (open_fault s k) 0 ≡ true) ⊎ (eqb (open_fault s k) 0 ≡ false) → (said (open_of trace_only s k h).answer).refusal ≡ open_fault s k
      go (inl t) = let z = eqb-true (open_fault s k) 0 t in ap (λ (n : Said). n.refusal) (opened_said z) ∙ sym z
      go (inr t) = ap (λ (n : Said). n.refusal) (unopened_said (eqb-false (open_fault s k) 0 t))

-- ---- a report

module _ (s : Sheet) (r : Run) where
  -- a report that is refused has the number of its refusal, and 0 in every other part
  pub denied_said : (x : Report) → report_fault s r x ≢ 0 → said (step_of s r x).answer ≡ record { refusal = report_fault s r x; kind = 0; value = 0 }
  unfolding said
  denied_said x n = rw (step_denied s r x n)

  -- an event inside the initials below depth k is of kind 1, with the offer of the run after it
  pub moving_said : (x : Report) → report_fault s r x ≡ 0 → Moving s r x → said (step_of s r x).answer ≡ record { refusal = 0; kind = 1; value = offer_of s (step_of s r x).run }
  unfolding said Moving
  moving_said (Event i) z (a, l) = rw (moving_step s r i z a l)
  moving_said Blocked z m = absurd m

  -- an event outside the initials is of kind 2, with itself as the value
  pub stray_said : (i : ℕ) → report_fault s r (Event i) ≡ 0 → Straying s r (Event i) → said (step_of s r (Event i)).answer ≡ record { refusal = 0; kind = 2; value = i }
  unfolding said Straying
  stray_said i z n = rw (stray_step s r i z n)

  -- any report that is an event outside the initials is of kind 2
  pub stray_parts : (x : Report) → report_fault s r x ≡ 0 → Straying s r x → (i : ℕ) × (said (step_of s r x).answer ≡ record { refusal = 0; kind = 2; value = i })
  unfolding Straying
  stray_parts (Event i) z n = (i, stray_said i z n)
  stray_parts Blocked z n = absurd n

  -- blocked, not trace-only, where the node may not stop, is of kind 3, with the set that was offered
  pub refusing_said : (x : Report) → report_fault s r x ≡ 0 → Refusing s r x → said (step_of s r x).answer ≡ record { refusal = 0; kind = 3; value = offer_of s r }
  unfolding said Refusing
  refusing_said (Event i) z m = absurd m
  refusing_said Blocked z (t, m) = rw (blocked_refused s r z t m)

  -- an event inside the initials at depth k, and blocked, trace-only at depth k or not trace-only where the node may
  -- stop, are of kind 4, with no value
  pub passing_said : (x : Report) → report_fault s r x ≡ 0 → Passing s r x → said (step_of s r x).answer ≡ record { refusal = 0; kind = 4; value = 0 }
  unfolding said Passing
  passing_said (Event i) z (a, l) = rw (passing_step s r i z a l)
  passing_said Blocked z (inl (t, l)) = rw (blocked_at_k s r z t l)
  passing_said Blocked z (inr (t, m)) = rw (blocked_stops s r z t m)

  -- blocked, trace-only, below depth k, is of kind 5, with no value
  pub halting_said : (x : Report) → report_fault s r x ≡ 0 → Halting r x → said (step_of s r x).answer ≡ record { refusal = 0; kind = 5; value = 0 }
  unfolding said
  halting_said x z (e, t, l) = rw (e, blocked_halts s r (rw e at z) t l)

  module _ (x : Report) where
    -- why a report is answered as it is: it is refused, or one of the five
    reason : (report_fault s r x ≢ 0) ⊎ ((report_fault s r x ≡ 0) × (Moving s r x ⊎ (Straying s r x ⊎ (Refusing s r x ⊎ (Passing s r x ⊎ Halting r x)))))
    unfolding Moving Straying Refusing
    reason = go (taken s r x)
      where
        go : Taken s r x → (report_fault s r x ≢ 0) ⊎ ((report_fault s r x ≡ 0) × (Moving s r x ⊎ (Straying s r x ⊎ (Refusing s r x ⊎ (Passing s r x ⊎ Halting r x)))))
        go (denies n p) = inl n
        go (moves i e z a l p) = inr (z, inl (rw e (a, l)))
        go (strays i e z n p) = inr (z, inr (inl (rw e n)))
        go (refuses e z t m p) = inr (z, inr (inr (inl (rw e (t, m)))))
        go (passes z w p) = inr (z, inr (inr (inr (inl w))))
        go (halts z w p) = inr (z, inr (inr (inr (inr w))))

    -- from the kind of the answer to the reason for it: the reasons of the five other kinds do not hold
    by_kind : {A : Type 0} (m : ℕ) → (said (step_of s r x).answer).kind ≡ m
        → (m ≡ 0 → report_fault s r x ≢ 0 → A)
        → (m ≡ 1 → report_fault s r x ≡ 0 → Moving s r x → A)
        → (m ≡ 2 → report_fault s r x ≡ 0 → Straying s r x → A)
        → (m ≡ 3 → report_fault s r x ≡ 0 → Refusing s r x → A)
        → (m ≡ 4 → report_fault s r x ≡ 0 → Passing s r x → A)
        → (m ≡ 5 → report_fault s r x ≡ 0 → Halting r x → A)
        → A
    by_kind {A} m e f0 f1 f2 f3 f4 f5 = go reason
      where
        is : {n : Said} → said (step_of s r x).answer ≡ n → m ≡ n.kind
        is q = sym e ∙ ap (λ (n : Said). n.kind) q

        go : (report_fault s r x ≢ 0) ⊎ ((report_fault s r x ≡ 0) × (Moving s r x ⊎ (Straying s r x ⊎ (Refusing s r x ⊎ (Passing s r x ⊎ Halting r x))))) → A
        go (inl n) = f0 (is (denied_said x n)) n
        go (inr (z, inl w)) = f1 (is (moving_said x z w)) z w
        go (inr (z, inr (inl w))) = f2 (is (stray_parts x z w).1) z w
        go (inr (z, inr (inr (inl w)))) = f3 (is (refusing_said x z w)) z w
        go (inr (z, inr (inr (inr (inl w))))) = f4 (is (passing_said x z w)) z w
        go (inr (z, inr (inr (inr (inr w))))) = f5 (is (halting_said x z w)) z w

    -- the kind is 0 exactly if the report is refused
    pub kind_0 : ((said (step_of s r x).answer).kind ≡ 0) ↔ (report_fault s r x ≢ 0)
    kind_0 = (
      λ e. by_kind 0 e (λ q n. n) (λ q. absurd (omega arith)) (λ q. absurd (omega arith)) (λ q. absurd (omega arith)) (λ q. absurd (omega arith)) (λ q. absurd (omega arith)),
      λ n. ap (λ (m : Said). m.kind) (denied_said x n),
    )

    -- the kind is 1 exactly if the report is an event inside the initials below depth k, and not refused
    pub kind_1 : ((said (step_of s r x).answer).kind ≡ 1) ↔ ((report_fault s r x ≡ 0) × Moving s r x)
    kind_1 = (
      λ e. by_kind 1 e (λ q. absurd (omega arith)) (λ q z w. (z, w)) (λ q. absurd (omega arith)) (λ q. absurd (omega arith)) (λ q. absurd (omega arith)) (λ q. absurd (omega arith)),
      λ w. ap (λ (m : Said). m.kind) (moving_said x w.0 w.1),
    )

    -- the kind is 2 exactly if the report is an event outside the initials, and not refused
    pub kind_2 : ((said (step_of s r x).answer).kind ≡ 2) ↔ ((report_fault s r x ≡ 0) × Straying s r x)
    kind_2 = (
      λ e. by_kind 2 e (λ q. absurd (omega arith)) (λ q. absurd (omega arith)) (λ q z w. (z, w)) (λ q. absurd (omega arith)) (λ q. absurd (omega arith)) (λ q. absurd (omega arith)),
      λ w. ap (λ (m : Said). m.kind) (stray_parts x w.0 w.1).1,
    )

    -- the kind is 3 exactly if the report is blocked, not trace-only, where the node may not stop, and not refused
    pub kind_3 : ((said (step_of s r x).answer).kind ≡ 3) ↔ ((report_fault s r x ≡ 0) × Refusing s r x)
    kind_3 = (
      λ e. by_kind 3 e (λ q. absurd (omega arith)) (λ q. absurd (omega arith)) (λ q. absurd (omega arith)) (λ q z w. (z, w)) (λ q. absurd (omega arith)) (λ q. absurd (omega arith)),
      λ w. ap (λ (m : Said). m.kind) (refusing_said x w.0 w.1),
    )

    -- the kind is 4 exactly if the report is not refused and is an event inside the initials at depth k, or blocked,
    -- trace-only at depth k or not trace-only where the node may stop
    pub kind_4 : ((said (step_of s r x).answer).kind ≡ 4) ↔ ((report_fault s r x ≡ 0) × Passing s r x)
    kind_4 = (
      λ e. by_kind 4 e (λ q. absurd (omega arith)) (λ q. absurd (omega arith)) (λ q. absurd (omega arith)) (λ q. absurd (omega arith)) (λ q z w. (z, w)) (λ q. absurd (omega arith)),
      λ w. ap (λ (m : Said). m.kind) (passing_said x w.0 w.1),
    )

    -- the kind is 5 exactly if the report is blocked, trace-only, below depth k, and not refused
    pub kind_5 : ((said (step_of s r x).answer).kind ≡ 5) ↔ ((report_fault s r x ≡ 0) × Halting r x)
    kind_5 = (
      λ e. by_kind 5 e (λ q. absurd (omega arith)) (λ q. absurd (omega arith)) (λ q. absurd (omega arith)) (λ q. absurd (omega arith)) (λ q. absurd (omega arith)) (λ q z w. (z, w)),
      λ w. ap (λ (m : Said). m.kind) (halting_said x w.0 w.1),
    )

    -- every report, refused or not, is answered with its refusal
    pub report_refusal : (said (step_of s r x).answer).refusal ≡ report_fault s r x
    report_refusal = go reason
      where
        is : {n : Said} → said (step_of s r x).answer ≡ n → (said (step_of s r x).answer).refusal ≡ n.refusal
        is q = ap (λ (n : Said). n.refusal) q

        go : (report_fault s r x ≢ 0) ⊎ ((report_fault s r x ≡ 0) × (Moving s r x ⊎ (Straying s r x ⊎ (Refusing s r x ⊎ (Passing s r x ⊎ Halting r x)))))
            → (said (step_of s r x).answer).refusal ≡ report_fault s r x
        go (inl n) = is (denied_said x n)
        go (inr (z, inl w)) = is (moving_said x z w) ∙ sym z
        go (inr (z, inr (inl w))) = is (stray_parts x z w).1 ∙ sym z
        go (inr (z, inr (inr (inl w)))) = is (refusing_said x z w) ∙ sym z
        go (inr (z, inr (inr (inr (inl w))))) = is (passing_said x z w) ∙ sym z
        go (inr (z, inr (inr (inr (inr w))))) = is (halting_said x z w) ∙ sym z
