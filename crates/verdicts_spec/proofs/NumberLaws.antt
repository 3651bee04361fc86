-- Nothing to believe: laws. The numbers of the verdict that a call answers: in which case each kind is given.
use Rattle.std.specs.Prelude.{◌≡◌, ◌⊎◌, ◌≢◌, ◌↔◌, Bool, true, false, ℕ, ◌≤◌, eqb}
use Rattle.std.proofs.Common.{sym, ap, ◌∙◌, inl, inr, arith, eqb-true}
use Rattle.sheet_spec.specs.Refusals.{Agree}
use Rattle.std.proofs.lemmas.Bool.{eqb-false}
use Rattle.base.proofs.Truth.{dec, clash}
use Rattle.sheet_spec.specs.declared.Sheet.{Sheet}
use Rattle.verdicts_spec.specs.Verdicts.{FailsTest, fails_from, verdict_fault, verdict_of}
use Rattle.verdicts_spec.specs.Numbers.{Judgement, judged}
use Rattle.verdicts_spec.proofs.VerdictLaws.{verdict_0, verdict_denied, fails_means, verdict_means, verdict_passes}

module _ (trace_only : Bool) (P Q : Sheet) (k : ℕ) where
  -- a verdict that is refused has the number of its refusal, and 0 in every other part
  pub denied_judged : verdict_fault P Q k ≢ 0 → judged (verdict_of trace_only P Q k) ≡ record { refusal = verdict_fault P Q k; kind = 0 }
  unfolding judged
  denied_judged n = rw (verdict_denied P Q k trace_only n)

  module _ (z : verdict_fault P Q k ≡ 0) where
    agree : Agree P Q
    agree = ((verdict_0 P Q k).0 z).0.1

    small : k ≤ 1023
    small = omega (arith, ((verdict_0 P Q k).0 z).1)

    -- without a refusal the kind is 11 where no run of the test against the device can end failed
    pub passing_judged : (¬ FailsTest trace_only P Q k) → judged (verdict_of trace_only P Q k) ≡ record { refusal = 0; kind = 11 }
    unfolding judged
    passing_judged n = let v = (verdict_0 P Q k).0 z in rw ((verdict_passes P Q v.0.0.0 v.0.0.1 agree trace_only k small).1 n)

    -- without a refusal the kind is 12 where some run of the test against the device can end failed
    pub failing_judged : FailsTest trace_only P Q k → judged (verdict_of trace_only P Q k) ≡ record { refusal = 0; kind = 12 }
    unfolding judged
    failing_judged f = let v = (verdict_0 P Q k).0 z in rw ((verdict_means P Q v.0.0.0 v.0.0.1 agree trace_only k small).1 f)

    -- some run can end failed, or none can
    either : FailsTest trace_only P Q k ⊎ (¬ FailsTest trace_only P Q k)
    either = go (dec (fails_from trace_only P Q k 0 0))
      where
        means : (fails_from trace_only P Q k 0 0 ≡ true) ↔ FailsTest trace_only P Q k
        means = let v = (verdict_0 P Q k).0 z in fails_means P Q v.0.0.0 v.0.0.1 agree.0 trace_only k small

        go : (fails_from trace_only P Q k 0 0 ≡ true) ⊎ (fails_from trace_only P Q k 0 0 ≡ false) → FailsTest trace_only P Q k ⊎ (¬ FailsTest trace_only P Q k)
        go (inl t) = inl (means.0 t)
        go (inr t) = inr (λ f. clash (means.1 f) t)

  -- why a verdict is what it is
  reason : (verdict_fault P Q k ≢ 0) ⊎ ((verdict_fault P Q k ≡ 0) × (FailsTest trace_only P Q k ⊎ (¬ FailsTest trace_only P Q k)))
  reason = go (dec (eqb (verdict_fault P Q k) 0))
    where
      go : (eqb (verdict_fault P Q k) 0 ≡ true) ⊎ (eqb (verdict_fault P Q k) 0 ≡ false)
          → (verdict_fault P Q k ≢ 0) ⊎ ((verdict_fault P Q k ≡ 0) × (FailsTest trace_only P Q k ⊎ (¬ FailsTest trace_only P Q k)))
      go (inl t) = let z = eqb-true (verdict_fault P Q k) 0 t in inr (z, either z)
      go (inr t) = inl (eqb-false (verdict_fault P Q k) 0 t)

  -- from the kind of a verdict to the reason for it: the reasons of the two other kinds do not hold
  by_kind : {A : Type 0} (m : ℕ) → (judged (verdict_of trace_only P Q k)).kind ≡ m
      → (m ≡ 0 → verdict_fault P Q k ≢ 0 → A)
      → (m ≡ 11 → verdict_fault P Q k ≡ 0 → (¬ FailsTest trace_only P Q k) → A)
      → (m ≡ 12 → verdict_fault P Q k ≡ 0 → FailsTest trace_only P Q k → A)
      → A
  by_kind {A} m e f0 f11 f12 = go reason
    where
      is : {n : Judgement} → judged (verdict_of trace_only P Q k) ≡ n → m ≡ n.kind
      is q = sym e ∙ ap (λ (n : Judgement). n.kind) q

      go : (verdict_fault P Q k ≢ 0) ⊎ ((verdict_fault P Q k ≡ 0) × (FailsTest trace_only P Q k ⊎ (¬ FailsTest trace_only P Q k))) → A
      go (inl n) = f0 (is (denied_judged n)) n
      go (inr (z, inl f)) = f12 (is (failing_judged z f)) z f
      go (inr (z, inr n)) = f11 (is (passing_judged z n)) z n

  -- the kind is 0 exactly if the verdict is refused
  pub kind_0 : ((judged (verdict_of trace_only P Q k)).kind ≡ 0) ↔ (verdict_fault P Q k ≢ 0)
  kind_0 = (
    λ e. by_kind 0 e (λ q n. n) (λ q. absurd (omega arith)) (λ q. absurd (omega arith)),
    λ n. ap (λ (m : Judgement). m.kind) (denied_judged n),
  )

  -- the kind is 11 exactly if the verdict is not refused and no run of the test against the device can end failed
  pub kind_11 : ((judged (verdict_of trace_only P Q k)).kind ≡ 11) ↔ ((verdict_fault P Q k ≡ 0) × (¬ FailsTest trace_only P Q k))
  kind_11 = (
    λ e. by_kind 11 e (λ q. absurd (omega arith)) (λ q z n. (z, n)) (λ q. absurd (omega arith)),
    λ w. ap (λ (m : Judgement). m.kind) (passing_judged w.0 w.1),
  )

  -- the kind is 12 exactly if the verdict is not refused and some run of the test against the device can end failed
  pub kind_12 : ((judged (verdict_of trace_only P Q k)).kind ≡ 12) ↔ ((verdict_fault P Q k ≡ 0) × FailsTest trace_only P Q k)
  kind_12 = (
    λ e. by_kind 12 e (λ q. absurd (omega arith)) (λ q. absurd (omega arith)) (λ q z f. (z, f)),
    λ w. ap (λ (m : Judgement). m.kind) (failing_judged w.0 w.1),
  )

  -- every verdict, refused or not, says its refusal
  pub verdict_refusal : (judged (verdict_of trace_only P Q k)).refusal ≡ verdict_fault P Q k
  verdict_refusal = go reason
    where
      is : {n : Judgement} → judged (verdict_of trace_only P Q k) ≡ n → (judged (verdict_of trace_only P Q k)).refusal ≡ n.refusal
      is q = ap (λ (n : Judgement). n.refusal) q

      go : (verdict_fault P Q k ≢ 0) ⊎ ((verdict_fault P Q k ≡ 0) × (FailsTest trace_only P Q k ⊎ (¬ FailsTest trace_only P Q k)))
          → (judged (verdict_of trace_only P Q k)).refusal ≡ verdict_fault P Q k
      go (inl n) = is (denied_judged n)
      go (inr (z, inl f)) = is (failing_judged z f) ∙ sym z
      go (inr (z, inr n)) = is (passing_judged z n) ∙ sym z
