-- Nothing to believe: laws. What the list of verdicts means: each place is the verdict of its test, never a refusal,
-- and all places hold 11 exactly if the device refines the reference (the mission's demand 3).
use Rattle.std.specs.Prelude.{◌≡◌, ◌⊎◌, ◌≢◌, ◌↔◌, Bool, List, ℕ, ◌≤◌, ◌<◌, length, get_or, Result, Ok, Err}
use Rattle.std.proofs.Math.Path.{refl}
use Rattle.std.proofs.Common.{sym, ap, ◌∙◌, arith}
use Rattle.std.proofs.Math.Logic.{inl, inr}
use Rattle.sheet_spec.specs.declared.Sheet.{Sheet}
use Rattle.sheet_spec.specs.Refusals.{sheet_fault, Agree}
use Rattle.sheet_spec.proofs.SoundLaws.{nodes_most, check_sound}
use Rattle.refinement_spec.specs.Refinement.{RefinesIn}
use Rattle.verdicts_spec.specs.declared.Verdict.{Verdict}
use Rattle.verdicts_spec.specs.declared.Verdict.TheVariants.{Passes, Fails}
use Rattle.verdicts_spec.specs.Verdicts.{FailsTest, verdict_fault, verdict_of}
use Rattle.verdicts_spec.specs.Numbers.{passes_number, fails_number, judged}
use Rattle.verdicts_spec.proofs.VerdictLaws.{verdict_0, verdict_means, verdict_undenied}
use Rattle.verdicts_spec.proofs.TestLaws.{verdicts_complete}
use Rattle.verdicts_spec.specs.Suites.{test_count, verdict_number, verdicts_after}
use Rattle.verdicts_spec.proofs.SuiteLaws.{suite_fits, verdict_place}

-- a verdict's number is 11 exactly if it is "passes", and 12 exactly if it is "fails"
number_passes : (v : Result Verdict ℕ) → ((judged v).kind ≡ passes_number) ↔ (v ≡ Ok Passes)
unfolding judged
number_passes v = (forth v, λ e. ap (λ (w : Result Verdict ℕ). (judged w).kind) e)
  where
    forth : (v : Result Verdict ℕ) → (judged v).kind ≡ passes_number → v ≡ Ok Passes
    forth (Ok Passes) e = refl
    forth (Ok Fails) e = absurd (omega arith)
    forth (Err m) e = absurd (omega arith)

number_fails : (v : Result Verdict ℕ) → ((judged v).kind ≡ fails_number) ↔ (v ≡ Ok Fails)
unfolding judged
number_fails v = (forth v, λ e. ap (λ (w : Result Verdict ℕ). (judged w).kind) e)
  where
    forth : (v : Result Verdict ℕ) → (judged v).kind ≡ fails_number → v ≡ Ok Fails
    forth (Ok Passes) e = absurd (omega arith)
    forth (Ok Fails) e = refl
    forth (Err m) e = absurd (omega arith)

module _ (P Q : Sheet) (acc_p : sheet_fault P ≡ 0) (acc_q : sheet_fault Q ≡ 0) (agree : Agree P Q) where
  -- there are at most 1,024 tests, so every test has a number that a test may have
  pub tests_few : test_count P Q ≤ 1024
  unfolding test_count
  tests_few = nodes_most (check_sound P acc_p) (check_sound Q acc_q)

  -- 14, or any other refusal, is never given for a test of the suite
  pub none_refused : (k : ℕ) → k < test_count P Q → verdict_fault P Q k ≡ 0
  none_refused k l = (verdict_0 P Q k).1 (((acc_p, acc_q), agree), λ h. omega (arith, h, tests_few))

  pub none_denied : (trace_only : Bool) (k : ℕ) → k < test_count P Q → (m : ℕ) → verdict_of trace_only P Q k ≢ Err m
  none_denied trace_only k l = verdict_undenied P Q acc_p acc_q agree trace_only k (omega (arith, tests_few))

  module _ (out : List ℕ) (room : test_count P Q ≤ length out) (trace_only : Bool) where
    at : (k : ℕ) → k < test_count P Q → get_or (verdicts_after trace_only P Q out) k 0 ≡ (judged (verdict_of trace_only P Q k)).kind
    unfolding verdict_number
    at = verdict_place P Q out (suite_fits P Q out acc_p acc_q agree room) trace_only

    -- place k holds 11 exactly if the verdict on test k is "passes", and 12 exactly if it is "fails"
    pub place_passes : (k : ℕ) → k < test_count P Q → (get_or (verdicts_after trace_only P Q out) k 0 ≡ passes_number) ↔ (verdict_of trace_only P Q k ≡ Ok Passes)
    place_passes k l = let w = number_passes (verdict_of trace_only P Q k) in (λ e. w.0 (sym (at k l) ∙ e), λ e. at k l ∙ w.1 e)

    pub place_fails : (k : ℕ) → k < test_count P Q → (get_or (verdicts_after trace_only P Q out) k 0 ≡ fails_number) ↔ (verdict_of trace_only P Q k ≡ Ok Fails)
    place_fails k l = let w = number_fails (verdict_of trace_only P Q k) in (λ e. w.0 (sym (at k l) ∙ e), λ e. at k l ∙ w.1 e)

    -- place k holds 11 or 12, nothing else
    pub place_either : (k : ℕ) → k < test_count P Q → (get_or (verdicts_after trace_only P Q out) k 0 ≡ passes_number) ⊎ (get_or (verdicts_after trace_only P Q out) k 0 ≡ fails_number)
    unfolding judged
    place_either k l = go (verdict_of trace_only P Q k) refl
      where
        go : (v : Result Verdict ℕ) → verdict_of trace_only P Q k ≡ v → (get_or (verdicts_after trace_only P Q out) k 0 ≡ passes_number) ⊎ (get_or (verdicts_after trace_only P Q out) k 0 ≡ fails_number)
        go (Ok Passes) e = inl ((place_passes k l).1 e)
        go (Ok Fails) e = inr ((place_fails k l).1 e)
        go (Err m) e = absurd (none_denied trace_only k l m e)

    -- place k holds 12 exactly if some run of test k against the device can end failed
    pub place_means : (k : ℕ) → k < test_count P Q → (get_or (verdicts_after trace_only P Q out) k 0 ≡ fails_number) ↔ FailsTest trace_only P Q k
    place_means k l =
        let v = place_fails k l in
        let w = verdict_means P Q acc_p acc_q agree trace_only k (omega (arith, tests_few)) in
        (λ e. w.0 (v.0 e), λ f. v.1 (w.1 f))

    -- all places below p q hold 11 exactly if the device refines the reference
    pub suite_complete : ((k : ℕ) → k < test_count P Q → get_or (verdicts_after trace_only P Q out) k 0 ≡ passes_number) ↔ RefinesIn trace_only P Q
    unfolding test_count
    suite_complete =
        let w = verdicts_complete P Q acc_p acc_q agree trace_only in
        (λ f. w.0 (λ k l. (place_passes k l).0 (f k l)), λ r k l. (place_passes k l).1 (w.1 r k l))
