-- Nothing to believe: laws. What follows from the claim alone, of the bench's definitions only the numbers of answers
-- opened: its fields are used up to their bounds, so that a claim that said less, by one test or one event or of fewer
-- sheets, would not give them. (`Claim.violated` and `Claim.counted` are so used by the laws of what `compare` prints.)
use Rattle.std.specs.Prelude.{◌≡◌, ◌⊎◌, ◌↔◌, Bool, true, List, ℕ, ◌-◌, ◌*◌, ◌≤◌, ◌<◌, length, take, Result, Ok, Err}
use Rattle.std.proofs.Math.Path.{refl, sym}
use Rattle.std.proofs.Common.{◌∙◌, inl, inr, arith}
use Rattle.std.proofs.Math.ListN.{get_or}
use Rattle.base.proofs.Truth.{lt_or_ge}
use Rattle.walks.specs.Order.{Lex}
use Rattle.walks.proofs.Order.{lex_antisym}
use Rattle.sheet_spec.specs.declared.Sheet.{Sheet}
use Rattle.refinement_spec.specs.Refinement.{ViolationIn, RefinesIn}
use Rattle.verdicts_spec.specs.declared.Verdict.{Verdict}
use Rattle.verdicts_spec.specs.declared.Verdict.TheVariants.{Passes, Fails}
use Rattle.verdicts_spec.specs.Verdicts.{FailsTest, verdict_fault, verdict_of}
use Rattle.verdicts_spec.proofs.VerdictLaws.{verdict_0}
use Rattle.verdicts_spec.specs.Numbers.{judged, suited}
use Rattle.verdicts_spec.specs.Suites.{verdict_number, suite_of, verdicts_after}
use Rattle.comparison_spec.specs.declared.Outcome.{Outcome}
use Rattle.comparison_spec.specs.declared.Outcome.TheVariants.{Refines, Stray, Refusal}
use Rattle.comparison_spec.specs.Comparison.{compare_fault, outcome_of}
use Rattle.comparison_spec.proofs.CallLaws.{compare_0}
use Rattle.comparison_spec.specs.Numbers.{compared}
use Rattle.claim.specs.Claim.{LongEnough, Violated, AllJudged, Claim, Demand3}

-- the claim speaks of every two sheets that a comparison does not refuse, and of every two that a verdict does not
pub compared_claimed : Demand3 → (trace_only : Bool) (P Q : Sheet) (work trace : List ℕ) → compare_fault P Q work trace ≡ 0 → Claim trace_only P Q
compared_claimed d trace_only P Q work trace z = let o = ((compare_0 P Q work trace).0 z).0.0 in d trace_only P Q (inl o.0.0) (inl o.0.1) o.1

pub judged_claimed : Demand3 → (trace_only : Bool) (P Q : Sheet) (k : ℕ) → verdict_fault P Q k ≡ 0 → Claim trace_only P Q
judged_claimed d trace_only P Q k z = let o = ((verdict_0 P Q k).0 z).0 in d trace_only P Q (inl o.0.0) (inl o.0.1) o.1

-- the two words differ
passes_fails : ¬ (◌≡◌ {A = Result Verdict ℕ} (Ok Passes) (Ok Fails))
passes_fails e = cc

module _ {trace_only : Bool} {P Q : Sheet} (c : Claim trace_only P Q) where
  -- every test up to 1,023: "passes" exactly if no run of it can end failed
  pub passes_exactly : (k : ℕ) → k ≤ 1023 → (verdict_of trace_only P Q k ≡ Ok Passes) ↔ (¬ FailsTest trace_only P Q k)
  passes_exactly k l = (λ p f. passes_fails (sym p ∙ (c.fails k l).1 f), λ n. go n (c.judges k l))
    where
      go : ¬ FailsTest trace_only P Q k → (verdict_of trace_only P Q k ≡ Ok Passes) ⊎ (verdict_of trace_only P Q k ≡ Ok Fails) → verdict_of trace_only P Q k ≡ Ok Passes
      go n (inl p) = p
      go n (inr f) = absurd (n ((c.fails k l).0 f))

  -- in no run of tests 0 to p q - 1 can the device fail exactly if it refines the reference
  pub unfailed_exactly : ((k : ℕ) → k < P.n * Q.n → ¬ FailsTest trace_only P Q k) ↔ RefinesIn trace_only P Q
  unfailed_exactly = (
    λ f. c.complete.0 (λ k l. (passes_exactly k (omega (arith, l, c.few))).1 (f k l)),
    λ r k l. (passes_exactly k (omega (arith, l, c.few))).0 (c.complete.1 r k l),
  )

  -- the list of all verdicts says at each place below p q what the verdict on that test says
  pub place_exactly : (out : List ℕ) → P.n * Q.n ≤ length out → (k : ℕ) → k < P.n * Q.n
      → get_or (verdicts_after trace_only P Q out) k 0 ≡ verdict_number trace_only P Q k
  unfolding verdict_number judged
  place_exactly out h k l = go (c.judges k (omega (arith, l, c.few)))
    where
      all : AllJudged trace_only P Q (verdicts_after trace_only P Q out)
      all = (c.suite out h).1

      go : (verdict_of trace_only P Q k ≡ Ok Passes) ⊎ (verdict_of trace_only P Q k ≡ Ok Fails) → get_or (verdicts_after trace_only P Q out) k 0 ≡ (judged (verdict_of trace_only P Q k)).kind
      go (inl p) = rw p ((all.passed k l).1 p)
      go (inr f) = rw f ((all.failed k l).1 ((c.fails k (omega (arith, l, c.few))).0 f))

  -- no other list of p q places is so described
  pub judged_once : (out other : List ℕ) → P.n * Q.n ≤ length out → AllJudged trace_only P Q other → (k : ℕ) → k < P.n * Q.n
      → get_or other k 0 ≡ get_or (verdicts_after trace_only P Q out) k 0
  unfolding verdict_number judged
  judged_once out other h a k l = go (c.judges k (omega (arith, l, c.few))) ∙ sym (place_exactly out h k l)
    where
      go : (verdict_of trace_only P Q k ≡ Ok Passes) ⊎ (verdict_of trace_only P Q k ≡ Ok Fails) → get_or other k 0 ≡ (judged (verdict_of trace_only P Q k)).kind
      go (inl p) = rw p ((a.passed k l).1 p)
      go (inr f) = rw f ((a.failed k l).1 ((c.fails k (omega (arith, l, c.few))).0 f))

  -- with no violation of fewer than p q events there is none
  pub short_decides : ((s : List ℕ) → length s < P.n * Q.n → ¬ ViolationIn trace_only P Q s) → (t : List ℕ) → ¬ ViolationIn trace_only P Q t
  short_decides f t v = let x = c.near t v in f x.0 x.1 x.2

  -- with traces alone, in no run of the single test p q - 1 can the device fail exactly if it refines the reference
  pub single_decides : trace_only ≡ true → (¬ FailsTest trace_only P Q (P.n * Q.n - 1)) ↔ RefinesIn trace_only P Q
  single_decides e =
      let s = passes_exactly (P.n * Q.n - 1) (omega (arith, c.few)) in
      (λ n. (c.single e).0 (s.1 n), λ r. s.0 ((c.single e).1 r))

  -- all tests at once answer that p q were judged, and no refusal
  pub suite_counts : (out : List ℕ) → P.n * Q.n ≤ length out → suited (suite_of P Q out) ≡ record { refusal = 0; count = P.n * Q.n }
  unfolding suited
  suite_counts out l = rw (c.suite out l).0

  -- a comparison with lists that are long enough says no refusal, "refines" exactly if the device does
  pub compared_exactly : (work trace : List ℕ) → LongEnough P Q work trace
      → ((compared (outcome_of trace_only P Q work trace)).refusal ≡ 0) × (((compared (outcome_of trace_only P Q work trace)).kind ≡ 21) ↔ RefinesIn trace_only P Q)
  unfolding compared
  compared_exactly work trace l = (none (outcome_of trace_only P Q work trace) refl, (λ e. (c.refined work trace l).0 (says (outcome_of trace_only P Q work trace) e refl), λ r. rw ((c.refined work trace l).1 r).1))
    where
      none : (o : Result Outcome ℕ) → outcome_of trace_only P Q work trace ≡ o → (compared o).refusal ≡ 0
      none (Ok (Refines k)) e = refl
      none (Ok (Stray d k i)) e = refl
      none (Ok (Refusal d k X A)) e = refl
      none (Err m) e = absurd (c.answers work trace l m e)

      says : (o : Result Outcome ℕ) → (compared o).kind ≡ 21 → outcome_of trace_only P Q work trace ≡ o → (k : ℕ) × (outcome_of trace_only P Q work trace ≡ Ok (Refines k))
      says (Ok (Refines k)) z e = (k, e)
      says (Ok (Stray d k i)) z e = absurd (omega arith)
      says (Ok (Refusal d k X A)) z e = absurd (omega arith)
      says (Err m) z e = absurd (omega arith)

module _ {trace_only : Bool} {P Q : Sheet} {o : Result Outcome ℕ} {after : List ℕ} (v : Violated trace_only P Q o after) where
  -- d is the only number of a test that fails after all before it passed
  pub first_only : (k : ℕ) → verdict_of trace_only P Q k ≡ Ok Fails → ((j : ℕ) → j < k → verdict_of trace_only P Q j ≡ Ok Passes) → k ≡ v.d
  first_only k f p = go (lt_or_ge k v.d) (lt_or_ge v.d k)
    where
      go : (k < v.d) ⊎ (v.d ≤ k) → (v.d < k) ⊎ (k ≤ v.d) → k ≡ v.d
      go (inl l) _ = absurd (passes_fails (sym (v.earlier k l) ∙ f))
      go (inr _) (inl l) = absurd (passes_fails (sym (p v.d l) ∙ v.fails))
      go (inr l) (inr h) = omega (arith, l, h)

  -- the trace is the only violation of which none is shorter and none of its length is less in event order
  pub trace_only_one : (t : List ℕ) → ViolationIn trace_only P Q t → ((s : List ℕ) → ViolationIn trace_only P Q s → length t ≤ length s)
      → ((s : List ℕ) → ViolationIn trace_only P Q s → length s ≡ length t → Lex t s) → t ≡ take v.d after
  trace_only_one t f shortest least =
      let long : length t ≡ v.d = omega (arith, v.shortest t f, shortest (take v.d after) v.violates, v.exactly) in
      lex_antisym t (take v.d after) (long ∙ sym v.exactly) (least (take v.d after) v.violates (v.exactly ∙ sym long)) (v.least t f long)
