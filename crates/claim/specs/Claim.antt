-- The claim: demand 3 of the mission, with demand 2 beside it, over every two accepted sheets P (the reference, of p
-- nodes) and Q (the device, of q nodes) that agree: equal event counts and equal codes. `trace_only` is true for the
-- trace-only reading: strays alone, trace-only tests, traces alone. What the bench answers is named as its contracts
-- equate it (`verdict_of` of the verdict, `suite_of` and `verdicts_after` of all verdicts, `outcome_of` and `trace_after` of
-- the comparison); what that means is in the mission's words (Trace, Does, Refuses, Violation, Refines of Refinement;
-- FailsTest, a run that ends failed, of Verdicts; Describes, what 01 says of an answer, of Meaning).
use Rattle.std.specs.Prelude.{◌≡◌, ◌⊎◌, ◌≢◌, ◌↔◌, Bool, true, List, ℕ, ◌-◌, ◌*◌, ◌≤◌, ◌<◌, length, get_or, take, Result, Ok, Err}
use Rattle.events.specs.Bit.{Apart}
use Rattle.walks.specs.Order.{Lex}
use Rattle.sheet_spec.specs.declared.Sheet.{Sheet}
use Rattle.sheet_spec.specs.Kept.{row, acceptance}
use Rattle.sheet_spec.specs.Refusals.{sheet_fault, Agree}
use Rattle.sheet_spec.specs.Reading.{read_sheet, accepted}
use Rattle.refinement_spec.specs.Refinement.{After, Does, Refuses, ViolationIn, RefinesIn}
use Rattle.verdicts_spec.specs.declared.Verdict.TheVariants.{Passes, Fails}
use Rattle.verdicts_spec.specs.Verdicts.{FailsTest, verdict_of}
use Rattle.verdicts_spec.specs.Numbers.{passes_number, fails_number}
use Rattle.verdicts_spec.specs.Suites.{suite_of, verdicts_after}
use Rattle.comparison_spec.specs.declared.Outcome.{Outcome}
use Rattle.comparison_spec.specs.declared.Outcome.TheVariants.{Refines, Stray, Refusal}
use Rattle.comparison_spec.specs.Comparison.{outcome_of, trace_after}
use Rattle.comparison_spec.specs.Meaning.{Describes, ReachedBefore, ReachedEver, Number}

-- a sheet is accepted as kept, or as bytes that are read as it
abbrev pub Accepted : Sheet → Type 0
Accepted s = (sheet_fault s ≡ 0) ⊎ ((b : List ℕ) × (read_sheet b ≡ accepted s))

-- the lists lent to a comparison are long enough: neither 12 nor 13 applies
abbrev pub LongEnough : Sheet → Sheet → List ℕ → List ℕ → Type 0
LongEnough P Q work trace = (2 * (P.n * Q.n) ≤ length work) × (P.n * Q.n - 1 ≤ length trace)

-- what is named after the trace t witnesses the violation: a stray, or a set X that an acceptance A of the device's
-- node has no event of and the reference's node may not refuse
pub data Witness (P Q : Sheet) (t : List ℕ) : Result Outcome ℕ → Type 0 where
  by_stray : (d c i : ℕ) → Does Q t i → ¬ Does P t i → Witness P Q t (Ok (Stray d c i))
  by_refusal : (d c X A : ℕ) → ((w : ℕ) × After Q t w × ((j : ℕ) × (j < (row Q w).c) × (acceptance (row Q w) j ≡ A))) → Apart A X → ¬ Refuses P t X
      → Witness P Q t (Ok (Refusal d c X A))

-- the length d that an answer reports, and its count "cleared"
pub data Reports : Result Outcome ℕ → ℕ → ℕ → Type 0 where
  stray_reports : (d c i : ℕ) → Reports (Ok (Stray d c i)) d c
  refusal_reports : (d c X A : ℕ) → Reports (Ok (Refusal d c X A)) d c

-- demand 3: what holds of the answer o and the trace list `after` at exit where the device does not refine the
-- reference
pub record Violated (trace_only : Bool) (P Q : Sheet) (o : Result Outcome ℕ) (after : List ℕ) : Type 0 where
  pub d : ℕ
  pub cleared : ℕ
  -- the answer reports d, which is below p q
  pub reports : Reports o d cleared
  pub below : d < P.n * Q.n
  -- d is the number of the first test failed
  pub fails : verdict_of trace_only P Q d ≡ Ok Fails
  pub earlier : (k : ℕ) → k < d → verdict_of trace_only P Q k ≡ Ok Passes
  -- the trace is a violation of exactly d events; none has fewer, and none of d events is less in event order
  pub violates : ViolationIn trace_only P Q (take d after)
  pub exactly : length (take d after) ≡ d
  pub shortest : (t : List ℕ) → ViolationIn trace_only P Q t → d ≤ length t
  pub least : (t : List ℕ) → ViolationIn trace_only P Q t → length t ≡ d → Lex (take d after) t
  -- what is named witnesses the violation
  pub witness : Witness P Q (take d after) o
  -- with traces alone what is named is a stray, never the refusal case
  pub strays : trace_only ≡ true → (i : ℕ) × (o ≡ Ok (Stray d cleared i))
  -- demand 2: cleared is the number of pairs reached by common traces shorter than d
  pub counted : Number P Q (ReachedBefore P Q d) cleared
  -- demand 2: the whole answer, with what is named, is the one that 01 describes
  pub describes : Describes trace_only P Q o (take d after)

-- demand 3: what holds of the list of verdicts, `after` at exit, of all tests at once: it has p q verdicts, place k is
-- 11 exactly if test k is "passes" and 12 exactly if some run of it can end failed, and all are 11 exactly if the
-- device refines the reference
pub record AllJudged (trace_only : Bool) (P Q : Sheet) (after : List ℕ) : Type 0 where
  pub passed : (k : ℕ) → k < P.n * Q.n → (get_or after k 0 ≡ passes_number) ↔ (verdict_of trace_only P Q k ≡ Ok Passes)
  pub failed : (k : ℕ) → k < P.n * Q.n → (get_or after k 0 ≡ fails_number) ↔ FailsTest trace_only P Q k
  pub complete : ((k : ℕ) → k < P.n * Q.n → get_or after k 0 ≡ passes_number) ↔ RefinesIn trace_only P Q

-- all that is claimed of two sheets; `Demand3` claims it of every two that are accepted
pub record Claim (trace_only : Bool) (P Q : Sheet) : Type 0 where
  -- demand 3: if there is a violation, one has fewer than p q events
  pub near : (t : List ℕ) → ViolationIn trace_only P Q t → (s : List ℕ) × (length s < P.n * Q.n) × ViolationIn trace_only P Q s
  -- demand 3: every test has a verdict, never a refusal, and tests 0 to p q - 1 are all "passes" exactly if the device
  -- refines the reference (p q is at most 1,024)
  pub judges : (k : ℕ) → k ≤ 1023 → (verdict_of trace_only P Q k ≡ Ok Passes) ⊎ (verdict_of trace_only P Q k ≡ Ok Fails)
  pub few : P.n * Q.n ≤ 1024
  pub complete : ((k : ℕ) → k < P.n * Q.n → verdict_of trace_only P Q k ≡ Ok Passes) ↔ RefinesIn trace_only P Q
  -- demand 3: given a long enough list, of any content, all tests are judged at once, p q of them, and the list says
  -- what each verdict says
  pub suite : (out : List ℕ) → P.n * Q.n ≤ length out → (suite_of P Q out ≡ Ok (P.n * Q.n)) × AllJudged trace_only P Q (verdicts_after trace_only P Q out)
  -- demand 3: given long enough lists, of any content, the comparison is never refused, and says "refines" exactly if
  -- the device refines the reference
  pub answers : (work trace : List ℕ) → LongEnough P Q work trace → (m : ℕ) → outcome_of trace_only P Q work trace ≢ Err m
  pub refined : (work trace : List ℕ) → LongEnough P Q work trace → ((c : ℕ) × (outcome_of trace_only P Q work trace ≡ Ok (Refines c))) ↔ RefinesIn trace_only P Q
  -- demand 3: where the device does not refine the reference, the comparison's d is the first failing test and its
  -- trace a violation of d events, none shorter
  pub violated : (work trace : List ℕ) → LongEnough P Q work trace → ¬ RefinesIn trace_only P Q
      → Violated trace_only P Q (outcome_of trace_only P Q work trace) (trace_after trace_only P Q work trace)
  -- demand 2: a verdict is "fails" exactly if some run against the device can end failed
  pub fails : (k : ℕ) → k ≤ 1023 → (verdict_of trace_only P Q k ≡ Ok Fails) ↔ FailsTest trace_only P Q k
  -- demand 2: where the device refines the reference, cleared is the number of all pairs reached by common traces
  pub counted : (work trace : List ℕ) → LongEnough P Q work trace → (c : ℕ) → outcome_of trace_only P Q work trace ≡ Ok (Refines c) → Number P Q (ReachedEver P Q) c
  -- the trace-only reading: the single test p q - 1 decides
  pub single : trace_only ≡ true → (verdict_of trace_only P Q (P.n * Q.n - 1) ≡ Ok Passes) ↔ RefinesIn trace_only P Q

-- demand 3, whole: for every two accepted sheets that agree, in both readings
abbrev pub Demand3 : Type 0
Demand3 = (trace_only : Bool) (P Q : Sheet) → Accepted P → Accepted Q → Agree P Q → Claim trace_only P Q
