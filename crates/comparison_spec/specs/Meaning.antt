-- What 01 says of a comparison's answer, with "for every" and "there is" and no test in it but the list of probes, of
-- which one is named. OutcomeLaws says that the answer of the definition is so described, and that nothing else is.
use Rattle.std.specs.Prelude.{◌≡◌, Bool, List, [], ℕ, ◌≤◌, ◌<◌, length, get_or, Result, Ok}
use Rattle.events.specs.Bit.{Apart}
use Rattle.walks.specs.Order.{Lex}
use Rattle.walks.specs.Pairs.{PairLists}
use Rattle.sheet_spec.specs.declared.Row.{Row}
use Rattle.sheet_spec.specs.declared.Sheet.{Sheet}
use Rattle.sheet_spec.specs.Kept.{row, graph, acceptance, acceptances}
use Rattle.probes_spec.specs.Probes.{probes}
use Rattle.refinement_spec.specs.Refinement.{After, Does, Strays, ViolationIn, RefinesIn}
use Rattle.comparison_spec.specs.declared.Outcome.{Outcome}
use Rattle.comparison_spec.specs.declared.Outcome.TheVariants.{Refines, Stray, Refusal}

-- a common trace shorter than d leads to the pair (n, m)
abbrev pub ReachedBefore : Sheet → Sheet → ℕ → ℕ → ℕ → Type 0
ReachedBefore P Q d n m = (t : List ℕ) × (length t < d) × After P t n × After Q t m

-- some common trace, of whatever length, leads to the pair (n, m)
abbrev pub ReachedEver : Sheet → Sheet → ℕ → ℕ → Type 0
ReachedEver P Q n m = (t : List ℕ) × After P t n × After Q t m

-- L different pairs are all those with a property: there is a list of them, each once
abbrev pub Number : Sheet → Sheet → (ℕ → ℕ → Type 0) → ℕ → Type 0
Number P Q holds L = (N : ℕ → ℕ) × (M : ℕ → ℕ) × PairLists (graph P) (graph Q) holds L N M

-- t is a violation of d events, none has fewer, and among those of d events none is less in event order
pub record Nearest (trace_only : Bool) (P Q : Sheet) (d : ℕ) (t : List ℕ) : Type 0 where
  pub violates : ViolationIn trace_only P Q t
  pub long : length t ≡ d
  pub shortest : (s : List ℕ) → ViolationIn trace_only P Q s → d ≤ length s
  pub least : (s : List ℕ) → ViolationIn trace_only P Q s → length s ≡ d → Lex t s

-- i is the smallest event that the device does after t and the reference does not
pub record SmallestStray (P Q : Sheet) (t : List ℕ) (i : ℕ) : Type 0 where
  pub does : Does Q t i
  pub does_not : ¬ Does P t i
  pub smallest : (k : ℕ) → k < i → ¬ (Does Q t k × (¬ Does P t k))

-- A is an acceptance of a row that has no event of X
abbrev pub Misses : Row → ℕ → ℕ → Type 0
Misses q X A = (j : ℕ) × (j < q.c) × (acceptance q j ≡ A) × Apart X A

-- X is the first probe in the list, by its place, of the reference's row that some acceptance of the device's row
-- misses, A the lowest such acceptance, by its number
pub record FirstRefusedAt (e : ℕ) (r q : Row) (X A : ℕ) : Type 0 where
  pub place : ℕ
  pub listed : place < length (probes (acceptances r) e)
  pub probe : get_or (probes (acceptances r) e) place 0 ≡ X
  pub misses : Misses q X A
  pub first : (x : ℕ) → x < place → (B : ℕ) → ¬ Misses q (get_or (probes (acceptances r) e) x 0) B
  pub lowest : (B : ℕ) → Misses q X B → A ≤ B

-- X is the first probe in the list of the reference's node after t that the device's node after t misses, A the lowest
-- such acceptance
abbrev pub FirstRefused : Sheet → Sheet → List ℕ → ℕ → ℕ → Type 0
FirstRefused P Q t X A = (v : ℕ) × (w : ℕ) × After P t v × After Q t w × FirstRefusedAt P.e (row P v) (row Q w) X A

-- what 01 says of the two sheets: this answer, and this trace beside it
pub data Describes (trace_only : Bool) (P Q : Sheet) : Result Outcome ℕ → List ℕ → Type 0 where
  refines : (cleared : ℕ) → RefinesIn trace_only P Q → Number P Q (ReachedEver P Q) cleared → Describes trace_only P Q (Ok (Refines cleared)) []
  stray : (d cleared i : ℕ) (t : List ℕ) → Nearest trace_only P Q d t → Number P Q (ReachedBefore P Q d) cleared → SmallestStray P Q t i
      → Describes trace_only P Q (Ok (Stray d cleared i)) t
  refusal : (d cleared X A : ℕ) (t : List ℕ) → Nearest trace_only P Q d t → Number P Q (ReachedBefore P Q d) cleared → ¬ Strays P Q t → FirstRefused P Q t X A
      → Describes trace_only P Q (Ok (Refusal d cleared X A)) t
