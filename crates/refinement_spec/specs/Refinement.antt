-- What a sheet does and refuses after a trace, what a violation is, and refinement (01, "A sheet" and "A comparison";
-- the mission's demands 2 and 3). P is the reference, Q the device. No test is in these definitions.
use Rattle.std.specs.Prelude.{◌⊎◌, Bool, true, false, List, ℕ, ◌<◌}
use Rattle.events.specs.Bit.{Apart}
use Rattle.sheet_spec.specs.declared.Row.{Row}
use Rattle.sheet_spec.specs.declared.Sheet.{Sheet}
use Rattle.sheet_spec.specs.Kept.{row, acceptance, Initial, Walk}

-- the events of t lead from node 0 to node v
abbrev pub After : Sheet → List ℕ → ℕ → Type 0
After s t v = Walk s 0 t v × (v < s.n)

-- t is a trace: a sequence of events with a walk from node 0
abbrev pub Trace : Sheet → List ℕ → Type 0
Trace s t = (v : ℕ) × After s t v

-- after t the sheet does event i: it is an initial of the node reached
abbrev pub Does : Sheet → List ℕ → ℕ → Type 0
Does s t i = (v : ℕ) × After s t v × Initial s.e (row s v) i

-- a node may refuse X exactly if one of its acceptances has no event in X
abbrev pub MayRefuse : Row → ℕ → Type 0
MayRefuse r X = (j : ℕ) × (j < r.c) × Apart (acceptance r j) X

-- after t the sheet refuses X: the node reached may refuse it
abbrev pub Refuses : Sheet → List ℕ → ℕ → Type 0
Refuses s t X = (v : ℕ) × After s t v × MayRefuse (row s v) X

-- after t the device does an event that the reference does not (trace refinement is broken)
abbrev pub Strays : Sheet → Sheet → List ℕ → Type 0
Strays P Q t = (i : ℕ) × Does Q t i × (¬ Does P t i)

-- after t the device refuses a set that the reference does not (conformance is broken)
abbrev pub Overrefuses : Sheet → Sheet → List ℕ → Type 0
Overrefuses P Q t = (X : ℕ) × Refuses Q t X × (¬ Refuses P t X)

-- a violation: a trace possible in both, after which the device does or refuses what the reference does not
abbrev pub Violation : Sheet → Sheet → List ℕ → Type 0
Violation P Q t = Trace P t × Trace Q t × (Strays P Q t ⊎ Overrefuses P Q t)

-- the device refines the reference: every trace of it, and every refusal after that trace, is also the reference's
abbrev pub Refines : Sheet → Sheet → Type 0
Refines P Q = (t : List ℕ) → Trace Q t → Trace P t × ((X : ℕ) → Refuses Q t X → Refuses P t X)

-- a violation with traces alone, refusals left out: the device does a stray after a common trace
abbrev pub TraceViolation : Sheet → Sheet → List ℕ → Type 0
TraceViolation P Q t = Trace P t × Trace Q t × Strays P Q t

-- refinement with traces alone: every trace of the device is also the reference's
abbrev pub TraceRefines : Sheet → Sheet → Type 0
TraceRefines P Q = (t : List ℕ) → Trace Q t → Trace P t

-- a violation, with refusals or (true) with traces alone
abbrev pub ViolationIn : Bool → Sheet → Sheet → List ℕ → Type 0
ViolationIn true = TraceViolation
ViolationIn false = Violation

-- refinement, with refusals or (true) with traces alone
abbrev pub RefinesIn : Bool → Sheet → Sheet → Type 0
RefinesIn true = TraceRefines
RefinesIn false = Refines
