-- Nothing to believe: words for laws alone. What makes a test fail after a common trace. TestLaws says that a verdict
-- fails exactly for it.
use Rattle.std.specs.Prelude.{◌≡◌, ◌⊎◌, Bool, false, List, ℕ, ◌<◌, length}
use Rattle.sheet_spec.specs.declared.Sheet.{Sheet}
use Rattle.sheet_spec.specs.Kept.{row, acceptance}
use Rattle.refinement_spec.specs.Refinement.{After, Strays, Overrefuses}

-- after t the sheet may stop: one of the sets of the node reached is empty
abbrev pub Stops : Sheet → List ℕ → Type 0
Stops s t = (v : ℕ) × After s t v × ((j : ℕ) × (j < (row s v).c) × (acceptance (row s v) j ≡ 0))

-- what makes test k fail after a common trace t: a stray; and, unless traces alone count, a device that may stop where
-- the reference may not, or, if t has k events, a refusal
abbrev pub Shows : Bool → Sheet → Sheet → ℕ → List ℕ → Type 0
Shows trace_only P Q k t = Strays P Q t ⊎ ((trace_only ≡ false) × ((Stops Q t × (¬ Stops P t)) ⊎ ((length t ≡ k) × Overrefuses P Q t)))
