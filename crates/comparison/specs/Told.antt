-- Nothing to believe: the answer by what the search found, and the numbers that this may have.
use Rattle.std.specs.Prelude.{ℕ, cond, ltb, Option, Some, None, ◌≤◌, ◌<◌}
use Rattle.base.specs.Range.{first}
use Rattle.events.specs.Sets.{has}
use Rattle.sheet_spec.specs.declared.Sheet.{Sheet}
use Rattle.sheet_spec.specs.Kept.{row}
use Rattle.comparison_spec.specs.declared.Outcome.{Outcome}
use Rattle.comparison_spec.specs.declared.Outcome.TheVariants.{Refines}
use Rattle.comparison_spec.specs.Comparison.{named}
use Rattle.search_theory.specs.declared.Found.{Found}
use Rattle.search_theory.specs.declared.Found.TheVariants.{Clear, Bad}

-- the smallest event of a set, if there is one
unfoldable pub least_event : ℕ → Option ℕ
least_event set = cond (ltb (first (has set) 12) 12) (Some (first (has set) 12)) None

-- the answer of a comparison that follows from the search's
unfoldable pub told : Sheet → Sheet → Found → Outcome
told P Q (Clear cleared) = Refines cleared
told P Q (Bad d v w cleared) = named d cleared P.e (row P v) (row Q w)

-- the numbers that a search of two sheets may give
unfoldable pub Fits : Sheet → Sheet → Found → Type 0
Fits P Q (Clear cleared) = cleared ≤ 1024
Fits P Q (Bad d v w cleared) = (d ≤ 1024) × (v < P.n) × (w < Q.n) × (cleared ≤ 1024)
