-- The walk that a seed draws on a sheet (02, K9), event by event. That each place holds what the paper says, with no
-- recursion in it, is said in WalkLaws by the words of Meaning.
use Rattle.std.specs.Prelude.{cond, List, [], ◌∷◌, ℕ, zero, suc, ◌%◌, eqb, length, get_or}
use Rattle.events.specs.Lists.{events_in}
use Rattle.sheet_spec.specs.declared.Sheet.{Sheet}
use Rattle.sheet_spec.specs.Kept.{row, initials, step}
use Rattle.load_spec.specs.Xorshift.{next_state}

-- the initials of node v, ascending
unfoldable pub initials_at : Sheet → ℕ → List ℕ
initials_at s v = events_in (initials s.e (row s v)) 12

-- the event that the state x draws at node v: of its m initials, ascending, number (x remainder m), counted from 0
unfoldable pub drawn : Sheet → ℕ → ℕ → ℕ
drawn s v x = get_or (initials_at s v) (x % length (initials_at s v)) 0

-- the walk of at most l events from node v on, where the state is x: each step takes the next state; it ends early
-- where there are no initials
unfoldable pub walk_from : Sheet → ℕ → ℕ → ℕ → List ℕ
walk_from s zero v x = []
walk_from s (suc l) v x =
    cond (eqb (length (initials_at s v)) 0) []
    (drawn s v (next_state x) ∷ walk_from s l (step s v (drawn s v (next_state x))) (next_state x))

-- the walk of a seed for a wished length: it begins at node 0
unfoldable pub walk_of : Sheet → ℕ → ℕ → List ℕ
walk_of s seed wish = walk_from s wish 0 seed
