-- Nothing to believe: words for laws alone. What a walk of a seed is (02, K9), place by place: which event a state
-- draws among the initials of a node, and which lists of events are the walk.
use Rattle.std.specs.Prelude.{List, ℕ, ◌+◌, ◌%◌, ◌≤◌, ◌<◌, length, get_or, take}
use Rattle.base.specs.Counted.{Counted}
use Rattle.sheet_spec.specs.declared.Sheet.{Sheet}
use Rattle.sheet_spec.specs.Kept.{row, Initial}
use Rattle.refinement_spec.specs.Refinement.{After, Trace, Does}
use Rattle.load_spec.specs.Xorshift.{state_after}

-- i is number r of the initials of node v, ascending, counted from 0: it is one, and just r of them are lower
pub record Numbered (s : Sheet) (v r i : ℕ) : Type 0 where
  pub initial : Initial s.e (row s v) i
  pub lower : Counted (λ k. (k < i) × Initial s.e (row s v) k) r

-- t is the walk of a seed for a wished length
pub record Load (s : Sheet) (seed wish : ℕ) (t : List ℕ) : Type 0 where
  -- it is a trace
  pub trace : Trace s t
  -- it has no more events than are wished
  pub few : length t ≤ wish
  -- it has fewer only where there are no initials
  pub early : length t < wish → (i : ℕ) → ¬ Does s t i
  -- place j holds, of the m initials of the node reached by the events before it, ascending, number (the state after
  -- j + 1 steps from the seed) remainder m, counted from 0
  pub each : (j v m : ℕ) → j < length t → After s (take j t) v → Counted (Initial s.e (row s v)) m
      → Numbered s v (state_after seed (j + 1) % m) (get_or t j 0)
