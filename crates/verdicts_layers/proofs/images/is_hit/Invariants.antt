-- The loop leaves at the first node of the reference with a pair among the words.
use mathlib.Core.Path.{◌≡◌}
use mathlib.Core.Bool.{Bool, false}
use mathlib.Core.List.{List}
use Prim.Native.Nat.{ℕ, ◌≤◌}
use lib.ListN.{get_or}
use Rattle.base.specs.Range.{any}
use Rattle.events.specs.Sets.{meets}
use Rattle.verdicts_layers.proofs.images.is_hit.Given as goal

-- a node of the device is in both words of node n
abbrev pub shared : List ℕ → List ℕ → ℕ → Bool
shared layer words n = meets (get_or layer n 0) (get_or words n 0)

abbrev pub invariant-loop-n : goal.invariant-loop-n
invariant-loop-n l = (l.n ≤ l.p) × (any (shared l.layer l.words) l.n ≡ false)
