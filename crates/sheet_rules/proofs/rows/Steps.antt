-- What a round of a loop over the successors reads, and one round of the loop that collects nodes.
use mathlib.Core.Path.{◌≡◌}
use mathlib.Core.Logic.{◌⊎◌, inl, inr}
use mathlib.Core.Bool.{cond}
use mathlib.Core.List.{List}
use Prim.Native.Nat.{ℕ, ◌+◌, ◌<◌, ◌≤◌}
use native.Mathlib.Numerals.{add-one}
use lib.Dec.{ltb}
use lib.ListN.{get_or}
use mir.Val.{Val}
use denote.Laws.{Is}
use borrow.Author.Tests.{lt-ltb, le-ltb}
use Rattle.base.proofs.Truth.{lt_or_ge}
use Rattle.sheet_spec.specs.declared.Row.{Row}
use Rattle.sheet_spec.specs.Kept.{successor}
use Rattle.sheet_spec.specs.contracts.Row as R
use Rattle.sheet_rows.proofs.Shape.{succ_in, succ_out}
use Rattle.sheet_rules.specs.RowShapes.{node_added, targets}

-- of a row that is owned, the successors alone tell each successor
pub succ_is : (r : Row) (vs : List Val) → Is R.the_row r vs → (i : ℕ) → cond (ltb i 12) (get_or r.succ i 0) 255 ≡ successor r i
succ_is r vs p i = go (lt_or_ge i 12)
  where
    go : (i < 12) ⊎ (12 ≤ i) → cond (ltb i 12) (get_or r.succ i 0) 255 ≡ successor r i
    go (inl h) = rw (lt-ltb i 12 h) (succ_in r vs p i h)
    go (inr h) = rw (le-ltb i 12 h) (succ_out r vs p i h)

pub target_more : (r : Row) (x i : ℕ) → x ≡ targets i r → node_added x (successor r i) ≡ targets (i + 1) r
unfolding targets
target_more r x i p = rw (add-one i, p)
