-- One round of the loop that collects the initials.
use mathlib.Core.Path.{◌≡◌, sym}
use mathlib.Core.Bool.{Bool, true, false, not, ◌&&◌, cond}
use Prim.Native.Nat.{ℕ, ◌+◌, ◌^◌, ◌<◌}
use native.Mathlib.Omega.{arith}
use native.Mathlib.Numerals.{add-one}
use native.Mathlib.Nat.{add-zero}
use lib.Dec.{eqb, ltb}
use Rattle.events.specs.Bit.{set_of}
use Rattle.events.proofs.Bit.{set_of_lt}
use Rattle.events.specs.Sets.{insert}
use Rattle.events.proofs.Sets.{insert_top}
use Rattle.sheet_spec.specs.declared.Row.{Row}
use Rattle.sheet_spec.specs.Kept.{successor}
use Rattle.sheet_rows.specs.Shapes.{initial_added}

-- event i is an initial of a row, of which e events are in use
abbrev pub initial : ℕ → Row → ℕ → Bool
initial e r i = ltb i e && not (eqb (successor r i) 255)

pub initial_more : (e : ℕ) (r : Row) (x i : ℕ) → i < 12 → x ≡ set_of (initial e r) i → initial_added e r x i ≡ set_of (initial e r) (i + 1)
unfolding initial_added set_of
initial_more e r x i l p = rw (add-one i, p) (go (initial e r i))
  where
    go : (b : Bool) → cond b (insert (set_of (initial e r) i) i) (set_of (initial e r) i) ≡ set_of (initial e r) i + cond b (2 ^ i) 0
    go true = insert_top (set_of (initial e r) i) i (omega arith) (set_of_lt (initial e r) i)
    go false = sym (add-zero (set_of (initial e r) i))
