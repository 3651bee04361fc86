-- A list that a text is written over, piece by piece from the front: what each piece adds.
use Rattle.std.specs.Prelude.{◌≡◌, List, ◌++◌, ℕ, min, ◌<◌, length, take, drop}

-- a list with a text over its front; what does not fit is left out
unfoldable pub over : List ℕ → List ℕ → List ℕ
over text out = take (length out) text ++ drop (length text) out

-- the list out, which was o before, holds the front of a text, and the next place is at
abbrev pub Holds : List ℕ → List ℕ → List ℕ → ℕ → Type 0
Holds o text out at = (out ≡ over text o) × (at ≡ min (length text) (length o))

-- whatever the text so far, from the list out and the place at to the list out' and the place at' it has become longer
-- by `more`
pub record Adds (more out : List ℕ) (at : ℕ) (out' : List ℕ) (at' : ℕ) : Type 0 where
  pub adds : (o text : List ℕ) → Holds o text out at → Holds o (text ++ more) out' at'
  -- from a place beyond the list nothing changes
  pub beyond : length out < at → (out' ≡ out) × (at' ≡ at)
