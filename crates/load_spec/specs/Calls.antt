-- The call (02, K9): what it refuses, what it answers, and what the lent list then holds.
use Rattle.std.specs.Prelude.{Bool, ◌&&◌, not, cond, List, ℕ, Result, Ok, Err, eqb, leb, length}
use Rattle.base.specs.Refusal.{unless, or_else}
use Rattle.base.specs.Front.{at_front}
use Rattle.sheet_spec.specs.declared.Sheet.{Sheet}
use Rattle.sheet_spec.specs.Refusals.{sheet_fault}
use Rattle.load_spec.specs.Walks.{walk_of}

-- 27: the seed is not 0
unfoldable pub seed_ok : ℕ → Bool
seed_ok seed = not (eqb seed 0)

-- 28: the list is not shorter than the wished length, and this is not over 4,096
unfoldable pub wish_ok : ℕ → List ℕ → Bool
wish_ok wish out = leb wish (length out) && leb wish 4096

-- the refusal of a call, 0 for none: the sheet's own, 27, 28
unfoldable pub walk_fault : Sheet → ℕ → ℕ → List ℕ → ℕ
walk_fault s seed wish out = or_else (sheet_fault s) (unless (seed_ok seed) 27 (unless (wish_ok wish out) 28 0))

-- the two numbers of each answer: the refusal, 0 for none, and the walk's length, 0 where it is refused
unfoldable pub walked_numbers : Result ℕ ℕ → ℕ × ℕ
walked_numbers (Ok l) = (0, l)
walked_numbers (Err k) = (k, 0)

-- the length that a call answers: the walk's, 0 where it is refused
unfoldable pub walk_length : Sheet → ℕ → ℕ → List ℕ → ℕ
walk_length s seed wish out = cond (eqb (walk_fault s seed wish out) 0) (length (walk_of s seed wish)) 0

-- the answer of a call: the walk's length, or the refusal
unfoldable pub walked_of : Sheet → ℕ → ℕ → List ℕ → Result ℕ ℕ
walked_of s seed wish out =
    cond (eqb (walk_fault s seed wish out) 0) (Ok (length (walk_of s seed wish))) (Err (walk_fault s seed wish out))

-- the list after a call: the walk's events at its front and the rest untouched; after a refusal as it was
unfoldable pub walk_after : Sheet → ℕ → ℕ → List ℕ → List ℕ
walk_after s seed wish out = cond (eqb (walk_fault s seed wish out) 0) (at_front out (walk_of s seed wish)) out
