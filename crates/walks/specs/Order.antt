-- The order of traces: shorter first, and among traces of one length the first difference decides. The whole order is
-- also given as one number, `rank`, so that comparing traces is comparing numbers.
use Rattle.std.specs.Prelude.{◌≡◌, ◌⊎◌, ℕ, ◌+◌, ◌*◌, ◌<◌}
use mathlib.Core.List.{List, [], ◌∷◌}

-- s is t or comes before t in event order: at the first difference s has the smaller event. (For lists of one length.)
abbrev pub Lex : List ℕ → List ℕ → Type 0
Lex [] t = Unit {0}
Lex (a ∷ s) [] = ⊥
Lex (a ∷ s) (b ∷ t) = (a < b) ⊎ ((a ≡ b) × Lex s t)

module _ (E : ℕ) where
  -- The events of t read on from the number a, in base E with the digits 1 .. E.
  unfoldable pub rank_from : ℕ → List ℕ → ℕ
  rank_from a [] = a
  rank_from a (i ∷ t) = rank_from (a * E + i + 1) t

  -- The place of t among the lists of events below E: shorter first, then the first difference decides.
  unfoldable pub rank : List ℕ → ℕ
  rank t = rank_from 0 t
