-- Whether two texts are the same: for the words that a program knows.
use Rattle.std.specs.Prelude.{Bool, ◌&&◌, List, ℕ, eqb, length, get_or}
use Rattle.base.specs.Range.{all}

-- whether two texts agree in byte i
unfoldable pub agree_at : List ℕ → List ℕ → ℕ → Bool
agree_at a b i = eqb (get_or a i 0) (get_or b i 0)

-- whether two texts are the same
unfoldable pub same_text : List ℕ → List ℕ → Bool
same_text a b = eqb (length a) (length b) && all (agree_at a b) (length a)
