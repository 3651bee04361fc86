-- Nothing to believe: words for laws alone. What stands in a list, and a list in an order.
use Rattle.std.specs.Prelude.{◌≡◌, List, ℕ, ◌<◌, length, get_or}

-- a stands in the list
abbrev pub In : List ℕ → ℕ → Type 0
In l a = (x : ℕ) × (x < length l) × (get_or l x 0 ≡ a)

-- whatever stands in the list comes before all that stand after it
abbrev pub Sorted : (ℕ → ℕ → Type 0) → List ℕ → Type 0
Sorted before l = (x y : ℕ) → x < y → y < length l → before (get_or l x 0) (get_or l y 0)
