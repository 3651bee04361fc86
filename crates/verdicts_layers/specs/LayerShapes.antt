-- Nothing to believe: the shapes of loops. Inner functions cite them; laws join them to fails_from.
use Rattle.std.specs.Prelude.{Bool, ◌||◌, cond, List, ℕ, zero, suc}
use Rattle.verdicts_spec.specs.Numbers.{passes_number, fails_number}
use Rattle.verdicts_layers.specs.ImageShapes.{next, layer_hits}

-- whether a test with k events to go fails from a pair of a layer
unfoldable pub fails_on : List ℕ → List ℕ → List ℕ → List ℕ → ℕ → ℕ → ℕ → List ℕ → Bool
fails_on mine theirs early late p e zero layer = layer_hits layer late p
fails_on mine theirs early late p e (suc k) layer = layer_hits layer early p || fails_on mine theirs early late p e k (next mine theirs p e layer p)

-- the number of the verdict on a test that fails, or does not
unfoldable pub kind_of : Bool → ℕ
kind_of fails = cond fails fails_number passes_number
