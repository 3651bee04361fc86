-- Nothing to believe: the shapes of loops. The functions cite them; laws tell which pairs are in the next layer.
use Rattle.std.specs.Prelude.{Bool, cond, List, ℕ, zero, suc, ltb, get_or, set, replicate}
use Rattle.std.specs.Int.Bits.{bit_or}
use Rattle.base.specs.Range.{any}
use Rattle.events.specs.Sets.{has, meets}
use Rattle.verdicts_tables.specs.Shapes.{leads_to, leads_into}

-- where event i leads from the first m nodes of a set
unfoldable pub image : List ℕ → ℕ → ℕ → ℕ → ℕ
image b i from zero = 0
image b i from (suc m) = bit_or (image b i from m) (cond (has from m) (leads_into b m i) 0)

-- a layer with the pairs that event i leads to, the reference's node being x
unfoldable pub placed : List ℕ → List ℕ → ℕ → ℕ → ℕ → ℕ → List ℕ
placed out theirs x i p from = cond (ltb x p) (set out x (bit_or (get_or out x 0) (image theirs i from 32))) out

-- the pairs that the first i events lead to from node n of the reference
unfoldable pub spread : List ℕ → List ℕ → List ℕ → ℕ → ℕ → ℕ → ℕ → List ℕ
spread out mine theirs n p from zero = out
spread out mine theirs n p from (suc i) = placed (spread out mine theirs n p from i) theirs (leads_to mine n i) i p from

-- the pairs that one event leads to from the first n nodes of the reference
unfoldable pub next : List ℕ → List ℕ → ℕ → ℕ → List ℕ → ℕ → List ℕ
next mine theirs p e layer zero = replicate 32 0
next mine theirs p e layer (suc n) = spread (next mine theirs p e layer n) mine theirs n p (get_or layer n 0) e

-- some pair of a layer is among the words
unfoldable pub layer_hits : List ℕ → List ℕ → ℕ → Bool
layer_hits layer words p = any (λ n. meets (get_or layer n 0) (get_or words n 0)) p

-- the first layer: the pair (0, 0) alone
abbrev pub start : List ℕ
start = set (replicate 32 0) 0 1
