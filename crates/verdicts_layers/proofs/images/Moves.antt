-- The next layer: which pairs are in it.
use mathlib.Core.Path.{◌≡◌, refl, sym, ap, ◌∙◌}
use mathlib.Core.Bool.{Bool, true, false, ◌&&◌, ◌||◌, cond}
use mathlib.Core.List.{List}
use Prim.Native.Nat.{ℕ, zero, suc, ◌+◌, ◌≤◌}
use native.Mathlib.Omega.{arith}
use native.Mathlib.Numerals.{add-one}
use native.Mathlib.Decide.{ℕ_discrete}
use lib.Dec.{eqb, ltb}
use lib.Bits.{bit_or, or_zero_r}
use lib.ListN.{length, get_or, set, replicate, length-set, length-replicate}
use lib.Seq.{get_or-set_same, get_or-set_other, set-get_or}
use borrow.Author.Tests.{ltb-true, eq-eqb, ne_eqb}
use Rattle.base.proofs.Truth.{or_false, or_assoc}
use Rattle.base.specs.Range.{any}
use Rattle.events.specs.Sets.{has}
use Rattle.verdicts_tables.specs.Shapes.{leads_to}
use Rattle.verdicts_tables.proofs.Words.{has_zero}
use Rattle.verdicts_layers.specs.ImageShapes.{image, placed, spread, next}
use Rattle.verdicts_layers.proofs.images.Images.{has_or, image_none}

pub zeros : (k v : ℕ) → ◌≡◌ {A = ℕ} (get_or (replicate k 0) v 0) 0
zeros zero v = refl
zeros (suc k) zero = refl
zeros (suc k) (suc v) = zeros k v

or_none : (a b : Bool) → a ≡ (a || (false && b))
or_none true b = refl
or_none false b = refl

-- from no node nothing is placed
pub spread_none : (out mine theirs : List ℕ) (n p from i : ℕ) → from ≡ 0 → out ≡ spread out mine theirs n p from i
unfolding spread placed
spread_none out mine theirs n p from zero z = refl
spread_none out mine theirs n p from (suc i) z =
    rw (← spread_none out mine theirs n p from i z, z, image_none theirs i 32, or_zero_r (get_or out (leads_to mine n i) 0), set-get_or out (leads_to mine n i) 0) (go (ltb (leads_to mine n i) p))
  where
    go : (b : Bool) → out ≡ cond b out out
    go true = refl
    go false = refl

-- the pairs of one event more are placed
pub spread_more : (first mine theirs out out' : List ℕ) (n p from i x : ℕ) → out ≡ spread first mine theirs n p from i → x ≡ leads_to mine n i
    → out' ≡ placed out theirs x i p from → out' ≡ spread first mine theirs n p from (i + 1)
unfolding spread
spread_more first mine theirs out out' n p from i x a b c = rw (add-one i, ← a, ← b) c

module _ (mine theirs : List ℕ) (p : ℕ) (small : p ≤ 32) where
  placed_length : (out : List ℕ) (x i from : ℕ) → length (placed out theirs x i p from) ≡ length out
  unfolding placed
  placed_length out x i from = go (ltb x p)
    where
      go : (b : Bool) → length (cond b (set out x (bit_or (get_or out x 0) (image theirs i from 32))) out) ≡ length out
      go true = length-set out x (bit_or (get_or out x 0) (image theirs i from 32))
      go false = refl

  placed_has : (out : List ℕ) (x i from v y : ℕ) → length out ≡ 32
      → has (get_or (placed out theirs x i p from) v 0) y ≡ (has (get_or out v 0) y || ((ltb x p && eqb x v) && has (image theirs i from 32) y))
  unfolding placed
  placed_has out x i from v y l = go (ltb x p) refl (ℕ_discrete x v)
    where
      w : ℕ
      w = image theirs i from 32

      go : (b : Bool) → ltb x p ≡ b → Dec (x ≡ v)
          → has (get_or (cond b (set out x (bit_or (get_or out x 0) w)) out) v 0) y ≡ (has (get_or out v 0) y || ((b && eqb x v) && has w y))
      go true h (yes e) = rw (← e, get_or-set_same out x (bit_or (get_or out x 0) w) 0 (omega (arith, ltb-true x p h)), eq-eqb x x refl) (has_or (get_or out x 0) w y)
      go true h (no n) = rw (get_or-set_other out x v (bit_or (get_or out x 0) w) 0 (λ e. n (sym e)), ne_eqb x v n) (or_none (has (get_or out v 0) y) (has w y))
      go false h d = or_none (has (get_or out v 0) y) (has w y)

  -- event i leads from node n of the reference and from a node of the set to the pair (v, y)
  abbrev pub moves : ℕ → ℕ → ℕ → ℕ → ℕ → Bool
  moves n from v y i = (ltb (leads_to mine n i) p && eqb (leads_to mine n i) v) && has (image theirs i from 32) y

  spread_length : (out : List ℕ) (n from i : ℕ) → length (spread out mine theirs n p from i) ≡ length out
  unfolding spread
  spread_length out n from zero = refl
  spread_length out n from (suc i) = placed_length (spread out mine theirs n p from i) (leads_to mine n i) i from ∙ spread_length out n from i

  spread_has : (out : List ℕ) (n from i v y : ℕ) → length out ≡ 32
      → has (get_or (spread out mine theirs n p from i) v 0) y ≡ (has (get_or out v 0) y || any (moves n from v y) i)
  unfolding spread any
  spread_has out n from zero v y l = or_false (has (get_or out v 0) y)
  spread_has out n from (suc i) v y l =
      placed_has (spread out mine theirs n p from i) (leads_to mine n i) i from v y (spread_length out n from i ∙ l)
      ∙ ap (λ (b : Bool). b || moves n from v y i) (spread_has out n from i v y l)
      ∙ or_assoc (has (get_or out v 0) y) (any (moves n from v y) i) (moves n from v y i)

  next_length : (e : ℕ) (layer : List ℕ) (n : ℕ) → length (next mine theirs p e layer n) ≡ 32
  unfolding next
  next_length e layer zero = length-replicate {A = ℕ} 32 0
  next_length e layer (suc n) = spread_length (next mine theirs p e layer n) n (get_or layer n 0) e ∙ next_length e layer n

  -- the pairs of one node more of the reference are placed
  pub next_more : (e : ℕ) (layer out out' : List ℕ) (n : ℕ) → out ≡ next mine theirs p e layer n → out' ≡ spread out mine theirs n p (get_or layer n 0) e
      → out' ≡ next mine theirs p e layer (n + 1)
  unfolding next
  next_more e layer out out' n a b = rw (add-one n, ← a) b

  -- the pair (v, y) is in the next layer exactly if some event leads to it from a pair of the layer
  pub next_has : (e : ℕ) (layer : List ℕ) (n v y : ℕ)
      → has (get_or (next mine theirs p e layer n) v 0) y ≡ any (λ u. any (moves u (get_or layer u 0) v y) e) n
  unfolding next any
  next_has e layer zero v y = rw (zeros 32 v) (has_zero y)
  next_has e layer (suc n) v y =
      spread_has (next mine theirs p e layer n) n (get_or layer n 0) e v y (next_length e layer n)
      ∙ ap (λ (b : Bool). b || any (moves n (get_or layer n 0) v y) e) (next_has e layer n v y)
