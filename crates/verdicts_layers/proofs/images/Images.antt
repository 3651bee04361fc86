-- Where an event leads from a set of nodes: which nodes are there, and the walk that takes the least node of the set,
-- round by round.
use mathlib.Core.Path.{◌≡◌, refl, sym, ap, ap₂, ◌∙◌}
use mathlib.Core.Logic.{◌⊎◌, inl, inr}
use mathlib.Core.Bool.{Bool, true, false, ◌&&◌, ◌||◌, cond}
use mathlib.Core.List.{List}
use Prim.Native.Nat.{ℕ, zero, suc, ◌-◌, ◌^◌, ◌≤◌, ◌<◌}
use native.Mathlib.Omega.{arith}
use native.Mathlib.Decide.{ℕ_discrete}
use lib.Bits.{bit_or, or_zero_l, or_zero_r}
use lib.Pow.{pow_pos}
use Rattle.base.proofs.Truth.{dec, and_l, and_r, and_i, or_e, or_l, or_r, same}
use Rattle.base.specs.Range.{any}
use Rattle.base.proofs.Range.{any→, any←}
use Rattle.events.specs.Bit.{bit}
use Rattle.events.proofs.Bit.{bit≤1, bits_ext, bit_or_lem, bit_drop, bit_keep}
use Rattle.events.specs.Sets.{has}
use Rattle.events.proofs.Sets.{has→, has←, has_not}
use Rattle.verdicts_tables.specs.Shapes.{leads_into}
use Rattle.verdicts_tables.proofs.Words.{has_zero}
use Rattle.nodes.specs.NodeSets.{least_node, least_lt, least_in}
use Rattle.verdicts_layers.specs.ImageShapes.{image}

-- a node is in a union exactly if it is in one of the two sets
pub has_or : (x y v : ℕ) → has (bit_or x y) v ≡ (has x v || has y v)
has_or x y v = same (has (bit_or x y) v) (has x v || has y v) forth back
  where
    forth : has (bit_or x y) v ≡ true → (has x v || has y v) ≡ true
    forth t = go (dec (has x v))
      where
        go : (has x v ≡ true) ⊎ (has x v ≡ false) → (has x v || has y v) ≡ true
        go (inl p) = or_l (has y v) p
        go (inr p) = or_r (has x v) (has← y v (omega (arith, has→ (bit_or x y) v t, bit_or_lem v x y, has_not x v p)))

    back : (has x v || has y v) ≡ true → has (bit_or x y) v ≡ true
    back t = go (or_e (has x v) (has y v) t)
      where
        go : (has x v ≡ true) ⊎ (has y v ≡ true) → has (bit_or x y) v ≡ true
        go (inl p) = has← (bit_or x y) v (omega (arith, has→ x v p, bit_or_lem v x y, bit≤1 y v))
        go (inr p) = has← (bit_or x y) v (omega (arith, has→ y v p, bit_or_lem v x y, bit≤1 x v))

-- the nodes to which event i leads from a set
pub image_has : (b : List ℕ) (i from m y : ℕ) → has (image b i from m) y ≡ any (λ u. has from u && has (leads_into b u i) y) m
unfolding image any
image_has b i from zero y = has_zero y
image_has b i from (suc m) y = has_or (image b i from m) (cond (has from m) (leads_into b m i) 0) y ∙ ap₂ ◌||◌ (image_has b i from m y) (go (has from m))
  where
    go : (c : Bool) → has (cond c (leads_into b m i) 0) y ≡ (c && has (leads_into b m i) y)
    go true = refl
    go false = has_zero y

-- from no node an event leads nowhere
pub image_none : (b : List ℕ) (i m : ℕ) → image b i 0 m ≡ 0
unfolding image
image_none b i zero = refl
image_none b i (suc m) = rw (image_none b i m, has_zero m) (or_zero_l 0)

-- two sets with the same nodes are one
has_ext : (X Y : ℕ) → ((y : ℕ) → has X y ≡ has Y y) → X ≡ Y
has_ext X Y h = bits_ext X Y (λ y. go y (dec (has X y)))
  where
    go : (y : ℕ) → (has X y ≡ true) ⊎ (has X y ≡ false) → bit X y ≡ bit Y y
    go y (inl t) = has→ X y t ∙ sym (has→ Y y (sym (h y) ∙ t))
    go y (inr t) = has_not X y t ∙ sym (has_not Y y (sym (h y) ∙ t))

module _ (x : ℕ) (pos : 0 < x) (small : x < 2 ^ 32) where
  -- where an event leads from a set is where it leads from the least node, and from the others
  image_least : (b : List ℕ) (i : ℕ) → image b i x 32 ≡ bit_or (leads_into b (least_node x) i) (image b i (x - 2 ^ least_node x) 32)
  image_least b i =
      has_ext all both (λ y. same (has all y) (has both y) (λ t. has_or (leads_into b m i) (image b i others 32) y ∙ forth y t)
      (λ t. back y (or_e (has (leads_into b m i) y) (has (image b i others 32) y) (sym (has_or (leads_into b m i) (image b i others 32) y) ∙ t))))
    where
      m : ℕ
      m = least_node x

      others : ℕ
      others = x - 2 ^ least_node x

      all : ℕ
      all = image b i x 32

      both : ℕ
      both = bit_or (leads_into b m i) (image b i others 32)

      -- some node of a set leads to y
      comes : ℕ → ℕ → ℕ → Bool
      comes set y u = has set u && has (leads_into b u i) y

      forth : (y : ℕ) → has all y ≡ true → (has (leads_into b m i) y || has (image b i others 32) y) ≡ true
      forth y t =
          let w = any→ (comes x y) 32 (sym (image_has b i x 32 y) ∙ t) in
          go w.0 w.1 (and_l (has x w.0) (has (leads_into b w.0 i) y) w.2) (and_r (has x w.0) (has (leads_into b w.0 i) y) w.2) (ℕ_discrete m w.0)
        where
          go : (u : ℕ) → u < 32 → has x u ≡ true → has (leads_into b u i) y ≡ true → Dec (m ≡ u) → (has (leads_into b m i) y || has (image b i others 32) y) ≡ true
          go u l p s (yes e) = let z : has (leads_into b m i) y ≡ true = rw e s in or_l (has (image b i others 32) y) z
          go u l p s (no n) = or_r (has (leads_into b m i) y) (image_has b i others 32 y ∙ any← (comes others y) 32 u l (and_i (has← others u (bit_keep m u x (least_in x pos small) n ∙ has→ x u p)) s))

      back : (y : ℕ) → (has (leads_into b m i) y ≡ true) ⊎ (has (image b i others 32) y ≡ true) → has all y ≡ true
      back y (inl s) = image_has b i x 32 y ∙ any← (comes x y) 32 m (least_lt x pos small) (and_i (has← x m (least_in x pos small)) s)
      back y (inr t) =
          let w = any→ (comes others y) 32 (sym (image_has b i others 32 y) ∙ t) in
          go w.0 w.1 (and_l (has others w.0) (has (leads_into b w.0 i) y) w.2) (and_r (has others w.0) (has (leads_into b w.0 i) y) w.2) (ℕ_discrete m w.0)
        where
          go : (u : ℕ) → u < 32 → has others u ≡ true → has (leads_into b u i) y ≡ true → Dec (m ≡ u) → has all y ≡ true
          go u l p s (yes e) = absurd (omega (arith, bit_drop m x (least_in x pos small), ap (λ (v : ℕ). bit others v) e, has→ others u p))
          go u l p s (no n) = image_has b i x 32 y ∙ any← (comes x y) 32 u l (and_i (has← x u (sym (bit_keep m u x (least_in x pos small) n) ∙ has→ others u p)) s)

-- after some rounds: where the event leads from the nodes that are left is what is missing
pub record Walked (b : List ℕ) (i from out rest : ℕ) : Type 0 where
  pub below : rest ≤ from
  pub whole : bit_or out (image b i rest 32) ≡ image b i from 32

or_assoc : (x y z : ℕ) → bit_or (bit_or x y) z ≡ bit_or x (bit_or y z)
or_assoc x y z = bits_ext (bit_or (bit_or x y) z) (bit_or x (bit_or y z)) (λ v. omega (arith, bit_or_lem v (bit_or x y) z, bit_or_lem v x y, bit_or_lem v x (bit_or y z), bit_or_lem v y z))

module _ {b : List ℕ} {i from : ℕ} where
  pub walk_starts : Walked b i from 0 from
  walk_starts = record { below = omega arith; whole = or_zero_l (image b i from 32) }

  pub walk_on : {out rest left m : ℕ} → Walked b i from out rest → 0 < rest → rest < 2 ^ 32 → m ≡ least_node rest → left ≡ rest - 2 ^ least_node rest
      → Walked b i from (bit_or out (leads_into b m i)) left
  walk_on {out} {rest} {left} {m} h pos small e d =
      record {
        below = omega (arith, h.below);
        whole = rw (e, d) (or_assoc out (leads_into b (least_node rest) i) (image b i (rest - 2 ^ least_node rest) 32) ∙ ap (bit_or out) (sym (image_least rest pos small b i)) ∙ h.whole);
      }

  pub walk_ends : {out rest : ℕ} → Walked b i from out rest → rest ≡ 0 → out ≡ image b i from 32
  walk_ends {out} h e = sym (or_zero_r out) ∙ ap (bit_or out) (sym (image_none b i 32)) ∙ rw e at h.whole

-- the rounds of the walk
pub ruleset walking = (walk_starts, walk_ends, least_lt, pow_pos)
