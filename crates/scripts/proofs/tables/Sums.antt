-- Sums of counts over events: how a loop works them, how large they get, and that they look at a table of counts only
-- where both sheets have a node.
use mathlib.Core.Path.{◌≡◌, refl, sym, ap, ◌∙◌}
use mathlib.Core.Logic.{◌⊎◌, inl, inr}
use mathlib.Core.List.{List}
use Prim.Native.Nat.{ℕ, zero, suc, ◌+◌, ◌*◌, ◌^◌, ◌≤◌, ◌<◌}
use native.Mathlib.Nat.{suc-mul, pow-zero, pow-succ', le_trans, pow-le-pow_left, pow-le-pow_right}
use native.Mathlib.Numerals.{add-one}
use native.Mathlib.Omega.{arith}
use lib.ListN.{get_or}
use borrow.Author.Tests.{lt-ltb, le-ltb}
use Rattle.base.proofs.Truth.{lt_or_ge}
use Rattle.scripts_spec.specs.declared.Counts.{Counts}
use Rattle.scripts.specs.Shapes.{none, most, plus, cell, cell_in, event_counts, sums, place, place_sums, table_counts, Most, Small}
use Rattle.scripts.proofs.tables.Cells.{place_both, place_reference, place_device, place_lt}

-- what one event adds, by what the two sheets can do
module _ (power p q x y : ℕ) (after : Counts) where
  pub event_both : y < q → x < p → event_counts power p q x y after ≡ after
  unfolding event_counts
  event_both h k = rw (lt-ltb y q h, lt-ltb x p k)

  pub event_reference : y < q → p ≤ x → event_counts power p q x y after ≡ record { walked = 0; device = 0; reference = power }
  unfolding event_counts
  event_reference h k = rw (lt-ltb y q h, le-ltb x p k)

  pub event_device : q ≤ y → event_counts power p q x y after ≡ record { walked = 0; device = power; reference = 0 }
  unfolding event_counts
  event_device h = rw (le-ltb y q h)

  -- it is at most the power
  pub event_most : (x < p → y < q → Most power after) → Most power (event_counts power p q x y after)
  event_most h = go (lt_or_ge y q) (lt_or_ge x p)
    where
      go : (y < q) ⊎ (q ≤ y) → (x < p) ⊎ (p ≤ x) → Most power (event_counts power p q x y after)
      go (inl k) (inl l) = rw (event_both k l) (h l k)
      go (inl k) (inr l) = rw (event_reference k l) (record { walked = omega arith; device = omega arith; reference = omega arith })
      go (inr k) l = rw (event_device k) (record { walked = omega arith; device = omega arith; reference = omega arith })

-- what one event adds looks at a table only where both have a node
pub event_ext : (power p q x y : ℕ) (c d : Counts) → (x < p → y < q → c ≡ d) → event_counts power p q x y c ≡ event_counts power p q x y d
event_ext power p q x y c d h = go (lt_or_ge y q) (lt_or_ge x p)
  where
    go : (y < q) ⊎ (q ≤ y) → (x < p) ⊎ (p ≤ x) → event_counts power p q x y c ≡ event_counts power p q x y d
    go (inl k) (inl l) = ap (event_counts power p q x y) (h l k)
    go (inl k) (inr l) = event_reference power p q x y c k l ∙ sym (event_reference power p q x y d k l)
    go (inr k) l = event_device power p q x y c k ∙ sym (event_device power p q x y d k)

module _ (a b : List ℕ) (power p q n m : ℕ) where
  module _ (after : ℕ → ℕ → Counts) where
    -- the sums over i events are at most i times the power
    pub sums_most : ((x y : ℕ) → x < p → y < q → Most power (after x y)) → (i : ℕ) → Most (i * power) (sums a b power p q n m after i)
    unfolding sums plus
    sums_most h zero = record { walked = omega arith; device = omega arith; reference = omega arith }
    sums_most h (suc i) =
        let s = sums_most h i in
        let e = event_most power p q (get_or a (n * 12 + i) 0) (get_or b (m * 12 + i) 0) _ (h (get_or a (n * 12 + i) 0) (get_or b (m * 12 + i) 0)) in
        record {
          walked = omega (arith, suc-mul i power, s.walked, e.walked);
          device = omega (arith, suc-mul i power, s.device, e.device);
          reference = omega (arith, suc-mul i power, s.reference, e.reference);
        }

  pub sums_ext : (f g : ℕ → ℕ → Counts) → ((x y : ℕ) → x < p → y < q → f x y ≡ g x y) → (i : ℕ) → sums a b power p q n m f i ≡ sums a b power p q n m g i
  unfolding sums
  sums_ext f g h zero = refl
  sums_ext f g h (suc i) =
      rw (sums_ext f g h i)
      (ap (plus (sums a b power p q n m g i)) (event_ext power p q (get_or a (n * 12 + i) 0) (get_or b (m * 12 + i) 0) _ _ (h (get_or a (n * 12 + i) 0) (get_or b (m * 12 + i) 0))))

-- the counts for l events are at most E to the power l
pub table_most : (a b : List ℕ) (p q e l n m : ℕ) → Most (e ^ l) (table_counts a b p q e l n m)
unfolding table_counts
table_most a b p q e zero n m = let z = pow-zero e in record { walked = omega (arith, z); device = omega arith; reference = omega arith }
table_most a b p q e (suc l) n m =
    rw (pow-succ' e l) (sums_most a b (e ^ l) p q n m (table_counts a b p q e l) (λ x y h k. table_most a b p q e l x y) e)

-- the power of fewer than 16 events
pub power_most : (e l : ℕ) → e ≤ 12 → l < 16 → e ^ l ≤ 15407021574586368
power_most e l h k = le_trans (pow-le-pow_left h l) (pow-le-pow_right {n = 12} (omega arith) {j = 15} (omega arith))

module _ (a b : List ℕ) (p q : ℕ) (t : List ℕ) (n m : ℕ) where
  pub places_none : place_sums a b p q t n m 0 ≡ none
  unfolding place_sums
  places_none = refl

  -- a loop's sums with one event more
  pub places_more : (i c : ℕ) (s r : Counts) → s ≡ place_sums a b p q t n m i → c ≡ place p q (get_or a (n * 12 + i) 0) (get_or b (m * 12 + i) 0)
      → r ≡ plus s (cell t c) → r ≡ place_sums a b p q t n m (i + 1)
  unfolding place_sums
  places_more i c s r e u h = rw (add-one i, h, e, u)

  -- the sums over i events are at most i times what a place holds
  places_most : Small t p q → (i : ℕ) → Most (i * most) (place_sums a b p q t n m i)
  unfolding place_sums plus
  places_most h zero = record { walked = omega arith; device = omega arith; reference = omega arith }
  places_most h (suc i) =
      let s = places_most h i in
      let e = h (place p q (get_or a (n * 12 + i) 0) (get_or b (m * 12 + i) 0)) (place_lt p q _ _) in
      record {
        walked = omega (arith, s.walked, e.walked);
        device = omega (arith, s.device, e.device);
        reference = omega (arith, s.reference, e.reference);
      }

  -- at event i of at most twelve there is room for one place more
  pub places_room : {s : Counts} (i e : ℕ) → Small t p q → s ≡ place_sums a b p q t n m i → i < e → e ≤ 12 → Most (11 * most) s
  places_room i e h g l k =
      let s = places_most h i in
      rw g (record { walked = omega (arith, s.walked); device = omega (arith, s.device); reference = omega (arith, s.reference) })

  -- where the two last places hold what the sheets stop, the sums over the places are those over the events
  pub places_sums : (power : ℕ) → cell t (p * q) ≡ record { walked = 0; device = 0; reference = power } → cell t (p * q + 1) ≡ record { walked = 0; device = power; reference = 0 }
      → (i : ℕ) → place_sums a b p q t n m i ≡ sums a b power p q n m (cell_in t q) i
  unfolding place_sums sums
  places_sums power hr hd zero = refl
  places_sums power hr hd (suc i) =
      rw (places_sums power hr hd i) (ap (plus (sums a b power p q n m (cell_in t q) i)) (at (get_or a (n * 12 + i) 0) (get_or b (m * 12 + i) 0)))
    where
      at : (x y : ℕ) → cell t (place p q x y) ≡ event_counts power p q x y (cell_in t q x y)
      at x y = go (lt_or_ge y q) (lt_or_ge x p)
        where
          go : (y < q) ⊎ (q ≤ y) → (x < p) ⊎ (p ≤ x) → cell t (place p q x y) ≡ event_counts power p q x y (cell_in t q x y)
          go (inl h) (inl k) = ap (cell t) (place_both p q x y h k) ∙ sym (event_both power p q x y (cell_in t q x y) h k)
          go (inl h) (inr k) = ap (cell t) (place_reference p q x y h k) ∙ hr ∙ sym (event_reference power p q x y (cell_in t q x y) h k)
          go (inr h) k = ap (cell t) (place_device p q x y h) ∙ hd ∙ sym (event_device power p q x y (cell_in t q x y) h)
