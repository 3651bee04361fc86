-- The single pass over the acceptances, from its place k on.
use Rattle.std.proofs.Common.{◌≡◌, ℕ, ◌+◌, ◌-◌, ◌<◌, ◌≤◌, Bool, true, false, cond, not, ◌&&◌, eqb, ◌≢◌, ◌⊎◌, List, [], ◌∷◌, length, get_or, drop, refl, ◌∙◌, inl, inr, add-one, arith, drop_of_length-le, drop-cons, eq-eqb, ne_eqb}
use lib.Bits.{bit_and, bit_or}
use Rattle.base.proofs.Truth.{lt_or_ge}
use Rattle.probes_spec.specs.Shapes.{lone, one_pass}

-- what is left of a list at place k
pub left_some : (l : List ℕ) (k : ℕ) → k < length l → drop k l ≡ get_or l k 0 ∷ drop (k + 1) l
left_some l k h = drop-cons l k 0 h ∙ rw (add-one k)

pub left_none : (l : List ℕ) (k : ℕ) → length l ≤ k → drop k l ≡ []
left_none l k h = drop_of_length-le l h

module _ (sets : List ℕ) (k x own : ℕ) where
  -- one acceptance of the pass: whether it is met, and what is left of the pass with its lone event
  pub pass_next : k < length sets → (met : Bool)
      → ((met && not (eqb (bit_and (get_or sets k 0) x) 0)) && one_pass (drop (k + 1) sets) x (bit_or own (lone (bit_and (get_or sets k 0) x)))) ≡ (met && one_pass (drop k sets) x own)
  unfolding one_pass
  pass_next h met = rw (left_some sets k h) (go met (eqb (bit_and (get_or sets k 0) x) 0) (one_pass (drop (k + 1) sets) x (bit_or own (lone (bit_and (get_or sets k 0) x)))))
    where
      go : (m z t : Bool) → ((m && not z) && t) ≡ (m && cond z false t)
      go true true t = refl
      go true false t = refl
      go false z t = refl

  pub pass_end : length sets ≤ k → one_pass (drop k sets) x own ≡ eqb own x
  unfolding one_pass
  pass_end h = rw (left_none sets k h)

-- of the empty set nothing is left
lone_none : lone 0 ≡ 0
unfolding lone
lone_none = go (eqb (bit_and 0 (0 - 1)) 0)
  where
    go : (b : Bool) → ◌≡◌ {A = ℕ} (cond b 0 0) 0
    go true = refl
    go false = refl

-- a set and the number before it, which is any number for the empty set
module _ (y r : ℕ) (h : 0 < y → r ≡ y - 1) where
  pub lone_yes : bit_and y r ≡ 0 → y ≡ lone y
  lone_yes z = go (lt_or_ge 0 y)
    where
      go : (0 < y) ⊎ (y ≤ 0) → y ≡ lone y
      go (inl l) = unfold lone in (rw (eq-eqb (bit_and y (y - 1)) 0 (rw (← h l) z)))
      go (inr l) = let e : y ≡ 0 = omega arith in rw (e, lone_none)

  pub lone_no : bit_and y r ≢ 0 → 0 ≡ lone y
  lone_no n = go (lt_or_ge 0 y)
    where
      go : (0 < y) ⊎ (y ≤ 0) → 0 ≡ lone y
      go (inl l) = unfold lone in (rw (ne_eqb (bit_and y (y - 1)) 0 (rw (← h l) n)))
      go (inr l) = let e : y ≡ 0 = omega arith in rw (e, lone_none)
