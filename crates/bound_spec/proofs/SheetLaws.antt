-- Nothing to believe: laws. The rows of the two sheets, and that the sheets are accepted: their rows keep the rules,
-- unused rows are blank, and each node is reached by climbing.
use Rattle.std.specs.Prelude.{◌≡◌, ◌⊎◌, List, ◌∷◌, get_or}
use Rattle.std.proofs.Math.Path.{refl, sym}
use Rattle.std.proofs.Common.{◌∙◌, add-zero}
use Rattle.std.proofs.Math.Logic.{inl, inr}
use Prim.Native.Nat.{ℕ, zero, suc, ◌+◌, ◌^◌, ◌≤◌, ◌<◌}
use native.Mathlib.Omega.{arith}
use Rattle.std.proofs.Math.Decide.{ℕ_discrete}
use Rattle.std.proofs.Math.ListN.{replicate}
use Rattle.std.proofs.lemmas.List.{get_or-replicate}
use borrow.Author.Tests.{lt-ltb, le-ltb}
use Rattle.base.proofs.Truth.{lt_or_ge}
use Rattle.base.proofs.Table.{get_or_up_to}
use Rattle.events.specs.Bit.{bit, Within}
use Rattle.events.proofs.Bit.{bit_one, bit_other}
use Rattle.sheet_spec.specs.Kept.{no_row, row, successor, acceptance, Walk}
use Rattle.sheet_spec.specs.Spelling.{unused_row}
use Rattle.sheet_spec.specs.Refusals.{sheet_fault}
use Rattle.sheet_spec.specs.Sound.{Sound}
use Rattle.sheet_spec.proofs.SoundLaws.{check_sound}
use Rattle.sheet_spec.specs.Made.{RowSound}
use Rattle.sheet_spec.proofs.MadeLaws.{unused_blank, made_accepted}
use Rattle.sheet_spec.proofs.CodeLaws.{first_good}
use Rattle.bound_spec.specs.Sheets.{zero_to, one_to, either_to, reference_row, device_row, bound_reference, bound_device}

-- ---- the three shapes of rows keep the rules

-- the set of event k alone has that event alone
lone : (k i : ℕ) → bit (2 ^ k) i ≡ 1 → i ≡ k
lone k i b = go (ℕ_discrete k i)
  where
    go : Dec (k ≡ i) → i ≡ k
    go (yes e) = sym e
    go (no n) = absurd (omega (arith, b, bit_other k i n))

-- the sets of a row: one alone, the other alone, both
abbrev just_one : List ℕ
just_one = 1 ∷ replicate 15 0

abbrev just_two : List ℕ
just_two = 2 ∷ replicate 15 0

abbrev one_two : List ℕ
one_two = 1 ∷ (2 ∷ replicate 14 0)

module _ (n : ℕ) (high : n ≤ 32) where
  zero_sound : (a : ℕ) → a < n → RowSound 2 n (zero_to a)
  unfolding successor acceptance
  zero_sound a l = record {
    c_low = omega arith;
    c_high = omega arith;
    successors = both;
    unused_event = none;
    unused_place = zeros;
    ascending = λ j k p q. absurd (omega arith);
    inside = one;
    apart = λ j k p q w. omega arith;
  }
    where
      both : (i : ℕ) → i < 2 → (get_or (a ∷ replicate 11 255) i 255 ≡ 255) ⊎ (get_or (a ∷ replicate 11 255) i 255 < n)
      both zero k = inr l
      both (suc zero) k = inl refl
      both (suc (suc i)) k = absurd (omega arith)

      none : (i : ℕ) → 2 ≤ i → i < 12 → get_or (a ∷ replicate 11 255) i 255 ≡ 255
      none zero k h = absurd (omega arith)
      none (suc i) k h = get_or-replicate {A = ℕ} 11 i 255 255 (omega arith)

      zeros : (j : ℕ) → 1 ≤ j → j < 16 → get_or just_one j 0 ≡ 0
      zeros zero k h = absurd (omega arith)
      zeros (suc j) k h = get_or-replicate {A = ℕ} 15 j 0 0 (omega arith)

      one : (j i : ℕ) → j < 1 → bit (get_or just_one j 0) i ≡ 1 → (i < 2) × (¬ (get_or (a ∷ replicate 11 255) i 255 ≡ 255))
      one zero i k b = let q = lone 0 i b in (omega arith, rw q (λ e. omega (arith, e, l, high)))
      one (suc j) i k b = absurd (omega arith)

  one_sound : (b : ℕ) → b < n → RowSound 2 n (one_to b)
  unfolding successor acceptance
  one_sound b l = record {
    c_low = omega arith;
    c_high = omega arith;
    successors = both;
    unused_event = none;
    unused_place = zeros;
    ascending = λ j k p q. absurd (omega arith);
    inside = one;
    apart = λ j k p q w. omega arith;
  }
    where
      both : (i : ℕ) → i < 2 → (get_or (255 ∷ (b ∷ replicate 10 255)) i 255 ≡ 255) ⊎ (get_or (255 ∷ (b ∷ replicate 10 255)) i 255 < n)
      both zero k = inl refl
      both (suc zero) k = inr l
      both (suc (suc i)) k = absurd (omega arith)

      none : (i : ℕ) → 2 ≤ i → i < 12 → get_or (255 ∷ (b ∷ replicate 10 255)) i 255 ≡ 255
      none zero k h = absurd (omega arith)
      none (suc zero) k h = absurd (omega arith)
      none (suc (suc i)) k h = get_or-replicate {A = ℕ} 10 i 255 255 (omega arith)

      zeros : (j : ℕ) → 1 ≤ j → j < 16 → get_or just_two j 0 ≡ 0
      zeros zero k h = absurd (omega arith)
      zeros (suc j) k h = get_or-replicate {A = ℕ} 15 j 0 0 (omega arith)

      one : (j i : ℕ) → j < 1 → bit (get_or just_two j 0) i ≡ 1 → (i < 2) × (¬ (get_or (255 ∷ (b ∷ replicate 10 255)) i 255 ≡ 255))
      one zero i k e = let q = lone 1 i e in (omega arith, rw q (λ z. omega (arith, z, l, high)))
      one (suc j) i k e = absurd (omega arith)

  either_sound : (a b : ℕ) → a < n → b < n → RowSound 2 n (either_to a b)
  unfolding successor acceptance
  either_sound a b x y = record {
    c_low = omega arith;
    c_high = omega arith;
    successors = both;
    unused_event = none;
    unused_place = zeros;
    ascending = ascends;
    inside = one;
    apart = differ;
  }
    where
      both : (i : ℕ) → i < 2 → (get_or (a ∷ (b ∷ replicate 10 255)) i 255 ≡ 255) ⊎ (get_or (a ∷ (b ∷ replicate 10 255)) i 255 < n)
      both zero k = inr x
      both (suc zero) k = inr y
      both (suc (suc i)) k = absurd (omega arith)

      none : (i : ℕ) → 2 ≤ i → i < 12 → get_or (a ∷ (b ∷ replicate 10 255)) i 255 ≡ 255
      none zero k h = absurd (omega arith)
      none (suc zero) k h = absurd (omega arith)
      none (suc (suc i)) k h = get_or-replicate {A = ℕ} 10 i 255 255 (omega arith)

      zeros : (j : ℕ) → 2 ≤ j → j < 16 → get_or one_two j 0 ≡ 0
      zeros zero k h = absurd (omega arith)
      zeros (suc zero) k h = absurd (omega arith)
      zeros (suc (suc j)) k h = get_or-replicate {A = ℕ} 14 j 0 0 (omega arith)

      ascends : (i j : ℕ) → i < j → j < 2 → get_or one_two i 0 < get_or one_two j 0
      ascends zero zero k h = absurd (omega arith)
      ascends zero (suc zero) k h = omega arith
      ascends zero (suc (suc j)) k h = absurd (omega arith)
      ascends (suc i) j k h = absurd (omega arith)

      differ : (i j : ℕ) → i < j → j < 2 → ¬ Within (get_or one_two i 0) (get_or one_two j 0)
      differ zero zero k h w = omega arith
      differ zero (suc zero) k h w = omega (arith, w 0, bit_one 0, bit_other 1 0 (λ e. omega arith))
      differ zero (suc (suc j)) k h w = omega arith
      differ (suc i) j k h w = omega arith

      one : (j i : ℕ) → j < 2 → bit (get_or one_two j 0) i ≡ 1 → (i < 2) × (¬ (get_or (a ∷ (b ∷ replicate 10 255)) i 255 ≡ 255))
      one zero i k e = let q = lone 0 i e in (omega arith, rw q (λ z. omega (arith, z, x, high)))
      one (suc zero) i k e = let q = lone 1 i e in (omega arith, rw q (λ z. omega (arith, z, y, high)))
      one (suc (suc j)) i k e = absurd (omega arith)

-- ---- the reference

-- E and N
module _ (p : ℕ) where
  pub reference_size : ((bound_reference p).e ≡ 2) × ((bound_reference p).n ≡ p)
  unfolding bound_reference
  reference_size = (refl, refl)

  row_reference : (v : ℕ) → v < 32 → row (bound_reference p) v ≡ reference_row p v
  unfolding bound_reference
  row_reference v l = get_or_up_to (reference_row p) 32 v no_row l

module _ (p : ℕ) (low : 1 ≤ p) (high : p ≤ 32) where
  pub reference_middle : (v : ℕ) → v + 1 < p → row (bound_reference p) v ≡ either_to v (v + 1)
  unfolding reference_row
  reference_middle v l = row_reference p v (omega arith) ∙ rw (lt-ltb v p (omega arith), lt-ltb (v + 1) p l)

  pub reference_last : (v : ℕ) → v + 1 ≡ p → row (bound_reference p) v ≡ zero_to v
  unfolding reference_row
  reference_last v e = row_reference p v (omega arith) ∙ rw (lt-ltb v p (omega arith), le-ltb (v + 1) p (omega arith))

  pub reference_free : (v : ℕ) → p ≤ v → v < 32 → row (bound_reference p) v ≡ unused_row
  unfolding reference_row
  reference_free v l h = row_reference p v h ∙ rw (le-ltb v p l)

  reference_sound : (v : ℕ) → v < p → RowSound 2 p (row (bound_reference p) v)
  reference_sound v l = go (lt_or_ge (v + 1) p)
    where
      go : (v + 1 < p) ⊎ (p ≤ v + 1) → RowSound 2 p (row (bound_reference p) v)
      go (inl h) = rw (reference_middle v h) (either_sound p high v (v + 1) l h)
      go (inr h) = rw (reference_last v (omega arith)) (zero_sound p high v l)

  -- event 1, k times, climbs k nodes
  reference_climbs : (k u : ℕ) → u + k < p → Walk (bound_reference p) u (replicate k 1) (u + k)
  unfolding Walk bound_reference
  reference_climbs zero u l = sym (add-zero u)
  reference_climbs (suc k) u l =
      let e : u + suc k ≡ u + 1 + k = omega arith in
      let n : successor (row (bound_reference p) u) 1 ≡ u + 1 = unfold successor in rw (reference_middle u (omega arith)) in
      (omega arith, omega arith, rw (n, e) (reference_climbs k (u + 1) (omega arith)))

  pub reference_accepted : sheet_fault (bound_reference p) ≡ 0
  unfolding bound_reference
  reference_accepted = made_accepted (bound_reference p) (record {
    ranges = record { e_low = omega arith; e_high = omega arith; n_low = low; n_high = high };
    codes = first_good 2 (omega arith);
    used = reference_sound;
    unused = λ v l h. rw (reference_free v l h) unused_blank;
    reached = λ v l. (replicate v 1, rw (zero_in v) at (reference_climbs v 0 (omega arith)));
  })
    where
      zero_in : (v : ℕ) → 0 + v ≡ v
      zero_in v = omega arith

  pub sound_reference : Sound (bound_reference p)
  sound_reference = check_sound (bound_reference p) reference_accepted

-- ---- the device

module _ (q : ℕ) where
  pub device_size : ((bound_device q).e ≡ 2) × ((bound_device q).n ≡ q)
  unfolding bound_device
  device_size = (refl, refl)

  row_device : (v : ℕ) → v < 32 → row (bound_device q) v ≡ device_row q v
  unfolding bound_device
  row_device v l = get_or_up_to (device_row q) 32 v no_row l

module _ (q : ℕ) (low : 1 ≤ q) (high : q ≤ 32) where
  pub device_middle : (v : ℕ) → v + 1 < q → row (bound_device q) v ≡ zero_to (v + 1)
  unfolding device_row
  device_middle v l = row_device q v (omega arith) ∙ rw (lt-ltb v q (omega arith), lt-ltb (v + 1) q l)

  pub device_last : (v : ℕ) → v + 1 ≡ q → row (bound_device q) v ≡ one_to 0
  unfolding device_row
  device_last v e = row_device q v (omega arith) ∙ rw (lt-ltb v q (omega arith), le-ltb (v + 1) q (omega arith))

  pub device_free : (v : ℕ) → q ≤ v → v < 32 → row (bound_device q) v ≡ unused_row
  unfolding device_row
  device_free v l h = row_device q v h ∙ rw (le-ltb v q l)

  device_sound : (v : ℕ) → v < q → RowSound 2 q (row (bound_device q) v)
  device_sound v l = go (lt_or_ge (v + 1) q)
    where
      go : (v + 1 < q) ⊎ (q ≤ v + 1) → RowSound 2 q (row (bound_device q) v)
      go (inl h) = rw (device_middle v h) (zero_sound q high (v + 1) h)
      go (inr h) = rw (device_last v (omega arith)) (one_sound q high 0 low)

  -- event 0, k times, climbs k nodes
  device_climbs : (k u : ℕ) → u + k < q → Walk (bound_device q) u (replicate k 0) (u + k)
  unfolding Walk bound_device
  device_climbs zero u l = sym (add-zero u)
  device_climbs (suc k) u l =
      let e : u + suc k ≡ u + 1 + k = omega arith in
      let n : successor (row (bound_device q) u) 0 ≡ u + 1 = unfold successor in rw (device_middle u (omega arith)) in
      (omega arith, omega arith, rw (n, e) (device_climbs k (u + 1) (omega arith)))

  pub device_accepted : sheet_fault (bound_device q) ≡ 0
  unfolding bound_device
  device_accepted = made_accepted (bound_device q) (record {
    ranges = record { e_low = omega arith; e_high = omega arith; n_low = low; n_high = high };
    codes = first_good 2 (omega arith);
    used = device_sound;
    unused = λ v l h. rw (device_free v l h) unused_blank;
    reached = λ v l. (replicate v 0, rw (zero_in v) at (device_climbs v 0 (omega arith)));
  })
    where
      zero_in : (v : ℕ) → 0 + v ≡ v
      zero_in v = omega arith

  pub sound_device : Sound (bound_device q)
  sound_device = check_sound (bound_device q) device_accepted
