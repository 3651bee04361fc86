-- Nothing to believe: laws. The tests of Probes say what the plain words say; a hitting set is minimal exactly if each
-- of its events is alone in the meeting with some acceptance; every hitting set has a probe inside it.
use Rattle.std.specs.Prelude.{◌≡◌, ◌⊎◌, Bool, false, ◌&&◌, List, ℕ, ◌-◌, ◌^◌, ◌≤◌, ◌<◌, length, get_or}
use Rattle.std.proofs.Common.{ap, ◌∙◌, inl, inr, eq-or-lt_of_le, pow_pos}
use Rattle.std.proofs.Math.Bool.{true, not}
use native.Mathlib.Omega.{arith}
use Rattle.std.proofs.Math.Decide.{ℕ_discrete}
use Rattle.std.specs.Int.Bits.{bit_and}
use Rattle.std.proofs.lemmas.Bool.{not-true}
use Rattle.base.proofs.Truth.{dec, clash, and_l, and_r, and_i, not_i, not_t}
use Rattle.base.proofs.Range.{all→, all←, not_all, least}
use Rattle.events.specs.Bit.{bit, Within, Apart}
use Rattle.events.proofs.Bit.{bit≤1, bit_and_lem, bit_one, bit_other, bit_drop, bit_keep, bit_le, bits_ext, within_le, within_antisym}
use Rattle.events.specs.Sets.{inside, meets}
use Rattle.events.proofs.Sets.{inside→, inside←, meets→, meets←, meets_not}
use Rattle.probes_spec.specs.Probes.{hits, is_probe, Hits, Probe}
use Rattle.probes_spec.specs.Shapes.{Alone}

module _ (accs : List ℕ) where
  pub hits→ : (X : ℕ) → hits accs X ≡ true → Hits accs X
  unfolding hits
  hits→ X t j l = meets→ (get_or accs j 0) X (all→ (λ j. meets (get_or accs j 0) X) (length accs) j t l)

  pub hits← : (X : ℕ) → Hits accs X → hits accs X ≡ true
  unfolding hits
  hits← X h = all← (λ j. meets (get_or accs j 0) X) (length accs) (λ j l. let w = h j l in meets← (get_or accs j 0) X w.0 w.1 w.2)

  -- a set that does not hit misses some acceptance
  pub hits_not : (X : ℕ) → hits accs X ≡ false → (j : ℕ) × (j < length accs) × Apart (get_or accs j 0) X
  unfolding hits
  hits_not X t = let w = not_all (λ j. meets (get_or accs j 0) X) (length accs) t in (w.0, w.1, meets_not (get_or accs w.0 0) X w.2)

  -- the test `is_probe` passes exactly for the minimal hitting sets
  pub is_probe→ : (X : ℕ) → is_probe accs X ≡ true → Probe accs X
  unfolding is_probe
  is_probe→ X t = record { hits = hits→ X (and_l (hits accs X) _ t); minimal = λ Y w h. go Y w h (eq-or-lt_of_le (within_le Y X w)) }
    where
      go : (Y : ℕ) → Within Y X → Hits accs Y → (Y ≡ X) ⊎ (Y < X) → Y ≡ X
      go Y w h (inl e) = e
      go Y w h (inr l) = absurd (clash (and_i (inside← Y X w) (hits← Y h)) (not-true _ (all→ (λ y. not (inside y X && hits accs y)) X Y (and_r (hits accs X) _ t) l)))

  pub is_probe← : (X : ℕ) → Probe accs X → is_probe accs X ≡ true
  unfolding is_probe
  is_probe← X p = and_i (hits← X p.hits) (all← (λ y. not (inside y X && hits accs y)) X (λ Y l. not_t (not_i (λ t. smaller Y l t))))
    where
      smaller : (Y : ℕ) → Y < X → (inside Y X && hits accs Y) ≡ true → ⊥
      smaller Y l t = let e : Y ≡ X = p.minimal Y (inside→ Y X (and_l (inside Y X) (hits accs Y) t)) (hits→ Y (and_r (inside Y X) (hits accs Y) t)) in omega arith

  -- every hitting set has a probe inside it: the least number that is inside it and hits
  pub probe_inside : (X : ℕ) → Hits accs X → (Y : ℕ) × Probe accs Y × Within Y X
  probe_inside X h = (m.0, record { hits = hits→ m.0 (and_l (hits accs m.0) (inside m.0 X) m.2); minimal = λ Z w g. small Z w g (eq-or-lt_of_le (within_le Z m.0 w)) }, within)
    where
      test : ℕ → Bool
      test Y = hits accs Y && inside Y X

      m : (n : ℕ) × (n ≤ X) × (test n ≡ true) × ((k : ℕ) → k < n → test k ≡ false)
      m = let w = least test X (and_i (hits← X h) (inside← X X (λ i. omega arith))) in (w.0, w.1, w.2.0, w.2.1)

      within : Within m.0 X
      within = inside→ m.0 X (and_r (hits accs m.0) (inside m.0 X) m.2)

      small : (Z : ℕ) → Within Z m.0 → Hits accs Z → (Z ≡ m.0) ⊎ (Z < m.0) → Z ≡ m.0
      small Z w g (inl e) = e
      small Z w g (inr l) = absurd (clash (and_i (hits← Z g) (inside← Z X (λ i. omega (arith, w i, within i)))) (m.3 Z l))

  -- a hitting set each of whose events is alone in the meeting with some acceptance is minimal: whatever hits inside it
  -- has that event
  pub alone→probe : (X : ℕ) → Hits accs X → ((i : ℕ) → bit X i ≡ 1 → Alone accs X i) → Probe accs X
  alone→probe X h k = record { hits = h; minimal = λ Y w g. within_antisym Y X w (λ i. back Y w g i (ℕ_discrete (bit X i) 1)) }
    where
      back : (Y : ℕ) → Within Y X → Hits accs Y → (i : ℕ) → Dec (bit X i ≡ 1) → bit X i ≤ bit Y i
      back Y w g i (no n) = omega (arith, bit≤1 X i)
      back Y w g i (yes e) =
          let q = k i e in
          let m = g q.0 q.1 in
          let b : bit (2 ^ i) m.0 ≡ 1 = rw (← q.2) (omega (arith, bit_and_lem m.0 (get_or accs q.0 0) X, m.1, m.2, w m.0, bit≤1 X m.0)) in
          pick m.0 b m.2 (ℕ_discrete i m.0)
        where
          pick : (l : ℕ) → bit (2 ^ i) l ≡ 1 → bit Y l ≡ 1 → Dec (i ≡ l) → bit X i ≤ bit Y i
          pick l b y (yes s) = omega (arith, e, ap (bit Y) s, y)
          pick l b y (no s) = absurd (omega (arith, bit_other i l s))

  -- in a probe every event is alone in the meeting with some acceptance: without it this acceptance would be missed
  pub probe→alone : (X : ℕ) → Probe accs X → (i : ℕ) → bit X i ≡ 1 → Alone accs X i
  probe→alone X p i e = go (dec (hits accs (X - 2 ^ i)))
    where
      smaller : Within (X - 2 ^ i) X
      smaller j = pick (ℕ_discrete i j)
        where
          pick : Dec (i ≡ j) → bit (X - 2 ^ i) j ≤ bit X j
          pick (yes s) = omega (arith, bit_drop i X e, ap (bit (X - 2 ^ i)) s)
          pick (no s) = omega (arith, bit_keep i j X e s)

      -- a common event other than i would stay
      only : (j : ℕ) → j < length accs → Apart (get_or accs j 0) (X - 2 ^ i) → bit_and (get_or accs j 0) X ≡ 2 ^ i
      only j l z = bits_ext (bit_and (get_or accs j 0) X) (2 ^ i) (λ m. pick m (ℕ_discrete i m))
        where
          A : ℕ
          A = get_or accs j 0

          hit : bit A i ≡ 1
          hit = let w = p.hits j l in at w.0 w.1 w.2 (ℕ_discrete i w.0)
            where
              at : (m : ℕ) → bit A m ≡ 1 → bit X m ≡ 1 → Dec (i ≡ m) → bit A i ≡ 1
              at m u v (yes s) = ap (bit A) s ∙ u
              at m u v (no s) = absurd (omega (arith, z m, bit_keep i m X e s, u, v))

          pick : (m : ℕ) → Dec (i ≡ m) → bit (bit_and A X) m ≡ bit (2 ^ i) m
          pick m (yes s) = omega (arith, bit_and_lem m A X, ap (bit A) s, ap (bit X) s, ap (bit (2 ^ i)) s, bit_one i, hit, e)
          pick m (no s) = omega (arith, bit_and_lem m A X, bit_other i m s, bit_keep i m X e s, z m, bit≤1 A m, bit≤1 X m)

      go : (hits accs (X - 2 ^ i) ≡ true) ⊎ (hits accs (X - 2 ^ i) ≡ false) → Alone accs X i
      go (inl t) = absurd (omega (arith, bit_le i X e, pow_pos i, p.minimal (X - 2 ^ i) smaller (hits→ (X - 2 ^ i) t)))
      go (inr t) = let w = hits_not (X - 2 ^ i) t in (w.0, w.1, only w.0 w.1 w.2)
