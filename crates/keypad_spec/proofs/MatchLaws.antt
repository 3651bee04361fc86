-- Nothing to believe: laws. Which rules match a code, bit by bit, and how many: the test of a rule, the count, the
-- smallest bad code and the two lowest rules, in words.
use Rattle.std.specs.Prelude.{◌≡◌, ◌⊎◌, ◌≢◌, ◌↔◌, false, ◌&&◌, List, ℕ, ◌+◌, ◌≤◌, ◌<◌, eqb}
use Rattle.std.proofs.Common.{sym, ◌∙◌, inl, inr, arith}
use Rattle.std.proofs.Math.Path.{ap}
use Rattle.std.proofs.Math.Logic.Iff as Iff
use Rattle.std.proofs.Math.Bool.{true, not}
use Rattle.std.proofs.Math.Decide.{ℕ_discrete}
use Rattle.std.specs.Int.Bits.{bit_and}
use Rattle.std.proofs.Math.Dec.{leb}
use borrow.Author.Tests.{eqb-true, eq-eqb, eqb-false, leb-true, le-leb, not-true, not-false}
use Rattle.base.proofs.Truth.{clash, lt_or_ge, and_l, and_r, and_i, not_i}
use Rattle.base.proofs.Range.{first≤, first_before, first_at, first_le}
use Rattle.base.specs.Counted.{Counted}
use Rattle.base.proofs.CountedLaws.{count_means, counted_one, counted_none, counted_some}
use Rattle.events.specs.Bit.{bit, Within}
use Rattle.events.proofs.Bit.{bit≤1, bit_and_lem, bits_ext}
use Rattle.keypad_spec.specs.Tables.{rule_count, mask, value, matches, match_count, bad_code, match_from, lowest, second}
use Rattle.keypad_spec.specs.Meaning.{Matches, JustOne, ValueFault}

module _ (b : List ℕ) (c i : ℕ) where
  -- where the value has no bit outside the mask, the test passes exactly if every masked bit of the code is the value's
  pub matches_means : Within (value b i) (mask b i) → (matches b c i ≡ true) ↔ ((j : ℕ) → bit (mask b i) j ≡ 1 → bit c j ≡ bit (value b i) j)
  unfolding matches
  matches_means w = (to, from)
    where
      to : matches b c i ≡ true → Matches b c i
      to t j m =
          let e : bit_and c (mask b i) ≡ value b i = eqb-true (bit_and c (mask b i)) (value b i) t in
          omega (arith, ap (λ (x : ℕ). bit x j) e, bit_and_lem j c (mask b i), m, bit≤1 c j)

      same : Matches b c i → (j : ℕ) → Dec (bit (mask b i) j ≡ 1) → bit (bit_and c (mask b i)) j ≡ bit (value b i) j
      same h j (yes m) = omega (arith, h j m, bit_and_lem j c (mask b i), m, bit≤1 c j)
      same h j (no n) = omega (arith, n, bit_and_lem j c (mask b i), bit≤1 (mask b i) j, w j)

      from : Matches b c i → matches b c i ≡ true
      from h =
          eq-eqb (bit_and c (mask b i)) (value b i)
          (bits_ext (bit_and c (mask b i)) (value b i) (λ j. same h j (ℕ_discrete (bit (mask b i) j) 1)))

-- the lowest rule, from a rule on, that matches a code: it matches, and no rule from there to it does
module _ (b : List ℕ) (c i : ℕ) where
  pub from_most : match_from b c i ≤ rule_count b
  unfolding match_from
  from_most = first≤ (λ k. leb i k && matches b c k) (rule_count b)

  pub from_at : match_from b c i < rule_count b → (i ≤ match_from b c i) × (matches b c (match_from b c i) ≡ true)
  unfolding match_from
  from_at l =
      let t = first_at (λ k. leb i k && matches b c k) (rule_count b) l in
      (leb-true i (match_from b c i) (and_l _ _ t), and_r (leb i (match_from b c i)) _ t)

  pub from_le : (k : ℕ) → i ≤ k → matches b c k ≡ true → match_from b c i ≤ k
  unfolding match_from
  from_le k l t = first_le (λ k. leb i k && matches b c k) (rule_count b) k (and_i (le-leb i k l) t)

  pub from_before : (k : ℕ) → i ≤ k → k < match_from b c i → matches b c k ≡ false
  from_before k l h = not_i (λ t. omega (arith, from_le k l t, h))

-- how many rules match a code, by the two lowest that do
module _ (b : List ℕ) (c : ℕ) where
  -- rule i is one of the table's, and the test of it passes
  abbrev Passes : ℕ → Type 0
  Passes i = (i < rule_count b) × (matches b c i ≡ true)

  passes_counted : (L : ℕ) → (match_count b c ≡ L) ↔ Counted Passes L
  unfolding match_count
  passes_counted L = count_means (matches b c) (rule_count b) L (λ i l. Iff.rfl)

  -- none, where there is no lowest
  pub no_lowest : rule_count b ≤ lowest b c → match_count b c ≡ 0
  no_lowest h = (passes_counted 0).1 (counted_none 0 (λ i x. clash x.1 (from_before b c 0 i (omega arith) (omega (arith, h, x.0)))))

  -- some, where there is a lowest
  pub has_lowest : lowest b c < rule_count b → match_count b c ≢ 0
  has_lowest h e = absurd (omega (arith, (counted_some ((passes_counted 0).0 e)).1 (lowest b c, (h, (from_at b c 0 h).1))))

  -- just one, where there is a lowest and no next lowest
  pub no_second : lowest b c < rule_count b → rule_count b ≤ second b c → match_count b c ≡ 1
  no_second h k = (passes_counted 1).1 (counted_one (lowest b c) (h, (from_at b c 0 h).1) (λ i x. only i x (lt_or_ge i (lowest b c)) (lt_or_ge (lowest b c) i)))
    where
      only : (i : ℕ) → Passes i → (i < lowest b c) ⊎ (lowest b c ≤ i) → (lowest b c < i) ⊎ (i ≤ lowest b c) → lowest b c ≡ i
      only i x (inl u) v = absurd (clash x.1 (from_before b c 0 i (omega arith) u))
      only i x (inr u) (inl v) = absurd (clash x.1 (from_before b c (lowest b c + 1) i (omega (arith, v)) (omega (arith, k, x.0))))
      only i x (inr u) (inr v) = omega (arith, u, v)

  -- not just one, where there is a next lowest
  pub has_second : second b c < rule_count b → match_count b c ≢ 1
  has_second h e = go ((passes_counted 1).0 e)
    where
      go : Counted Passes 1 → ⊥
      go (T, l) =
          let q = from_at b c (lowest b c + 1) h in
          let k : lowest b c < rule_count b = omega (arith, q.0, h) in
          let x = l.every (lowest b c) (k, (from_at b c 0 k).1) in
          let y = l.every (second b c) (h, q.1) in
          let u : x.0 ≡ y.0 = omega (arith, x.1, y.1) in
          let z : lowest b c ≡ second b c = sym x.2 ∙ ap T u ∙ y.2 in
          omega (arith, z, q.0)

  -- where more than one rule matches, there are a lowest and a next lowest
  pub two_lowest : 2 ≤ match_count b c → (lowest b c < rule_count b) × (second b c < rule_count b)
  two_lowest h = let k = low (lt_or_ge (lowest b c) (rule_count b)) in (k, high k (lt_or_ge (second b c) (rule_count b)))
    where
      low : (lowest b c < rule_count b) ⊎ (rule_count b ≤ lowest b c) → lowest b c < rule_count b
      low (inl l) = l
      low (inr l) = absurd (omega (arith, h, no_lowest l))

      high : lowest b c < rule_count b → (second b c < rule_count b) ⊎ (rule_count b ≤ second b c) → second b c < rule_count b
      high k (inl l) = l
      high k (inr l) = absurd (omega (arith, h, no_second k l))

-- the values of a table have no bit outside their masks
module _ (b : List ℕ) (ok : ¬ ValueFault b) where
  within : (i : ℕ) → i < rule_count b → Within (value b i) (mask b i)
  within i l j = go (ℕ_discrete (bit (value b i) j) 1) (ℕ_discrete (bit (mask b i) j) 0)
    where
      go : Dec (bit (value b i) j ≡ 1) → Dec (bit (mask b i) j ≡ 0) → bit (value b i) j ≤ bit (mask b i) j
      go (yes p) (yes q) = absurd (ok (i, l, (j, p, q)))
      go (yes p) (no q) = omega (arith, p, q)
      go (no p) q = omega (arith, p, bit≤1 (value b i) j)

  -- the test of a rule of the table
  pub rule_matches : (c i : ℕ) → i < rule_count b → (matches b c i ≡ true) ↔ Matches b c i
  rule_matches c i l = matches_means b c i (within i l)

  -- so many rules match a code
  pub count_matches : (c L : ℕ) → (match_count b c ≡ L) ↔ Counted (λ i. (i < rule_count b) × Matches b c i) L
  unfolding match_count
  count_matches c L = count_means (matches b c) (rule_count b) L (rule_matches c)

  -- the count is 1 exactly if just one rule matches
  pub one_means : (c : ℕ) → (match_count b c ≡ 1) ↔ JustOne b c
  one_means c = (λ e. to ((count_matches c 1).0 e), from)
    where
      to : Counted (λ i. (i < rule_count b) × Matches b c i) 1 → JustOne b c
      to (T, l) =
          let h = l.holds 0 (omega arith) in
          (T 0, h.0, h.1, λ k m x. let v = l.every k (m, x) in let z : v.0 ≡ 0 = omega (arith, v.1) in sym v.2 ∙ ap T z)

      from : JustOne b c → match_count b c ≡ 1
      from (i, l, m, u) = (count_matches c 1).1 (counted_one i (l, m) (λ k x. sym (u k x.0 x.1)))

  -- the count is 0 exactly if no rule matches
  pub none_means : (c : ℕ) → (match_count b c ≡ 0) ↔ ((i : ℕ) → i < rule_count b → ¬ Matches b c i)
  none_means c = (λ e i l m. absurd (omega (arith, (counted_some ((count_matches c 0).0 e)).1 (i, (l, m)))), λ h. (count_matches c 0).1 (counted_none 0 (λ i x. h i x.0 x.1)))

  -- each code before the smallest bad one is matched by just one rule, and the smallest bad one is not
  pub bad_before : (c : ℕ) → c < bad_code b → JustOne b c
  unfolding bad_code
  bad_before c l = (one_means c).0 (eqb-true (match_count b c) 1 (not-false _ (first_before (λ c. not (eqb (match_count b c) 1)) 256 c l)))

  pub bad_at : bad_code b < 256 → match_count b (bad_code b) ≢ 1
  unfolding bad_code
  bad_at l = eqb-false (match_count b (bad_code b)) 1 (not-true _ (first_at (λ c. not (eqb (match_count b c) 1)) 256 l))
