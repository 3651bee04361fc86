-- Nothing to believe: laws. What is told of a table is so, and nothing else is told: a table whose values have no bit
-- outside their masks is told just one answer.
use Rattle.std.specs.Prelude.{◌≡◌, refl, ◌⊎◌, ◌≢◌, List, ℕ, Result, Ok, Err, ◌+◌, ◌≤◌, ◌<◌}
use Rattle.std.proofs.Common.{sym, ap, inl, inr, arith, lt-ltb, le-ltb, eq-eqb, ne_eqb}
use Rattle.std.proofs.Math.Decide.{ℕ_discrete}
use Rattle.base.proofs.Truth.{clash, lt_or_ge}
use Rattle.keypad_spec.specs.declared.Keypad.{Keypad}
use Rattle.keypad_spec.specs.declared.Keypad.TheVariants.{Good, Gap, Overlap}
use Rattle.keypad_spec.specs.Tables.{rule_count, match_count, bad_code, lowest, second, bad_answer, table_answer}
use Rattle.keypad_spec.specs.Meaning.{Matches, JustOne, GapAt, OverlapAt, Tells, ValueFault}
use Rattle.keypad_spec.proofs.MatchLaws.{rule_matches, none_means, two_lowest, bad_before, bad_at, from_at, from_before}

-- ---- what is told is so

module _ (b : List ℕ) where
  -- a table without a bad code is told to be good, another what there is at its smallest
  pub told_good : 256 ≤ bad_code b → table_answer b ≡ Good
  unfolding table_answer
  told_good l = rw (le-ltb (bad_code b) 256 l)

  pub told_bad : bad_code b < 256 → table_answer b ≡ bad_answer b (bad_code b)
  unfolding table_answer
  told_bad l = rw (lt-ltb (bad_code b) 256 l)

  pub told_gap : (c : ℕ) → match_count b c ≡ 0 → bad_answer b c ≡ Gap c
  unfolding bad_answer
  told_gap c e = rw (eq-eqb (match_count b c) 0 e)

  pub told_overlap : (c : ℕ) → match_count b c ≢ 0 → bad_answer b c ≡ Overlap c (lowest b c) (second b c)
  unfolding bad_answer
  told_overlap c n = rw (ne_eqb (match_count b c) 0 n)

module _ (b : List ℕ) (ok : ¬ ValueFault b) where
  -- at the smallest bad code, if some rule matches it, there is an overlap
  overlap_at : bad_code b < 256 → match_count b (bad_code b) ≢ 0 → OverlapAt b (bad_code b) (lowest b (bad_code b)) (second b (bad_code b))
  overlap_at l n =
      let c : ℕ = bad_code b in
      let w = two_lowest b c (omega (arith, n, bad_at b ok l)) in
      let p = from_at b c 0 w.0 in
      let q = from_at b c (lowest b c + 1) w.1 in
      record {
        is_code = omega (arith, l);
        lower = omega (arith, q.0);
        is_rule = w.1;
        one = (rule_matches b ok c (lowest b c) w.0).0 p.1;
        other = (rule_matches b ok c (second b c) w.1).0 q.1;
        lowest_two = λ m k x. only c m w.1 k x (lt_or_ge m (lowest b c)) (lt_or_ge (lowest b c) m);
        smallest = bad_before b ok;
      }
    where
      only : (c m : ℕ) → second b c < rule_count b → m < second b c → Matches b c m → (m < lowest b c) ⊎ (lowest b c ≤ m) → (lowest b c < m) ⊎ (m ≤ lowest b c) → m ≡ lowest b c
      only c m r k x (inl u) v = absurd (clash ((rule_matches b ok c m (omega (arith, r, k))).1 x) (from_before b c 0 m (omega arith) u))
      only c m r k x (inr u) (inl v) =
          absurd (clash ((rule_matches b ok c m (omega (arith, r, k))).1 x) (from_before b c (lowest b c + 1) m (omega (arith, v)) k))
      only c m r k x (inr u) (inr v) = omega (arith, u, v)

  -- what is told of a table is so
  pub table_tells : Tells b (Ok (table_answer b))
  table_tells = go (lt_or_ge (bad_code b) 256) (ℕ_discrete (match_count b (bad_code b)) 0)
    where
      go : (bad_code b < 256) ⊎ (256 ≤ bad_code b) → Dec (match_count b (bad_code b) ≡ 0) → Tells b (Ok (table_answer b))
      go (inr l) d = rw (told_good b l) (λ c k. bad_before b ok c (omega (arith, l, k)))
      go (inl l) (yes e) =
          rw (told_bad b l, told_gap b (bad_code b) e)
          (record { is_code = omega (arith, l); none = (none_means b ok (bad_code b)).0 e; smallest = bad_before b ok })
      go (inl l) (no n) = rw (told_bad b l, told_overlap b (bad_code b) n) (overlap_at l n)

-- ---- nothing else is told

module _ (b : List ℕ) where
  -- a code with a gap, and one with an overlap, is not matched by just one rule
  gap_bad : (c : ℕ) → GapAt b c → ¬ JustOne b c
  gap_bad c g (i, l, m, u) = g.none i l m

  overlap_bad : (c i k : ℕ) → OverlapAt b c i k → ¬ JustOne b c
  overlap_bad c i k o (n, l, m, u) =
      let x = u i (omega (arith, o.lower, o.is_rule)) o.one in
      let y = u k o.is_rule o.other in
      omega (arith, x, y, o.lower)

  -- there is one smallest bad code
  one_smallest : (c d : ℕ) → ¬ JustOne b c → ¬ JustOne b d → ((x : ℕ) → x < c → JustOne b x) → ((x : ℕ) → x < d → JustOne b x) → c ≡ d
  one_smallest c d p q f g = go (lt_or_ge c d) (lt_or_ge d c)
    where
      go : (c < d) ⊎ (d ≤ c) → (d < c) ⊎ (c ≤ d) → c ≡ d
      go (inl l) k = absurd (p (g c l))
      go (inr l) (inl k) = absurd (q (f d k))
      go (inr l) (inr k) = omega arith

  -- there is one pair of lowest rules
  one_pair : (c i k x y : ℕ) → OverlapAt b c i k → OverlapAt b c x y → (i ≡ x) × (k ≡ y)
  one_pair c i k x y o p = let e = low (lt_or_ge i y) in (e, high e (lt_or_ge k y) (lt_or_ge y k))
    where
      low : (i < y) ⊎ (y ≤ i) → i ≡ x
      low (inl l) = p.lowest_two i l o.one
      low (inr l) = sym (o.lowest_two x (omega (arith, l, o.lower, p.lower)) p.one)

      high : i ≡ x → (k < y) ⊎ (y ≤ k) → (y < k) ⊎ (k ≤ y) → k ≡ y
      high e (inl l) r = absurd (let z = p.lowest_two k l o.other in omega (arith, z, e, o.lower))
      high e (inr l) (inl r) = absurd (let z = o.lowest_two y r p.other in omega (arith, z, e, p.lower))
      high e (inr l) (inr r) = omega (arith, l, r)

  -- a table is told at most one answer
  pub tells_only : (a r : Result Keypad ℕ) → Tells b a → Tells b r → a ≡ r
  tells_only (Ok Good) (Ok Good) t u = refl
  tells_only (Ok Good) (Ok (Gap d)) t u = absurd (gap_bad d u (t d u.is_code))
  tells_only (Ok Good) (Ok (Overlap d x y)) t u = absurd (overlap_bad d x y u (t d u.is_code))
  tells_only (Ok Good) (Err m) t u = absurd u
  tells_only (Ok (Gap c)) (Ok Good) t u = absurd (gap_bad c t (u c t.is_code))
  tells_only (Ok (Gap c)) (Ok (Gap d)) t u = ap (λ (x : ℕ). Ok (Gap x)) (one_smallest c d (gap_bad c t) (gap_bad d u) t.smallest u.smallest)
  tells_only (Ok (Gap c)) (Ok (Overlap d x y)) t u =
      let e = one_smallest c d (gap_bad c t) (overlap_bad d x y u) t.smallest u.smallest in
      absurd (t.none y u.is_rule (rw e u.other))
  tells_only (Ok (Gap c)) (Err m) t u = absurd u
  tells_only (Ok (Overlap c i k)) (Ok Good) t u = absurd (overlap_bad c i k t (u c t.is_code))
  tells_only (Ok (Overlap c i k)) (Ok (Gap d)) t u =
      let e = one_smallest c d (overlap_bad c i k t) (gap_bad d u) t.smallest u.smallest in
      absurd (u.none k t.is_rule (rw (← e) t.other))
  tells_only (Ok (Overlap c i k)) (Ok (Overlap d x y)) t u =
      let e = one_smallest c d (overlap_bad c i k t) (overlap_bad d x y u) t.smallest u.smallest in
      let w = one_pair d i k x y (rw e at t) u in
      rw (e, w.0, w.1)
  tells_only (Ok (Overlap c i k)) (Err m) t u = absurd u
  tells_only (Err m) r t u = absurd t
