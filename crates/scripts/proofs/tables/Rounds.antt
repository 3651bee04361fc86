-- One round over the pairs: from the table for l events to the one for l + 1, up to as many as are asked for.
use mathlib.Core.Path.{◌≡◌, refl, sym, ap, ◌∙◌}
use mathlib.Core.Logic.{◌⊎◌, inl, inr}
use mathlib.Core.List.{List}
use Prim.Native.Nat.{ℕ, ◌+◌, ◌*◌, ◌/◌, ◌%◌, ◌^◌, ◌≤◌, ◌<◌}
use native.Mathlib.Nat.{eq-or-lt_of_le, le_trans, zero-mul, pow-zero, pow-suc, mul-le-mul, mod-lt, div-add-mod', div-lt_iff_lt-mul}
use native.Mathlib.Numerals.{add-one}
use native.Mathlib.Omega.{arith}
use lib.Arith.{digits_lt}
use lib.ListN.{length}
use Rattle.base.proofs.Truth.{lt_or_ge}
use Rattle.scripts_spec.specs.declared.Counts.{Counts}
use Rattle.scripts.specs.Shapes.{one, most, cell, cell_in, sums, table_counts, next_cell, Most, Small, Sizes, Stopped, Filled, Begun}
use Rattle.scripts.proofs.tables.Cells.{next_pair}
use Rattle.scripts.proofs.tables.Sums.{sums_ext, places_sums, table_most, power_most}

module _ (a b : List ℕ) (p q e l L power : ℕ) (from to : List ℕ) (h : Begun a b p q e l L power from to) where
  -- at the end the counts of the two first nodes are those that are asked for
  pub rounds_end : L ≤ l → (c : Counts) → c ≡ cell from 0 → c ≡ table_counts a b p q e L 0 0
  rounds_end k c g =
      let z : L ≡ l = omega (arith, h.l_few) in
      let y : 0 * q + 0 ≡ 0 = omega (arith, zero-mul q) in
      rw z (g ∙ ap (cell from) (sym y) ∙ h.holds 0 0 h.p_some h.q_some)

  module _ (k : l < L) where
    few : power ≤ most
    few = rw h.power_is (power_most e l h.e_few (omega (arith, h.L-few)))

    pub rounds_sizes : Sizes p q e
    rounds_sizes = record { p_few = h.p_few; q_few = h.q_few; e_few = h.e_few }

    -- the next power fits
    pub rounds_power : (f : ℕ) → f ≡ e → power * f ≤ 184884258895036416
    rounds_power f g = rw g (mul-le-mul few h.e_few)

    -- with what the sheets stop in its two last places
    module _ (from' : List ℕ) (s : Stopped from (p * q) power from') where
      -- each pair has its counts still
      pair_holds : (x y : ℕ) → x < p → y < q → cell_in from' q x y ≡ table_counts a b p q e l x y
      pair_holds x y c d = s.others (x * q + y) (digits_lt c d) ∙ h.holds x y c d

      pub rounds_small : Small from' p q
      rounds_small c d = go (lt_or_ge c (p * q))
        where
          pair : c < p * q → Most most (cell from' c)
          pair n =
              let m = rw (div-add-mod' c q) at (pair_holds (c / q) (c % q) ((div-lt_iff_lt-mul h.q_some).1 n) (mod-lt c h.q_some)) in
              let t = table_most a b p q e l (c / q) (c % q) in
              let u : e ^ l ≤ most = power_most e l h.e_few (omega (arith, h.L-few)) in
              rw m (record { walked = le_trans t.walked u; device = le_trans t.device u; reference = le_trans t.reference u })

          go : (c < p * q) ⊎ (p * q ≤ c) → Most most (cell from' c)
          go (inl n) = pair n
          go (inr n) = last (eq-or-lt_of_le n)
            where
              last : (p * q ≡ c) ⊎ (p * q < c) → Most most (cell from' c)
              last (inl z) = rw (← z, s.reference) (record { walked = omega arith; device = omega arith; reference = few })
              last (inr z) = let y : c ≡ p * q + 1 = omega arith in rw (y, s.device) (record { walked = omega arith; device = few; reference = omega arith })

      -- the table that was filled is that for one event more
      pub rounds_next : (to' : List ℕ) (f : ℕ) → f ≡ e → Filled (next_cell a b p q e from') (p * q) to' → Begun a b p q e (l + 1) L (power * f) to' from'
      rounds_next to' f g filled = record {
        p_some = h.p_some;
        q_some = h.q_some;
        p_few = h.p_few;
        q_few = h.q_few;
        e_few = h.e_few;
        l_few = omega arith;
        L-few = h.L-few;
        power_is = rw (h.power_is, g, add-one l) (sym (pow-suc e l));
        from_long = filled.long;
        to_long = s.long ∙ h.from_long;
        holds = next;
      }
        where
          more : (x y : ℕ) → table_counts a b p q e (l + 1) x y ≡ sums a b power p q x y (table_counts a b p q e l) e
          more x y = rw (add-one l, h.power_is) (unfold table_counts in refl)

          next : (x y : ℕ) → x < p → y < q → cell_in to' q x y ≡ table_counts a b p q e (l + 1) x y
          next x y c d =
              filled.holds (x * q + y) (digits_lt c d) ∙ next_pair a b p q e from' x y d
              ∙ places_sums a b p q from' x y power s.reference s.device e
              ∙ sums_ext a b power p q x y (cell_in from' q) (table_counts a b p q e l) pair_holds e ∙ sym (more x y)

-- the table for no event
pub rounds_start : (a b : List ℕ) (p q e L : ℕ) (from to : List ℕ) → (0 < p) × (p ≤ 32) × (0 < q) × (q ≤ 32) × (e ≤ 12) × (L ≤ 16)
    → Filled (λ c. one) (p * q) from → length to ≡ 3078 → Begun a b p q e 0 L 1 from to
unfolding table_counts
rounds_start a b p q e L from to s h k = record {
  p_some = s.0;
  q_some = s.2;
  p_few = s.1;
  q_few = s.3;
  e_few = s.4;
  l_few = omega arith;
  L-few = s.5;
  power_is = sym (pow-zero e);
  from_long = h.long;
  to_long = k;
  holds = λ x y c d. h.holds (x * q + y) (digits_lt c d);
}
