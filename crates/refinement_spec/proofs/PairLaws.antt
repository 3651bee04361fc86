-- Nothing to believe: laws. What the tests of ViolatingPairs mean: strays as events, refusals as acceptances and as the
-- sets that may be refused. r is the reference's row, q the device's.
use Rattle.std.specs.Prelude.{◌≡◌, refl, ◌⊎◌, ◌↔◌, Bool, false, not, ◌&&◌, ℕ, zero, suc, ◌+◌, ◌-◌, ◌/◌, ◌^◌, ◌≤◌, ◌<◌}
use Rattle.std.proofs.Common.{ap, inl, inr, arith, pow_pos, ne_eqb}
use Rattle.std.proofs.Math.Bool.{true}
use Rattle.std.specs.Int.Bits.{and_step}
use Rattle.std.proofs.lemmas.Nat.{and_le_r}
use Rattle.std.proofs.lemmas.Bool.{eqb-false, not-true, not-false}
use Rattle.base.proofs.Truth.{dec, clash, lt_or_ge, and_l, and_r, and_i, or_e, or_l, or_r, not_i, not_t}
use Rattle.base.specs.Range.{first}
use Rattle.base.proofs.Range.{any→, any←, not_any, first_at, first_before, first_le}
use Rattle.events.specs.Bit.{bit, Within, Apart}
use Rattle.events.proofs.Bit.{bit·zero, bit·suc, bit≤1, bits_zero, some_bit, bit_rest, bit_high}
use Rattle.events.specs.Sets.{has}
use Rattle.events.proofs.Sets.{has→, has←, has_not, inside→, inside←}
use Rattle.sheet_spec.specs.declared.Row.{Row}
use Rattle.sheet_spec.specs.Kept.{acceptance, initials, Initial}
use Rattle.sheet_spec.proofs.RuleLaws.{initials→, initials←}
use Rattle.refinement_spec.specs.Refinement.{MayRefuse}
use Rattle.refinement_spec.specs.ViolatingPairs.{strays, has_stray, first_stray, covers, has_refusal, violates}

-- a digit of the strays of X and Y
strays_digit : (i X Y : ℕ) → bit (strays X Y) i ≡ bit Y i - bit X i
unfolding strays
strays_digit zero X Y = rw (bit·zero (strays X Y), bit·zero X, bit·zero Y) (omega (arith, and_step X Y, and_le_r X Y, and_le_r (X / 2) (Y / 2)))
strays_digit (suc i) X Y = rw (bit·suc (strays X Y) i, bit·suc X i, bit·suc Y i, half) (strays_digit i (X / 2) (Y / 2))
  where
    half : strays X Y / 2 ≡ strays (X / 2) (Y / 2)
    half = omega (arith, and_step X Y, and_le_r X Y, and_le_r (X / 2) (Y / 2))

-- an event is a stray exactly if it is in the device's initials Y and not in the reference's initials X
pub strays_bit : (X Y i : ℕ) → (bit (strays X Y) i ≡ 1) ↔ ((bit Y i ≡ 1) × (bit X i ≡ 0))
strays_bit X Y i = (forth, back)
  where
    forth : bit (strays X Y) i ≡ 1 → (bit Y i ≡ 1) × (bit X i ≡ 0)
    forth b = (omega (arith, strays_digit i X Y, bit≤1 Y i), omega (arith, strays_digit i X Y, bit≤1 Y i))

    back : (bit Y i ≡ 1) × (bit X i ≡ 0) → bit (strays X Y) i ≡ 1
    back (a, b) = omega (arith, strays_digit i X Y)

module _ (e : ℕ) (r q : Row) (small : e ≤ 12) where
  -- an event among the strays is an initial of the device's row and none of the reference's
  stray_event : (i : ℕ) → (bit (strays (initials e r) (initials e q)) i ≡ 1) ↔ (Initial e q i × (¬ Initial e r i))
  stray_event i = (forth, back)
    where
      forth : bit (strays (initials e r) (initials e q)) i ≡ 1 → Initial e q i × (¬ Initial e r i)
      forth b =
          let w = (strays_bit (initials e r) (initials e q) i).0 b in
          (initials→ e q small i w.0, λ (h : Initial e r i). omega (arith, w.1, initials← e r small i h))

      back : Initial e q i × (¬ Initial e r i) → bit (strays (initials e r) (initials e q)) i ≡ 1
      back (a, n) = (strays_bit (initials e r) (initials e q) i).1 (initials← e q small i a, go (bit (initials e r) i) refl (bit≤1 (initials e r) i))
        where
          go : (b : ℕ) → bit (initials e r) i ≡ b → b ≤ 1 → bit (initials e r) i ≡ 0
          go zero p l = p
          go (suc b) p l = absurd (n (initials→ e r small i (omega arith)))

  -- a pair has a stray exactly if some event is an initial of the device's row and none of the reference's
  pub stray_means : (has_stray e r q ≡ true) ↔ ((i : ℕ) × Initial e q i × (¬ Initial e r i))
  unfolding has_stray
  stray_means = (forth, back)
    where
      forth : has_stray e r q ≡ true → (i : ℕ) × Initial e q i × (¬ Initial e r i)
      forth t =
          let w = some_bit (strays (initials e r) (initials e q)) (eqb-false _ 0 (not-true _ t)) in
          let h = (stray_event w.0).0 w.1 in
          (w.0, h.0, h.1)

      back : (i : ℕ) × Initial e q i × (¬ Initial e r i) → has_stray e r q ≡ true
      back (i, a, n) =
          not_t
          (ne_eqb (strays (initials e r) (initials e q)) 0 (λ z. omega (arith, ap (λ (x : ℕ). bit x i) z, bits_zero i, (stray_event i).1 (a, n))))

  -- where there is a stray, the first is one, and no smaller event is
  pub first_stray_means : has_stray e r q ≡ true
      → Initial e q (first_stray e r q) × (¬ Initial e r (first_stray e r q)) × ((k : ℕ) → k < first_stray e r q → ¬ (Initial e q k × (¬ Initial e r k)))
  unfolding first_stray
  first_stray_means t =
      let S = strays (initials e r) (initials e q) in
      let w = stray_means.0 t in
      let l = first_le (has S) 12 w.0 (has← S w.0 ((stray_event w.0).1 (w.1, w.2))) in
      let h = (stray_event (first (has S) 12)).0 (has→ S (first (has S) 12) (first_at (has S) 12 (omega (arith, w.1.0)))) in
      (h.0, h.1, λ k s h. omega (arith, has_not S k (first_before (has S) 12 k s), (stray_event k).1 h))

  -- no other event is the smallest stray
  pub first_stray_unique : (i : ℕ) → Initial e q i → ¬ Initial e r i → ((k : ℕ) → k < i → ¬ (Initial e q k × (¬ Initial e r k))) → i ≡ first_stray e r q
  first_stray_unique i a n h = go (lt_or_ge i (first_stray e r q)) (lt_or_ge (first_stray e r q) i) (first_stray_means (stray_means.1 (i, a, n)))
    where
      go : (i < first_stray e r q) ⊎ (first_stray e r q ≤ i) → (first_stray e r q < i) ⊎ (i ≤ first_stray e r q)
          → Initial e q (first_stray e r q) × (¬ Initial e r (first_stray e r q)) × ((k : ℕ) → k < first_stray e r q → ¬ (Initial e q k × (¬ Initial e r k)))
          → i ≡ first_stray e r q
      go (inl l) m w = absurd (w.2 i l (a, n))
      go (inr l) (inl m) w = absurd (h (first_stray e r q) m (w.0, w.1))
      go (inr l) (inr m) w = omega arith

-- a set covers exactly if it includes one of the row's acceptances
pub covers_means : (r : Row) (A : ℕ) → (covers r A ≡ true) ↔ ((l : ℕ) × (l < r.c) × Within (acceptance r l) A)
unfolding covers
covers_means r A = (forth, back)
  where
    forth : covers r A ≡ true → (l : ℕ) × (l < r.c) × Within (acceptance r l) A
    forth t = let w = any→ _ r.c t in (w.0, w.1, inside→ (acceptance r w.0) A w.2)

    back : (l : ℕ) × (l < r.c) × Within (acceptance r l) A → covers r A ≡ true
    back (l, h, w) = any← _ r.c l h (inside← (acceptance r l) A w)

-- a pair has a refusal exactly if some acceptance of the device includes none of the reference's
pub refusal_means : (r q : Row)
    → (has_refusal r q ≡ true) ↔ ((j : ℕ) × (j < q.c) × ((l : ℕ) → l < r.c → ¬ Within (acceptance r l) (acceptance q j)))
unfolding has_refusal
refusal_means r q = (forth, back)
  where
    forth : has_refusal r q ≡ true → (j : ℕ) × (j < q.c) × ((l : ℕ) → l < r.c → ¬ Within (acceptance r l) (acceptance q j))
    forth t =
        let w = any→ _ q.c t in
        (w.0, w.1, λ l h i. clash ((covers_means r (acceptance q w.0)).1 (l, h, i)) (not-true _ w.2))

    back : (j : ℕ) × (j < q.c) × ((l : ℕ) → l < r.c → ¬ Within (acceptance r l) (acceptance q j))
        → has_refusal r q ≡ true
    back (j, h, n) =
        any← _ q.c j h (not_t (not_i (λ t. let w = (covers_means r (acceptance q j)).0 t in n w.0 w.1 w.2)))

-- where there is no refusal, every acceptance of the device includes one of the reference's
pub no_refusal : (r q : Row) → has_refusal r q ≡ false → (j : ℕ) → j < q.c → (l : ℕ) × (l < r.c) × Within (acceptance r l) (acceptance q j)
unfolding has_refusal
no_refusal r q t j h = (covers_means r (acceptance q j)).0 (not-false _ (not_any _ q.c j t h))

-- where there is no refusal, the reference may refuse whatever the device may
pub no_refusal_refuses : (r q : Row) → has_refusal r q ≡ false → (X : ℕ) → MayRefuse q X → MayRefuse r X
no_refusal_refuses r q t X (j, h, a) = let w = no_refusal r q t j h in (w.0, w.1, λ i. omega (arith, w.2 i, a i))

-- a set that the device may refuse and the reference may not makes a refusal
pub refused_refusal : (r q : Row) (X : ℕ) → MayRefuse q X → ¬ MayRefuse r X → has_refusal r q ≡ true
refused_refusal r q X m n = go (dec (has_refusal r q))
  where
    go : (has_refusal r q ≡ true) ⊎ (has_refusal r q ≡ false) → has_refusal r q ≡ true
    go (inl t) = t
    go (inr t) = absurd (n (no_refusal_refuses r q t X m))

-- the events below e that are not in A are apart from A
rest_apart : (e A : ℕ) → A < 2 ^ e → Apart A (2 ^ e - 1 - A)
rest_apart e A h i = go (lt_or_ge i e)
  where
    go : (i < e) ⊎ (e ≤ i) → bit A i + bit (2 ^ e - 1 - A) i ≤ 1
    go (inl l) = omega (arith, bit_rest e i A h l, bit≤1 A i)
    go (inr l) = omega (arith, bit_high e i A h l, bit≤1 (2 ^ e - 1 - A) i)

-- a set that is apart from the events below e that are not in A is inside A
rest_within : (e A B : ℕ) → A < 2 ^ e → B < 2 ^ e → Apart B (2 ^ e - 1 - A) → Within B A
rest_within e A B h k a i = go (lt_or_ge i e)
  where
    go : (i < e) ⊎ (e ≤ i) → bit B i ≤ bit A i
    go (inl l) = omega (arith, bit_rest e i A h l, bit≤1 A i, a i)
    go (inr l) = omega (arith, bit_high e i B k l)

-- a refusal gives a set that the device may refuse and the reference may not: the events below e that are not in the
-- acceptance of the device
pub refusal_set : (e : ℕ) (r q : Row) → ((l : ℕ) → l < r.c → acceptance r l < 2 ^ e) → ((j : ℕ) → j < q.c → acceptance q j < 2 ^ e)
    → has_refusal r q ≡ true → (X : ℕ) × (X < 2 ^ e) × MayRefuse q X × (¬ MayRefuse r X)
refusal_set e r q nr nq t = go ((refusal_means r q).0 t)
  where
    go : (j : ℕ) × (j < q.c) × ((l : ℕ) → l < r.c → ¬ Within (acceptance r l) (acceptance q j))
        → (X : ℕ) × (X < 2 ^ e) × MayRefuse q X × (¬ MayRefuse r X)
    go (j, h, n) = (2 ^ e - 1 - acceptance q j, omega (arith, pow_pos e), (j, h, rest_apart e (acceptance q j) (nq j h)), never)
      where
        never : MayRefuse r (2 ^ e - 1 - acceptance q j) → ⊥
        never (l, k, a) = n l k (rest_within e (acceptance q j) (acceptance r l) (nq j h) (nr l k) a)

-- a pair is violating exactly if it has a stray or, unless traces alone count, a refusal
pub violates_means : (trace_only : Bool) (e : ℕ) (r q : Row)
    → (violates trace_only e r q ≡ true) ↔ ((has_stray e r q ≡ true) ⊎ ((trace_only ≡ false) × (has_refusal r q ≡ true)))
unfolding violates
violates_means trace_only e r q = (forth, back)
  where
    forth : violates trace_only e r q ≡ true → (has_stray e r q ≡ true) ⊎ ((trace_only ≡ false) × (has_refusal r q ≡ true))
    forth t = go (or_e (has_stray e r q) (not trace_only && has_refusal r q) t)
      where
        go : (has_stray e r q ≡ true) ⊎ ((not trace_only && has_refusal r q) ≡ true) → (has_stray e r q ≡ true) ⊎ ((trace_only ≡ false) × (has_refusal r q ≡ true))
        go (inl s) = inl s
        go (inr s) = inr (not-true trace_only (and_l (not trace_only) (has_refusal r q) s), and_r (not trace_only) (has_refusal r q) s)

    back : (has_stray e r q ≡ true) ⊎ ((trace_only ≡ false) × (has_refusal r q ≡ true)) → violates trace_only e r q ≡ true
    back (inl s) = or_l (not trace_only && has_refusal r q) s
    back (inr s) = or_r (has_stray e r q) (and_i (not_t s.0) s.1)
