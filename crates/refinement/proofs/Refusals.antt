-- One law for each way out of `has_refusal`. r is the reference's row, q the device's; both are owned, so each has 16
-- sets, and the place after these reads as the empty set.
use Rattle.std.specs.Prelude.{◌≡◌, ◌⊎◌, Bool, true, false, not, List, ℕ, zero, suc, ◌≤◌, ◌<◌, length, get_or, take}
use Rattle.std.specs.List.{list_any}
use Rattle.std.proofs.Math.Path.{refl}
use Rattle.std.proofs.Common.{sym, ap, ◌∙◌, inl, inr, arith, add-one}
use Rattle.std.proofs.lemmas.Bool.{not-true}
use Rattle.std.proofs.lemmas.List.Folds.{list_any_more}
use lib.ListN.{get_or-eq_default}
use Rattle.base.specs.Range.{any}
use Rattle.base.proofs.Truth.{dec, clash, not_i, not_t, t_not}
use Rattle.base.proofs.Range.{any→, any←, any_ext}
use Rattle.events.proofs.Bit.{bits_zero}
use Rattle.events.specs.Sets.{inside}
use Rattle.events.proofs.Sets.{inside→, inside←}
use Rattle.sheet_spec.specs.declared.Row.{Row}
use Rattle.sheet_spec.specs.Kept.{acceptance}
use Rattle.refinement_spec.specs.ViolatingPairs.{covers, has_refusal}
use Rattle.refinement.specs.Shapes.{covering, refusing}

-- the empty set is inside every set
empty_inside : (A : ℕ) → inside 0 A ≡ true
empty_inside A = inside← 0 A (λ i. omega (arith, bits_zero i))

-- what is inside the empty set is inside every set
inside_all : (X A : ℕ) → inside X 0 ≡ true → inside X A ≡ true
inside_all X A t = inside← X A (λ i. omega (arith, inside→ X 0 t i, bits_zero i))

-- one of the first n elements passes a test exactly if one of the places below n does
any_listed : (p : ℕ → Bool) (xs : List ℕ) (n : ℕ) → n ≤ length xs → list_any p (take n xs) ≡ any (λ i. p (get_or xs i 0)) n
unfolding any
any_listed p xs zero h = refl
any_listed p xs (suc n) h =
    rw (← add-one n, list_any_more p xs n 0 (omega arith), any_listed p xs n (omega arith))

-- the place after the 16 sets of a row reads as the empty set
after_sets : (r : Row) → length r.sets ≡ 16 → acceptance r 16 ≡ 0
unfolding acceptance
after_sets r e = get_or-eq_default r.sets 0 (omega (arith, e))

-- a row that covers the empty set covers every set
covers_all : (r : Row) → covers r 0 ≡ true → (A : ℕ) → covers r A ≡ true
unfolding covers
covers_all r t A =
    let w = any→ (λ l. inside (acceptance r l) 0) r.c t in
    any← (λ l. inside (acceptance r l) A) r.c w.0 w.1 (inside_all (acceptance r w.0) A w.2)

-- the test over the sets of a row, lent alone, is that of the row
pub covering_is : (r : Row) (A : ℕ) {c : ℕ} → c ≡ r.c → c ≤ length r.sets → covering (take c r.sets) A ≡ covers r A
unfolding covers acceptance
covering_is r A {c} e l = any_listed (λ x. inside x A) r.sets c l ∙ rw e

module _ (r q : Row) where
  -- where the reference covers the empty set, nothing is refused
  covered : covers r 0 ≡ true → has_refusal r q ≡ false
  unfolding has_refusal
  covered t = not_i (λ h. let w = any→ (λ j. not (covers r (acceptance q j))) q.c h in clash (covers_all r t (acceptance q w.0)) (not-true _ w.2))

  -- the way out for a reference of more than 16 sets
  pub reference_over : length r.sets ≡ 16 → 16 < r.c → has_refusal r q ≡ false
  unfolding covers
  reference_over e l = covered (any← (λ j. inside (acceptance r j) 0) r.c 16 l (rw (after_sets r e) (empty_inside 0)))

  -- the way out for a device of more than 16 sets
  pub device_over : length q.sets ≡ 16 → 16 < q.c → has_refusal r q ≡ not (covers r 0)
  unfolding has_refusal
  device_over e l = go (dec (covers r 0))
    where
      go : (covers r 0 ≡ true) ⊎ (covers r 0 ≡ false) → has_refusal r q ≡ not (covers r 0)
      go (inl t) = covered t ∙ sym (t_not t)
      go (inr f) = any← (λ j. not (covers r (acceptance q j))) q.c 16 l (rw (after_sets q e) (not_t f)) ∙ sym (not_t f)

  -- the way out for rows of at most 16 sets
  pub refusing_is : {c d : ℕ} → c ≡ r.c → d ≡ q.c → c ≤ length r.sets → d ≤ length q.sets → refusing (take c r.sets) (take d q.sets) ≡ has_refusal r q
  unfolding has_refusal acceptance
  refusing_is {c} {d} ec ed lc ld =
      any_listed (λ A. not (covering (take c r.sets) A)) q.sets d ld
      ∙ any_ext _ _ d (λ j l. ap not (covering_is r (get_or q.sets j 0) ec lc))
      ∙ rw ed
