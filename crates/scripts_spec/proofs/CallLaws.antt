-- Nothing to believe: laws. The call that counts scripts: when each refusal is given, and what is answered then and
-- else; and that every count fits in 64 bits.
use Rattle.std.specs.Prelude.{◌≡◌, refl, ◌⊎◌, ◌≢◌, ◌↔◌, ℕ, ◌+◌, ◌^◌, ◌≤◌, ◌<◌, leb}
use Rattle.std.proofs.Common.{sym, ap, ◌∙◌, inl, inr, le_trans, eq-eqb, ne_eqb}
use Rattle.std.proofs.Math.Decide.{ℕ_discrete}
use Rattle.std.proofs.Math.Nat.{pow-le-pow_left, pow-le-pow_right}
use native.Mathlib.Omega.{arith}
use Rattle.base.proofs.Truth.{lt_or_ge}
use Rattle.base.specs.Counted.{Counted}
use Rattle.base.proofs.CountedLaws.{counted_unique}
use Rattle.base.proofs.Finds.{finds_le}
use Rattle.base.proofs.Refusal.{unless_hit, unless_none, unless_other}
use Rattle.sheet_spec.specs.declared.Sheet.{Sheet}
use Rattle.sheet_spec.specs.Refusals.{sheet_fault, BothAccepted, Agree, CodesDiffer, Own}
use Rattle.sheet_spec.proofs.Chains.{finally}
use Rattle.sheet_spec.proofs.CheckLaws.{own_other}
use Rattle.sheet_spec.specs.Sound.{Sound}
use Rattle.sheet_spec.proofs.SoundLaws.{check_sound}
use Rattle.sheet_spec.proofs.PairFaults.{pair_reference, pair_device, pair_sheet, pair_11, pair_19, pair_rest}
use Rattle.scripts_spec.specs.declared.Scripts.{Scripts}
use Rattle.scripts_spec.specs.Scripts.{Fate, Walked, DeviceStops, ReferenceStops, by_fate, count_of, scripts_fault, scripts_of}
use Rattle.scripts_spec.specs.Fates.{Script, Goes, told}
use Rattle.scripts_spec.proofs.CountLaws.{from_le, counts_sum, counted}

module _ (P Q : Sheet) (L : ℕ) where
  -- the reference's own refusal comes first, then the device's
  pub scripts_reference : sheet_fault P ≢ 0 → scripts_fault P Q L ≡ sheet_fault P
  unfolding scripts_fault
  scripts_reference = pair_reference P Q _

  pub scripts_device : sheet_fault P ≡ 0 → sheet_fault Q ≢ 0 → scripts_fault P Q L ≡ sheet_fault Q
  unfolding scripts_fault
  scripts_device = pair_device P Q _

  -- a sheet's own number is given exactly for that sheet, the reference before the device
  pub scripts_sheet : (m : ℕ) → Own m → (scripts_fault P Q L ≡ m) ↔ ((sheet_fault P ≡ m) ⊎ ((sheet_fault P ≡ 0) × (sheet_fault Q ≡ m)))
  unfolding scripts_fault
  scripts_sheet m o = pair_sheet P Q _ m o (unless_other (leb L 16) (own_other o (omega arith, λ p. omega arith)) (λ p. omega (arith, o.0)))

  -- 11: of sheets that are not refused, E differs
  pub scripts_11 : (scripts_fault P Q L ≡ 11) ↔ (BothAccepted P Q × (P.e ≢ Q.e))
  unfolding scripts_fault
  scripts_11 = pair_11 P Q _ (unless_other (leb L 16) (λ p. omega arith) (λ p. omega arith))

  -- 19: of sheets that are not refused and have one E, some event has another code
  pub scripts_19 : (scripts_fault P Q L ≡ 19) ↔ (BothAccepted P Q × ((P.e ≡ Q.e) × CodesDiffer P Q))
  unfolding scripts_fault
  scripts_19 = pair_19 P Q _ (unless_other (leb L 16) (λ p. omega arith) (λ p. omega arith))

  -- 20: of sheets that are not refused and agree, L is above 16
  pub scripts_20 : (scripts_fault P Q L ≡ 20) ↔ ((BothAccepted P Q × Agree P Q) × (16 < L))
  unfolding scripts_fault
  scripts_20 =
      finally (pair_rest P Q _ 20 (inl (omega arith, λ p. omega arith)) (λ p. omega arith) (λ p. omega arith))
      (λ f. unless_hit 20 0 (finds_le L 16) (λ p. omega arith))

  -- no refusal: neither sheet is refused, they agree, and L is not above 16
  pub scripts_0 : (scripts_fault P Q L ≡ 0) ↔ ((BothAccepted P Q × Agree P Q) × (¬ (16 < L)))
  unfolding scripts_fault
  scripts_0 =
      finally (pair_rest P Q _ 0 (inr refl) (λ p. omega arith) (λ p. omega arith)) (λ f. unless_none 20 (finds_le L 16) (λ p. omega arith))

  -- a refused call answers its number, and 0 in the other places
  pub scripts_denied : scripts_fault P Q L ≢ 0 → scripts_of P Q L ≡ record { refusal = scripts_fault P Q L; walked = 0; device = 0; reference = 0 }
  unfolding scripts_of
  scripts_denied n = rw (ne_eqb (scripts_fault P Q L) 0 n)

  -- a call that is not refused answers the three counts
  pub scripts_given : scripts_fault P Q L ≡ 0
      → scripts_of P Q L ≡ record { refusal = 0; walked = count_of P Q L Walked; device = count_of P Q L DeviceStops; reference = count_of P Q L ReferenceStops }
  unfolding scripts_of
  scripts_given z = rw (eq-eqb (scripts_fault P Q L) 0 z)

  -- the answer has the number of its refusal, 0 for none
  pub scripts_refusal : (scripts_of P Q L).refusal ≡ scripts_fault P Q L
  scripts_refusal = go (ℕ_discrete (scripts_fault P Q L) 0)
    where
      go : Dec (scripts_fault P Q L ≡ 0) → (scripts_of P Q L).refusal ≡ scripts_fault P Q L
      go (yes z) = ap (λ (a : Scripts). a.refusal) (scripts_given z) ∙ sym z
      go (no n) = ap (λ (a : Scripts). a.refusal) (scripts_denied n)

  -- refused, it tells 0 for each fate
  pub denied_told : scripts_fault P Q L ≢ 0 → (f : Fate) → told (scripts_of P Q L) f ≡ 0
  denied_told n f = ap (λ (a : Scripts). told a f) (scripts_denied n) ∙ zeros f
    where
      zeros : (f : Fate) → by_fate 0 0 0 f ≡ 0
      zeros Walked = refl
      zeros DeviceStops = refl
      zeros ReferenceStops = refl

  module _ (z : scripts_fault P Q L ≡ 0) where
    sound : Sound P × Sound Q
    sound = let g = (scripts_0.0 z).0.0 in (check_sound P g.0, check_sound Q g.1)

    -- not refused, it tells the count of each fate
    pub given_told : (f : Fate) → told (scripts_of P Q L) f ≡ count_of P Q L f
    given_told f = ap (λ (a : Scripts). told a f) (scripts_given z) ∙ each f
      where
        each : (f : Fate) → by_fate (count_of P Q L Walked) (count_of P Q L DeviceStops) (count_of P Q L ReferenceStops) f ≡ count_of P Q L f
        each Walked = refl
        each DeviceStops = refl
        each ReferenceStops = refl

    -- each number told is that of the different scripts of L events that go so, and no other number is
    pub told_counted : (f : Fate) → Counted (λ t. Script P.e L t × Goes P Q t f) (told (scripts_of P Q L) f)
    told_counted f = rw (given_told f) (counted sound.0 sound.1 L f)

    pub told_only : (f : Fate) (c : ℕ) → Counted (λ t. Script P.e L t × Goes P Q t f) c → c ≡ told (scripts_of P Q L) f
    told_only f c h = counted_unique h (told_counted f)

    -- the three numbers sum to E to the power L
    pub told_sum : (scripts_of P Q L).walked + ((scripts_of P Q L).device + (scripts_of P Q L).reference) ≡ P.e ^ L
    told_sum = rw (scripts_given z) (counts_sum P Q L)

    -- E to the power L is at most 12 to the power 16, which fits in 64 bits
    pub told_fits : P.e ^ L ≤ 184884258895036416
    told_fits =
        le_trans (pow-le-pow_left sound.0.ranges.e_high L) (pow-le-pow_right {n = 12} (omega arith) (few (lt_or_ge 16 L)))
      where
        few : (16 < L) ⊎ (L ≤ 16) → L ≤ 16
        few (inl h) = absurd ((scripts_0.0 z).1 h)
        few (inr h) = h

    -- and so is each number
    pub told_most : (f : Fate) → told (scripts_of P Q L) f ≤ 184884258895036416
    unfolding count_of
    told_most f = rw (given_told f) (le_trans (from_le P Q L 0 0 f) told_fits)

-- the call answers three numbers exactly if neither sheet is refused, they agree, L is not above 16, and each number is
-- that of the different scripts of L events that go so
pub scripts_means : (P Q : Sheet) (L w d r : ℕ) → (scripts_of P Q L ≡ record { refusal = 0; walked = w; device = d; reference = r })
    ↔ (((BothAccepted P Q × Agree P Q) × (¬ (16 < L))) × ((f : Fate) → Counted (λ t. Script P.e L t × Goes P Q t f) (by_fate w d r f)))
scripts_means P Q L w d r = (to, from)
  where
    Given : Type 0
    Given = ((BothAccepted P Q × Agree P Q) × (¬ (16 < L))) × ((f : Fate) → Counted (λ t. Script P.e L t × Goes P Q t f) (by_fate w d r f))

    same : (a : Scripts) → a ≡ record { refusal = 0; walked = w; device = d; reference = r } → (f : Fate) → told a f ≡ by_fate w d r f
    same a e Walked = ap (λ (x : Scripts). x.walked) e
    same a e DeviceStops = ap (λ (x : Scripts). x.device) e
    same a e ReferenceStops = ap (λ (x : Scripts). x.reference) e

    to : scripts_of P Q L ≡ record { refusal = 0; walked = w; device = d; reference = r } → Given
    to e =
        let z : scripts_fault P Q L ≡ 0 = sym (scripts_refusal P Q L) ∙ ap (λ (a : Scripts). a.refusal) e in
        ((scripts_0 P Q L).0 z, λ f. rw (same _ e f) at (told_counted P Q L z f))

    from : Given → scripts_of P Q L ≡ record { refusal = 0; walked = w; device = d; reference = r }
    from (g, c) =
        let z = (scripts_0 P Q L).1 g in
        let x : w ≡ count_of P Q L Walked = told_only P Q L z Walked w (c Walked) ∙ given_told P Q L z Walked in
        let y : d ≡ count_of P Q L DeviceStops = told_only P Q L z DeviceStops d (c DeviceStops) ∙ given_told P Q L z DeviceStops in
        let v : r ≡ count_of P Q L ReferenceStops = told_only P Q L z ReferenceStops r (c ReferenceStops) ∙ given_told P Q L z ReferenceStops in
        scripts_given P Q L z ∙ rw (x, y, v)
