-- What it tells of two sheets that they are refused, or not: what else a call looks for, and their sizes.
use Rattle.std.specs.Prelude.{◌≡◌, refl, ℕ, zero, suc, ◌*◌, ◌≤◌, ◌<◌}
use Rattle.std.proofs.Common.{sym, inr, arith}
use Rattle.base.specs.Refusal.{or_else}
use Rattle.sheet_spec.specs.declared.Sheet.{Sheet}
use Rattle.sheet_spec.specs.Refusals.{sheet_fault, shared_fault, pair_fault, BothAccepted, Agree}
use Rattle.sheet_spec.proofs.PairFaults.{pair_rest}
use Rattle.sheet_spec.specs.Sound.{Sound}
use Rattle.sheet_spec.proofs.SoundLaws.{nodes_most, check_sound}

-- three parts and what follows
chained : (a b c r : ℕ) → or_else a (or_else b (or_else c r)) ≡ or_else (or_else a (or_else b (or_else c 0))) r
chained zero zero zero r = refl
chained zero zero (suc c) r = refl
chained zero (suc b) c r = refl
chained (suc a) b c r = refl

-- what a call looks for after two sheets counts where these are not refused
pub pair_then : (P Q : Sheet) (r : ℕ) → pair_fault P Q r ≡ or_else (pair_fault P Q 0) r
pair_then P Q r = chained (sheet_fault P) (sheet_fault Q) (shared_fault P.e P.codes Q.e Q.codes) r

module _ (P Q : Sheet) (z : 0 ≡ pair_fault P Q 0) where
  -- sheets that are not refused as a pair are accepted, and agree
  pub good_pair : BothAccepted P Q × Agree P Q
  good_pair = ((pair_rest P Q 0 0 (inr refl) (λ p. omega arith) (λ p. omega arith)).0 (sym z)).0

  sound_P : Sound P
  sound_P = check_sound P good_pair.0.0

  sound_Q : Sound Q
  sound_Q = check_sound Q good_pair.0.1

  -- their sizes, as the layers need them
  pub sizes : (0 < P.n) × (P.n ≤ 32) × (0 < Q.n) × (Q.n ≤ 32) × (P.e ≤ 12) × (P.n * Q.n ≤ 1024)
  sizes = (sound_P.ranges.n_low, sound_P.ranges.n_high, sound_Q.ranges.n_low, sound_Q.ranges.n_high, sound_P.ranges.e_high, nodes_most sound_P sound_Q)
