-- From what the search found to the answer: one law for each way out of `tell`.
use mathlib.Core.Path.{◌≡◌}
use Prim.Native.Nat.{ℕ, ◌≤◌, ◌<◌}
use native.Mathlib.Omega.{arith}
use Rattle.sheet_spec.specs.declared.Sheet.{Sheet}
use Rattle.sheet_spec.specs.Kept.{row}
use Rattle.sheet_spec.specs.Refusals.{sheet_fault}
use Rattle.sheet_spec.proofs.SoundLaws.{check_sound}
use Rattle.comparison_spec.specs.declared.Outcome.{Outcome}
use Rattle.comparison_spec.specs.declared.Outcome.TheVariants.{Refines}
use Rattle.comparison_spec.specs.Comparison.{named}
use Rattle.search_theory.specs.declared.Found.{Found}
use Rattle.search_theory.specs.declared.Found.TheVariants.{Clear, Bad}
use Rattle.comparison.specs.Told.{told, Fits}

-- the distance, the two nodes and the count that a search found, E and the Cs of the two nodes are in their ranges
pub record InRange (P Q : Sheet) (d v w cleared : ℕ) : Type 0 where
  pub distance : d ≤ 1024
  pub first : v < 32
  pub second : w < 32
  pub count : cleared ≤ 1024
  pub events : P.e ≤ 12
  pub sets : (row P v).c ≤ 16
  pub others : (row Q w).c ≤ 16

module _ (P Q : Sheet) (f : Found) where
  pub clear_fits : (sheet_fault P ≡ 0) × (sheet_fault Q ≡ 0) × Fits P Q f → (n : ℕ) → f ≡ Clear n → n ≤ 1024
  unfolding Fits
  clear_fits a n e = rw e at a.2

  pub clear_told : (n : ℕ) → f ≡ Clear n → Refines n ≡ told P Q f
  unfolding told
  clear_told n e = rw e

  pub bad_fits : (sheet_fault P ≡ 0) × (sheet_fault Q ≡ 0) × Fits P Q f → (d v w n : ℕ) → f ≡ Bad d v w n → InRange P Q d v w n
  unfolding Fits
  bad_fits a d v w n e =
      let x : (d ≤ 1024) × (v < P.n) × (w < Q.n) × (n ≤ 1024) = rw e at a.2 in
      let p = check_sound P a.0 in
      let q = check_sound Q a.1 in
      record {
        distance = x.0;
        first = omega (arith, x.1, p.ranges.n_high);
        second = omega (arith, x.2, q.ranges.n_high);
        count = x.3;
        events = p.ranges.e_high;
        sets = (p.counts v x.1).1;
        others = (q.counts w x.2).1;
      }

  pub bad_told : (d v w n : ℕ) → f ≡ Bad d v w n → (e : ℕ) → e ≡ P.e → (r : Outcome) → r ≡ named d n e (row P v) (row Q w) → r ≡ told P Q f
  unfolding told
  bad_told d v w n x e y r z = rw x (rw y at z)

-- the ways out
pub ruleset tells = (clear_fits, clear_told, bad_told)
