-- Nothing to believe: laws. The counts look at successors alone: acceptances play no part in them, and codes none but
-- by the refusals.
use Rattle.std.specs.Prelude.{◌≡◌, List}
use Rattle.std.proofs.Math.Path.{refl, ap}
use Rattle.std.proofs.Common.{sym, ◌∙◌}
use Prim.Native.Nat.{ℕ, zero, suc}
use Rattle.base.specs.Sum.{sum}
use Rattle.base.proofs.Sum.{sum_ext}
use Rattle.sheet_spec.specs.declared.Sheet.{Sheet}
use Rattle.sheet_spec.specs.Kept.{recoded, step}
use Rattle.scripts_spec.specs.Scripts.{Fate, beginning, count_from, count_of, scripts_fault, scripts_of, Walked, DeviceStops, ReferenceStops}
use Rattle.scripts_spec.specs.Fates.{SameSteps}
use Rattle.scripts_spec.proofs.CallLaws.{scripts_given}

module _ {P Q P' Q' : Sheet} (a : SameSteps P P') (b : SameSteps Q Q') where
  same_from : (l n m : ℕ) (f : Fate) → count_from P Q l n m f ≡ count_from P' Q' l n m f
  unfolding count_from beginning
  same_from zero n m f = refl
  same_from (suc l) n m f =
      sum_ext (λ i. beginning P Q l n m i (count_from P Q l (step P n i) (step Q m i) f) f)
      (λ i. beginning P' Q' l n m i (count_from P' Q' l (step P' n i) (step Q' m i) f) f) P.e
      (λ i k. rw (same_from l (step P n i) (step Q m i) f, a.steps n i, b.steps m i, a.n, b.n, a.e))
      ∙ ap (sum (λ i. beginning P' Q' l n m i (count_from P' Q' l (step P' n i) (step Q' m i) f) f)) a.e

  -- sheets with the same successors have the same counts, whatever their acceptances and codes
  pub same_counts : (L : ℕ) (f : Fate) → count_of P Q L f ≡ count_of P' Q' L f
  unfolding count_of
  same_counts L f = same_from L 0 0 f

  -- and the same answer, wherever neither pair is refused
  pub same_scripts : (L : ℕ) → scripts_fault P Q L ≡ 0 → scripts_fault P' Q' L ≡ 0 → scripts_of P Q L ≡ scripts_of P' Q' L
  same_scripts L z y =
      scripts_given P Q L z ∙ rw (same_counts L Walked, same_counts L DeviceStops, same_counts L ReferenceStops) (sym (scripts_given P' Q' L y))

-- a sheet with other codes has the same successors
pub recoded_steps : (s : Sheet) (codes : List ℕ) → SameSteps (recoded s codes) s
unfolding step
recoded_steps s codes = record { e = refl; n = refl; steps = λ v i. refl }
