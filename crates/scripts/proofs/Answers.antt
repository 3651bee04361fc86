-- What `count` answers, in its two ways out.
use mathlib.Core.Path.{◌≡◌, sym, ap, ◌∙◌}
use mathlib.Core.Logic.{◌⊎◌, inl, inr}
use Prim.Native.Nat.{ℕ, ◌≤◌, ◌<◌}
use native.Mathlib.Omega.{arith}
use Rattle.std.specs.Prelude.{Result, Ok, Err}
use Rattle.refusals.specs.declared.Refusal.{Refusal}
use Rattle.refusals.specs.Numbers.{number, refusal_in}
use Rattle.refusals.proofs.NumberLaws.{number_some}
use Rattle.base.proofs.Truth.{lt_or_ge}
use Rattle.sheet_spec.specs.declared.Sheet.{Sheet}
use Rattle.sheet_spec.specs.Kept.{first_codes, sheet_with}
use Rattle.sheet_spec.proofs.SoundLaws.{check_sound}
use Rattle.scripts_spec.specs.Scripts.{Walked, DeviceStops, ReferenceStops, count_of, scripts_fault, scripts_of, counted}
use Rattle.scripts_spec.specs.Fates.{SameSteps}
use Rattle.scripts_spec.proofs.CallLaws.{scripts_0, scripts_denied, scripts_given}
use Rattle.scripts_spec.proofs.SuccessorLaws.{recoded_steps, same_counts}
use Rattle.scripts_spec.specs.declared.Counts.{Counts}
use Rattle.scripts.specs.Shapes.{counts_from}

module _ (P Q : Sheet) (L : ℕ) {r : Result Unit Refusal} (ef : refusal_in r ≡ scripts_fault P Q L) where
  -- the way out with a refusal
  pub refused : {cause : Refusal} {t : Result Counts Refusal} → r ≡ Err cause → t ≡ Err cause → counted t ≡ scripts_of P Q L
  unfolding counted
  refused {cause} p q =
      let m : number cause ≡ scripts_fault P Q L = ap refusal_in (sym p) ∙ ef in
      rw (q, m) (sym (scripts_denied P Q L (λ z. omega (arith, number_some cause, m, z))))

  module _ {u : Unit} (z : r ≡ Ok u) {e p q : ℕ} (de : e ≡ P.e) (dp : p ≡ P.n) (dq : q ≡ Q.n) where
    none : scripts_fault P Q L ≡ 0
    none = sym ef ∙ ap refusal_in z

    -- the numbers of nodes and events are in range, and so is the length
    pub sizes : (0 < p) × (p ≤ 32) × (0 < q) × (q ≤ 32) × (e ≤ 12) × (L ≤ 16)
    sizes =
        let g = (scripts_0 P Q L).0 none in
        let a = (check_sound P g.0.0.0).ranges in
        let b = (check_sound Q g.0.0.1).ranges in
        (omega (arith, a.n_low, dp), omega (arith, a.n_high, dp), omega (arith, b.n_low, dq), omega (arith, b.n_high, dq), omega (arith, a.e_high, de), few (lt_or_ge 16 L) g.1)
      where
        few : (16 < L) ⊎ (L ≤ 16) → ¬ (16 < L) → L ≤ 16
        few (inl h) n = absurd (n h)
        few (inr h) n = h

    -- rows, E and N are all that the counts look at
    mine : SameSteps (sheet_with P.rows e p) P
    mine = rw (de, dp) (recoded_steps P (first_codes P.e))

    theirs : SameSteps (sheet_with Q.rows e q) Q
    theirs = let same : e ≡ Q.e = de ∙ ((scripts_0 P Q L).0 none).0.1.0 in rw (same, dq) (recoded_steps Q (first_codes Q.e))

    -- the way out with the three counts
    pub given : (c : Counts) → c ≡ counts_from (sheet_with P.rows e p) (sheet_with Q.rows e q) L 0 0 → counted (Ok c) ≡ scripts_of P Q L
    unfolding count_of counted
    given c h = rw (h, same_counts mine theirs L Walked, same_counts mine theirs L DeviceStops, same_counts mine theirs L ReferenceStops) (sym (scripts_given P Q L none))
