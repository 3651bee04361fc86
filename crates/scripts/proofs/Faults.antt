-- The refusal of a call: what the two sheets give, then the test of the length.
use Rattle.std.specs.Prelude.{◌≡◌, refl, ℕ, zero, suc, Result, Ok, Err, ◌≤◌, ◌<◌, leb}
use Rattle.std.proofs.Common.{sym, ap, ◌∙◌, arith}
use borrow.Author.Tests.{le-leb, lt-leb}
use Rattle.refusals.specs.declared.Refusal.{Refusal}
use Rattle.refusals.specs.Numbers.{number, refusal_in}
use Rattle.refusals.proofs.NumberLaws.{number_some}
use Rattle.base.specs.Refusal.{unless, or_else}
use Rattle.base.proofs.Refusal.{or_else_some}
use Rattle.sheet_spec.specs.declared.Sheet.{Sheet}
use Rattle.sheet_spec.specs.Refusals.{sheet_fault, shared_fault, pair_fault}
use Rattle.scripts_spec.specs.Scripts.{scripts_fault}

-- what follows the refusals of two sheets counts where these are none
pub pair_then : (P Q : Sheet) (rest : ℕ) → pair_fault P Q rest ≡ or_else (pair_fault P Q 0) rest
pair_then P Q rest = go (sheet_fault P) (sheet_fault Q) (shared_fault P.e P.codes Q.e Q.codes)
  where
    go : (a b c : ℕ) → or_else a (or_else b (or_else c rest)) ≡ or_else (or_else a (or_else b (or_else c 0))) rest
    go (suc a) b c = refl
    go zero (suc b) c = refl
    go zero zero (suc c) = refl
    go zero zero zero = refl

module _ (P Q : Sheet) (L : ℕ) {r : Result Unit Refusal} (e : refusal_in r ≡ pair_fault P Q 0) where
  -- the way out with a refusal of the sheets
  pub unpaired : {cause : Refusal} {t : Result Unit Refusal} → r ≡ Err cause → t ≡ Err cause → refusal_in t ≡ scripts_fault P Q L
  unfolding scripts_fault
  unpaired {cause} p q =
      let m : number cause ≡ pair_fault P Q 0 = ap refusal_in (sym p) ∙ e in
      rw (q, pair_then P Q (unless (leb L 16) 20 0)) (m ∙ sym (or_else_some (pair_fault P Q 0) _ (omega (arith, number_some cause, m))))

  module _ {u : Unit} (p : r ≡ Ok u) where
    rest : scripts_fault P Q L ≡ unless (leb L 16) 20 0
    unfolding scripts_fault
    rest = let z : pair_fault P Q 0 ≡ 0 = sym e ∙ ap refusal_in p in pair_then P Q (unless (leb L 16) 20 0) ∙ rw z

    -- the ways out by the length
    pub twenty : 16 < L → 20 ≡ scripts_fault P Q L
    twenty l = sym (rest ∙ rw (lt-leb L 16 l))

    pub no_fault : L ≤ 16 → 0 ≡ scripts_fault P Q L
    no_fault l = sym (rest ∙ rw (le-leb L 16 l))
