-- The rules of one set look at the sets of a row alone; the sets before a place are looked at as a list; and a row that
-- is owned has no 17th.
use mathlib.Core.Path.{◌≡◌, refl, sym}
use mathlib.Core.Bool.{Bool, false, not}
use mathlib.Core.List.{List}
use Prim.Native.Nat.{ℕ, zero, suc, ◌+◌, ◌-◌, ◌≤◌, ◌<◌}
use native.Mathlib.Omega.{arith}
use lib.ListN.{get_or}
use mir.Val.{Val}
use denote.Laws.{Is}
use borrow.Author.Tests.{le-ltb}
use Rattle.std.specs.Prelude.{length, take, eqb}
use Rattle.std.specs.Int.Bits.{bit_and}
use Rattle.std.specs.List.{list_all}
use Rattle.std.proofs.Common.{ap, ◌∙◌, add-one, eq-eqb, eqb-true}
use Rattle.std.proofs.lemmas.Nat.{and-not, and_comm}
use Rattle.std.proofs.lemmas.List.Folds.{list_all_more}
use Rattle.base.specs.Range.{all}
use Rattle.base.proofs.Range.{all_stop, all_ext}
use Rattle.base.proofs.Truth.{same}
use Rattle.events.specs.Sets.{inside}
use Rattle.sheet_spec.specs.declared.Row.{Row}
use Rattle.sheet_spec.specs.Kept.{acceptance, initials}
use Rattle.sheet_spec.specs.Rules.{ascends, none_inside, set_ok, row_sets_ok}
use Rattle.sheet_spec.specs.contracts.Row as R
use Rattle.sheet_rows.proofs.Shape.{set_out}
use Rattle.sheet_rules.specs.SetShapes.{sets_alone}

pub sets_alone_lem : (i : ℕ) (r : Row) (j : ℕ) → set_ok i (sets_alone r.sets) j ≡ set_ok i r j
unfolding set_ok ascends none_inside acceptance sets_alone
sets_alone_lem i r j = refl

-- all of the first n elements pass a test exactly if all places below n do
listed : (p : ℕ → Bool) (xs : List ℕ) (n : ℕ) → n ≤ length xs → list_all p (take n xs) ≡ all (λ i. p (get_or xs i 0)) n
unfolding all
listed p xs zero h = refl
listed p xs (suc n) h = rw (← add-one n, list_all_more p xs n 0 (omega arith), listed p xs n (omega arith))

-- a set x has an event outside a set s exactly if it is not included in s
outside_is : (x s : ℕ) → x < 65536 → s < 65536 → not (eqb (bit_and x (65535 - s)) 0) ≡ not (inside x s)
unfolding inside
outside_is x s lx ls =
    let e : bit_and x (65535 - s) + bit_and x s ≡ x = rw (and_comm x (65535 - s), and_comm x s) (and-not 16 s x ls lx) in
    ap not (same _ _ (λ t. eq-eqb _ _ (omega (arith, e, eqb-true _ _ t))) (λ t. eq-eqb _ _ (omega (arith, e, eqb-true _ _ t))))

-- the sets before place j each have an event outside the one there exactly if none is included in it
pub apart_is : (sets : List ℕ) (j : ℕ) → ((i : ℕ) → get_or sets i 0 < 65536) → j ≤ length sets → list_all (λ x. not (eqb (bit_and x (65535 - get_or sets j 0)) 0)) (take j sets) ≡ none_inside (sets_alone sets) j
unfolding none_inside acceptance sets_alone
apart_is sets j h l =
    listed (λ x. not (eqb (bit_and x (65535 - get_or sets j 0)) 0)) sets j l
    ∙ all_ext _ _ j (λ i m. outside_is (get_or sets i 0) (get_or sets j 0) (h i) (h j))

module _ (r : Row) (vs : List Val) (p : Is R.the_row r vs) where
  -- a 17th set is not greater than the one before it
  not_up : ascends r 16 ≡ false
  unfolding ascends
  not_up = le-ltb (acceptance r 15) (acceptance r 16) (omega (arith, set_out r vs p 16 (omega arith)))

  pub too_many : (e : ℕ) → 16 < r.c → false ≡ row_sets_ok e r
  unfolding row_sets_ok set_ok
  too_many e h = sym (all_stop (set_ok (initials e r) r) r.c 16 h (rw not_up))
