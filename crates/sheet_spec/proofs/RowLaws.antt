-- Nothing to believe: laws. What the definitions of a row mean.
use Rattle.std.specs.Prelude.{◌≡◌, ◌↔◌, true, ◌&&◌, ℕ, ◌≤◌, ◌<◌, eqb, ltb, length, get_or, take}
use Rattle.std.proofs.Common.{sym, arith, get_or-take, length-take-le, eqb-true, eq-eqb, ltb-true, lt-ltb}
use Rattle.base.proofs.Truth.{and_l, and_r, and_i}
use Rattle.base.proofs.Range.{any→, any←}
use Rattle.base.proofs.Table.{length_up_to, get_or_up_to}
use Rattle.sheet_spec.specs.declared.Row.{Row}
use Rattle.sheet_spec.specs.Kept.{acceptance, acceptances, may_stop}
use Rattle.sheet_spec.specs.Form.{RowForm}
use Rattle.sheet_spec.proofs.Slices.{up_to_is}

-- a node may stop exactly if one of its sets is empty
pub may_stop_means : (r : Row) → r.c ≤ 16 → (may_stop r ≡ true) ↔ ((j : ℕ) × (j < r.c) × (acceptance r j ≡ 0))
unfolding may_stop
may_stop_means r h = (to, from)
  where
    to : may_stop r ≡ true → (j : ℕ) × (j < r.c) × (acceptance r j ≡ 0)
    to t =
        let w = any→ (λ j. ltb j r.c && eqb (acceptance r j) 0) 16 t in (
          w.0,
          ltb-true w.0 r.c (and_l (ltb w.0 r.c) (eqb (acceptance r w.0) 0) w.2),
          eqb-true (acceptance r w.0) 0 (and_r (ltb w.0 r.c) (eqb (acceptance r w.0) 0) w.2),
        )

    from : (j : ℕ) × (j < r.c) × (acceptance r j ≡ 0) → may_stop r ≡ true
    from (j, l, e) = any← (λ j. ltb j r.c && eqb (acceptance r j) 0) 16 j (omega arith) (and_i (lt-ltb j r.c l) (eq-eqb (acceptance r j) 0 e))

-- the list of acceptances has C elements, and at each place the set there
pub acceptances_length : (r : Row) → length (acceptances r) ≡ r.c
unfolding acceptances
acceptances_length r = length_up_to (acceptance r) r.c

pub acceptances_at : (r : Row) (j : ℕ) → j < r.c → get_or (acceptances r) j 0 ≡ acceptance r j
unfolding acceptances
acceptances_at r j h = get_or_up_to (acceptance r) r.c j 0 h

-- the list of acceptances of a row in the machine's form is the front of its array
pub acceptances_take : (r : Row) → RowForm r → r.c ≤ 16 → acceptances r ≡ take r.c r.sets
unfolding acceptances acceptance
acceptances_take r f h = up_to_is (acceptance r) (take r.c r.sets) r.c 0 (length-take-le r.c r.sets (omega (arith, f.sets)))
    (λ j l. sym (get_or-take r.c r.sets j 0 l))

-- the array has places for the first c = C sets, and they are c
pub sets_room : (r : Row) → RowForm r → (c : ℕ) → c ≡ r.c → r.c ≤ 16 → c ≤ length r.sets
sets_room r f c e h = omega (arith, f.sets)

pub sets_taken : (r : Row) → RowForm r → (c : ℕ) → c ≡ r.c → r.c ≤ 16 → c ≡ length (take c r.sets)
sets_taken r f c e h = sym (length-take-le c r.sets (sets_room r f c e h))
