-- Nothing to believe: the tests over lent sets, as the loops make them. Laws join them to the definitions.
use Rattle.std.specs.Prelude.{◌≡◌, refl, Bool, not, ◌&&◌, ◌||◌, List, ℕ, eqb}
use Rattle.std.specs.List.{list_any}
use Rattle.events.specs.Sets.{inside}
use Rattle.sheet_spec.specs.declared.Row.{Row}
use Rattle.sheet_spec.specs.Kept.{initials}
use Rattle.refinement_spec.specs.ViolatingPairs.{strays, has_stray, has_refusal, violates}

-- the set A includes one of the sets
abbrev pub covering : List ℕ → ℕ → Bool
covering sets A = list_any (λ x. inside x A) sets

-- one of the others includes none of the sets
abbrev pub refusing : List ℕ → List ℕ → Bool
refusing sets others = list_any (λ x. not (covering sets x)) others

-- a pair of rows is violating, by a set x in place of the reference's initials and a set y in place of the device's
unfoldable pub violates_by : Bool → ℕ → ℕ → Row → Row → Bool
violates_by trace_only x y r q = not (eqb (strays x y) 0) || (not trace_only && has_refusal r q)

-- by the initials of the two rows a pair is violating exactly as the definition has it
pub violates_by_lem : (trace_only : Bool) (e : ℕ) (r q : Row) → violates_by trace_only (initials e r) (initials e q) r q ≡ violates trace_only e r q
unfolding violates_by violates has_stray
violates_by_lem trace_only e r q = refl
