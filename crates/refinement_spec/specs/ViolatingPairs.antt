-- When a pair of nodes is violating (01, "A comparison"), as tests over the rows of the two nodes. r is the reference's
-- row, q the device's. What they mean is said in PairLaws.
use Rattle.std.specs.Prelude.{Bool, not, ◌&&◌, ◌||◌, ℕ, ◌-◌, eqb}
use Rattle.std.specs.Int.Bits.{bit_and}
use Rattle.base.specs.Range.{any, first}
use Rattle.events.specs.Sets.{has, inside}
use Rattle.sheet_spec.specs.declared.Row.{Row}
use Rattle.sheet_spec.specs.declared.Sheet.{Sheet}
use Rattle.sheet_spec.specs.Kept.{row, acceptance, initials}

-- the events of the device's initials Y that are not among the reference's initials X
unfoldable pub strays : ℕ → ℕ → ℕ
strays X Y = Y - bit_and X Y

-- a stray: the device has an initial outside the reference's
unfoldable pub has_stray : ℕ → Row → Row → Bool
has_stray e r q = not (eqb (strays (initials e r) (initials e q)) 0)

-- the smallest stray event
unfoldable pub first_stray : ℕ → Row → Row → ℕ
first_stray e r q = first (has (strays (initials e r) (initials e q))) 12

-- the set A includes one of the reference's acceptances
unfoldable pub covers : Row → ℕ → Bool
covers r A = any (λ l. inside (acceptance r l) A) r.c

-- a refusal: some acceptance of the device includes none of the reference's
unfoldable pub has_refusal : Row → Row → Bool
has_refusal r q = any (λ j. not (covers r (acceptance q j))) q.c

-- a pair of rows is violating; with traces alone only strays count
unfoldable pub violates : Bool → ℕ → Row → Row → Bool
violates trace_only e r q = has_stray e r q || (not trace_only && has_refusal r q)

-- the pair of node n of the reference and node m of the device is violating
unfoldable pub violating : Bool → Sheet → Sheet → ℕ → ℕ → Bool
violating trace_only P Q n m = violates trace_only P.e (row P n) (row Q m)
