-- Nothing to believe: the shapes of inner functions.
use Rattle.std.specs.Prelude.{not, ◌&&◌, cond, List, ℕ, ◌-◌, eqb, length}
use Rattle.std.specs.Int.Bits.{bit_and}
use Rattle.base.specs.Range.{any}
use Rattle.events.specs.Bit.{set_of}
use Rattle.events.specs.Sets.{has}
use Rattle.sheet_spec.specs.declared.Row.{Row}
use Rattle.sheet_spec.specs.Kept.{acceptance, initials}
use Rattle.text_sheet_spec.specs.Node.{probes_line, may_stop_line}

-- the line of node v whose probes were found
unfoldable pub found_line : ℕ → List ℕ → List ℕ
found_line v sets = cond (eqb (length sets) 0) (may_stop_line v) (probes_line v sets)

-- the events of x that are not in y
unfoldable pub without : ℕ → ℕ → ℕ
without x y = x - bit_and x y

-- the initials of a row that stand in none of its first k acceptances
unfoldable pub unaccepted : ℕ → Row → ℕ → ℕ
unaccepted e r k = set_of (λ i. has (initials e r) i && not (any (λ j. has (acceptance r j) i) k)) 12
