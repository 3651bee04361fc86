-- The two sheets of 02, K11, and their bytes. Both have two events, 0 and 1, and the codes of version 1.
use Rattle.std.specs.Prelude.{cond, List, ◌∷◌, ℕ, ◌+◌, ltb, replicate}
use Rattle.base.specs.Table.{up_to}
use Rattle.sheet_spec.specs.declared.Row.{Row}
use Rattle.sheet_spec.specs.declared.Sheet.{Sheet}
use Rattle.sheet_spec.specs.Kept.{sheet_with}
use Rattle.sheet_spec.specs.Spelling.{unused_row}
use Rattle.sheet_spec.specs.Encoding.{encode}

-- the row of a node that does only event 0, to node a: it has that event as its one set
abbrev pub zero_to : ℕ → Row
zero_to a = record { succ = a ∷ replicate 11 255; sets = 1 ∷ replicate 15 0; c = 1 }

-- the row of a node that does only event 1, to node b: it has that event as its one set
abbrev pub one_to : ℕ → Row
one_to b = record { succ = 255 ∷ (b ∷ replicate 10 255); sets = 2 ∷ replicate 15 0; c = 1 }

-- the row of a node that does event 0, to node a, and event 1, to node b, and may insist on either alone
abbrev pub either_to : ℕ → ℕ → Row
either_to a b = record { succ = a ∷ (b ∷ replicate 10 255); sets = 1 ∷ (2 ∷ replicate 14 0); c = 2 }

-- node v of the reference of p nodes: it stays on 0 and climbs on 1; at the last node it knows only 0, staying
unfoldable pub reference_row : ℕ → ℕ → Row
reference_row p v = cond (ltb v p) (cond (ltb (v + 1) p) (either_to v (v + 1)) (zero_to v)) unused_row

-- node v of the device of q nodes: it does only 0 to climb, and at the last node only 1, back to the first
unfoldable pub device_row : ℕ → ℕ → Row
device_row q v = cond (ltb v q) (cond (ltb (v + 1) q) (zero_to (v + 1)) (one_to 0)) unused_row

-- the reference of p nodes
unfoldable pub bound_reference : ℕ → Sheet
bound_reference p = sheet_with (up_to (reference_row p) 32) 2 p

-- the device of q nodes
unfoldable pub bound_device : ℕ → Sheet
bound_device q = sheet_with (up_to (device_row q) 32) 2 q

-- their bytes in version 1
abbrev pub reference_bytes : ℕ → List ℕ
reference_bytes p = encode 1 (bound_reference p)

abbrev pub device_bytes : ℕ → List ℕ
device_bytes q = encode 1 (bound_device q)
