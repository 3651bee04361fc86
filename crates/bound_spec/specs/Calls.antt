-- The call (02, K11): what it refuses, what it answers, and what the two lent lists then hold. `reference` and `device`
-- are the lists.
use Rattle.std.specs.Prelude.{Bool, ◌&&◌, cond, List, ℕ, Result, Ok, Err, eqb, leb, length}
use Rattle.base.specs.Refusal.{unless}
use Rattle.base.specs.Front.{at_front}
use Rattle.sheet_spec.specs.Rules.{between}
use Rattle.bound_spec.specs.declared.Lengths.{Lengths}
use Rattle.bound_spec.specs.Sheets.{reference_bytes, device_bytes}

-- 30: p and q are 1 to 32
unfoldable pub sizes_ok : ℕ → ℕ → Bool
sizes_ok p q = between 1 32 p && between 1 32 q

-- 31: neither list is too short for its sheet
unfoldable pub room_ok : ℕ → ℕ → List ℕ → List ℕ → Bool
room_ok p q reference device = leb (length (reference_bytes p)) (length reference) && leb (length (device_bytes q)) (length device)

-- the refusal of a call, 0 for none: 30, 31
unfoldable pub bound_fault : ℕ → ℕ → List ℕ → List ℕ → ℕ
bound_fault p q reference device = unless (sizes_ok p q) 30 (unless (room_ok p q reference device) 31 0)

-- the three numbers of each answer: the refusal, 0 for none, and the two lengths, 0 where it is refused
unfoldable pub bound_numbers : Result Lengths ℕ → ℕ × ℕ × ℕ
bound_numbers (Ok l) = (0, l.reference, l.device)
bound_numbers (Err k) = (k, 0, 0)

-- what a call has where it is not refused, and else something in its place
abbrev pub unless_refused : {A : Type 0} → ℕ → ℕ → List ℕ → List ℕ → A → A → A
unless_refused p q reference device x y = cond (eqb (bound_fault p q reference device) 0) x y

-- the lengths that a call answers: those of the two sheets in bytes, 0 where it is refused
unfoldable pub reference_length : ℕ → ℕ → List ℕ → List ℕ → ℕ
reference_length p q reference device = unless_refused p q reference device (length (reference_bytes p)) 0

unfoldable pub device_length : ℕ → ℕ → List ℕ → List ℕ → ℕ
device_length p q reference device = unless_refused p q reference device (length (device_bytes q)) 0

-- the answer of a call: the two lengths, the reference's first, or the refusal
unfoldable pub bound_of : ℕ → ℕ → List ℕ → List ℕ → Result Lengths ℕ
bound_of p q reference device =
    unless_refused p q reference device
    (Ok (record { reference = length (reference_bytes p); device = length (device_bytes q) }))
    (Err (bound_fault p q reference device))

-- the lists after a call: each sheet at the front of its own and the rest untouched; after a refusal both as they were
unfoldable pub reference_after : ℕ → ℕ → List ℕ → List ℕ → List ℕ
reference_after p q reference device = unless_refused p q reference device (at_front reference (reference_bytes p)) reference

unfoldable pub device_after : ℕ → ℕ → List ℕ → List ℕ → List ℕ
device_after p q reference device = unless_refused p q reference device (at_front device (device_bytes q)) device
