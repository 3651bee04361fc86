-- The numbers of each case of the two answers. Parts that a case has not are 0. A gap has the same number whichever
-- call answers it, and so has an overlap.
use Rattle.std.specs.Prelude.{ℕ, Result, Ok, Err}
use Rattle.keypad_spec.specs.declared.Keypad.{Keypad}
use Rattle.keypad_spec.specs.declared.Keypad.TheVariants.{Good, Gap, Overlap}
use Rattle.keypad_spec.specs.declared.Found.{Found}
use Rattle.keypad_spec.specs.declared.Found.TheVariants.{Event, Gap as GapFound, Overlap as OverlapFound}

-- the number of the answer "good": the first of the ten that keypads have
abbrev pub good_number : ℕ
good_number = 31

-- the number of an answer that names a gap
abbrev pub gap_number : ℕ
gap_number = 32

-- the number of an answer that names an overlap
abbrev pub overlap_number : ℕ
overlap_number = 33

-- the number of an answer that names an event
abbrev pub event_number : ℕ
event_number = 34

-- the numbers of a check: the refusal's, 0 for none; which case it is (0 for a refusal, else the number of the case);
-- the smallest bad code; the two lowest rules that match it
pub record Keyed : Type 0 where
  pub refusal : ℕ
  pub kind : ℕ
  pub code : ℕ
  pub first : ℕ
  pub second : ℕ

-- the numbers of a check's answer
unfoldable pub keyed : Result Keypad ℕ → Keyed
keyed (Ok Good) = record { refusal = 0; kind = good_number; code = 0; first = 0; second = 0 }
keyed (Ok (Gap c)) = record { refusal = 0; kind = gap_number; code = c; first = 0; second = 0 }
keyed (Ok (Overlap c i k)) = record { refusal = 0; kind = overlap_number; code = c; first = i; second = k }
keyed (Err m) = record { refusal = m; kind = 0; code = 0; first = 0; second = 0 }

-- the numbers of a lookup: those of a check, and the event
pub record Looked : Type 0 where
  pub refusal : ℕ
  pub kind : ℕ
  pub event : ℕ
  pub code : ℕ
  pub first : ℕ
  pub second : ℕ

-- the numbers of a lookup's answer
unfoldable pub looked : Result Found ℕ → Looked
looked (Ok (Event e)) = record { refusal = 0; kind = event_number; event = e; code = 0; first = 0; second = 0 }
looked (Ok (GapFound c)) = record { refusal = 0; kind = gap_number; event = 0; code = c; first = 0; second = 0 }
looked (Ok (OverlapFound c i k)) = record { refusal = 0; kind = overlap_number; event = 0; code = c; first = i; second = k }
looked (Err m) = record { refusal = m; kind = 0; event = 0; code = 0; first = 0; second = 0 }
