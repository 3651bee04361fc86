-- The two calls over a sheet and a table's bytes (02, K6): what each refuses and what it answers. s is the sheet handed
-- along, whose E the events of the rules must be below.
use Rattle.std.specs.Prelude.{Bool, ◌&&◌, cond, List, ℕ, Result, Ok, Err, ◌%◌, eqb, ltb, leb, length}
use Rattle.base.specs.Range.{all}
use Rattle.base.specs.Refusal.{unless, or_else}
use Rattle.events.specs.Sets.{inside}
use Rattle.sheet_spec.specs.declared.Sheet.{Sheet}
use Rattle.sheet_spec.specs.Refusals.{sheet_fault}
use Rattle.keypad_spec.specs.declared.Keypad.{Keypad}
use Rattle.keypad_spec.specs.declared.Keypad.TheVariants.{Good, Gap, Overlap}
use Rattle.keypad_spec.specs.declared.Found.{Found}
use Rattle.keypad_spec.specs.declared.Found.TheVariants.{Event, Gap as GapFound, Overlap as OverlapFound}
use Rattle.keypad_spec.specs.Tables.{rule_count, mask, value, event_of, lowest, table_answer}

-- 21: the bytes are 1 to 64 rules, none of them a part
unfoldable pub size_ok : List ℕ → Bool
size_ok b = eqb (length b % 3) 0 && (leb 1 (rule_count b) && leb (rule_count b) 64)

-- 22: no rule's value has a bit outside its mask
unfoldable pub values_ok : List ℕ → Bool
values_ok b = all (λ i. inside (value b i) (mask b i)) (rule_count b)

-- 23: every rule's event is below E
unfoldable pub events_ok : ℕ → List ℕ → Bool
events_ok e b = all (λ i. ltb (event_of b i) e) (rule_count b)

-- the refusal of a table, 0 for none: each number looked for in the whole table, in this order
unfoldable pub table_fault : ℕ → List ℕ → ℕ
table_fault e b = unless (size_ok b) 21 (unless (values_ok b) 22 (unless (events_ok e b) 23 0))

-- the refusal of either call, 0 for none: the sheet's own, then the table's
unfoldable pub keypad_fault : Sheet → List ℕ → ℕ
keypad_fault s b = or_else (sheet_fault s) (table_fault s.e b)

-- the answer of a check: what is told of the table, or the refusal
unfoldable pub keypad_of : Sheet → List ℕ → Result Keypad ℕ
keypad_of s b = cond (eqb (keypad_fault s b) 0) (Ok (table_answer b)) (Err (keypad_fault s b))

-- what a lookup answers where a check of the table answers a and the rule that matches the code has the event e: the
-- event if the table is good, else the same gap, overlap or refusal
unfoldable pub found_from : Result Keypad ℕ → ℕ → Result Found ℕ
found_from (Ok Good) e = Ok (Event e)
found_from (Ok (Gap c)) e = Ok (GapFound c)
found_from (Ok (Overlap c i k)) e = Ok (OverlapFound c i k)
found_from (Err m) e = Err m

-- the answer of a lookup of the code c
unfoldable pub found_of : Sheet → List ℕ → ℕ → Result Found ℕ
found_of s b c = found_from (keypad_of s b) (event_of b (lowest b c))
