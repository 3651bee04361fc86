-- A keypad's table (02, K6): its rules, which of them match a code, and what is told of a table. b are the bytes of a
-- table, c is a code, and i a rule, counted from 0. What is told is said bit by bit and code by code in Meaning.
use Rattle.std.specs.Prelude.{Bool, not, ◌&&◌, cond, List, ℕ, ◌+◌, ◌*◌, ◌/◌, Option, Some, None, eqb, ltb, leb, length, get_or}
use Rattle.std.specs.Int.Bits.{bit_and}
use Rattle.base.specs.Range.{first}
use Rattle.base.specs.Count.{count}
use Rattle.keypad_spec.specs.declared.Keypad.{Keypad}
use Rattle.keypad_spec.specs.declared.Keypad.TheVariants.{Good, Gap, Overlap}

-- how many rules there are: each has three bytes, a mask, a value and an event
abbrev pub rule_count : List ℕ → ℕ
rule_count b = length b / 3

-- the mask of rule i
abbrev pub mask : List ℕ → ℕ → ℕ
mask b i = get_or b (3 * i) 0

-- the value of rule i
abbrev pub value : List ℕ → ℕ → ℕ
value b i = get_or b (3 * i + 1) 0

-- the event of rule i
abbrev pub event_of : List ℕ → ℕ → ℕ
event_of b i = get_or b (3 * i + 2) 0

-- whether rule i matches a code: the code's masked bits equal the value
unfoldable pub matches : List ℕ → ℕ → ℕ → Bool
matches b c i = eqb (bit_and c (mask b i)) (value b i)

-- how many rules match a code
unfoldable pub match_count : List ℕ → ℕ → ℕ
match_count b c = count (matches b c) (rule_count b)

-- the smallest bad code: one that no rule matches, or more than one; 256 in a good table
unfoldable pub bad_code : List ℕ → ℕ
bad_code b = first (λ c. not (eqb (match_count b c) 1)) 256

-- the lowest rule, from rule i on, that matches a code; the number of rules where there is none
unfoldable pub match_from : List ℕ → ℕ → ℕ → ℕ
match_from b c i = first (λ k. leb i k && matches b c k) (rule_count b)

-- a place that is below n, or none
abbrev pub if_below : ℕ → ℕ → Option ℕ
if_below n i = cond (ltb i n) (Some i) None

-- the lowest rule that matches a code; the number of rules where there is none
abbrev pub lowest : List ℕ → ℕ → ℕ
lowest b c = match_from b c 0

-- the next lowest rule that matches a code; the number of rules where there is none
abbrev pub second : List ℕ → ℕ → ℕ
second b c = match_from b c (lowest b c + 1)

-- what is told of a bad code: a gap if no rule matches it, else an overlap with the two lowest rules that do
unfoldable pub bad_answer : List ℕ → ℕ → Keypad
bad_answer b c = cond (eqb (match_count b c) 0) (Gap c) (Overlap c (lowest b c) (second b c))

-- what is told of a table: what there is at the smallest bad code, or that it is good
unfoldable pub table_answer : List ℕ → Keypad
table_answer b = cond (ltb (bad_code b) 256) (bad_answer b (bad_code b)) Good
