-- Nothing to believe: words for laws alone. What a table and an answer mean, bit by bit and code by code, with no test
-- and no count of matches in it. b are the bytes of a table, c is a code, i and k are rules, counted from 0.
use Rattle.std.specs.Prelude.{◌≡◌, ◌⊎◌, List, ℕ, Result, Ok, Err, ◌+◌, ◌*◌, ◌≤◌, ◌<◌, length}
use Rattle.events.specs.Bit.{bit}
use Rattle.sheet_spec.specs.declared.Sheet.{Sheet}
use Rattle.sheet_spec.specs.Refusals.{sheet_fault}
use Rattle.keypad_spec.specs.declared.Keypad.{Keypad}
use Rattle.keypad_spec.specs.declared.Keypad.TheVariants.{Good, Gap, Overlap}
use Rattle.keypad_spec.specs.Tables.{rule_count, mask, value, event_of}

-- rule i matches a code: every masked bit of the code is the value's
abbrev pub Matches : List ℕ → ℕ → ℕ → Type 0
Matches b c i = (j : ℕ) → bit (mask b i) j ≡ 1 → bit c j ≡ bit (value b i) j

-- just one rule matches a code
abbrev pub JustOne : List ℕ → ℕ → Type 0
JustOne b c = (i : ℕ) × (i < rule_count b) × Matches b c i × ((k : ℕ) → k < rule_count b → Matches b c k → k ≡ i)

-- the table is good: just one rule matches each code of 0 to 255
abbrev pub GoodTable : List ℕ → Type 0
GoodTable b = (c : ℕ) → c < 256 → JustOne b c

-- the table has a gap at its smallest bad code c: no rule matches it
pub record GapAt (b : List ℕ) (c : ℕ) : Type 0 where
  pub is_code : c < 256
  pub none : (i : ℕ) → i < rule_count b → ¬ Matches b c i
  pub smallest : (d : ℕ) → d < c → JustOne b d

-- the table has an overlap at its smallest bad code c: i and k are the two lowest rules that match it
pub record OverlapAt (b : List ℕ) (c i k : ℕ) : Type 0 where
  pub is_code : c < 256
  pub lower : i < k
  pub is_rule : k < rule_count b
  pub one : Matches b c i
  pub other : Matches b c k
  pub lowest_two : (m : ℕ) → m < k → Matches b c m → m ≡ i
  pub smallest : (d : ℕ) → d < c → JustOne b d

-- what an answer tells of a table; a refusal tells nothing
abbrev pub Tells : List ℕ → Result Keypad ℕ → Type 0
Tells b (Ok Good) = GoodTable b
Tells b (Ok (Gap c)) = GapAt b c
Tells b (Ok (Overlap c i k)) = OverlapAt b c i k
Tells b (Err m) = ⊥

-- some bytes are left over: one or two of a rule that is not whole
abbrev pub PartRule : List ℕ → Type 0
PartRule b = (n : ℕ) × ((length b ≡ 3 * n + 1) ⊎ (length b ≡ 3 * n + 2))

-- 21: there is no rule, there are over 64, or one is not whole
abbrev pub SizeFault : List ℕ → Type 0
SizeFault b = (rule_count b ≡ 0) ⊎ ((64 < rule_count b) ⊎ PartRule b)

-- 22: some rule's value has a bit outside its mask
abbrev pub ValueFault : List ℕ → Type 0
ValueFault b = (i : ℕ) × (i < rule_count b) × ((j : ℕ) × (bit (value b i) j ≡ 1) × (bit (mask b i) j ≡ 0))

-- 23: some rule's event is not below E
abbrev pub EventFault : ℕ → List ℕ → Type 0
EventFault e b = (i : ℕ) × (i < rule_count b) × (e ≤ event_of b i)

-- nothing is refused before 22: the sheet is not, and the bytes are 1 to 64 whole rules
abbrev pub Clear21 : Sheet → List ℕ → Type 0
Clear21 s b = (sheet_fault s ≡ 0) × (¬ SizeFault b)

-- nothing is refused before 23
abbrev pub Clear22 : Sheet → List ℕ → Type 0
Clear22 s b = Clear21 s b × (¬ ValueFault b)
