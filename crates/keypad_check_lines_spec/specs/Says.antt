-- Nothing to believe: words for laws alone. What the words of `keypad_check` are, which inputs are a sheet and a table,
-- and the lines, spelled out.
use Rattle.std.specs.Prelude.{◌≡◌, List, ◌++◌, ℕ, ◌≤◌}
use Rattle.sheet_spec.specs.declared.Sheet.{Sheet}
use Rattle.sheet_spec.specs.Encoding.{BytesOf}
use Rattle.text_spec.specs.Lines.{ascii, decimal, value_from, sheet_line}
use Rattle.words_spec.specs.Numbers.{Digits}
use Rattle.text_pair_spec.specs.BackToBack.{AcceptedSheet}

-- a word is a code: one to five digits whose value is at most 255
abbrev pub IsCode : List ℕ → Type 0
IsCode word = Digits 5 word × (value_from 0 word ≤ 255)

-- the input is the bytes of an accepted sheet and, back to back, those of a table, which may be any
pub record WithTable (input : List ℕ) (s : Sheet) (b : List ℕ) : Type 0 where
  pub sheet_accepted : AcceptedSheet s
  pub sheet_bytes_lem : List ℕ
  pub of_sheet : BytesOf sheet_bytes_lem s
  pub bytes : input ≡ sheet_bytes_lem ++ b

-- the line of a sheet, and then others
abbrev pub after_sheet : Sheet → List ℕ → List ℕ
after_sheet s lines = sheet_line (ascii "sheet ") s.n s.e ++ lines

-- the lines of a good table of n rules, and then others
abbrev pub good_text : ℕ → List ℕ → List ℕ
good_text n more = ascii "table " ++ (decimal n ++ (ascii " rules\ngood\n" ++ more))

-- the lines of a table of n rules with a gap
abbrev pub gap_text : ℕ → ℕ → List ℕ
gap_text n c = ascii "table " ++ (decimal n ++ (ascii " rules\ngap " ++ (decimal c ++ ascii "\n")))

-- the lines of a table of n rules with an overlap
abbrev pub overlap_text : ℕ → ℕ → ℕ → ℕ → List ℕ
overlap_text n c i k =
    ascii "table " ++ (decimal n ++ (ascii " rules\noverlap " ++ (decimal c ++ (ascii " by " ++ (decimal i ++ (ascii " and " ++ (decimal k ++ ascii "\n")))))))

-- the line of a refused table
abbrev pub refused_text : ℕ → List ℕ
refused_text m = ascii "table refused " ++ (decimal m ++ ascii "\n")

-- the line of a code and its event
abbrev pub event_text : ℕ → ℕ → List ℕ
event_text c e = ascii "code " ++ (decimal c ++ (ascii " event " ++ (decimal e ++ ascii "\n")))
