-- Nothing to believe: words for laws alone. What the words of `walk` are, which inputs are a sheet, and the lines,
-- spelled out.
use Rattle.std.specs.Prelude.{List, ◌++◌, ℕ, ◌≤◌, length}
use Rattle.sheet_spec.specs.declared.Sheet.{Sheet}
use Rattle.sheet_spec.specs.Encoding.{BytesOf}
use Rattle.text_spec.specs.Lines.{ascii, decimal, value_from, sheet_line, event_list}
use Rattle.words_spec.specs.Numbers.{Digits}
use Rattle.text_pair_spec.specs.BackToBack.{AcceptedSheet}

-- a word is a seed: one to ten digits whose value is 1 to 4,294,967,295
abbrev pub IsSeed : List ℕ → Type 0
IsSeed word = Digits 10 word × ((1 ≤ value_from 0 word) × (value_from 0 word ≤ 4294967295))

-- a word is a wished length: one to five digits whose value is at most 4,096
abbrev pub IsWish : List ℕ → Type 0
IsWish word = Digits 5 word × (value_from 0 word ≤ 4096)

-- the input is the bytes of an accepted sheet
pub record OfSheet (input : List ℕ) (s : Sheet) : Type 0 where
  pub sheet_accepted : AcceptedSheet s
  pub bytes : BytesOf input s

-- the line of a sheet, and then others
abbrev pub after_sheet : Sheet → List ℕ → List ℕ
after_sheet s lines = sheet_line (ascii "sheet ") s.n s.e ++ lines

-- the lines of the walk t for a wished length
abbrev pub walked_text : ℕ → List ℕ → List ℕ
walked_text wish t =
    ascii "walked " ++ (decimal (length t) ++ (ascii " of " ++ (decimal wish ++ (ascii "\ntrace" ++ (event_list t ++ ascii "\n")))))

-- the line of a refused call
abbrev pub refused_text : ℕ → List ℕ
refused_text m = ascii "walk refused " ++ (decimal m ++ ascii "\n")
