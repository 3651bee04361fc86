-- The first line of `show`, `probe_list`, `keypad_check` and `walk`: the size of an accepted sheet, or the refusal of
-- another with its meaning.
use Rattle.std.specs.Prelude.{cond, List, [], ◌++◌, ℕ, eqb, Result, Ok, Err}
use Rattle.sheet_spec.specs.declared.Sheet.{Sheet}
use Rattle.sheet_spec.specs.Reading.{accepted, zero_sheet}
use Rattle.sheet_spec.specs.declared.ReadSheet.{ReadSheet}
use Rattle.text_spec.specs.Lines.{ascii, decimal, sheet_line}

-- what the number of a broken rule means, in few words (01, "Who can cause a refusal"; 02, K1)
unfoldable pub rule_words : ℕ → List ℕ
rule_words k =
    cond (eqb k 5) (ascii "number of acceptances out of range")
    (cond (eqb k 6) (ascii "a successor is no node")
    (cond (eqb k 7) (ascii "a rule of acceptances is broken")
    (cond (eqb k 8) (ascii "a node cannot be reached")
    (cond (eqb k 18) (ascii "a code is given twice") []))))

-- what the number of a sheet's refusal means: wrong bytes, or a broken rule; no other number is given
unfoldable pub refusal_words : ℕ → List ℕ
refusal_words k =
    cond (eqb k 1) (ascii "too short or its length field is wrong")
    (cond (eqb k 2) (ascii "version is neither 1 nor 2")
    (cond (eqb k 3) (ascii "events or nodes out of range")
    (cond (eqb k 4) (ascii "the bytes end too early or some remain") (rule_words k))))

-- the line of a refused sheet: `sheet refused k meaning`
unfoldable pub refused_sheet_line : ℕ → List ℕ
refused_sheet_line k = ascii "sheet refused " ++ (decimal k ++ (ascii " " ++ (refusal_words k ++ ascii "\n")))

-- a sheet, or the number of its refusal, as it was read
abbrev pub told : Result Sheet ℕ → ReadSheet
told (Ok s) = accepted s
told (Err k) = record { refusal = k; sheet = zero_sheet }

-- the first line of a sheet: `sheet n nodes e events` of an accepted one, else its refusal
unfoldable pub head_line : ReadSheet → List ℕ
head_line a = cond (eqb a.refusal 0) (sheet_line (ascii "sheet ") a.sheet.n a.sheet.e) (refused_sheet_line a.refusal)
