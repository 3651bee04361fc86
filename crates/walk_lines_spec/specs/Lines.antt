-- The lines that `walk` prints after that of an accepted sheet, as the codes of their characters.
use Rattle.std.specs.Prelude.{List, ◌++◌, ℕ, Result, Ok, Err, take}
use Rattle.text_spec.specs.Lines.{ascii, number_line, numbers_text, trace_line}

-- the line of a walk's length: `walked l of w`, w being the wished length
unfoldable pub length_line : ℕ → ℕ → List ℕ
length_line l wish = numbers_text (ascii "walked ") l (ascii " of ") wish (ascii "\n")

-- the lines of a call's answer: the walk's length, and its events, which are the first of the list; or the refusal
unfoldable pub walk_lines : ℕ → Result ℕ ℕ → List ℕ → List ℕ
walk_lines wish (Ok l) list = length_line l wish ++ trace_line (take l list)
walk_lines wish (Err m) list = number_line (ascii "walk refused ") m
