-- The text that `show` prints, as a function of its input: the first line, the lines of the catalogue codes where they
-- are not those of version 1 (02, K1), and the lines of each node in order.
use Rattle.std.specs.Prelude.{cond, List, [], ◌++◌, ℕ, eqb}
use Rattle.base.specs.Joined.{joined}
use Rattle.sheet_spec.specs.declared.Row.{Row}
use Rattle.sheet_spec.specs.declared.Sheet.{Sheet}
use Rattle.sheet_spec.specs.declared.ReadSheet.{ReadSheet}
use Rattle.sheet_spec.specs.Kept.{code_at, row, successor, acceptance, may_stop}
use Rattle.sheet_spec.specs.Rules.{first_codes_ok}
use Rattle.sheet_spec.specs.Reading.{read_sheet}
use Rattle.text_spec.specs.Lines.{ascii, number_line, numbers_text}
use Rattle.text_spec.specs.Sets.{set_words}
use Rattle.text_spec.specs.Input.{cut_input}
use Rattle.text_sheet_spec.specs.Head.{head_line}

-- the line of the catalogue code of event i: `code i c`
unfoldable pub code_line : List ℕ → ℕ → List ℕ
code_line codes i = numbers_text (ascii "code ") i (ascii " ") (code_at codes i) (ascii "\n")

-- the lines of the codes of the first e events in order, none where they are those of version 1
unfoldable pub codes_lines : ℕ → List ℕ → List ℕ
codes_lines e codes = cond (first_codes_ok e codes) [] (joined (code_line codes) e)

-- the line of an event that leads to node w: `event i to w`
unfoldable pub event_line : ℕ → ℕ → List ℕ
event_line i w = numbers_text (ascii "event ") i (ascii " to ") w (ascii "\n")

-- the line of event i at a node, none where it has no successor
unfoldable pub successor_line : Row → ℕ → List ℕ
successor_line r i = cond (eqb (successor r i) 255) [] (event_line i (successor r i))

-- the line of an acceptance: `accepts x ( e e )`
unfoldable pub accepts_line : ℕ → List ℕ
accepts_line x = ascii "accepts " ++ (set_words x ++ ascii "\n")

-- the line of the acceptance at place j of a node
unfoldable pub acceptance_line : Row → ℕ → List ℕ
acceptance_line r j = accepts_line (acceptance r j)

-- the last lines of a node: `may stop`, or the acceptances in order
unfoldable pub rest_lines : Row → List ℕ
rest_lines r = cond (may_stop r) (ascii "may stop\n") (joined (acceptance_line r) r.c)

-- all lines of node v with e events
unfoldable pub row_lines : ℕ → Row → ℕ → List ℕ
row_lines e r v = number_line (ascii "node ") v ++ (joined (successor_line r) e ++ rest_lines r)

-- the lines of node v of a sheet
unfoldable pub node_lines : Sheet → ℕ → List ℕ
node_lines s v = row_lines s.e (row s v) v

-- the lines of an accepted sheet after its first: those of its codes, and those of each node
unfoldable pub body_lines : Sheet → List ℕ
body_lines s = codes_lines s.e s.codes ++ joined (node_lines s) s.n

-- all lines of a sheet as it was read
unfoldable pub show_lines : ReadSheet → List ℕ
show_lines a = head_line a ++ cond (eqb a.refusal 0) (body_lines a.sheet) []

-- the text that `show` prints for an input
unfoldable pub show_text : List ℕ → List ℕ
show_text input = show_lines (read_sheet (cut_input input))
