-- Which report a line of `live` is, and which test its words ask for. A line comes without its newline.
use Rattle.std.specs.Prelude.{Bool, false, not, ◌&&◌, ◌||◌, cond, List, ℕ, ◌-◌, eqb, leb, length, get_or, take, drop}
use Rattle.text_spec.specs.Lines.{ascii}
use Rattle.words_spec.specs.Numbers.{number_in, number_of}
use Rattle.words_spec.specs.Same.{same_text}
use Rattle.tests_spec.specs.declared.Report.{Report}
use Rattle.tests_spec.specs.declared.Report.TheVariants.{Event, Blocked}
use Rattle.live_lines_spec.specs.declared.Asked.{Asked}

-- the event that a text names: `event ` and one to three digits; every other text names 255, an event that no sheet has
unfoldable pub event_named : List ℕ → ℕ
event_named words = cond (same_text (take 6 words) (ascii "event ")) (number_in 3 254 (drop 6 words)) 255

-- the report that a text is: `blocked`, or an event
unfoldable pub report_of : List ℕ → Report
report_of words = cond (same_text words (ascii "blocked")) Blocked (Event (event_named words))

-- how many bytes of a line count: all, but for one carriage return (13) where it is the last
unfoldable pub counted_bytes : List ℕ → ℕ
counted_bytes line = cond (eqb (get_or line (length line - 1) 0) 13) (length line - 1) (length line)

-- the report that a line is, by the bytes of it that count
unfoldable pub heard : List ℕ → Report
heard line = report_of (take (counted_bytes line) line)

-- whether the word after k and h, if there is one, is `traces`
unfoldable pub last_ok : Bool → List ℕ → Bool
last_ok there word = not there || same_text word (ascii "traces")

-- whether the words ask for a test at all: k and h are numbers, and the last word is right
unfoldable pub words_ok : List ℕ → List ℕ → Bool → List ℕ → Bool
words_ok k h there word = leb (number_of k) 65535 && (leb (number_of h) 65535 && last_ok there word)

-- test 65,535, which is none: its opening is refused with 14
abbrev pub no_test : Asked
no_test = record { k = 65535; h = 0; trace_only = false }

-- the test that the words ask for; the word `traces` makes it trace-only. Bad words ask for none
unfoldable pub asked_of : List ℕ → List ℕ → Bool → List ℕ → Asked
asked_of k h there word =
    cond (words_ok k h there word) (record { k = number_of k; h = number_of h; trace_only = there }) no_test
