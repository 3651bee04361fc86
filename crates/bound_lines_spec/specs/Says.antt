-- Nothing to believe: words for laws alone. Which words are a number of nodes, and what `bound_pair` writes, spelled
-- out.
use Rattle.std.specs.Prelude.{◌≡◌, List, ◌++◌, ℕ, ◌+◌, ◌-◌, ◌*◌, ◌≤◌}
use Rattle.text_spec.specs.Lines.{ascii, decimal, value_from}
use Rattle.words_spec.specs.Numbers.{Digits}

-- a word is the number n of nodes: one to three digits whose value is n, which is 1 to 32
abbrev pub IsSize : List ℕ → ℕ → Type 0
IsSize word n = Digits 3 word × (value_from 0 word ≡ n) × (1 ≤ n) × (n ≤ 32)

-- a word is no such number
abbrev pub NoSize : List ℕ → Type 0
NoSize word = (n : ℕ) → ¬ IsSize word n

-- the lines of a pair
abbrev pub pair_text : ℕ → ℕ → List ℕ
pair_text p q =
    ascii "reference " ++ (decimal p ++ (ascii " nodes " ++ (decimal (7 * p + 5) ++ (ascii " bytes\ndevice "
    ++ (decimal q ++ (ascii " nodes " ++ (decimal (5 * q + 7) ++ (ascii " bytes\nfirst failing test "
    ++ (decimal (p * q - 1) ++ ascii "\n")))))))))

-- the line of the refusal
abbrev pub refused_text : List ℕ
refused_text = ascii "bound refused 30\n"

-- the line where the third word is none that is known
abbrev pub words_text : List ℕ
words_text = ascii "bound_pair: WORD is reference, device or lines\n"
