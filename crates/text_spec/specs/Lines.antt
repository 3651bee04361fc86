-- The lines that programs print, as the codes of their characters (01, "The program `compare`"). Each line ends with
-- one newline, words stand one blank apart, and numbers are in base ten.
use Rattle.std.specs.Prelude.{cond, List, [], ◌∷◌, ◌++◌, ℕ, zero, suc, ◌+◌, ◌-◌, ◌*◌, ◌/◌, ◌%◌, ltb}
use Prim.Native.Char.{code}
use Prim.Native.String.{String, [] as []ˢ, ◌∷◌ as ◌∷ˢ◌}

-- the codes of a text's characters
abbrev pub ascii : String → List ℕ
ascii []ˢ = []
ascii (c ∷ˢ s) = code c ∷ ascii s

-- n in base ten, with at most `most` digits
unfoldable pub decimal_in : ℕ → ℕ → List ℕ
decimal_in zero n = []
decimal_in (suc most) n = cond (ltb n 10) ((48 + n) ∷ []) (decimal_in most (n / 10) ++ ((48 + n % 10) ∷ []))

-- n in base ten, without leading zeros (n + 1 digits are always enough)
unfoldable pub decimal : ℕ → List ℕ
decimal n = decimal_in (suc n) n

-- the number that a list of digits writes, after the number that the digits before it write
unfoldable pub value_from : ℕ → List ℕ → ℕ
value_from v [] = v
value_from v (x ∷ t) = value_from (v * 10 + (x - 48)) t

-- a line of some words and a number, as in `reference refused k`, `refines cleared c`, `stray e`
unfoldable pub number_line : List ℕ → ℕ → List ℕ
number_line words k = words ++ (decimal k ++ ascii "\n")

-- two numbers with words before, between and after them
abbrev pub numbers_text : List ℕ → ℕ → List ℕ → ℕ → List ℕ → List ℕ
numbers_text first x between y last = first ++ (decimal x ++ (between ++ (decimal y ++ last)))

-- the line of a sheet's size, as in `reference p nodes e events`
unfoldable pub sheet_line : List ℕ → ℕ → ℕ → List ℕ
sheet_line who n e = numbers_text who n (ascii " nodes ") e (ascii " events\n")

-- a list of events in order, a blank before each
unfoldable pub event_list : List ℕ → List ℕ
event_list [] = []
event_list (e ∷ t) = (ascii " " ++ decimal e) ++ event_list t

-- the line of a trace: `trace e e e`; an empty trace is `trace` alone
unfoldable pub trace_line : List ℕ → List ℕ
trace_line t = ascii "trace" ++ (event_list t ++ ascii "\n")
