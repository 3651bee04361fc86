-- Nothing to believe: for the programs of cases. What a line of a Run program is after each byte, and the check number
-- of a list.
use Rattle.std.specs.Prelude.{true, false, cond, ◌&&◌, List, [], ◌∷◌, ℕ, zero, suc, ◌+◌, ◌-◌, ◌*◌, ◌%◌, eqb, ltb, get_or, replicate, set}
use Rattle.cases_lines.specs.declared.Line.{Line}

-- a line of which nothing has come
unfoldable pub new_line : Line
new_line = record { named = false; begun = false; x = 0; count = 0; numbers = replicate 64 0 }

-- a line with a digit more, where it is one and the number has room for it
unfoldable pub with_digit : Line → ℕ → Line
with_digit l d = record {
  named = l.named;
  begun = true;
  x = cond (ltb d 10 && ltb (l.x * 10 + d) 65536) (l.x * 10 + d) l.x;
  count = l.count;
  numbers = l.numbers;
}

-- a line with its number at an end: it is kept, where one has begun and there is a place
unfoldable pub with_number : Line → Line
with_number l = record {
  named = l.named;
  begun = false;
  x = 0;
  count = cond (l.begun && ltb l.count 64) (l.count + 1) l.count;
  numbers = cond (l.begun && ltb l.count 64) (set l.numbers l.count l.x) l.numbers;
}

-- a line after a byte more: of the name, which a colon ends; then of a number, which anything below `0` ends
unfoldable pub line_after : Line → ℕ → Line
line_after l b =
    cond l.named
    (cond (ltb b 48) (with_number l) (with_digit l (b - 48)))
    (record { named = eqb b 58; begun = l.begun; x = l.x; count = l.count; numbers = l.numbers })

-- number i of a line, 0 past its end
unfoldable pub number_at : Line → ℕ → ℕ
number_at l i = cond (ltb i 64) (get_or l.numbers i 0) 0

-- a number as a byte, 255 for one above 255
unfoldable pub small_of : ℕ → ℕ
small_of x = cond (ltb x 256) x 255

-- a check number with a number more
unfoldable pub check_with : ℕ → ℕ → ℕ
check_with check x = (check % 65521 * 31 + x) % 65521

-- a check number with the first n places of a list more
unfoldable pub check_up_to : List ℕ → ℕ → ℕ → ℕ
check_up_to list check zero = check
check_up_to list check (suc n) = check_with (check_up_to list check n) (get_or list n 0)

-- the lines that end among some bytes, of which the first begins as a line so far
unfoldable pub ended : Line → List ℕ → List Line
ended l [] = []
ended l (b ∷ bs) = cond (l.named && eqb b 10) (line_after l b ∷ ended new_line bs) (ended (line_after l b) bs)
