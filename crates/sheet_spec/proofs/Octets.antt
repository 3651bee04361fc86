-- Nothing to believe: steps of proofs. What is written of a sheet of the machine's form is bytes, each below 256.
use Rattle.std.specs.Prelude.{Bool, true, false, cond, List, [], ◌∷◌, ◌++◌, ℕ, zero, suc, ◌/◌, ◌%◌, ◌≤◌, ◌<◌, eqb, length, get_or, take}
use Rattle.std.proofs.Common.{arith, length-append, length-take, get_or-take}
use Rattle.sheet_spec.specs.declared.Row.{Row}
use Rattle.sheet_spec.specs.declared.Sheet.{Sheet}
use Rattle.sheet_spec.specs.Kept.{no_row}
use Rattle.sheet_spec.specs.Form.{Bytes, RowForm, SheetForm}
use Rattle.sheet_spec.specs.Encoding.{two, four, encode_words, encode_row, encode_rows, encode_codes, encode_body, encode}

-- every number of a list is below a bound
abbrev pub Below : ℕ → List ℕ → Type 0
Below m l = (i : ℕ) → get_or l i 0 < m

below_cons : (m x : ℕ) (l : List ℕ) → x < m → Below m l → Below m (x ∷ l)
below_cons m x l h f zero = h
below_cons m x l h f (suc i) = f i

below_append : (m : ℕ) (x y : List ℕ) → Below m x → Below m y → Below m (x ++ y)
below_append m [] y f g = g
below_append m (a ∷ x) y f g = below_cons m a (x ++ y) (f 0) (below_append m x y (λ i. f (suc i)) g)

pub below_take : (m n : ℕ) (l : List ℕ) → 0 < m → Below m l → Below m (take n l)
below_take m zero l p f = λ i. p
below_take m (suc n) [] p f = λ i. p
below_take m (suc n) (x ∷ l) p f = below_cons m x (take n l) (f 0) (below_take m n l p (λ i. f (suc i)))

two_bytes : (x : ℕ) → x < 65536 → Bytes (two x)
unfolding two
two_bytes x h = below_cons 256 (x / 256) (x % 256 ∷ []) (omega arith) (below_cons 256 (x % 256) [] (omega arith) (λ i. omega arith))

words_bytes : (xs : List ℕ) → Below 65536 xs → Bytes (encode_words xs)
unfolding encode_words
words_bytes [] f = λ i. omega arith
words_bytes (x ∷ xs) f = below_append 256 (two x) (encode_words xs) (two_bytes x (f 0)) (words_bytes xs (λ j. f (suc j)))

row_bytes_lem : (e : ℕ) (r : Row) → RowForm r → Bytes (encode_row e r)
unfolding encode_row
row_bytes_lem e r o =
    below_append 256 (take e r.succ) (r.c ∷ encode_words (take r.c r.sets)) (below_take 256 e r.succ (omega arith) o.succ_byte_lem)
    (below_cons 256 r.c (encode_words (take r.c r.sets)) o.c_byte
    (words_bytes (take r.c r.sets) (below_take 65536 r.c r.sets (omega arith) o.set_word)))

rows_bytes : (e : ℕ) (rs : List Row) → ((v : ℕ) → v < length rs → RowForm (get_or rs v no_row)) → Bytes (encode_rows e rs)
unfolding encode_rows
rows_bytes e [] f = λ i. omega arith
rows_bytes e (r ∷ rs) f =
    below_append 256 (encode_row e r) (encode_rows e rs) (row_bytes_lem e r (f 0 (omega arith))) (rows_bytes e rs (λ v h. f (suc v) (omega arith)))

codes_bytes_lem : (version : ℕ) (s : Sheet) → SheetForm s → Bytes (encode_codes version s)
unfolding encode_codes
codes_bytes_lem version s o = go (eqb version 2)
  where
    go : (t : Bool) → Bytes (cond t (encode_words (take s.e s.codes)) [])
    go true = words_bytes (take s.e s.codes) (below_take 65536 s.e s.codes (omega arith) o.code_word)
    go false = λ i. omega arith

short : (version : ℕ) (s : Sheet) → length (encode version s) ≤ 1471 → length (encode_body version s) ≤ 1471
unfolding encode
short version s l = omega (arith, length-append (four (length (encode_body version s))) (encode_body version s))

-- the bytes of a sheet that is not too long are bytes
pub bytes_encode : (version : ℕ) → version < 256 → (s : Sheet) → SheetForm s → length (encode version s) ≤ 1471 → Bytes (encode version s)
unfolding encode encode_body four
bytes_encode version h s o l =
    let rs = take s.n s.rows in
    let body = encode_codes version s ++ encode_rows s.e rs in
    let x = length (encode_body version s) in
    below_append 256 (two (x / 65536) ++ two (x % 65536)) (encode_body version s)
    (below_append 256 (two (x / 65536)) (two (x % 65536)) (two_bytes (x / 65536) (omega (arith, short version s l))) (two_bytes (x % 65536) (omega arith)))
    (below_cons 256 version (s.e ∷ (s.n ∷ body)) h
    (below_cons 256 s.e (s.n ∷ body) o.e_byte
    (below_cons 256 s.n body o.n_byte
    (below_append 256 (encode_codes version s) (encode_rows s.e rs) (codes_bytes_lem version s o) (rows_bytes s.e rs each)))))
  where
    each : (v : ℕ) → v < length (take s.n s.rows) → RowForm (get_or (take s.n s.rows) v no_row)
    each v h =
        let w : v < 32 = omega (arith, length-take s.n s.rows, o.rows) in
        let q : v < s.n = omega (arith, length-take s.n s.rows) in
        rw (get_or-take s.n s.rows v no_row q) (o.each v w)
