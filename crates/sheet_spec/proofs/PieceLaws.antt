-- Nothing to believe: laws. The bytes of a sheet piece by piece, as a loop puts them: one number or one node more, and
-- how many bytes that is.
use Rattle.std.specs.Prelude.{◌≡◌, refl, List, [], ◌∷◌, ◌++◌, ℕ, ◌+◌, ◌*◌, ◌≤◌, ◌<◌, length, get_or, take}
use Rattle.std.proofs.Common.{sym, ap, ◌∙◌, append_assoc, append-nil, add-one, arith, length-append, take-suc, length-take-le}
use Rattle.sheet_spec.specs.declared.Row.{Row}
use Rattle.sheet_spec.specs.Kept.{no_row}
use Rattle.sheet_spec.specs.Encoding.{two, encode_words, encode_row, encode_rows}
use Rattle.sheet_spec.proofs.Written.{length_encode_words}

words_snoc : (xs : List ℕ) (x : ℕ) → encode_words (xs ++ (x ∷ [])) ≡ encode_words xs ++ two x
unfolding encode_words
words_snoc [] x = append-nil (two x)
words_snoc (y ∷ xs) x = ap (λ (l : List ℕ). two y ++ l) (words_snoc xs x) ∙ sym (append_assoc (two y) (encode_words xs) (two x))

rows_snoc : (e : ℕ) (rs : List Row) (r : Row) → encode_rows e (rs ++ (r ∷ [])) ≡ encode_rows e rs ++ encode_row e r
unfolding encode_rows
rows_snoc e [] r = append-nil (encode_row e r)
rows_snoc e (x ∷ rs) r = ap (λ (l : List ℕ). encode_row e x ++ l) (rows_snoc e rs r) ∙ sym (append_assoc (encode_row e x) (encode_rows e rs) (encode_row e r))

-- no number, no node: no byte
pub words_none : (xs : List ℕ) → encode_words (take 0 xs) ≡ []
unfolding encode_words
words_none xs = refl

pub rows_none : (e : ℕ) (rs : List Row) → encode_rows e (take 0 rs) ≡ []
unfolding encode_rows
rows_none e rs = refl

-- one number, one node more: its bytes after those before
pub words_more : (xs : List ℕ) (i : ℕ) → i < length xs → encode_words (take (i + 1) xs) ≡ encode_words (take i xs) ++ two (get_or xs i 0)
words_more xs i l = rw (add-one i, take-suc xs i 0 l) (words_snoc (take i xs) (get_or xs i 0))

pub rows_more : (e : ℕ) (rs : List Row) (v : ℕ) → v < length rs → encode_rows e (take (v + 1) rs) ≡ encode_rows e (take v rs) ++ encode_row e (get_or rs v no_row)
rows_more e rs v l = rw (add-one v, take-suc rs v no_row l) (rows_snoc e (take v rs) (get_or rs v no_row))

-- two bytes for each number
pub words_length : (n : ℕ) (xs : List ℕ) → n ≤ length xs → length (encode_words (take n xs)) ≡ n * 2
words_length n xs l = length_encode_words (take n xs) ∙ ap (λ (k : ℕ). k * 2) (length-take-le n xs l)

-- a node: its successors, its C, two bytes for each set
pub row_length : (e : ℕ) (r : Row) → e ≤ length r.succ → r.c ≤ length r.sets → length (encode_row e r) ≡ e + 1 + r.c * 2
unfolding encode_row
row_length e r h k =
    omega (
      arith,
      length-append (take e r.succ) (r.c ∷ encode_words (take r.c r.sets)),
      length-take-le e r.succ h,
      words_length r.c r.sets k,
    )
