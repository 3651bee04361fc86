-- Nothing to believe: laws. What the loops put is the bytes of the sheet, and what they count is how many follow the
-- first four.
use Rattle.std.specs.Prelude.{◌≡◌, refl, List, [], ℕ, ◌+◌, ◌*◌, ◌/◌, ◌%◌, ◌≤◌, ◌<◌, length, get_or, take}
use Rattle.std.proofs.Common.{arith, take_all, length-append, length-take}
use Rattle.std.proofs.lemmas.List.{get_or-take}
use Rattle.sheet_spec.specs.declared.Row.{Row}
use Rattle.sheet_spec.specs.declared.Sheet.{Sheet}
use Rattle.sheet_spec.specs.Kept.{no_row, row}
use Rattle.sheet_spec.specs.Form.{SheetForm}
use Rattle.sheet_spec.specs.Refusals.{sheet_fault}
use Rattle.sheet_spec.specs.Sound.{Sound}
use Rattle.sheet_spec.proofs.SoundLaws.{check_sound}
use Rattle.sheet_spec.specs.Encoding.{two, four, encode_words, encode_row, encode_rows}
use Rattle.sheet_spec.proofs.PieceLaws.{words_more, rows_more, words_length, row_length}
use Rattle.text.specs.declared.Page.{Page}
use Rattle.text.specs.Pages.{Puts}
use Rattle.text.proofs.PageLaws.{puts_none, puts_then}
use Rattle.std.specs.Int.{to_be_bytes}
use Rattle.std.proofs.Common.{w16, w32}
use Rattle.sheet_writer.specs.Shapes.{Small}

-- ---- numbers, the high byte first

pub be_two : (x : ℕ) → x < 65536 → to_be_bytes w16 x ≡ two x
unfolding two
be_two x h =
    let a : x / 256 % 256 ≡ x / 256 = omega arith in
    rw a

pub be_four : (x : ℕ) → x < 4294967296 → to_be_bytes w32 x ≡ four x
unfolding four two
be_four x h =
    let a : x / 16777216 % 256 ≡ x / 65536 / 256 = omega arith in
    let b : x / 65536 % 256 ≡ x / 65536 % 256 = refl in
    let c : x / 256 % 256 ≡ x % 65536 / 256 = omega arith in
    let d : x % 256 ≡ x % 65536 % 256 = omega arith in
    rw (a, c, d)

-- ---- steps of the loops

-- no number yet, one more, and all
pub words_start : (p : Page) → Puts (encode_words []) p p
unfolding encode_words
words_start p = puts_none p

pub words_next : {p q r : Page} (xs : List ℕ) (i : ℕ) → i < length xs → Puts (encode_words (take i xs)) p q → Puts (two (get_or xs i 0)) q r
    → Puts (encode_words (take (i + 1) xs)) p r
words_next xs i h a b = rw (words_more xs i h) (puts_then a b)

pub words_end : {p q : Page} (xs : List ℕ) (i : ℕ) → length xs ≤ i → Puts (encode_words (take i xs)) p q → Puts (encode_words xs) p q
words_end xs i h a = rw (take_all i xs h) at a

-- no row yet, one more, and all
pub rows_start : (e : ℕ) (p : Page) → Puts (encode_rows e []) p p
unfolding encode_rows
rows_start e p = puts_none p

pub rows_next : {p q r : Page} (e : ℕ) (rs : List Row) (v : ℕ) → v < length rs → Puts (encode_rows e (take v rs)) p q
    → Puts (encode_row e (get_or rs v no_row)) q r → Puts (encode_rows e (take (v + 1) rs)) p r
rows_next e rs v h a b = rw (rows_more e rs v h) (puts_then a b)

pub rows_end : {p q : Page} (e : ℕ) (rs : List Row) (v : ℕ) → length rs ≤ v → Puts (encode_rows e (take v rs)) p q → Puts (encode_rows e rs) p q
rows_end e rs v h a = rw (take_all v rs h) at a

-- the bytes of one row more are counted
pub size_start : (e : ℕ) → 0 ≡ length (encode_rows e [])
unfolding encode_rows
size_start e = refl

pub size_next : (s : Sheet) → SheetForm s → Small s → (v : ℕ) → v < length (take s.n s.rows) → {size : ℕ} → size ≡ length (encode_rows s.e (take v (take s.n s.rows)))
    → size + (s.e + 1 + (get_or (take s.n s.rows) v no_row).c * 2) ≡ length (encode_rows s.e (take (v + 1) (take s.n s.rows)))
size_next s o small v h e =
    let rs = take s.n s.rows in
    let l : v < s.n = omega (arith, length-take s.n s.rows) in
    let f = o.each v (omega (arith, small.n_high)) in
    let g : get_or rs v no_row ≡ row s v = get_or-take s.n s.rows v no_row l in
    rw (rows_more s.e rs v h, length-append (encode_rows s.e (take v rs)) (encode_row s.e (get_or rs v no_row)), g)
    (omega (arith, e, row_length s.e (row s v) (omega (arith, f.succs, small.e_high)) (omega (arith, f.sets, small.counts v l))))

-- a row in use has at most 16 sets
pub count_few : (s : Sheet) → Small s → (v : ℕ) → v < length (take s.n s.rows) → (get_or (take s.n s.rows) v no_row).c ≤ 16
count_few s small v h =
    let l : v < s.n = omega (arith, length-take s.n s.rows) in
    rw (get_or-take s.n s.rows v no_row l) (small.counts v l)

-- ---- a sheet that a later call accepts

pub small : (s : Sheet) → sheet_fault s ≡ 0 → Small s
small s h =
    let o : Sound s = check_sound s h in
    record { e_high = o.ranges.e_high; n_high = o.ranges.n_high; counts = λ v l. (o.counts v l).1 }

-- ---- for the functions that put

pub ruleset words = (words_start, words_next, words_end, be_two)

pub ruleset rows = (rows_start, rows_next, rows_end)

pub ruleset counts = (words_length, row_length)
