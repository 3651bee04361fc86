-- Nothing to believe: laws. What the loops put is the bytes of the sheet, and what they count is how many follow the
-- first four; and for callers, that what is put is read back.
use Rattle.std.specs.Prelude.{◌≡◌, Bool, List, [], ◌++◌, eqb, take, drop}
use Rattle.std.proofs.Math.Path.{refl, sym, ap}
use Rattle.std.proofs.Common.{◌∙◌, suc-mul, add-one, arith, take-suc, take_at}
use Rattle.std.proofs.Math.Bool.{true, false, cond}
use Prim.Native.Nat.{ℕ, zero, suc, ◌+◌, ◌*◌, ◌/◌, ◌%◌, ◌≤◌, ◌<◌}
use Rattle.std.proofs.Math.ListN.{length, length-append}
use Rattle.base.specs.Joined.{joined}
use Rattle.sheet_spec.specs.declared.Row.{Row}
use Rattle.sheet_spec.specs.declared.Sheet.{Sheet}
use Rattle.sheet_spec.specs.Kept.{row, successor, acceptance}
use Rattle.sheet_spec.specs.Form.{SheetForm}
use Rattle.sheet_spec.specs.Refusals.{sheet_fault}
use Rattle.sheet_spec.specs.Sound.{Sound}
use Rattle.sheet_spec.proofs.SoundLaws.{check_sound}
use Rattle.sheet_spec.specs.Encoding.{two, four, encode_words, encode_row, encode_rows, encode_codes, encode_body, encode, written_version, sheet_bytes}
use Rattle.sheet_spec.proofs.PieceLaws.{words_none, rows_none, words_more, rows_more, words_length, row_length}
use Rattle.sheet_spec.proofs.EncodingLaws.{bytes_read}
use Rattle.sheet_spec.specs.Reading.{read_sheet, accepted}
use Rattle.text_spec.specs.Adds.{Adds}
use Rattle.text_spec.proofs.AddsLaws.{adds_all, over_fits}
use Rattle.sheet_writer.specs.Shapes.{version_of, code_bytes, codes_bytes, codes_size, succ_byte, set_bytes, row_bytes, node_bytes, row_size, size_to, body_size, head_bytes, all_bytes, Small}

-- ---- steps of the loop that counts

-- one row more
pub size_next : (s : Sheet) (v : ℕ) → size_to s (v + 1) ≡ size_to s v + row_size s.e (row s v)
unfolding size_to
size_next s v = rw (add-one v)

-- a row has at most 45 bytes
pub row_small : (e : ℕ) (r : Row) → e ≤ 12 → r.c ≤ 16 → row_size e r ≤ 45
unfolding row_size
row_small e r h k = omega arith

pub size_end : (s : Sheet) (v n : ℕ) → v ≤ n → n ≤ v → size_to s v ≡ size_to s n
size_end s v n h k = let e : v ≡ n = omega arith in rw e

pub size_none : (s : Sheet) → size_to s 0 ≡ 0
unfolding size_to
size_none s = refl

-- the counts of a sheet that is small, on the way to the whole
pub codes_small : (version e : ℕ) → e ≤ 12 → codes_size version e ≤ 24
unfolding codes_size
codes_small version e h = go (eqb version 2)
  where
    go : (t : Bool) → cond t (e * 2) 0 ≤ 24
    go true = omega arith
    go false = omega arith

pub rows_small : (s : Sheet) → Small s → (k : ℕ) → k ≤ s.n → size_to s k ≤ k * 45
unfolding size_to
rows_small s o zero l = omega arith
rows_small s o (suc k) l = omega (arith, rows_small s o k (omega arith), row_small s.e (row s k) o.e_high (o.counts k l), suc-mul k 45)

-- ---- the pieces are those of the encoding

succs_are : (r : Row) (k : ℕ) → k ≤ length r.succ → joined (succ_byte r) k ≡ take k r.succ
unfolding joined succ_byte successor
succs_are r zero h = refl
succs_are r (suc k) h = rw (succs_are r k (omega arith), take-suc r.succ k 255 h)

sets_are : (r : Row) (k : ℕ) → k ≤ length r.sets → joined (set_bytes r) k ≡ encode_words (take k r.sets)
unfolding joined set_bytes acceptance
sets_are r zero h = sym (words_none r.sets)
sets_are r (suc k) h = rw (sets_are r k (omega arith)) (sym (rw (add-one k) at (words_more r.sets k h)))

codes_are : (codes : List ℕ) (k : ℕ) → k ≤ length codes → joined (code_bytes codes) k ≡ encode_words (take k codes)
unfolding joined code_bytes
codes_are codes zero h = sym (words_none codes)
codes_are codes (suc k) h = rw (codes_are codes k (omega arith)) (sym (rw (add-one k) at (words_more codes k h)))

row_is : (e : ℕ) (r : Row) → e ≤ length r.succ → r.c ≤ length r.sets → row_bytes e r ≡ encode_row e r
unfolding row_bytes encode_row
row_is e r h k = rw (succs_are r e h, sets_are r r.c k)

module _ (s : Sheet) (o : SheetForm s) (h : sheet_fault s ≡ 0) where
  sound : Sound s
  sound = check_sound s h

  pub small : Small s
  small = record { e_high = sound.ranges.e_high; n_high = sound.ranges.n_high; counts = λ v l. (sound.counts v l).1 }

  -- the lists of a node in use are long enough
  long : (v : ℕ) → v < s.n → (s.e ≤ length (row s v).succ) × ((row s v).c ≤ length (row s v).sets)
  long v l =
      let f = o.each v (omega (arith, l, small.n_high)) in
      (omega (arith, f.succs, small.e_high), omega (arith, f.sets, small.counts v l))

  rows_are : (k : ℕ) → k ≤ s.n → joined (node_bytes s) k ≡ encode_rows s.e (take k s.rows)
  unfolding joined node_bytes
  rows_are zero l = sym (rows_none s.e s.rows)
  rows_are (suc k) l =
      let w = long k l in
      rw (rows_are k (omega arith), row_is s.e (row s k) w.0 w.1)
      (sym (rw (add-one k) at (rows_more s.e s.rows k (omega (arith, o.rows, l, small.n_high)))))

  -- ---- and their number is what is counted

  rows_size : (k : ℕ) → k ≤ s.n → length (encode_rows s.e (take k s.rows)) ≡ size_to s k
  unfolding size_to row_size
  rows_size zero l = ap length (rows_none s.e s.rows)
  rows_size (suc k) l =
      let w = long k l in
      ap length (rw (add-one k) at (rows_more s.e s.rows k (omega (arith, o.rows, l, small.n_high))))
      ∙ length-append (encode_rows s.e (take k s.rows)) (encode_row s.e (row s k))
      ∙ rw (rows_size k (omega arith), row_length s.e (row s k) w.0 w.1)

  module _ (version : ℕ) where
    codes_size_lem : length (encode_codes version s) ≡ codes_size version s.e
    unfolding encode_codes codes_size
    codes_size_lem = go (eqb version 2)
      where
        go : (t : Bool) → length (cond t (encode_words (take s.e s.codes)) []) ≡ cond t (s.e * 2) 0
        go true = words_length s.e s.codes (omega (arith, o.codes, small.e_high))
        go false = refl

    codes_bytes_lem : codes_bytes version s.codes s.e ≡ encode_codes version s
    unfolding encode_codes codes_bytes
    codes_bytes_lem = rw (codes_are s.codes s.e (omega (arith, o.codes, small.e_high)))

    -- what is counted fits in 16 bits
    body_few : body_size s version < 65536
    unfolding body_size
    body_few = omega (arith, codes_small version s.e small.e_high, rows_small s small s.n (omega arith), small.n_high)

    -- one piece after another, these are the bytes in the version
    pub all_bytes_lem : all_bytes s version ≡ encode version s
    unfolding all_bytes head_bytes body_size encode encode_body four two
    all_bytes_lem =
        let l : length (encode_body version s) ≡ 3 + codes_size version s.e + size_to s s.n = body_length in
        let a : (3 + codes_size version s.e + size_to s s.n) / 65536 ≡ 0 = omega (arith, body_few) in
        let b : (3 + codes_size version s.e + size_to s s.n) % 65536 ≡ 3 + codes_size version s.e + size_to s s.n = omega (arith, body_few) in
        rw (l, a, b, codes_bytes_lem, rows_are s.n (omega arith))
      where
        body_length : length (encode_body version s) ≡ 3 + codes_size version s.e + size_to s s.n
        body_length =
            unfold encode_body in
            (omega (arith, length-append (encode_codes version s) (encode_rows s.e (take s.n s.rows)), codes_size_lem, rows_size s.n (omega arith)))

  -- in the version of its codes, the bytes that are written of the sheet
  pub bytes_are : all_bytes s (version_of s.e s.codes) ≡ sheet_bytes s
  unfolding version_of written_version
  bytes_are = all_bytes_lem (written_version s)

-- ---- for callers

-- a sheet that is put at the front of a list with room for it is read back from there
pub put_read : (s : Sheet) → SheetForm s → sheet_fault s ≡ 0 → {out after : List ℕ} {next : ℕ} → Adds (sheet_bytes s) out 0 after next → length (sheet_bytes s) ≤ length out
    → (next ≡ length (sheet_bytes s)) × (read_sheet (take next after) ≡ accepted s)
put_read s o h {out} {after} {next} p l =
    let w = adds_all p in
    let e : next ≡ length (sheet_bytes s) = omega (arith, w.1, l) in
    let f : after ≡ sheet_bytes s ++ drop (length (sheet_bytes s)) out = w.0 ∙ over_fits (sheet_bytes s) out l in
    (e, rw (f, take_at (sheet_bytes s) (drop (length (sheet_bytes s)) out) next (sym e)) (bytes_read s o h))
