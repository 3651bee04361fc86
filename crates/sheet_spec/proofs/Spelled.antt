-- Nothing to believe: steps of proofs. Bytes with a right head and layout are the bytes, in their version, of the sheet
-- that they spell: code by code and node by node, what is written of what was read, before the bytes after it, is what
-- stood there.
use Rattle.std.specs.Prelude.{◌≡◌, ◌⊎◌, true, false, get_or, take, drop, eqb}
use Rattle.std.proofs.Common.{sym, ◌∙◌, inl, inr, length-drop, get_or-take, length-take-le, lt-ltb, eq-eqb, eqb-true}
use mathlib.Core.List.{List, [], ◌∷◌, ◌++◌, append_assoc}
use Prim.Native.Nat.{ℕ, suc, ◌+◌, ◌*◌, ◌/◌, ◌%◌, ◌≤◌, ◌<◌}
use Rattle.std.proofs.Math.Nat.{add-zero}
use native.Mathlib.Omega.{arith}
use Rattle.std.proofs.Math.ListN.{length}
use Rattle.std.proofs.Math.Seq.{drop-cons, drop-length}
use Rattle.base.proofs.Truth.{dec}
use Rattle.base.proofs.Refusal.{or_else→}
use Rattle.base.specs.Table.{up_to}
use Rattle.base.proofs.Table.{length_up_to, get_or_up_to}
use Rattle.sheet_spec.specs.declared.Row.{Row}
use Rattle.sheet_spec.specs.Kept.{no_row}
use Rattle.sheet_spec.specs.Form.{Bytes}
use Rattle.sheet_spec.specs.Spelling.{byte, word, length_field, version, event_count, node_count, nodes_at, code_of, codes_of, count_at, next_at, start_of, succ_of, sets_of, row_at, row_of, sheet_of}
use Rattle.sheet_spec.specs.Refusals.{head_fault, codes_fault, layout_fault, bytes_fault}
use Rattle.sheet_spec.specs.Encoding.{two, four, encode_words, encode_row, encode_rows, encode_codes, encode_body, encode}
use Rattle.sheet_spec.proofs.Places.{Node, Head, head, whole, last_end}
use Rattle.sheet_spec.proofs.RuleLaws.{ranges→}
use Rattle.sheet_spec.proofs.Slices.{drop_two, part_tail}

-- a number of two bytes, and of four, in its bytes
two_word : (x y : ℕ) → y < 256 → two (x * 256 + y) ≡ x ∷ (y ∷ [])
unfolding two
two_word x y h =
    let p : (x * 256 + y) / 256 ≡ x = omega arith in
    let q : (x * 256 + y) % 256 ≡ y = omega arith in
    rw (p, q)

four_words : (x y z w : ℕ) → y < 256 → z < 256 → w < 256 → four ((x * 256 + y) * 65536 + (z * 256 + w)) ≡ x ∷ (y ∷ (z ∷ (w ∷ [])))
unfolding four
four_words x y z w g h k =
    let p : ((x * 256 + y) * 65536 + (z * 256 + w)) / 65536 ≡ x * 256 + y = omega arith in
    let q : ((x * 256 + y) * 65536 + (z * 256 + w)) % 65536 ≡ z * 256 + w = omega arith in
    rw (p, q, two_word x y g, two_word z w k)

module _ (b : List ℕ) (y : Bytes b) where
  -- numbers of two bytes that were read from a place on, written again, are what stood there
  words_back : (xs : List ℕ) (at : ℕ) → at + length xs * 2 ≤ length b → ((j : ℕ) → j < length xs → get_or xs j 0 ≡ word b (at + j * 2))
      → encode_words xs ++ drop (at + length xs * 2) b ≡ drop at b
  unfolding encode_words
  words_back [] at h f = rw add-zero
  words_back (x ∷ xs) at h f =
      let e : at + suc (length xs) * 2 ≡ at + 2 + length xs * 2 = omega arith in
      let p : x ≡ word b at = rw add-zero at (f 0 (omega arith)) in
      rw (p, e, two_word (byte b at) (byte b (at + 1)) (y (at + 1)))
      (rw (words_back xs (at + 2) (omega arith) (λ j k. f (suc j) (omega arith) ∙ rw (next j))) (sym (drop_two b at 0 (omega arith))))
    where
      next : (j : ℕ) → at + suc j * 2 ≡ at + 2 + j * 2
      next j = omega arith

-- the successors and the sets that are read at a place, before they are written again
succs_length : (b : List ℕ) (e at : ℕ) → e ≤ 12 → length (take e (up_to (succ_of b at e) 12)) ≡ e
succs_length b e at h = length-take-le e (up_to (succ_of b at e) 12) (omega (arith, length_up_to (succ_of b at e) 12))

succs_at : (b : List ℕ) (e at i : ℕ) → e ≤ 12 → i < e → get_or (take e (up_to (succ_of b at e) 12)) i 0 ≡ byte b (at + i)
unfolding succ_of
succs_at b e at i h k = get_or-take e (up_to (succ_of b at e) 12) i 0 k ∙ get_or_up_to (succ_of b at e) 12 i 0 (omega arith) ∙ rw (lt-ltb i e k)

sets_length : (b : List ℕ) (c at : ℕ) → c ≤ 16 → length (take c (up_to (sets_of b at c) 16)) ≡ c
sets_length b c at h = length-take-le c (up_to (sets_of b at c) 16) (omega (arith, length_up_to (sets_of b at c) 16))

sets_at : (b : List ℕ) (c at j : ℕ) → c ≤ 16 → j < c → get_or (take c (up_to (sets_of b at c) 16)) j 0 ≡ word b (at + j * 2)
unfolding sets_of
sets_at b c at j h k = get_or-take c (up_to (sets_of b at c) 16) j 0 k ∙ get_or_up_to (sets_of b at c) 16 j 0 (omega arith) ∙ rw (lt-ltb j c k)

module _ (b : List ℕ) (y : Bytes b) where
  succs_row : (e at : ℕ) → e ≤ 12 → at + e ≤ length b → take e (up_to (succ_of b at e) 12) ++ drop (at + e) b ≡ drop at b
  succs_row e at h k =
      let l = succs_length b e at h in
      rw l at (part_tail b (take e (up_to (succ_of b at e) 12)) at 0 (omega arith) (λ i m. succs_at b e at i h (omega arith)))

  sets_row : (c at : ℕ) → c ≤ 16 → at + c * 2 ≤ length b → encode_words (take c (up_to (sets_of b at c) 16)) ++ drop (at + c * 2) b ≡ drop at b
  sets_row c at h k =
      let l = sets_length b c at h in
      rw l at (words_back b y (take c (up_to (sets_of b at c) 16)) at (omega arith) (λ j m. sets_at b c at j h (omega arith)))

  -- a node that is whole, read and written again, is what stood there
  pub row_back : (e at : ℕ) → e ≤ 12 → Node b e at → encode_row e (row_at b e at) ++ drop (next_at b e at) b ≡ drop at b
  unfolding encode_row row_at next_at
  row_back e at h w =
      let c = count_at b e at in
      let z : at + e + 1 ≡ suc (at + e) = omega arith in
      append_assoc (take e (up_to (succ_of b at e) 12)) (c ∷ encode_words (take c (up_to (sets_of b (at + e + 1) c) 16))) (drop (at + e + 1 + c * 2) b)
      ∙ rw (sets_row c (at + e + 1) w.c_high w.ends) (rw (z, ← drop-cons b (at + e) 0 w.c_inside) (succs_row e at h (omega (arith, w.c_inside))))

  module _ (e n : ℕ) (h : e ≤ 12) (l : layout_fault b e n (nodes_at b) ≡ 0) where
    -- the nodes from node v on, written again, are the bytes from its start on
    rows_back : (rs : List Row) (v : ℕ) → v + length rs ≡ n → ((j : ℕ) → j < length rs → get_or rs j no_row ≡ row_at b e (start_of b e (v + j)))
        → encode_rows e rs ≡ drop (start_of b e v) b
    unfolding encode_rows start_of
    rows_back [] v k f =
        let p : v ≡ n = omega arith in
        rw (p, last_end b e n l) (sym (drop-length b))
    rows_back (r ∷ rs) v k f =
        let p : r ≡ row_at b e (start_of b e v) = rw add-zero at (f 0 (omega arith)) in
        rw (p, rows_back rs (suc v) (omega arith) (λ j m. f (suc j) (omega arith) ∙ rw (next j))) (row_back e (start_of b e v) h (whole b e n l v (omega arith)))
      where
        next : (j : ℕ) → v + suc j ≡ suc v + j
        next j = omega arith

-- the rows in use of what is read
rows_length : (b : List ℕ) (e n : ℕ) → n ≤ 32 → length (take n (up_to (row_of b e n) 32)) ≡ n
rows_length b e n h = length-take-le n (up_to (row_of b e n) 32) (omega (arith, length_up_to (row_of b e n) 32))

rows_at : (b : List ℕ) (e n v : ℕ) → n ≤ 32 → v < n → get_or (take n (up_to (row_of b e n) 32)) v no_row ≡ row_at b e (start_of b e v)
unfolding row_of
rows_at b e n v h k = get_or-take n (up_to (row_of b e n) 32) v no_row k ∙ get_or_up_to (row_of b e n) 32 v no_row (omega arith) ∙ rw (lt-ltb v n k)

rows_spelled : (b : List ℕ) → Bytes b → (e n : ℕ) → e ≤ 12 → n ≤ 32 → layout_fault b e n (nodes_at b) ≡ 0
    → encode_rows e (take n (up_to (row_of b e n) 32)) ≡ drop (nodes_at b) b
unfolding start_of
rows_spelled b y e n h k l =
    let m = rows_length b e n k in
    rows_back b y e n h l (take n (up_to (row_of b e n) 32)) 0 (omega arith) (λ j i. rw (zero_in j) (rows_at b e n j k (omega arith)))
  where
    zero_in : (j : ℕ) → 0 + j ≡ j
    zero_in j = omega arith

-- the codes that are read, before they are written again
codes_length : (b : List ℕ) (e : ℕ) → e ≤ 12 → length (take e (codes_of b)) ≡ e
codes_length b e h = length-take-le e (codes_of b) (omega (arith, length_up_to (code_of b) 12))

codes_at : (b : List ℕ) → version b ≡ 2 → event_count b ≤ 12 → (i : ℕ) → i < event_count b → get_or (take (event_count b) (codes_of b)) i 0 ≡ word b (7 + i * 2)
unfolding code_of
codes_at b v h i k =
    get_or-take (event_count b) (codes_of b) i 0 k ∙ get_or_up_to (code_of b) 12 i 0 (omega arith) ∙ rw (lt-ltb i (event_count b) k, eq-eqb (version b) 2 v)

-- the codes, written again in the version that was read, are what stood between the head and the nodes
codes_back : (b : List ℕ) → Bytes b → event_count b ≤ 12 → nodes_at b ≤ length b → encode_codes (version b) (sheet_of b) ++ drop (nodes_at b) b ≡ drop 7 b
unfolding encode_codes nodes_at sheet_of
codes_back b y h k = go (dec (eqb (version b) 2)) k
  where
    go : (eqb (version b) 2 ≡ true) ⊎ (eqb (version b) 2 ≡ false) → nodes_at b ≤ length b → encode_codes (version b) (sheet_of b) ++ drop (nodes_at b) b ≡ drop 7 b
    go (inl t) k =
        let l = codes_length b (event_count b) h in
        rw t (rw l at (words_back b y (take (event_count b) (codes_of b)) 7 (omega (arith, rw t at k)) (λ i m. codes_at b (eqb-true (version b) 2 t) h i (omega arith))))
    go (inr t) k = rw t

body_spelled : (b : List ℕ) → Bytes b → Head b → layout_fault b (event_count b) (node_count b) (nodes_at b) ≡ 0 → encode_body (version b) (sheet_of b) ≡ drop 4 b
unfolding encode_body sheet_of
body_spelled b y a l =
    let w = a.long in
    let r = ranges→ (event_count b) (node_count b) a.ranges in
    let k : nodes_at b ≤ length b = unfold start_of in omega (arith, (whole b (event_count b) (node_count b) l 0 r.n_low).c_inside) in
    rw (rows_spelled b y (event_count b) (node_count b) r.e_high r.n_high l, codes_back b y r.e_high k, ← drop-cons b 6 0 w)
    (sym (drop_two b 4 0 (omega arith)))

pub head_spelled : (b : List ℕ) → Bytes b → 7 ≤ length b → four (length_field b) ++ drop 4 b ≡ b
unfolding length_field
head_spelled b y h =
    rw (four_words (byte b 0) (byte b 1) (byte b 2) (byte b 3) (y 1) (y 2) (y 3), ← drop_two b 2 0 (omega arith)) (sym (drop_two b 0 0 (omega arith)))

-- bytes with a right head and layout are the bytes of the sheet that they spell in their version, whatever its rules
pub encode_spelled : (b : List ℕ) → Bytes b → head_fault b ≡ 0 → layout_fault b (event_count b) (node_count b) (nodes_at b) ≡ 0 → encode (version b) (sheet_of b) ≡ b
unfolding encode
encode_spelled b y h k =
    let a = head b h in
    let l : length (drop 4 b) ≡ length_field b = omega (arith, length-drop 4 b, a.length_is) in
    rw (body_spelled b y a k, l) (head_spelled b y a.long)

-- accepted bytes are the bytes of the sheet that they spell in their version
pub encode_sheet_of : (b : List ℕ) → Bytes b → bytes_fault b ≡ 0 → encode (version b) (sheet_of b) ≡ b
unfolding bytes_fault
encode_sheet_of b y h =
    let x = or_else→ (head_fault b) _ h in
    let w = or_else→ (codes_fault b) _ x.1 in
    let z = or_else→ (layout_fault b (event_count b) (node_count b) (nodes_at b)) _ w.1 in
    encode_spelled b y x.0 z.0
