-- Nothing to believe: steps of proofs. The bytes of a sheet that a later call accepts, in a version in which it can be
-- written, are read as that sheet: node by node, what is left of the bytes says what is read there.
use Rattle.std.specs.Prelude.{◌≡◌, ◌⊎◌, false, ◌&&◌, ◌||◌, take, drop, replicate}
use Rattle.std.proofs.Math.Path.{refl}
use Rattle.std.proofs.Common.{sym, ◌∙◌, inl, inr, add-zero, drop-cons, length-take-le, ext_get_or}
use Rattle.std.proofs.Math.Bool.{Bool, true}
use mathlib.Core.List.{List, [], ◌∷◌, ◌++◌, append_assoc}
use Prim.Native.Nat.{ℕ, zero, suc, ◌+◌, ◌*◌, ◌/◌, ◌%◌, ◌≤◌, ◌<◌}
use native.Mathlib.Omega.{arith}
use Rattle.std.proofs.Math.Dec.{eqb, ltb}
use Rattle.std.proofs.Math.ListN.{length, get_or, length-append, get_or-append}
use Rattle.std.proofs.lemmas.List.{get_or-replicate, get_or_at}
use Rattle.std.proofs.Math.Seq.{get_or-take}
use borrow.Author.Tests.{lt-ltb, le-ltb, le-leb, eq-eqb, eqb-true}
use Rattle.base.proofs.Truth.{clash, lt_or_ge, and_l, and_r, and_i, or_e}
use Rattle.base.specs.Range.{all}
use Rattle.base.proofs.Range.{all→}
use Rattle.base.specs.Refusal.{or_else}
use Rattle.base.proofs.Refusal.{unless←}
use Rattle.base.specs.Table.{up_to}
use Rattle.sheet_spec.specs.declared.Row.{Row}
use Rattle.sheet_spec.specs.declared.Sheet.{Sheet}
use Rattle.sheet_spec.specs.Kept.{no_row, code, row, successor, acceptance}
use Rattle.sheet_spec.specs.Rules.{version_ok, ranges_ok, codes_ok, count_ok, counts_ok, blank, unused_ok, blanks_ok, codes_blank}
use Rattle.sheet_spec.specs.Refusals.{head_fault, codes_fault, layout_fault, bytes_fault, sheet_fault}
use Rattle.sheet_spec.specs.Form.{SheetForm}
use Rattle.sheet_spec.specs.Spelling.{byte, word, length_field, version, event_count, node_count, nodes_at, code_of, codes_of, count_at, next_at, start_of, succ_of, sets_of, row_at, unused_row, row_of, sheet_of}
use Rattle.sheet_spec.specs.Encoding.{two, four, encode_words, encode_row, encode_rows, encode_codes, encode_body, encode, Writable}
use Rattle.sheet_spec.proofs.RuleLaws.{between→, ranges→}
use Rattle.sheet_spec.specs.Sound.{Ranges}
use Rattle.sheet_spec.proofs.Accepted.{Passes, passes, graph_passed}
use Rattle.sheet_spec.proofs.Slices.{get_d_inside, up_to_is, get_d_tail, drop_tail, length_tail}

-- two rows with the same fields are one row
pub row_path : (x y : Row) → x.succ ≡ y.succ → x.sets ≡ y.sets → x.c ≡ y.c → x ≡ y
row_path x y p q r = λ i. record { succ = p i; sets = q i; c = r i }

-- what a row that is left blank holds from a place on
module _ (e c : ℕ) (r : Row) (t : blank e c r ≡ true) where
  blank_succ : (i : ℕ) → i < 12 → e ≤ i → successor r i ≡ 255
  unfolding blank
  blank_succ i h k = go (or_e (ltb i e) (eqb (successor r i) 255) (all→ f 12 i (and_l (all f 12) _ t) h))
    where
      f : ℕ → Bool
      f i = ltb i e || eqb (successor r i) 255

      go : (ltb i e ≡ true) ⊎ (eqb (successor r i) 255 ≡ true) → successor r i ≡ 255
      go (inl q) = absurd (clash q (le-ltb i e k))
      go (inr q) = eqb-true (successor r i) 255 q

  blank_set : (j : ℕ) → j < 16 → c ≤ j → acceptance r j ≡ 0
  unfolding blank
  blank_set j h k = go (or_e (ltb j c) (eqb (acceptance r j) 0) (all→ f 16 j (and_r (all (λ i. ltb i e || eqb (successor r i) 255) 12) (all f 16) t) h))
    where
      f : ℕ → Bool
      f j = ltb j c || eqb (acceptance r j) 0

      go : (ltb j c ≡ true) ⊎ (eqb (acceptance r j) 0 ≡ true) → acceptance r j ≡ 0
      go (inl q) = absurd (clash q (le-ltb j c k))
      go (inr q) = eqb-true (acceptance r j) 0 q

-- a row of a node in use: as long as the machine's, its C in range, its unused places blank
record RowFits (e : ℕ) (r : Row) : Type 0 where
  succs : length r.succ ≡ 12
  sets : length r.sets ≡ 16
  c_ok : count_ok r.c ≡ true
  c_high : r.c ≤ 16
  blanks : blank e r.c r ≡ true

-- numbers of two bytes take twice as many bytes
pub length_encode_words : (xs : List ℕ) → length (encode_words xs) ≡ length xs * 2
unfolding encode_words two
length_encode_words [] = refl
length_encode_words (x ∷ xs) = omega (arith, length_encode_words xs)

-- where numbers of two bytes are written, each is read
words_read : (b xs post : List ℕ) (at : ℕ) → drop at b ≡ encode_words xs ++ post → (j : ℕ) → j < length xs → word b (at + j * 2) ≡ get_or xs j 0
unfolding encode_words two
words_read b [] post at h j k = absurd (omega arith)
words_read b (x ∷ xs) post at h zero k =
    let p : byte b (at + 0 * 2) ≡ x / 256 = get_d_tail b _ at 0 0 h in
    let q : byte b (at + 0 * 2 + 1) ≡ x % 256 = rw add-zero (get_d_tail b _ at 1 0 h) in
    omega arith
words_read b (x ∷ xs) post at h (suc j) k =
    let e : at + suc j * 2 ≡ at + 2 + j * 2 = omega arith in
    rw e (words_read b xs post (at + 2) (drop_tail b (x / 256 ∷ (x % 256 ∷ [])) (encode_words xs ++ post) at 2 h refl) j (omega arith))

-- a node that is written at a place
module _ (b : List ℕ) (e at : ℕ) (r : Row) (post : List ℕ) (k : e ≤ 12) (f : RowFits e r) (h : drop at b ≡ encode_row e r ++ post) where
  front : length (take e r.succ) ≡ e
  front = length-take-le e r.succ (omega (arith, f.succs))

  opened : drop at b ≡ take e r.succ ++ (r.c ∷ (encode_words (take r.c r.sets) ++ post))
  unfolding encode_row
  opened = h ∙ append_assoc (take e r.succ) (r.c ∷ encode_words (take r.c r.sets)) post

  succ_read : (i : ℕ) → i < e → byte b (at + i) ≡ get_or r.succ i 0
  succ_read i l =
      get_d_tail b _ at i 0 opened
      ∙ get_or-append (take e r.succ) (r.c ∷ (encode_words (take r.c r.sets) ++ post)) 0 i (omega (arith, front)) ∙ get_or-take e r.succ i 0 l

  c_read : count_at b e at ≡ r.c
  c_read = get_d_tail b _ at e 0 opened ∙ get_or_at (take e r.succ) r.c (encode_words (take r.c r.sets) ++ post) 0 e front

  sets_left : drop (at + e + 1) b ≡ encode_words (take r.c r.sets) ++ post
  sets_left = drop_tail b (r.c ∷ []) (encode_words (take r.c r.sets) ++ post) (at + e) 1
      (drop_tail b (take e r.succ) (r.c ∷ (encode_words (take r.c r.sets) ++ post)) at e opened front) refl

  set_count : length (take r.c r.sets) ≡ r.c
  set_count = length-take-le r.c r.sets (omega (arith, f.sets, f.c_high))

  set_read : (j : ℕ) → j < r.c → word b (at + e + 1 + j * 2) ≡ get_or r.sets j 0
  set_read j l = words_read b (take r.c r.sets) post (at + e + 1) sets_left j (omega (arith, set_count)) ∙ get_or-take r.c r.sets j 0 l

  -- the next node is written after the node
  after_row : drop (next_at b e at) b ≡ post
  unfolding next_at
  after_row =
      let l : length (encode_words (take r.c r.sets)) ≡ r.c * 2 = omega (arith, length_encode_words (take r.c r.sets), set_count) in
      rw c_read (drop_tail b (encode_words (take r.c r.sets)) post (at + e + 1) (r.c * 2) sets_left l)

  succs_same : up_to (succ_of b at e) 12 ≡ r.succ
  unfolding succ_of successor
  succs_same = up_to_is (succ_of b at e) r.succ 12 0 f.succs (λ i m. go i m (lt_or_ge i e))
    where
      go : (i : ℕ) → i < 12 → (i < e) ⊎ (e ≤ i) → succ_of b at e i ≡ get_or r.succ i 0
      go i m (inl l) = rw (lt-ltb i e l) (succ_read i l)
      go i m (inr l) = rw (le-ltb i e l) (sym (get_d_inside r.succ i 0 255 (omega (arith, f.succs)) ∙ blank_succ e r.c r f.blanks i m l))

  sets_same : up_to (sets_of b (at + e + 1) r.c) 16 ≡ r.sets
  unfolding sets_of acceptance
  sets_same = up_to_is (sets_of b (at + e + 1) r.c) r.sets 16 0 f.sets (λ j m. go j m (lt_or_ge j r.c))
    where
      go : (j : ℕ) → j < 16 → (j < r.c) ⊎ (r.c ≤ j) → sets_of b (at + e + 1) r.c j ≡ get_or r.sets j 0
      go j m (inl l) = rw (lt-ltb j r.c l) (set_read j l)
      go j m (inr l) = rw (le-ltb j r.c l) (sym (blank_set e r.c r f.blanks j m l))

  -- the node is read as its row
  row_read : row_at b e at ≡ r
  unfolding row_at
  row_read = row_path (row_at b e at) r succs_same (rw c_read sets_same) c_read

  -- a node that is written at a place passes the tests of the layout
  row_ends : at ≤ length b → (at + e < length b) × (next_at b e at ≤ length b)
  unfolding next_at
  row_ends l =
      let p = length_tail b _ at opened l in
      let q = length-append (take e r.succ) (r.c ∷ (encode_words (take r.c r.sets) ++ post)) in
      let s = length-append (encode_words (take r.c r.sets)) post in
      let t = length_encode_words (take r.c r.sets) in
      (omega (arith, p, q, front), omega (arith, p, q, s, t, front, set_count, c_read))

-- every row of a list fits
abbrev AllFit : ℕ → List Row → Type 0
AllFit e rs = (j : ℕ) → j < length rs → RowFits e (get_or rs j no_row)

-- nodes that are written from a place on
module _ (b : List ℕ) (e : ℕ) (k : e ≤ 12) where
  layout_read : (rs : List Row) (at : ℕ) → drop at b ≡ encode_rows e rs → at ≤ length b → AllFit e rs → layout_fault b e (length rs) at ≡ 0
  unfolding layout_fault encode_rows
  layout_read [] at h l f = unless← 4 (eq-eqb at (length b) (omega (arith, length_tail b [] at h l))) refl
  layout_read (r ∷ rs) at h l f =
      let g = f 0 (omega arith) in
      let w = row_ends b e at r (encode_rows e rs) k g h l in
      let c : count_ok (count_at b e at) ≡ true = rw (c_read b e at r (encode_rows e rs) k g h) g.c_ok in
      let m = layout_read rs (next_at b e at) (after_row b e at r (encode_rows e rs) k g h) w.1 (λ j i. f (suc j) (omega arith)) in
      unless← 4 (lt-ltb (at + e) (length b) w.0) (unless← 5 c (unless← 4 (le-leb (next_at b e at) (length b) w.1) m))

  module _ (rs : List Row) (h : drop (nodes_at b) b ≡ encode_rows e rs) (f : AllFit e rs) where
    next_row : (v : ℕ) → v < length rs → drop (start_of b e v) b ≡ encode_rows e (drop v rs)
        → drop (start_of b e v) b ≡ encode_row e (get_or rs v no_row) ++ encode_rows e (drop (suc v) rs)
    unfolding encode_rows
    next_row v l p = p ∙ rw (drop-cons rs v no_row l)

    start_read : (v : ℕ) → v ≤ length rs → drop (start_of b e v) b ≡ encode_rows e (drop v rs)
    unfolding start_of
    start_read zero l = h
    start_read (suc v) l =
        after_row b e (start_of b e v) (get_or rs v no_row) (encode_rows e (drop (suc v) rs)) k (f v l) (next_row v l (start_read v (omega arith)))

    rows_read : (v : ℕ) → v < length rs → row_at b e (start_of b e v) ≡ get_or rs v no_row
    rows_read v l =
        row_read b e (start_of b e v) (get_or rs v no_row) (encode_rows e (drop (suc v) rs)) k (f v l) (next_row v l (start_read v (omega arith)))

-- a row that is blank throughout is the row of an unused node
unused_is : (r : Row) → length r.succ ≡ 12 → length r.sets ≡ 16 → eqb r.c 0 && blank 0 0 r ≡ true → r ≡ unused_row
unfolding successor acceptance
unused_is r p q t =
    let u = and_r (eqb r.c 0) (blank 0 0 r) t in
    row_path r unused_row
    (ext_get_or 255 r.succ (replicate 12 255) p (λ i l. blank_succ 0 0 r u i (omega arith) (omega arith) ∙ sym (get_or-replicate 12 i 255 255 (omega arith))))
    (ext_get_or 0 r.sets (replicate 16 0) q (λ j l. blank_set 0 0 r u j (omega arith) (omega arith) ∙ sym (get_or-replicate 16 j 0 0 (omega arith))))
    (eqb-true r.c 0 (and_l (eqb r.c 0) (blank 0 0 r) t))

-- the bytes before the nodes
module _ (v : ℕ) (s : Sheet) where
  long : 7 ≤ length (encode v s)
  unfolding encode encode_body four two
  long = omega arith

  length_written : length_field (encode v s) + 4 ≡ length (encode v s)
  unfolding encode encode_body four two length_field
  length_written = omega arith

  pub version_written : version (encode v s) ≡ v
  unfolding encode encode_body four two
  version_written = refl

  events_written : event_count (encode v s) ≡ s.e
  unfolding encode encode_body four two
  events_written = refl

  nodes_written : node_count (encode v s) ≡ s.n
  unfolding encode encode_body four two
  nodes_written = refl

  -- after the head stand the codes and the nodes
  rest_written : drop 7 (encode v s) ≡ encode_codes v s ++ encode_rows s.e (take s.n s.rows)
  unfolding encode encode_body four two
  rest_written = refl

-- a version in which a sheet can be written is 1 or 2
version_is : (v : ℕ) (s : Sheet) → Writable v s → version_ok v ≡ true
version_is v s (inl e) = rw e
version_is v s (inr (e, f)) = rw e

-- version 1 is not version 2
other : {v : ℕ} → v ≡ 1 → eqb v 2 ≡ false
other e = rw e

-- the codes between the head and the nodes
module _ (v : ℕ) (s : Sheet) (o : SheetForm s) (h : s.e ≤ 12) where
  code_count : length (take s.e s.codes) ≡ s.e
  code_count = length-take-le s.e s.codes (omega (arith, o.codes))

  -- what is written in version 2, and in version 1
  codes_2 : v ≡ 2 → drop 7 (encode v s) ≡ encode_words (take s.e s.codes) ++ encode_rows s.e (take s.n s.rows)
  unfolding encode_codes
  codes_2 e = rest_written v s ∙ rw (eq-eqb v 2 e)

  codes_1 : v ≡ 1 → drop 7 (encode v s) ≡ encode_rows s.e (take s.n s.rows)
  unfolding encode_codes
  codes_1 e = rest_written v s ∙ rw (other e)

  nodes_2 : v ≡ 2 → nodes_at (encode v s) ≡ 7 + s.e * 2
  unfolding nodes_at
  nodes_2 e = rw (version_written v s, events_written v s, eq-eqb v 2 e)

  nodes_1 : v ≡ 1 → nodes_at (encode v s) ≡ 7
  unfolding nodes_at
  nodes_1 e = rw (version_written v s, other e)

  -- the nodes stand after the codes
  nodes_left : Writable v s → (nodes_at (encode v s) ≤ length (encode v s)) × (drop (nodes_at (encode v s)) (encode v s) ≡ encode_rows s.e (take s.n s.rows))
  nodes_left (inl e) =
      let c = encode_words (take s.e s.codes) in
      let r = encode_rows s.e (take s.n s.rows) in
      let l : length c ≡ s.e * 2 = omega (arith, length_encode_words (take s.e s.codes), code_count) in
      rw (nodes_2 e)
      (omega (arith, length_tail (encode v s) (c ++ r) 7 (codes_2 e) (long v s), length-append c r, l), drop_tail (encode v s) c r 7 (s.e * 2) (codes_2 e) l)
  nodes_left (inr (e, f)) = rw (nodes_1 e) (long v s, codes_1 e)

  -- each code is read as it is kept
  code_written : Writable v s → (i : ℕ) → i < s.e → code_of (encode v s) i ≡ code s i
  unfolding code_of
  code_written (inl e) i l =
      rw (events_written v s, lt-ltb i s.e l, version_written v s, eq-eqb v 2 e)
      (words_read (encode v s) (take s.e s.codes) (encode_rows s.e (take s.n s.rows)) 7 (codes_2 e) i (omega (arith, code_count))
      ∙ get_or-take s.e s.codes i 0 l)
  code_written (inr (e, f)) i l = rw (events_written v s, lt-ltb i s.e l, version_written v s, other e) (sym (f i l))

module _ (s : Sheet) (o : SheetForm s) (p : Passes s) where
  small : Ranges s.e s.n
  small = ranges→ s.e s.n p.p3

  unused_at : (v : ℕ) → v < 32 → unused_ok s.e s.n v (row s v) ≡ true
  unfolding blanks_ok
  unused_at v h = all→ (λ v. unused_ok s.e s.n v (row s v)) 32 v p.p7u h

  fits : (v : ℕ) → v < s.n → RowFits s.e (row s v)
  unfolding counts_ok count_ok unused_ok
  fits v h =
      let m : v < 32 = omega (arith, small) in
      let c = all→ (λ v. count_ok (row s v).c) s.n v p.p5 h in
      record {
        succs = (o.each v m).succs;
        sets = (o.each v m).sets;
        c_ok = c;
        c_high = (between→ 1 16 (row s v).c c).1;
        blanks = rw (lt-ltb v s.n h) at (unused_at v m);
      }

  unused : (v : ℕ) → v < 32 → s.n ≤ v → row s v ≡ unused_row
  unfolding unused_ok
  unused v m h = unused_is (row s v) (o.each v m).succs (o.each v m).sets (rw (le-ltb v s.n h) at (unused_at v m))

  used_length : length (take s.n s.rows) ≡ s.n
  used_length = length-take-le s.n s.rows (omega (arith, o.rows, small))

  used_fit : AllFit s.e (take s.n s.rows)
  used_fit j h = let l : j < s.n = omega (arith, used_length) in rw (get_or-take s.n s.rows j no_row l) (fits j l)

  -- from here on the sheet is written in a version v
  module _ (v : ℕ) (w : Writable v s) where
    head_written : head_fault (encode v s) ≡ 0
    unfolding head_fault
    head_written =
        unless← 1 (and_i (le-leb 7 (length (encode v s)) (long v s)) (eq-eqb (length_field (encode v s) + 4) (length (encode v s)) (length_written v s)))
        (unless← {t = version_ok (version (encode v s))} 2 (rw (version_written v s) (version_is v s w))
        (unless← {t = ranges_ok (event_count (encode v s)) (node_count (encode v s))} 3 (rw (events_written v s, nodes_written v s) p.p3) refl))

    codes_written : codes_of (encode v s) ≡ s.codes
    unfolding codes_blank
    codes_written = up_to_is (code_of (encode v s)) s.codes 12 0 o.codes (λ i m. go i m (lt_or_ge i s.e))
      where
        free : (i : ℕ) → i < 12 → s.e ≤ i → code s i ≡ 0
        free i m h = at (or_e (ltb i s.e) (eqb (code s i) 0) (all→ (λ i. ltb i s.e || eqb (code s i) 0) 12 i p.p7c m))
          where
            at : (ltb i s.e ≡ true) ⊎ (eqb (code s i) 0 ≡ true) → code s i ≡ 0
            at (inl q) = absurd (clash q (le-ltb i s.e h))
            at (inr q) = eqb-true (code s i) 0 q

        go : (i : ℕ) → i < 12 → (i < s.e) ⊎ (s.e ≤ i) → code_of (encode v s) i ≡ code s i
        go i m (inl h) = code_written v s o small.e_high w i h
        go i m (inr h) = unfold code_of in rw (events_written v s, le-ltb i s.e h) (sym (free i m h))

    codes_whole : codes_fault (encode v s) ≡ 0
    unfolding codes_fault
    codes_whole =
        unless← 4 (le-leb (nodes_at (encode v s)) (length (encode v s)) (nodes_left v s o small.e_high w).0)
        (unless← {t = codes_ok (event_count (encode v s)) (codes_of (encode v s))} 18 (rw (events_written v s, codes_written) p.p18) refl)

    layout_written : layout_fault (encode v s) (event_count (encode v s)) (node_count (encode v s)) (nodes_at (encode v s)) ≡ 0
    layout_written =
        let l = nodes_left v s o small.e_high w in
        rw (events_written v s, nodes_written v s)
        (rw used_length at (layout_read (encode v s) s.e small.e_high (take s.n s.rows) (nodes_at (encode v s)) l.1 l.0 used_fit))

    row_written : (u : ℕ) → u < s.n → row_at (encode v s) s.e (start_of (encode v s) s.e u) ≡ row s u
    row_written u h =
        rows_read (encode v s) s.e small.e_high (take s.n s.rows) (nodes_left v s o small.e_high w).1 used_fit u (omega (arith, used_length))
        ∙ get_or-take s.n s.rows u no_row h

    rows_written : up_to (row_of (encode v s) s.e s.n) 32 ≡ s.rows
    unfolding row_of
    rows_written = up_to_is (row_of (encode v s) s.e s.n) s.rows 32 no_row o.rows (λ u m. go u m (lt_or_ge u s.n))
      where
        go : (u : ℕ) → u < 32 → (u < s.n) ⊎ (s.n ≤ u) → row_of (encode v s) s.e s.n u ≡ row s u
        go u m (inl h) = rw (lt-ltb u s.n h) (row_written u h)
        go u m (inr h) = rw (le-ltb u s.n h) (sym (unused u m h))

-- two sheets with the same fields are one sheet
pub sheet_path : (x y : Sheet) → x.rows ≡ y.rows → x.e ≡ y.e → x.n ≡ y.n → x.codes ≡ y.codes → x ≡ y
sheet_path x y p q r t = λ i. record { rows = p i; e = q i; n = r i; codes = t i }

-- the bytes of an accepted sheet spell that sheet
pub sheet_of_encode : (v : ℕ) (s : Sheet) → Writable v s → SheetForm s → sheet_fault s ≡ 0 → sheet_of (encode v s) ≡ s
unfolding sheet_of
sheet_of_encode v s w o h =
    sheet_path (sheet_of (encode v s)) s (rw (events_written v s, nodes_written v s) (rows_written s o (passes s h) v w)) (events_written v s) (nodes_written v s)
    (codes_written s o (passes s h) v w)

-- reading accepts the bytes of an accepted sheet
pub encode_accepted : (v : ℕ) (s : Sheet) → Writable v s → SheetForm s → sheet_fault s ≡ 0 → bytes_fault (encode v s) ≡ 0
unfolding bytes_fault
encode_accepted v s w o h =
    let p = passes s h in
    or_else← (head_written s o p v w) (or_else← (codes_whole s o p v w) (or_else← (layout_written s o p v w) (rw (sheet_of_encode v s w o h) (graph_passed s p))))
  where
    or_else← : {k r : ℕ} → k ≡ 0 → r ≡ 0 → or_else k r ≡ 0
    or_else← a b = rw (a, b)
