-- Nothing to believe: steps of proofs. What the walk over the nodes finds is what the encoding says of 4 and 5: nodes
-- that are whole are the bytes of their rows, and rows that are written after the codes are whole nodes.
use Rattle.std.specs.Prelude.{◌≡◌, ◌⊎◌, ◌↔◌, take, drop}
use Rattle.std.proofs.Math.Path.{refl, ap}
use Rattle.std.proofs.Common.{sym, ◌∙◌, add-zero, arith, length-drop, get_or-drop}
use Rattle.std.proofs.Math.Logic.{inl, inr}
use Rattle.std.proofs.Math.Logic.Iff as Iff
use mathlib.Core.List.{List, [], ◌∷◌, ◌++◌, append_assoc}
use Prim.Native.Nat.{ℕ, zero, suc, ◌+◌, ◌*◌, ◌≤◌, ◌<◌}
use Rattle.std.proofs.Math.ListN.{length, get_or, length-append}
use Rattle.std.proofs.Math.Seq.{get_or_at, length-take-le}
use Rattle.base.proofs.Truth.{lt_or_ge}
use Rattle.base.proofs.Finds.{finds_none}
use Rattle.base.specs.Table.{up_to}
use Rattle.base.proofs.Table.{length_up_to, get_or_up_to}
use Rattle.sheet_spec.specs.declared.Row.{Row}
use Rattle.sheet_spec.specs.Kept.{no_row}
use Rattle.sheet_spec.specs.Form.{Bytes, RowForm}
use Rattle.sheet_spec.specs.Spelling.{event_count, node_count, nodes_at, count_at, next_at, start_of, row_at}
use Rattle.sheet_spec.specs.Refusals.{layout_fault}
use Rattle.sheet_spec.specs.Encoding.{encode_words, encode_row, encode_rows}
use Rattle.sheet_spec.specs.Faults.{BadCount, GoodRows, Follow, ShortNode, CutFault, BytesCountFault}
use Rattle.sheet_spec.proofs.RuleLaws.{count_finds}
use Rattle.sheet_spec.proofs.Places.{Node}
use Rattle.sheet_spec.proofs.Slices.{get_d_tail, drop_tail, length_tail}
use Rattle.sheet_spec.proofs.Spelled.{row_back}
use Rattle.sheet_spec.proofs.Formed.{row_form}
use Rattle.sheet_spec.proofs.Written.{length_encode_words}
use Rattle.sheet_spec.proofs.Walked.{Whole, EndsInside, WholeBefore, WalkCut, WalkCount, walk_4, walk_5, walk_0}

-- a C that is not out of range is 1 to 16
count_range : (c : ℕ) → ¬ BadCount c → (1 ≤ c) × (c ≤ 16)
count_range c n = (low (lt_or_ge c 1), high (lt_or_ge 16 c))
  where
    low : (c < 1) ⊎ (1 ≤ c) → 1 ≤ c
    low (inl l) = absurd (n (inl l))
    low (inr l) = l

    high : (16 < c) ⊎ (c ≤ 16) → c ≤ 16
    high (inl l) = absurd (n (inr l))
    high (inr l) = l

-- the bytes of a row: e successors, C, 2 C bytes of sets
module _ (e : ℕ) (h : e ≤ 12) (r : Row) (o : RowForm r) (n : ¬ BadCount r.c) where
  row_front : length (take e r.succ) ≡ e
  row_front = length-take-le e r.succ (omega (arith, o.succs))

  row_length : length (encode_row e r) ≡ e + 1 + r.c * 2
  unfolding encode_row
  row_length =
      let p = length-append (take e r.succ) (r.c ∷ encode_words (take r.c r.sets)) in
      let t = length_encode_words (take r.c r.sets) in
      let s = length-take-le r.c r.sets (omega (arith, o.sets, (count_range r.c n).1)) in
      omega (arith, p, t, s, row_front)

  row_count : (post : List ℕ) → get_or (encode_row e r ++ post) e 0 ≡ r.c
  unfolding encode_row
  row_count post =
      ap (λ (l : List ℕ). get_or l e 0) (append_assoc (take e r.succ) (r.c ∷ encode_words (take r.c r.sets)) post)
      ∙ get_or_at (take e r.succ) r.c (encode_words (take r.c r.sets) ++ post) 0 e row_front

  -- a row that is written at a place is a whole node, and the rest stands after it
  module _ (b : List ℕ) (x : ℕ) (post : List ℕ) (l : x ≤ length b) (q : drop x b ≡ encode_row e r ++ post) where
    count_there : count_at b e x ≡ r.c
    count_there = get_d_tail b (encode_row e r ++ post) x e 0 q ∙ row_count post

    row_whole : Whole b e x
    unfolding next_at
    row_whole =
        let p = length_tail b (encode_row e r ++ post) x q l in
        let s = length-append (encode_row e r) post in
        (omega (arith, p, s, row_length), rw count_there n, omega (arith, p, s, row_length, count_there))

    row_after : drop (next_at b e x) b ≡ post
    unfolding next_at
    row_after =
        let p : x + e + 1 + count_at b e x * 2 ≡ x + (e + 1 + r.c * 2) = omega (arith, count_there) in
        rw p (drop_tail b (encode_row e r) post x (e + 1 + r.c * 2) q row_length)

-- what holds after rows that are written from node v on: whole nodes, and then the rest
record After (b : List ℕ) (e v k : ℕ) (rest : List ℕ) : Type 0 where
  nodes : (j : ℕ) → j < k → Whole b e (start_of b e (v + j))
  inside : start_of b e (v + k) ≤ length b
  left : drop (start_of b e (v + k)) b ≡ rest

module _ (b : List ℕ) (e : ℕ) (h : e ≤ 12) where
  after_none : (v : ℕ) (rest : List ℕ) → start_of b e v ≤ length b → drop (start_of b e v) b ≡ rest → After b e v 0 rest
  after_none v rest l q = record { nodes = λ j k. absurd (omega arith); inside = rw add-zero l; left = rw add-zero q }

  after_more : (v k : ℕ) (rest : List ℕ) → Whole b e (start_of b e v) → After b e (suc v) k rest → After b e v (suc k) rest
  after_more v k rest w a = record { nodes = each; inside = rw (next k) a.inside; left = rw (next k) a.left }
    where
      next : (j : ℕ) → v + suc j ≡ suc v + j
      next j = omega arith

      each : (j : ℕ) → j < suc k → Whole b e (start_of b e (v + j))
      each zero l = rw add-zero w
      each (suc j) l = rw (next j) (a.nodes j (omega arith))

  after_rows : (rs : List Row) (v : ℕ) (rest : List ℕ) → GoodRows rs → start_of b e v ≤ length b → drop (start_of b e v) b ≡ encode_rows e rs ++ rest
      → After b e v (length rs) rest
  unfolding encode_rows start_of
  after_rows [] v rest g l q = after_none v rest l q
  after_rows (r ∷ rs) v rest g l q =
      let o = g 0 (omega arith) in
      let p = q ∙ append_assoc (encode_row e r) (encode_rows e rs) rest in
      let w = row_whole e h r o.0 o.1 b (start_of b e v) (encode_rows e rs ++ rest) l p in
      let t = row_after e h r o.0 o.1 b (start_of b e v) (encode_rows e rs ++ rest) l p in
      after_more v (length rs) rest w (after_rows rs (suc v) rest (λ j m. g (suc j) (omega arith)) w.2 t)

-- the bytes of rows with one more at the end
rows_snoc : (e : ℕ) (rs : List Row) (r : Row) (post : List ℕ) → encode_rows e (rs ++ (r ∷ [])) ++ post ≡ encode_rows e rs ++ (encode_row e r ++ post)
unfolding encode_rows
rows_snoc e [] r post = append_assoc (encode_row e r) [] post
rows_snoc e (x ∷ rs) r post =
    append_assoc (encode_row e x) (encode_rows e (rs ++ (r ∷ []))) post ∙ ap (λ (l : List ℕ). encode_row e x ++ l) (rows_snoc e rs r post)
    ∙ sym (append_assoc (encode_row e x) (encode_rows e rs) (encode_row e r ++ post))

node_of : (b : List ℕ) (e x : ℕ) → Whole b e x → Node b e x
node_of b e x w =
    let c = count_range (count_at b e x) w.1 in
    record { c_inside = w.0; c_ok = finds_none (count_finds (count_at b e x)) w.1; c_low = c.0; c_high = c.1; ends = w.2 }

module _ (b : List ℕ) (y : Bytes b) (e : ℕ) (h : e ≤ 12) where
  -- the rows of the nodes before node v
  abbrev before : ℕ → List Row
  before v = up_to (λ u. row_at b e (start_of b e u)) v

  before_good : (v : ℕ) → ((u : ℕ) → u < v → Whole b e (start_of b e u)) → GoodRows (before v)
  unfolding row_at
  before_good v w u l =
      let k : u < v = omega (arith, length_up_to (λ u. row_at b e (start_of b e u)) v) in
      rw (get_or_up_to (λ u. row_at b e (start_of b e u)) v u no_row k) (row_form b y e (start_of b e u), (w u k).1)

  before_bytes : (v : ℕ) → ((u : ℕ) → u < v → Whole b e (start_of b e u)) → encode_rows e (before v) ++ drop (start_of b e v) b ≡ drop (nodes_at b) b
  unfolding up_to start_of encode_rows
  before_bytes zero w = refl
  before_bytes (suc v) w =
      rows_snoc e (before v) (row_at b e (start_of b e v)) (drop (next_at b e (start_of b e v)) b)
      ∙ ap (λ (l : List ℕ). encode_rows e (before v) ++ l) (row_back b y e (start_of b e v) h (node_of b e (start_of b e v) (w v (omega arith))))
      ∙ before_bytes v (λ u l. w u (omega arith))

  -- after whole nodes the bytes have not ended
  start_inside : nodes_at b ≤ length b → (v : ℕ) → ((u : ℕ) → u < v → Whole b e (start_of b e u)) → start_of b e v ≤ length b
  unfolding start_of
  start_inside s zero w = s
  start_inside s (suc v) w = (w v (omega arith)).2

-- the bytes end inside the node at a place exactly if what is left there ends before its node does
module _ (b : List ℕ) (e x : ℕ) (l : x ≤ length b) (rest : List ℕ) (q : drop x b ≡ rest) where
  left_length : length b ≡ x + length rest
  left_length = length_tail b rest x q l

  left_count : count_at b e x ≡ get_or rest e 0
  left_count = get_d_tail b rest x e 0 q

  short→ : EndsInside b e x → ShortNode e rest
  unfolding next_at
  short→ (inl k) = inl (omega (arith, left_length))
  short→ (inr k) = go (lt_or_ge e (length rest))
    where
      go : (e < length rest) ⊎ (length rest ≤ e) → ShortNode e rest
      go (inl m) = inr (m, rw (← left_count) k.0, omega (arith, k.1, left_length, left_count))
      go (inr m) = inl m

  short← : ShortNode e rest → EndsInside b e x
  unfolding next_at
  short← (inl k) = inl (omega (arith, left_length))
  short← (inr k) = inr (rw left_count k.1, omega (arith, k.2, left_length, left_count))

module _ (b : List ℕ) (y : Bytes b) (s : nodes_at b ≤ length b) (h : event_count b ≤ 12) where
  abbrev at : ℕ → ℕ
  at v = start_of b (event_count b) v

  -- the nodes before node v, if they are whole, and what is left after them
  follow : (v : ℕ) → WholeBefore b v → Follow b (before b y (event_count b) h v) (drop (at v) b)
  follow v w = (before_good b y (event_count b) h v w, sym (before_bytes b y (event_count b) h v w))

  before_length : (v : ℕ) → length (before b y (event_count b) h v) ≡ v
  before_length v = length_up_to (λ u. row_at b (event_count b) (start_of b (event_count b) u)) v

  -- rows that follow the codes are whole nodes, with the rest after them
  followed : (rows : List Row) (rest : List ℕ) → Follow b rows rest → After b (event_count b) 0 (length rows) rest
  unfolding start_of
  followed rows rest f = after_rows b (event_count b) h rows 0 rest f.0 s f.1

  module _ (rows : List Row) (rest : List ℕ) (f : Follow b rows rest) where
    from_zero : (j : ℕ) → 0 + j ≡ j
    from_zero j = omega arith

    all_whole : WholeBefore b (length rows)
    all_whole u l = rw from_zero at ((followed rows rest f).nodes u l)

    rest_inside : at (length rows) ≤ length b
    rest_inside = rw from_zero at (followed rows rest f).inside

    rest_left : drop (at (length rows)) b ≡ rest
    rest_left = rw from_zero at (followed rows rest f).left

    remains : 0 < length rest → at (length rows) < length b
    remains x = omega (arith, left_length b (event_count b) (at (length rows)) rest_inside rest rest_left)

  cut→ : WalkCut b → CutFault b
  cut→ (inl (v, k, w, x)) = (
    before b y (event_count b) h v,
    drop (at v) b,
    follow v w,
    inl (omega (arith, before_length v), short→ b (event_count b) (at v) (start_inside b y (event_count b) h s v w) (drop (at v) b) refl x),
  )
  cut→ (inr (w, x)) = (
    before b y (event_count b) h (node_count b),
    drop (at (node_count b)) b,
    follow (node_count b) w,
    inr (before_length (node_count b), omega (arith, length-drop (at (node_count b)) b)),
  )

  cut← : CutFault b → WalkCut b
  cut← (rows, rest, f, inl (k, x)) =
      inl (length rows, k, all_whole rows rest f, short← b (event_count b) (at (length rows)) (rest_inside rows rest f) rest (rest_left rows rest f) x)
  cut← (rows, rest, f, inr (k, x)) =
      inr (rw k at (all_whole rows rest f), rw k at (remains rows rest f (omega arith)))

  count→ : WalkCount b → BytesCountFault b
  count→ (v, k, w, l, bad) = (
    before b y (event_count b) h v,
    drop (at v) b,
    follow v w,
    omega (arith, before_length v),
    omega (arith, length-drop (at v) b),
    rw (get_or-drop (at v) b (event_count b) 0) bad,
  )

  count← : BytesCountFault b → WalkCount b
  count← (rows, rest, f, k, l, bad) =
      let p = rest_inside rows rest f in
      let q = rest_left rows rest f in (
        length rows,
        omega arith,
        all_whole rows rest f,
        omega (arith, left_length b (event_count b) (at (length rows)) p rest q),
        rw (left_count b (event_count b) (at (length rows)) p rest q) bad,
      )

  module _ (some : 1 ≤ node_count b) where
    -- the layout gives 4 exactly for its fault
    pub layout_4 : (layout_fault b (event_count b) (node_count b) (nodes_at b) ≡ 4) ↔ CutFault b
    layout_4 = Iff.trans (walk_4 b some) (cut→, cut←)

    -- the layout gives 5 exactly for its fault
    pub layout_5 : (layout_fault b (event_count b) (node_count b) (nodes_at b) ≡ 5) ↔ BytesCountFault b
    layout_5 = Iff.trans (walk_5 b some) (count→, count←)

    -- the layout gives no number exactly without these faults
    pub layout_0 : (layout_fault b (event_count b) (node_count b) (nodes_at b) ≡ 0) ↔ ((¬ CutFault b) × (¬ BytesCountFault b))
    layout_0 = Iff.trans (walk_0 b some) (Iff.and (Iff.not (cut→, cut←)) (Iff.not (count→, count←)))
