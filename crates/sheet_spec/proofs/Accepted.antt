-- Nothing to believe: steps of proofs. What reading accepts, a later call accepts: the sheet that accepted bytes spell
-- passes every test of a kept sheet.
use Rattle.std.specs.Prelude.{◌≡◌, refl, ◌⊎◌, ◌&&◌, ◌||◌, List, ℕ, ◌+◌, ◌≤◌, ◌<◌, get_or}
use Rattle.std.proofs.Common.{◌∙◌, inl, inr, arith}
use Rattle.std.proofs.Math.Bool.{true}
use Rattle.std.proofs.Math.Dec.{eqb, ltb}
use borrow.Author.Tests.{lt-ltb, le-ltb}
use Rattle.base.proofs.Truth.{lt_or_ge, and_l, and_r, and_i}
use Rattle.base.specs.Range.{all}
use Rattle.base.proofs.Range.{all←}
use Rattle.base.proofs.Refusal.{unless→, unless←}
use Rattle.base.specs.Table.{up_to}
use Rattle.base.proofs.Table.{get_or_up_to}
use Rattle.sheet_spec.specs.declared.Sheet.{Sheet}
use Rattle.sheet_spec.specs.Kept.{no_row, code_at, row, successor, acceptance}
use Rattle.sheet_spec.specs.Rules.{ranges_ok, codes_ok, count_ok, counts_ok, successors_ok, sets_ok, blank, unused_ok, blanks_ok, codes_blank, reached_ok}
use Rattle.sheet_spec.specs.Refusals.{graph_fault, bytes_fault, sheet_fault}
use Rattle.sheet_spec.specs.Spelling.{event_count, node_count, code_of, codes_of, count_at, start_of, succ_of, sets_of, row_at, unused_row, row_of, sheet_of}
use Rattle.sheet_spec.proofs.Places.{Accepts, accepts, whole}

-- every test of a kept sheet passes; a field's number is the refusal's
pub record Passes (s : Sheet) : Type 0 where
  pub p3 : ranges_ok s.e s.n ≡ true
  pub p18 : codes_ok s.e s.codes ≡ true
  pub p5 : counts_ok s ≡ true
  pub p6 : successors_ok s ≡ true
  pub p7 : sets_ok s ≡ true
  pub p7u : blanks_ok s ≡ true
  pub p7c : codes_blank s.e s.codes ≡ true
  pub p8 : reached_ok s ≡ true

-- a kept sheet that is not refused passes every test
pub passes : (s : Sheet) → sheet_fault s ≡ 0 → Passes s
unfolding sheet_fault
passes s h =
    let a = unless→ (ranges_ok s.e s.n) 2 _ h in
    let g = unless→ (codes_ok s.e s.codes) 17 _ a.1 in
    let b = unless→ (counts_ok s) 4 _ g.1 in
    let c = unless→ (successors_ok s) 5 _ b.1 in
    let d = unless→ (sets_ok s && (blanks_ok s && codes_blank s.e s.codes)) 6 _ c.1 in
    let e = unless→ (reached_ok s) 7 0 d.1 in
    let u = and_r (sets_ok s) (blanks_ok s && codes_blank s.e s.codes) d.0 in
    record {
      p3 = a.0;
      p18 = g.0;
      p5 = b.0;
      p6 = c.0;
      p7 = and_l (sets_ok s) (blanks_ok s && codes_blank s.e s.codes) d.0;
      p7u = and_l (blanks_ok s) (codes_blank s.e s.codes) u;
      p7c = and_r (blanks_ok s) (codes_blank s.e s.codes) u;
      p8 = e.0;
    }

-- a sheet that passes every test is not refused
pub passed : (s : Sheet) → Passes s → sheet_fault s ≡ 0
unfolding sheet_fault
passed s p =
    unless← 3 p.p3 (unless← 18 p.p18 (unless← 5 p.p5 (unless← 6 p.p6
    (unless← 7 (and_i p.p7 (and_i p.p7u p.p7c)) (unless← 8 p.p8 refl)))))

-- where the graph is not refused, the tests of successors, sets and reached nodes pass
pub graph_passes : (s : Sheet) → graph_fault s ≡ 0 → (successors_ok s ≡ true) × (sets_ok s ≡ true) × (reached_ok s ≡ true)
unfolding graph_fault
graph_passes s h =
    let x = unless→ (successors_ok s) 5 _ h in
    let y = unless→ (sets_ok s) 6 _ x.1 in
    (x.0, y.0, (unless→ (reached_ok s) 7 0 y.1).0)

-- the graph of a sheet that passes every test is not refused
pub graph_passed : (s : Sheet) → Passes s → graph_fault s ≡ 0
unfolding graph_fault
graph_passed s p = unless← 6 p.p6 (unless← 7 p.p7 (unless← 8 p.p8 refl))

module _ (b : List ℕ) where
  row_is : (v : ℕ) → v < 32 → row (sheet_of b) v ≡ row_of b (event_count b) (node_count b) v
  unfolding sheet_of
  row_is v h = get_or_up_to (row_of b (event_count b) (node_count b)) 32 v no_row h

  -- the row of a node in use is the one that begins at its place
  pub row_used : (v : ℕ) → v < 32 → v < node_count b → row (sheet_of b) v ≡ row_at b (event_count b) (start_of b (event_count b) v)
  unfolding row_of
  row_used v k h = row_is v k ∙ rw (lt-ltb v (node_count b) h)

  -- the row of an unused node is blank
  pub row_free : (v : ℕ) → v < 32 → node_count b ≤ v → row (sheet_of b) v ≡ unused_row
  unfolding row_of
  row_free v k h = row_is v k ∙ rw (le-ltb v (node_count b) h)

-- a row that is read leaves its unused places blank
blank_succs_lem : (b : List ℕ) (at e i : ℕ) → i < 12 → (ltb i e || eqb (get_or (up_to (succ_of b at e) 12) i 255) 255) ≡ true
unfolding succ_of
blank_succs_lem b at e i h = go (lt_or_ge i e)
  where
    go : (i < e) ⊎ (e ≤ i) → (ltb i e || eqb (get_or (up_to (succ_of b at e) 12) i 255) 255) ≡ true
    go (inl k) = rw (lt-ltb i e k)
    go (inr k) = rw (get_or_up_to (succ_of b at e) 12 i 255 h, le-ltb i e k)

blank_sets_lem : (b : List ℕ) (at c j : ℕ) → j < 16 → (ltb j c || eqb (get_or (up_to (sets_of b at c) 16) j 0) 0) ≡ true
unfolding sets_of
blank_sets_lem b at c j h = go (lt_or_ge j c)
  where
    go : (j < c) ⊎ (c ≤ j) → (ltb j c || eqb (get_or (up_to (sets_of b at c) 16) j 0) 0) ≡ true
    go (inl k) = rw (lt-ltb j c k)
    go (inr k) = rw (get_or_up_to (sets_of b at c) 16 j 0 h, le-ltb j c k)

blank_row : (b : List ℕ) (e at : ℕ) → blank e (row_at b e at).c (row_at b e at) ≡ true
unfolding blank row_at successor acceptance
blank_row b e at =
    and_i (all← (λ i. ltb i e || eqb (get_or (up_to (succ_of b at e) 12) i 255) 255) 12 (blank_succs_lem b at e))
    (all← (λ j. ltb j (count_at b e at) || eqb (get_or (up_to (sets_of b (at + e + 1) (count_at b e at)) 16) j 0) 0) 16 (blank_sets_lem b (at + e + 1) (count_at b e at)))

unused_row_lem : (e n v : ℕ) → n ≤ v → unused_ok e n v unused_row ≡ true
unfolding unused_ok blank successor acceptance all
unused_row_lem e n v h = rw (le-ltb v n h)

used_row : (b : List ℕ) (e n at v : ℕ) → v < n → unused_ok e n v (row_at b e at) ≡ true
unfolding unused_ok
used_row b e n at v h = rw (lt-ltb v n h) (blank_row b e at)

module _ (b : List ℕ) (a : Accepts b) where
  counts_read : counts_ok (sheet_of b) ≡ true
  unfolding counts_ok sheet_of row_at
  counts_read = all← (λ v. count_ok (row (sheet_of b) v).c) (node_count b)
      (λ v h. rw (row_used b v (omega (arith, a.ranged)) h) (whole b (event_count b) (node_count b) a.laid v h).c_ok)

  blanks_read : blanks_ok (sheet_of b) ≡ true
  unfolding blanks_ok sheet_of
  blanks_read = all← (λ v. unused_ok (event_count b) (node_count b) v (row (sheet_of b) v)) 32 (λ v h. go v h (lt_or_ge v (node_count b)))
    where
      go : (v : ℕ) → v < 32 → (v < node_count b) ⊎ (node_count b ≤ v) → unused_ok (event_count b) (node_count b) v (row (sheet_of b) v) ≡ true
      go v h (inl k) = rw (row_used b v h k) (used_row b (event_count b) (node_count b) (start_of b (event_count b) v) v k)
      go v h (inr k) = rw (row_free b v h k) (unused_row_lem (event_count b) (node_count b) v k)

  ranges_read : ranges_ok (sheet_of b).e (sheet_of b).n ≡ true
  unfolding sheet_of
  ranges_read = a.headed.ranges

  codes_read : codes_ok (sheet_of b).e (sheet_of b).codes ≡ true
  unfolding sheet_of
  codes_read = a.coded.distinct

  blank_codes_read : codes_blank (sheet_of b).e (sheet_of b).codes ≡ true
  unfolding codes_blank sheet_of
  blank_codes_read = all← (λ i. ltb i (event_count b) || eqb (code_at (codes_of b) i) 0) 12 (λ i h. go i h (lt_or_ge i (event_count b)))
    where
      go : (i : ℕ) → i < 12 → (i < event_count b) ⊎ (event_count b ≤ i) → (ltb i (event_count b) || eqb (code_at (codes_of b) i) 0) ≡ true
      go i h (inl k) = rw (lt-ltb i (event_count b) k)
      go i h (inr k) = unfold code_of in rw (get_or_up_to (code_of b) 12 i 0 h, le-ltb i (event_count b) k)

-- what reading accepts, a later call accepts
pub read_accepted : (b : List ℕ) → bytes_fault b ≡ 0 → sheet_fault (sheet_of b) ≡ 0
read_accepted b h =
    let a = accepts b h in
    let g = graph_passes (sheet_of b) a.graphed in
    passed (sheet_of b)
    (record {
      p3 = ranges_read b a;
      p18 = codes_read b a;
      p5 = counts_read b a;
      p6 = g.0;
      p7 = g.1;
      p7u = blanks_read b a;
      p7c = blank_codes_read b a;
      p8 = g.2;
    })
