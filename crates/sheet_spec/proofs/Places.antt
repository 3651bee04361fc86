-- Nothing to believe: steps of proofs. Where the nodes of a sheet stand in its bytes: a head that is not refused gives
-- the version and the ranges of E and N, codes that are not refused are whole and differ, and a layout that is not
-- refused puts each node whole into the bytes, one after another from behind the codes to the end.
use Rattle.std.specs.Prelude.{◌≡◌, ◌⊎◌, ◌≢◌, true, ◌&&◌, List, eqb, ltb, leb, length}
use Rattle.std.proofs.Common.{◌∙◌, inl, inr, ltb-true, lt-ltb, leb-true, eqb-true, eq-eqb, ne_eqb}
use Prim.Native.Nat.{ℕ, zero, suc, ◌+◌, ◌-◌, ◌*◌, ◌≤◌, ◌<◌}
use Rattle.std.proofs.Math.Nat.{sub-zero}
use native.Mathlib.Omega.{arith}
use Rattle.std.proofs.Math.Decide.{ℕ_discrete}
use Rattle.base.proofs.Truth.{and_l, and_r, or_e}
use Rattle.base.proofs.Refusal.{unless→, or_else→}
use Rattle.base.proofs.Table.{get_or_up_to}
use Rattle.sheet_spec.specs.Kept.{code_at}
use Rattle.sheet_spec.specs.Rules.{version_ok, ranges_ok, codes_ok, count_ok}
use Rattle.sheet_spec.proofs.RuleLaws.{between→, ranges→}
use Rattle.sheet_spec.specs.Sound.{Ranges}
use Rattle.sheet_spec.specs.Spelling.{word, length_field, version, event_count, node_count, nodes_at, code_of, codes_of, count_at, next_at, start_of, sheet_of}
use Rattle.sheet_spec.specs.Refusals.{head_fault, codes_fault, layout_fault, graph_fault, bytes_fault}

-- what the bytes up to N say, where they are not refused
pub record Head (b : List ℕ) : Type 0 where
  pub long : 7 ≤ length b
  pub length_is : length_field b + 4 ≡ length b
  pub version_is : (version b ≡ 1) ⊎ (version b ≡ 2)
  pub ranges : ranges_ok (event_count b) (node_count b) ≡ true

-- a head that is not refused says how long the bytes are, their version, and that E and N are in range
pub head : (b : List ℕ) → head_fault b ≡ 0 → Head b
unfolding head_fault
head b h =
    let x = unless→ (leb 7 (length b) && eqb (length_field b + 4) (length b)) 0 _ h in
    let y = unless→ (version_ok (version b)) 1 _ x.1 in
    record {
      long = leb-true 7 (length b) (and_l (leb 7 (length b)) (eqb (length_field b + 4) (length b)) x.0);
      length_is = eqb-true (length_field b + 4) (length b) (and_r (leb 7 (length b)) (eqb (length_field b + 4) (length b)) x.0);
      version_is = either (or_e (eqb (version b) 1) (eqb (version b) 2) y.0);
      ranges = (unless→ (ranges_ok (event_count b) (node_count b)) 2 0 y.1).0;
    }
  where
    either : (eqb (version b) 1 ≡ true) ⊎ (eqb (version b) 2 ≡ true) → (version b ≡ 1) ⊎ (version b ≡ 2)
    either (inl t) = inl (eqb-true (version b) 1 t)
    either (inr t) = inr (eqb-true (version b) 2 t)

-- what the codes are, where they are not refused: whole, and no two of them one
pub record Codes (b : List ℕ) : Type 0 where
  pub whole : nodes_at b ≤ length b
  pub distinct : codes_ok (event_count b) (codes_of b) ≡ true

-- codes that are not refused are whole and differ
pub codes : (b : List ℕ) → codes_fault b ≡ 0 → Codes b
unfolding codes_fault
codes b h =
    let x = unless→ (leb (nodes_at b) (length b)) 3 _ h in
    record { whole = leb-true (nodes_at b) (length b) x.0; distinct = (unless→ (codes_ok (event_count b) (codes_of b)) 17 0 x.1).0 }

-- in version 2 the nodes begin after two bytes for each event, in any other version after the head
pub nodes_at_2 : (b : List ℕ) → version b ≡ 2 → nodes_at b ≡ 7 + event_count b * 2
unfolding nodes_at
nodes_at_2 b e = rw (eq-eqb (version b) 2 e)

pub nodes_at_1 : (b : List ℕ) → version b ≢ 2 → nodes_at b ≡ 7
unfolding nodes_at
nodes_at_1 b n = rw (ne_eqb (version b) 2 n)

nodes_high : (b : List ℕ) → nodes_at b ≤ 7 + event_count b * 2
nodes_high b = go (ℕ_discrete (version b) 2)
  where
    go : Dec (version b ≡ 2) → nodes_at b ≤ 7 + event_count b * 2
    go (yes e) = rw (nodes_at_2 b e) (omega arith)
    go (no n) = rw (nodes_at_1 b n) (omega arith)

-- the code of an event: in version 2 its two bytes, in any other version i + 1
pub code_at_2 : (b : List ℕ) → version b ≡ 2 → (i : ℕ) → i < 12 → i < event_count b → code_at (codes_of b) i ≡ word b (7 + i * 2)
unfolding code_of
code_at_2 b e i h l = get_or_up_to (code_of b) 12 i 0 h ∙ rw (lt-ltb i (event_count b) l, eq-eqb (version b) 2 e)

pub code_at_1 : (b : List ℕ) → version b ≢ 2 → (i : ℕ) → i < 12 → i < event_count b → code_at (codes_of b) i ≡ i + 1
unfolding code_of
code_at_1 b n i h l = get_or_up_to (code_of b) 12 i 0 h ∙ rw (lt-ltb i (event_count b) l, ne_eqb (version b) 2 n)

-- the node that begins at a place, where it is whole: its C lies inside the bytes and is 1 to 16, and the node ends
-- inside the bytes
pub record Node (b : List ℕ) (e at : ℕ) : Type 0 where
  pub c_inside : at + e < length b
  pub c_ok : count_ok (count_at b e at) ≡ true
  pub c_low : 1 ≤ count_at b e at
  pub c_high : count_at b e at ≤ 16
  pub ends : next_at b e at ≤ length b

node_of : (b : List ℕ) (e at : ℕ) → ltb (at + e) (length b) ≡ true → count_ok (count_at b e at) ≡ true → leb (next_at b e at) (length b) ≡ true
    → Node b e at
unfolding count_ok
node_of b e at x y z =
    let w = between→ 1 16 (count_at b e at) y in
    record { c_inside = ltb-true (at + e) (length b) x; c_ok = y; c_low = w.0; c_high = w.1; ends = leb-true (next_at b e at) (length b) z }

-- a walk that finds no fault finds its first node whole, and then walks on
pub layout_step : (b : List ℕ) (e k at : ℕ) → layout_fault b e (suc k) at ≡ 0 → Node b e at × (layout_fault b e k (next_at b e at) ≡ 0)
unfolding layout_fault
layout_step b e k at h =
    let x = unless→ (ltb (at + e) (length b)) 3 _ h in
    let y = unless→ (count_ok (count_at b e at)) 4 _ x.1 in
    let z = unless→ (leb (next_at b e at) (length b)) 3 _ y.1 in
    (node_of b e at x.0 y.0 z.0, z.1)

-- a walk that finds no fault and has no node left stands at the end of the bytes
pub layout_end : (b : List ℕ) (e at : ℕ) → layout_fault b e 0 at ≡ 0 → at ≡ length b
unfolding layout_fault
layout_end b e at h = eqb-true at (length b) (unless→ (eqb at (length b)) 3 0 h).0

module _ (b : List ℕ) (e n : ℕ) (l : layout_fault b e n (nodes_at b) ≡ 0) where
  -- the walk comes to the start of each node
  pub comes : (v : ℕ) → v ≤ n → layout_fault b e (n - v) (start_of b e v) ≡ 0
  unfolding start_of
  comes zero h = rw sub-zero l
  comes (suc v) h =
      let k : n - v ≡ suc (n - suc v) = omega arith in
      (layout_step b e (n - suc v) (start_of b e v) (rw k at (comes v (omega arith)))).1

  -- each node is whole
  pub whole : (v : ℕ) → v < n → Node b e (start_of b e v)
  whole v h =
      let k : n - v ≡ suc (n - suc v) = omega arith in
      (layout_step b e (n - suc v) (start_of b e v) (rw k at (comes v (omega arith)))).0

  -- the place after the last node is the end of the bytes
  pub last_end : start_of b e n ≡ length b
  last_end =
      let k : n - n ≡ 0 = omega arith in
      layout_end b e (start_of b e n) (rw k at (comes n (omega arith)))

  -- a node takes at most 45 bytes
  start_high : (v : ℕ) → e ≤ 12 → v ≤ n → start_of b e v ≤ nodes_at b + v * 45
  unfolding start_of next_at
  start_high zero k h = omega arith
  start_high (suc v) k h = omega (arith, start_high v k (omega arith), (whole v h).c_high)

-- what bytes that reading accepts are: the head, the codes, the layout, the graph
pub record Accepts (b : List ℕ) : Type 0 where
  pub headed : Head b
  pub coded : Codes b
  pub laid : layout_fault b (event_count b) (node_count b) (nodes_at b) ≡ 0
  pub graphed : graph_fault (sheet_of b) ≡ 0
  pub ranged : Ranges (event_count b) (node_count b)

-- bytes that reading accepts have a head, codes, a layout and a graph that are not refused
pub accepts : (b : List ℕ) → bytes_fault b ≡ 0 → Accepts b
unfolding bytes_fault
accepts b h =
    let x = or_else→ (head_fault b) _ h in
    let z = or_else→ (codes_fault b) _ x.1 in
    let y = or_else→ (layout_fault b (event_count b) (node_count b) (nodes_at b)) _ z.1 in
    let d = head b x.0 in
    record { headed = d; coded = codes b z.0; laid = y.0; graphed = y.1; ranged = ranges→ (event_count b) (node_count b) d.ranges }

-- a sheet that is accepted ends at most 45 bytes for each node after the codes
accepted_end : (b : List ℕ) → bytes_fault b ≡ 0 → length b ≤ nodes_at b + 1440
accepted_end b h =
    let a = accepts b h in
    omega (
      arith,
      last_end b (event_count b) (node_count b) a.laid,
      start_high b (event_count b) (node_count b) a.laid (node_count b) a.ranged.e_high (omega arith),
      a.ranged.n_high,
    )

-- a sheet that is accepted has at most 1,471 bytes, in version 1 at most 1,447
pub accepted_length : (b : List ℕ) → bytes_fault b ≡ 0 → length b ≤ 1471
accepted_length b h = omega (arith, accepted_end b h, nodes_high b, (accepts b h).ranged.e_high)

pub accepted_first : (b : List ℕ) → bytes_fault b ≡ 0 → version b ≢ 2 → length b ≤ 1447
accepted_first b h n = omega (arith, accepted_end b h, nodes_at_1 b n)
