-- The refusals of a sheet, each a number (01, "Who can cause a refusal"; 02, K1), in both orders: as reading checks
-- bytes, 1 to 3, 4 of the codes, 18, then 4 of the nodes and 5 to 8; and as a later call checks a kept sheet again, by
-- 3, 18 and 5 to 8. In both, a number is given where its test fails and no earlier one does; 0 is no refusal.
use Rattle.std.specs.Prelude.{◌≡◌, ◌⊎◌, ◌≢◌, ◌&&◌, List, ℕ, zero, suc, ◌+◌, ◌≤◌, ◌<◌, eqb, ltb, leb, length}
use Rattle.base.specs.Refusal.{unless, or_else}
use Rattle.sheet_spec.specs.declared.Sheet.{Sheet}
use Rattle.sheet_spec.specs.Kept.{code}
use Rattle.sheet_spec.specs.Spelling.{length_field, version, event_count, node_count, nodes_at, codes_of, count_at, next_at, sheet_of}
use Rattle.sheet_spec.specs.Rules.{version_ok, ranges_ok, codes_ok, count_ok, counts_ok, successors_ok, sets_ok, blanks_ok, codes_blank, reached_ok, codes_agree}

-- 1, 2, 3: the refusal of the bytes up to N
unfoldable pub head_fault : List ℕ → ℕ
head_fault b =
    unless (leb 7 (length b) && eqb (length_field b + 4) (length b)) 1
    (unless (version_ok (version b)) 2
    (unless (ranges_ok (event_count b) (node_count b)) 3 0))

-- 4, 18: the refusal of the codes: cut off; one given twice
unfoldable pub codes_fault : List ℕ → ℕ
codes_fault b = unless (leb (nodes_at b) (length b)) 4 (unless (codes_ok (event_count b) (codes_of b)) 18 0)

-- 4 and 5, by position in one walk from the front: k nodes are left, and the next begins at a place
unfoldable pub layout_fault : List ℕ → ℕ → ℕ → ℕ → ℕ
layout_fault b e zero at = unless (eqb at (length b)) 4 0
layout_fault b e (suc k) at =
    unless (ltb (at + e) (length b)) 4
    (unless (count_ok (count_at b e at)) 5
    (unless (leb (next_at b e at) (length b)) 4
    (layout_fault b e k (next_at b e at))))

-- 6, 7, 8: the refusal of the graph, each test over the whole sheet
unfoldable pub graph_fault : Sheet → ℕ
graph_fault s = unless (successors_ok s) 6 (unless (sets_ok s) 7 (unless (reached_ok s) 8 0))

-- the refusal of a sheet's bytes, 0 for none
unfoldable pub bytes_fault : List ℕ → ℕ
bytes_fault b =
    or_else (head_fault b) (or_else (codes_fault b)
    (or_else (layout_fault b (event_count b) (node_count b) (nodes_at b)) (graph_fault (sheet_of b))))

-- the refusal of a kept sheet that is handed to a later call, 0 for none
unfoldable pub sheet_fault : Sheet → ℕ
sheet_fault s =
    unless (ranges_ok s.e s.n) 3
    (unless (codes_ok s.e s.codes) 18
    (unless (counts_ok s) 5
    (unless (successors_ok s) 6
    (unless (sets_ok s && (blanks_ok s && codes_blank s.e s.codes)) 7
    (unless (reached_ok s) 8 0)))))

-- the refusal of what two sheets must share, of the E and the codes of each: 11: E differs; 19: an event has another
-- code
unfoldable pub shared_fault : ℕ → List ℕ → ℕ → List ℕ → ℕ
shared_fault e codes e' codes' = unless (eqb e e') 11 (unless (codes_agree e codes codes') 19 0)

-- the refusal of two sheets that are handed together, the reference first: its own, the device's own, 11 and 19; `rest`
-- is what else the call looks for
abbrev pub pair_fault : Sheet → Sheet → ℕ → ℕ
pair_fault P Q rest =
    or_else (sheet_fault P) (or_else (sheet_fault Q) (or_else (shared_fault P.e P.codes Q.e Q.codes) rest))

-- neither sheet is refused
abbrev pub BothAccepted : Sheet → Sheet → Type 0
BothAccepted P Q = (sheet_fault P ≡ 0) × (sheet_fault Q ≡ 0)

-- two sheets agree: they have the same E, and the same code for each event
abbrev pub Agree : Sheet → Sheet → Type 0
Agree P Q = (P.e ≡ Q.e) × ((i : ℕ) → i < P.e → code P i ≡ code Q i)

-- some event has another code on each of two sheets
abbrev pub CodesDiffer : Sheet → Sheet → Type 0
CodesDiffer P Q = (i : ℕ) × (i < P.e) × (code P i ≢ code Q i)

-- two sheets agree, or their E differ, or they have one E and some event has another code
abbrev pub PairWays : Sheet → Sheet → Type 0
PairWays P Q = Agree P Q ⊎ ((P.e ≢ Q.e) ⊎ ((P.e ≡ Q.e) × CodesDiffer P Q))

-- a number of a sheet's own: one that its refusal can have
abbrev pub Own : ℕ → Type 0
Own m = (0 < m) × ((m ≤ 8) ⊎ (m ≡ 18))

-- a number that no sheet's refusal has, such as those of the calls
abbrev pub NotOwn : ℕ → Type 0
NotOwn m = (8 < m) × (m ≢ 18)
