-- Nothing to believe: the theory of the search. Examples of the definitions, computed. The first graph has nodes 0 and
-- 1, the second 0, 1 and 2; each of two events leads to the next node, round and round, but event 1 has no successor at
-- the second's last node.
use Rattle.std.specs.Prelude.{◌≡◌, refl, Bool, true, false, List, [], ◌∷◌, ◌++◌, ℕ, replicate}
use Rattle.base.specs.Range.{any, first}
use Rattle.base.specs.Count.{count}
use Rattle.walks.specs.Graph.{walk}
use Rattle.walks.specs.Near.{meets_in, distance, later, choice, least_from, least_trace}
use Rattle.walks.specs.Reach.{leads, nearer}
use Rattle.walks.specs.Cleared.{cleared}
use Rattle.walks.specs.Product.{code, pair_next, product}
use Rattle.walks.specs.Pairs.{on_codes, pair_distance, pair_trace, pair_cleared}
use Rattle.search_theory.specs.declared.Found.{Found}
use Rattle.search_theory.specs.declared.Found.TheVariants.{Clear, Bad}
use Rattle.search_theory.specs.Tables.{table_next, table_graph, bad_in}
use Rattle.search_theory.specs.Found.{found_of, trace_found, work_found}

-- a row of two events in a table of successors
row : ℕ → ℕ → List ℕ
row x y = x ∷ y ∷ replicate 10 255

-- the first graph's table
left : List ℕ
unfolding row
left = row 1 1 ++ row 0 0

-- the second graph's table
right : List ℕ
unfolding row
right = row 1 1 ++ row 2 2 ++ row 0 255

-- the bad pairs: the pair (1, 2) alone
last : List Bool
last = replicate 5 false ++ (true ∷ [])

-- the bad pairs: (1, 2), and (1, 1), to which every event leads from the start
near : List Bool
near = replicate 4 false ++ (true ∷ true ∷ [])

-- the bad pairs: none
none : List Bool
none = replicate 6 false

-- the answer for a table of bad pairs
found : List Bool → Found
found bad = found_of (table_graph left 2 2) (table_graph right 3 2) (bad_in bad 3)

-- a trace list of six places at exit, for a table of bad pairs
trace : List Bool → List ℕ
trace bad = trace_found (table_graph left 2 2) (table_graph right 3 2) (bad_in bad 3) (replicate 6 9)

-- the answers: at distance 5 with five pairs nearer; at distance 1 with the start nearer; none of six
answers : found last ∷ found near ∷ found none ∷ [] ≡ Bad 5 1 2 5 ∷ Bad 1 1 1 1 ∷ Clear 6 ∷ []
unfolding found found_of pair_distance pair_trace pair_cleared on_codes product pair_next code distance meets_in least_trace least_from choice later cleared nearer leads
    any first count walk table_graph table_next bad_in left right row last near none
answers = refl

-- the trace lists: the least trace in front, the rest untouched; untouched if no bad pair is reached
traces : trace last ∷ trace near ∷ trace none ∷ []
    ≡ (0 ∷ 0 ∷ 0 ∷ 0 ∷ 0 ∷ 9 ∷ []) ∷ (0 ∷ 9 ∷ 9 ∷ 9 ∷ 9 ∷ 9 ∷ []) ∷ replicate 6 9 ∷ []
unfolding trace trace_found pair_distance pair_trace on_codes product pair_next code distance meets_in least_trace least_from choice later
    any first table_graph table_next bad_in left right row last near none
traces = refl

-- the work list: two words of one pair are 0, the rest untouched
words : work_found 1 (7 ∷ 7 ∷ 7 ∷ 7 ∷ []) ≡ 0 ∷ 0 ∷ 7 ∷ 7 ∷ []
unfolding work_found
words = refl
