-- Nothing to believe: the theory of the search. Successors as a flat table: node n's successor on event i stands at
-- place n * 12 + i, and a number that is no node stands for none. The bad pairs as a table of truth values: with q
-- nodes in the second graph, the pair (n, m) stands at n * q + m.
use Rattle.std.specs.Prelude.{Bool, false, cond, ◌&&◌, List, ℕ, ◌+◌, ◌*◌, ◌/◌, ◌%◌, ltb}
use Rattle.std.proofs.Math.ListN.{get_or}
use Rattle.walks.specs.Graph.{Graph}
use Rattle.walks.specs.Product.{product}

-- The successor of node n on event i that a table of `size` nodes and `e` events names; a number not below `size`
-- stands for none.
unfoldable pub table_next : List ℕ → ℕ → ℕ → ℕ → ℕ → ℕ
table_next next size e n i = cond (ltb n size && ltb i e) (get_or next (n * 12 + i) 0) size

-- The graph that a table draws.
unfoldable pub table_graph : List ℕ → ℕ → ℕ → Graph
table_graph next size e = record { events = e; size = size; next = table_next next size e }

-- The graph of the pairs of two tables' nodes.
unfoldable pub table_pairs : List ℕ → List ℕ → ℕ → ℕ → ℕ → Graph
table_pairs a b p q e = product (table_graph a p e) (table_graph b q e)

-- Test: the table has the pair (n, m) as bad.
unfoldable pub bad_in : List Bool → ℕ → ℕ → ℕ → Bool
bad_in bad q n m = get_or bad (n * q + m) false

-- Test: the table has the pair with the number c as bad.
unfoldable pub bad_code : List Bool → ℕ → ℕ → Bool
bad_code bad q c = bad_in bad q (c / q) (c % q)
