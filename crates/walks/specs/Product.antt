-- The product of two graphs: its walks are the walks that both graphs have. With p and q nodes in the two graphs, the
-- pair of n and m is the node n * q + m of the product.
use Rattle.std.specs.Prelude.{cond, ◌&&◌, ℕ, ◌+◌, ◌*◌, ◌/◌, ◌%◌, ltb}
use Rattle.walks.specs.Graph.{Graph}

-- The pair of n and m as one number, m a node of d.
unfoldable pub code : Graph → ℕ → ℕ → ℕ
code d n m = n * d.size + m

-- The pair that event i leads to from (n, m): both successors, if both graphs have one; else the number of pairs, for
-- none.
unfoldable pub pair_next : Graph → Graph → ℕ → ℕ → ℕ → ℕ
pair_next r d n m i = cond (ltb (r.next n i) r.size && ltb (d.next m i) d.size) (code d (r.next n i) (d.next m i)) (r.size * d.size)

-- The product of r and d.
unfoldable pub product : Graph → Graph → Graph
product r d = record { events = r.events; size = r.size * d.size; next = λ c i. pair_next r d (c / d.size) (c % d.size) i }
