-- Nothing to believe: laws of what specs/Found.antt defines. The queue's end gives the answer.
use Rattle.std.specs.Prelude.{◌≡◌, ◌⊎◌, Bool, List, ℕ, ◌*◌, ◌/◌, ◌%◌, ◌≤◌, ◌<◌}
use Rattle.std.proofs.Math.Path.{sym, ap}
use Rattle.std.proofs.Common.{◌∙◌, inl, inr, arith, div-add-mod', div-lt_iff_lt-mul, mod-lt}
use borrow.Author.Tests.{lt-ltb, le-ltb}
use Rattle.base.proofs.Truth.{lt_or_ge}
use Rattle.walks.specs.Graph.{Graph, WellFormed, walk}
use Rattle.walks.specs.Product.{code, product}
use Rattle.walks.proofs.Product.{product_at}
use Rattle.walks.specs.Pairs.{pair_distance, pair_trace, pair_cleared, on_codes}
use Rattle.search_theory.specs.Tables.{table_graph, table_pairs, bad_in, bad_code}
use Rattle.search_theory.proofs.Tables.{table_well_formed, pairs_well_formed}
use Rattle.search_theory.specs.Queue.{read_back}
use Rattle.search_theory.proofs.Queue.{path_walk, cleared_all, distance_none, distance_is, trace_is, cleared_before}
use Rattle.search_theory.specs.Words.{St, node_at, link_at}
use Rattle.search_theory.proofs.Words.{tail_le}
use Rattle.search_theory.specs.Found.{Ended, found_of, read_out, settled, trace_found}

module _ (a b : List ℕ) (p q e : ℕ) (bad : List Bool) (h d c : ℕ) (s : St) (hp : 0 < p) (hq : 0 < q)
    (end : Ended (table_pairs a b p q e) (bad_code bad q) h d c s) where
  -- the graph of the first table, the reference's
  abbrev R : Graph
  R = table_graph a p e

  -- the graph of the second table, the device's
  abbrev D : Graph
  D = table_graph b q e

  -- the graph of the pairs of the two tables' nodes
  abbrev G : Graph
  G = table_pairs a b p q e

  -- the test of pairs
  abbrev T : ℕ → ℕ → Bool
  T = bad_in bad q

  -- the number of pairs
  abbrev n : ℕ
  n = p * q

  -- the work list
  abbrev w : List ℕ
  w = s.work

  -- the pairs serve the theory of walks
  good_graph : WellFormed G
  good_graph = pairs_well_formed a b p q e hp hq

  -- where the search ended at an entry, before the queue's end
  module _ (l : h < s.tail) where
    -- the distance at which the search ended is that of the nearest bad pair
    deep : pair_distance R D T ≡ d
    unfolding pair_distance on_codes bad_code table_graph table_pairs product
    deep = distance_is good_graph (node_at w) (link_at n w) end.far h s.tail end.running.queue (bad_code bad q) end.good l (end.hit l) ∙ end.depth l

    -- the links of the entry at which the search ended spell the least trace
    events : pair_trace R D T ≡ read_back (node_at w) (link_at n w) d h
    unfolding pair_trace on_codes bad_code table_graph table_pairs product
    events = trace_is good_graph (node_at w) (link_at n w) end.far h s.tail end.running.queue (bad_code bad q) end.good l (end.hit l)
        ∙ ap (λ (y : ℕ). read_back (node_at w) (link_at n w) y h) (end.depth l)

    -- the entries before the level of the bad entry are the nearer pairs
    before : pair_cleared R D (pair_distance R D T) ≡ c
    unfolding pair_cleared pair_distance on_codes bad_code table_graph table_pairs product
    before = cleared_before good_graph (node_at w) (link_at n w) end.far h s.tail end.running.queue (bad_code bad q) end.good l (end.hit l) ∙ end.level l

    -- the bad entry is a pair
    inside : node_at w h < n
    unfolding table_graph table_pairs product
    inside = (end.running.queue.entry h l).0

    -- the bad entry is reached
    near : pair_distance R D T < n
    unfolding table_graph table_pairs product
    near = omega (arith, deep, end.depth l, end.running.queue.near h l, tail_le G end.far h 0 s end.running)

    -- the least trace leads to the two nodes of the bad entry
    ends : (walk R 0 (pair_trace R D T) ≡ node_at w h / q) × (walk D 0 (pair_trace R D T) ≡ node_at w h % q)
    unfolding table_graph table_pairs product code
    ends = (product_at (table_well_formed a p e hp) (table_well_formed b q e hq) (pair_trace R D T) (node_at w h / q) (node_at w h % q)
        ((div-lt_iff_lt-mul hq).1 inside) (mod-lt (node_at w h) hq)).0
        (ap (walk G 0) (events ∙ ap (λ (y : ℕ). read_back (node_at w) (link_at n w) y h) (sym (end.depth l)))
        ∙ path_walk good_graph (node_at w) (link_at n w) end.far h s.tail end.running.queue h l ∙ sym (div-add-mod' (node_at w h) q))

  -- where the search ended at the queue's end
  module _ (l : s.tail ≤ h) where
    -- no bad pair is reached
    far : pair_distance R D T ≡ n
    unfolding pair_distance on_codes bad_code table_graph table_pairs product
    far = distance_none good_graph (node_at w) (link_at n w) end.far h s.tail end.running.queue (bad_code bad q) end.good l

    -- the entries are the pairs reached
    all : pair_cleared R D n ≡ s.tail
    unfolding pair_cleared table_graph table_pairs product
    all = cleared_all good_graph (node_at w) (link_at n w) end.far h s.tail end.running.queue l

  -- the answer read off the queue is the theory's
  pub settled_is : settled q w h s.tail d c ≡ found_of R D T
  unfolding settled found_of table_graph
  settled_is = go (lt_or_ge h s.tail)
    where
      go : (h < s.tail) ⊎ (s.tail ≤ h) → settled q w h s.tail d c ≡ found_of R D T
      go (inl l) = rw (lt-ltb h s.tail l, lt-ltb (pair_distance R D T) n (near l), (ends l).0, (ends l).1, before l, deep l)
      go (inr l) = let k : n ≤ pair_distance R D T = omega (arith, far l) in rw (le-ltb h s.tail l, le-ltb (pair_distance R D T) n k, all l)

  -- the trace read off the work list is the theory's
  pub read_out_is : (trace : List ℕ) → read_out n w h s.tail d trace ≡ trace_found R D T trace
  unfolding read_out trace_found table_graph
  read_out_is trace = go (lt_or_ge h s.tail)
    where
      go : (h < s.tail) ⊎ (s.tail ≤ h) → read_out n w h s.tail d trace ≡ trace_found R D T trace
      go (inl l) = rw (lt-ltb h s.tail l, lt-ltb (pair_distance R D T) n (near l), events l)
      go (inr l) = let k : n ≤ pair_distance R D T = omega (arith, far l) in rw (le-ltb h s.tail l, le-ltb (pair_distance R D T) n k)
