-- Nothing to believe: laws of what specs/Tables.antt defines.
use Rattle.std.specs.Prelude.{◌≡◌, ◌⊎◌, Bool, true, false, cond, ◌&&◌, List, ℕ, ◌+◌, ◌*◌, ◌≤◌, ◌<◌, ltb}
use Rattle.std.proofs.Common.{ap, ◌∙◌, inl, inr, arith, div-add-mod', lt-ltb, le-ltb}
use Rattle.std.proofs.Math.ListN.{get_or}
use Rattle.base.proofs.Truth.{lt_or_ge}
use Rattle.walks.specs.Graph.{WellFormed}
use Rattle.walks.specs.Product.{code, pair_next}
use Rattle.walks.proofs.Product.{pair_next←, pair_next→, product_next, product_well_formed}
use Rattle.search_theory.specs.Tables.{bad_code, bad_in, table_graph, table_next, table_pairs}

-- at a node and an event, the successor is what the table holds
pub table_at : (next : List ℕ) (size e n i : ℕ) → n < size → i < e → table_next next size e n i ≡ get_or next (n * 12 + i) 0
unfolding table_next
table_at next size e n i h k = rw (lt-ltb n size h, lt-ltb i e k)

-- every table with a node draws a graph that serves the theory of walks
pub table_well_formed : (next : List ℕ) (size e : ℕ) → 0 < size → WellFormed (table_graph next size e)
unfolding table_graph table_next
table_well_formed next size e pos = record { start = pos; none = none'; labels = λ n i h. labels' n i h (lt_or_ge i e) }
  where
    none' : (n i : ℕ) → size ≤ n → size ≤ cond (ltb n size && ltb i e) (get_or next (n * 12 + i) 0) size
    none' n i h = rw (le-ltb n size h) (omega arith)

    labels' : (n i : ℕ) → cond (ltb n size && ltb i e) (get_or next (n * 12 + i) 0) size < size → (i < e) ⊎ (e ≤ i) → i < e
    labels' n i h (inl l) = l
    labels' n i h (inr l) = absurd (outside (ltb n size) (rw (le-ltb i e l) at h))
      where
        outside : (b : Bool) → cond (b && false) (get_or next (n * 12 + i) 0) size < size → ⊥
        outside true k = omega arith
        outside false k = omega arith

-- the pairs of two tables with a node each draw a graph that serves the theory of walks
pub pairs_well_formed : (a b : List ℕ) (p q e : ℕ) → 0 < p → 0 < q → WellFormed (table_pairs a b p q e)
unfolding table_pairs
pairs_well_formed a b p q e h k = product_well_formed (table_well_formed a p e h) (table_well_formed b q e k)

-- the number of a pair names the pair's place in the table of the bad ones
pub bad_code_at : (bad : List Bool) (q c : ℕ) → bad_code bad q c ≡ get_or bad c false
unfolding bad_code bad_in
bad_code_at bad q c = ap (λ (x : ℕ). get_or bad x false) (div-add-mod' c q)

module _ (a b : List ℕ) (p q e r d k : ℕ) (hr : r < p) (hd : d < q) (hk : k < e) where
  -- the pair that event k leads to from (r, d), as the tables have it
  next_is : (table_pairs a b p q e).next (r * q + d) k ≡ pair_next (table_graph a p e) (table_graph b q e) r d k
  unfolding table_pairs table_graph code
  next_is = product_next (table_graph a p e) (table_graph b q e) r d k hd

  -- the pair that event k leads to where both tables have a successor
  pub next_both : get_or a (r * 12 + k) 0 < p → get_or b (d * 12 + k) 0 < q
      → (table_pairs a b p q e).next (r * q + d) k ≡ get_or a (r * 12 + k) 0 * q + get_or b (d * 12 + k) 0
  unfolding table_graph code
  next_both x y =
      let u = table_at a p e r k hr hk in
      let v = table_at b q e d k hd hk in
      next_is ∙ pair_next← (table_graph a p e) (table_graph b q e) r d k (rw u x) (rw v y) ∙ rw (u, v)

  -- where one of the tables has no successor, event k leads to no pair
  pub next_none : (p ≤ get_or a (r * 12 + k) 0) ⊎ (q ≤ get_or b (d * 12 + k) 0) → p * q ≤ (table_pairs a b p q e).next (r * q + d) k
  unfolding table_graph
  next_none h = rw next_is (go h (lt_or_ge (pair_next (table_graph a p e) (table_graph b q e) r d k) (p * q)))
    where
      u : table_next a p e r k ≡ get_or a (r * 12 + k) 0
      u = table_at a p e r k hr hk

      v : table_next b q e d k ≡ get_or b (d * 12 + k) 0
      v = table_at b q e d k hd hk

      go : (p ≤ get_or a (r * 12 + k) 0) ⊎ (q ≤ get_or b (d * 12 + k) 0)
          → (pair_next (table_graph a p e) (table_graph b q e) r d k < p * q) ⊎ (p * q ≤ pair_next (table_graph a p e) (table_graph b q e) r d k)
          → p * q ≤ pair_next (table_graph a p e) (table_graph b q e) r d k
      go i (inr l) = l
      go (inl i) (inl l) = absurd (omega (arith, u, (pair_next→ (table_graph a p e) (table_graph b q e) r d k l).0))
      go (inr i) (inl l) = absurd (omega (arith, v, (pair_next→ (table_graph a p e) (table_graph b q e) r d k l).1))
