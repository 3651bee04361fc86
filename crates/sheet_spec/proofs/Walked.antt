-- Nothing to believe: steps of proofs. What the walk over the nodes finds, said by places of the bytes. Ends joins it
-- to the faults 4 and 5, which are said by the encoding.
use Rattle.std.specs.Prelude.{◌≡◌, ◌⊎◌, ◌≢◌, ◌↔◌, true, false, List, eqb, ltb, leb, length}
use Rattle.std.proofs.Math.Path.{refl}
use Rattle.std.proofs.Common.{sym, ◌∙◌, inl, inr, eqb-true, ltb-true, ltb-false, leb-true, leb-false}
use Prim.Native.Nat.{ℕ, zero, suc, ◌+◌, ◌≤◌, ◌<◌}
use native.Mathlib.Omega.{arith}
use Rattle.std.proofs.lemmas.Bool.{eqb-false}
use Rattle.base.proofs.Truth.{dec, lt_or_ge}
use Rattle.base.specs.Refusal.{unless}
use Rattle.base.proofs.Refusal.{unless_other}
use Rattle.sheet_spec.specs.Rules.{count_ok}
use Rattle.sheet_spec.specs.Spelling.{event_count, node_count, nodes_at, count_at, next_at, start_of}
use Rattle.sheet_spec.specs.Refusals.{layout_fault}
use Rattle.sheet_spec.specs.Faults.{BadCount}
use Rattle.sheet_spec.proofs.RuleLaws.{count_finds}

-- the node that begins at a place is whole: its C is there and in range, and so are all its sets
abbrev pub Whole : List ℕ → ℕ → ℕ → Type 0
Whole b e at = (at + e < length b) × (¬ BadCount (count_at b e at)) × (next_at b e at ≤ length b)

-- the bytes end inside the node that begins at a place: before its C, or, with a C in range, before the end of its sets
abbrev pub EndsInside : List ℕ → ℕ → ℕ → Type 0
EndsInside b e at = (length b ≤ at + e) ⊎ ((¬ BadCount (count_at b e at)) × (length b < next_at b e at))

-- all nodes before node v are whole
abbrev pub WholeBefore : List ℕ → ℕ → Type 0
WholeBefore b v = (u : ℕ) → u < v → Whole b (event_count b) (start_of b (event_count b) u)

-- 4, as the walk finds it: the bytes end inside a node, or some remain after the last; all nodes before that place are
-- whole
abbrev pub WalkCut : List ℕ → Type 0
WalkCut b =
    ((v : ℕ) × (v < node_count b) × WholeBefore b v × EndsInside b (event_count b) (start_of b (event_count b) v))
    ⊎ (WholeBefore b (node_count b) × (start_of b (event_count b) (node_count b) < length b))

-- 5, as the walk finds it: a C out of range; all nodes before it are whole
abbrev pub WalkCount : List ℕ → Type 0
WalkCount b =
    (v : ℕ) × (v < node_count b) × WholeBefore b v × (start_of b (event_count b) v + event_count b < length b) × BadCount (count_at b (event_count b) (start_of b (event_count b) v))

-- of three numbers with their reasons, which exclude each other, each is given exactly for its own
rotate : {A B C : Type 0} → A ⊎ (B ⊎ C) → B ⊎ (C ⊎ A)
rotate (inl x) = inr (inr x)
rotate (inr (inl x)) = inl x
rotate (inr (inr x)) = inr (inl x)

only_first : {A B C : Type 0} {m i j k : ℕ} → ((m ≡ i) × A) ⊎ (((m ≡ j) × B) ⊎ ((m ≡ k) × C)) → i ≢ j → i ≢ k → (A → B → ⊥) → (A → C → ⊥) → (m ≡ i) ↔ A
only_first (inl x) p q f g = ((λ e. x.1), λ a. x.0)
only_first (inr (inl x)) p q f g = ((λ e. absurd (p (sym e ∙ x.0))), λ a. absurd (f a x.1))
only_first (inr (inr x)) p q f g = ((λ e. absurd (q (sym e ∙ x.0))), λ a. absurd (g a x.1))

outside : {m : ℕ} (j : ℕ) → 4 ≤ j → j ≤ 5 → (m < 4) ⊎ (5 < m) → j ≢ m
outside j p q (inl l) e = omega arith
outside j p q (inr l) e = omega arith

-- the layout gives 4, 5 or none
pub layout_other : {m : ℕ} → 0 < m → (m < 4) ⊎ (5 < m) → (b : List ℕ) (e k x : ℕ) → layout_fault b e k x ≢ m
unfolding layout_fault
layout_other {m} z h b e zero x = unless_other (eqb x (length b)) (outside 4 (omega arith) (omega arith) h) (λ p. omega arith)
layout_other {m} z h b e (suc k) x =
    unless_other (ltb (x + e) (length b)) (outside 4 (omega arith) (omega arith) h) (unless_other (count_ok (count_at b e x)) (outside 5 (omega arith) (omega arith) h)
    (unless_other (leb (next_at b e x) (length b)) (outside 4 (omega arith) (omega arith) h) (layout_other z h b e k (next_at b e x))))

module _ (b : List ℕ) where
  -- the place where node v begins
  abbrev at : ℕ → ℕ
  at v = start_of b (event_count b) v

  -- all nodes are whole, and the last ends the bytes
  abbrev pub LaidOut : Type 0
  LaidOut = WholeBefore b (node_count b) × (start_of b (event_count b) (node_count b) ≡ length b)

  -- a number and the reason for it
  abbrev Reason : ℕ → Type 0
  Reason m = ((m ≡ 4) × WalkCut b) ⊎ (((m ≡ 5) × WalkCount b) ⊎ ((m ≡ 0) × LaidOut))

  at_next : (v : ℕ) → at (suc v) ≡ next_at b (event_count b) (at v)
  unfolding start_of
  at_next v = refl

  whole_more : (v : ℕ) → WholeBefore b v → Whole b (event_count b) (at v) → WholeBefore b (suc v)
  whole_more v w h u l = go (lt_or_ge u v)
    where
      go : (u < v) ⊎ (v ≤ u) → Whole b (event_count b) (at u)
      go (inl k) = w u k
      go (inr k) = let e : u ≡ v = omega arith in rw e h

  -- once every node is whole, what is left begins inside the bytes
  whole_end : 1 ≤ node_count b → WholeBefore b (node_count b) → at (node_count b) ≤ length b
  whole_end h w = go (node_count b) refl h
    where
      go : (n : ℕ) → node_count b ≡ n → 1 ≤ n → at n ≤ length b
      go zero e l = absurd (omega arith)
      go (suc n) e l = rw (at_next n) (w n (omega arith)).2

  -- the walk from node v, with k nodes left, gives a number and has the reason for it
  reason : 1 ≤ node_count b → (k v : ℕ) → v + k ≡ node_count b → WholeBefore b v → Reason (layout_fault b (event_count b) k (at v))
  unfolding layout_fault
  reason some zero v e w = go (dec (eqb (at v) (length b)))
    where
      same : v ≡ node_count b
      same = omega arith

      all_whole : WholeBefore b (node_count b)
      all_whole = rw (← same) w

      go : (eqb (at v) (length b) ≡ true) ⊎ (eqb (at v) (length b) ≡ false) → Reason (unless (eqb (at v) (length b)) 4 0)
      go (inl t) = rw t (inr (inr (refl, (all_whole, rw (← same) (eqb-true _ _ t)))))
      go (inr t) =
          let n : at (node_count b) ≢ length b = λ q. eqb-false (at v) (length b) t (rw same q) in
          rw t (inl (refl, inr (all_whole, omega (arith, whole_end some all_whole))))
  reason some (suc k) v e w = go (dec (ltb (at v + event_count b) (length b))) (dec (count_ok C)) (dec (leb (next_at b (event_count b) (at v)) (length b))) (reason some k (suc v) (omega arith))
    where
      C : ℕ
      C = count_at b (event_count b) (at v)

      go : (ltb (at v + event_count b) (length b) ≡ true) ⊎ (ltb (at v + event_count b) (length b) ≡ false)
          → (count_ok C ≡ true) ⊎ (count_ok C ≡ false)
          → (leb (next_at b (event_count b) (at v)) (length b) ≡ true) ⊎ (leb (next_at b (event_count b) (at v)) (length b) ≡ false)
          → (WholeBefore b (suc v) → Reason (layout_fault b (event_count b) k (at (suc v))))
          → Reason (unless (ltb (at v + event_count b) (length b)) 4 (unless (count_ok C) 5
          (unless (leb (next_at b (event_count b) (at v)) (length b)) 4 (layout_fault b (event_count b) k (next_at b (event_count b) (at v))))))
      go (inr p) q r ih = rw p (inl (refl, inl (v, omega arith, w, inl (ltb-false _ _ p))))
      go (inl p) (inr q) r ih = rw (p, q) (inr (inl (refl, (v, omega arith, w, ltb-true _ _ p, (count_finds C).fault q))))
      go (inl p) (inl q) (inr r) ih = rw (p, q, r) (inl (refl, inl (v, omega arith, w, inr ((count_finds C).clear q, leb-false _ _ r))))
      go (inl p) (inl q) (inl r) ih = rw (p, q, r, ← at_next v) (ih (whole_more v w (ltb-true _ _ p, (count_finds C).clear q, leb-true _ _ r)))

  -- the three reasons exclude each other
  ends_whole : (v : ℕ) → EndsInside b (event_count b) (at v) → Whole b (event_count b) (at v) → ⊥
  ends_whole v (inl l) w = omega (arith, w.0)
  ends_whole v (inr l) w = omega (arith, w.2, l.1)

  cut_or_count : WalkCut b → WalkCount b → ⊥
  cut_or_count (inr c) (u, l, w, h, bad) = (c.0 u l).1 bad
  cut_or_count (inl (v, k, x, c)) (u, l, w, h, bad) = go (lt_or_ge u v) (lt_or_ge v u)
    where
      meet : v ≡ u → EndsInside b (event_count b) (at v) → ⊥
      meet e (inl p) = omega (arith, rw e at p)
      meet e (inr p) = p.0 (rw e bad)

      go : (u < v) ⊎ (v ≤ u) → (v < u) ⊎ (u ≤ v) → ⊥
      go (inl p) q = (x u p).1 bad
      go (inr p) (inl q) = ends_whole v c (w v q)
      go (inr p) (inr q) = meet (omega arith) c

  cut_or_fits : WalkCut b → LaidOut → ⊥
  cut_or_fits (inl (v, k, x, c)) f = ends_whole v c (f.0 v k)
  cut_or_fits (inr c) f = omega (arith, c.1, f.1)

  count_or_fits : WalkCount b → LaidOut → ⊥
  count_or_fits (u, l, w, h, bad) f = (f.0 u l).1 bad

  module _ (some : 1 ≤ node_count b) where
    why : Reason (layout_fault b (event_count b) (node_count b) (nodes_at b))
    unfolding start_of
    why = reason some (node_count b) 0 (omega arith) (λ u l. absurd (omega arith))

    pub walk_4 : (layout_fault b (event_count b) (node_count b) (nodes_at b) ≡ 4) ↔ WalkCut b
    walk_4 = only_first why (λ p. omega arith) (λ p. omega arith) cut_or_count cut_or_fits

    pub walk_5 : (layout_fault b (event_count b) (node_count b) (nodes_at b) ≡ 5) ↔ WalkCount b
    walk_5 = only_first (rotate why) (λ p. omega arith) (λ p. omega arith) count_or_fits (λ x y. cut_or_count y x)

    pub walk_0 : (layout_fault b (event_count b) (node_count b) (nodes_at b) ≡ 0) ↔ ((¬ WalkCut b) × (¬ WalkCount b))
    walk_0 = ((λ p. let f = only.0 p in ((λ c. cut_or_fits c f), λ c. count_or_fits c f)), λ n. none n why)
      where
        only : (layout_fault b (event_count b) (node_count b) (nodes_at b) ≡ 0) ↔ LaidOut
        only = only_first (rotate (rotate why)) (λ p. omega arith) (λ p. omega arith) (λ x y. cut_or_fits y x) (λ x y. count_or_fits y x)

        none : (¬ WalkCut b) × (¬ WalkCount b) → Reason (layout_fault b (event_count b) (node_count b) (nodes_at b)) → layout_fault b (event_count b) (node_count b) (nodes_at b) ≡ 0
        none n (inl x) = absurd (n.0 x.1)
        none n (inr (inl x)) = absurd (n.1 x.1)
        none n (inr (inr x)) = x.0
