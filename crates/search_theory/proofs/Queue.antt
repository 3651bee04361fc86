-- Nothing to believe: laws of what specs/Queue.antt defines. The first bad entry ends the least trace to a bad node.
use Rattle.std.specs.Prelude.{◌≡◌, refl, ◌≢◌, ◌⊎◌, true, false, cond, ltb}
use Rattle.std.proofs.Math.Path.{sym, ap}
use Rattle.std.proofs.Common.{◌∙◌, eq-or-lt_of_le, eq-zero-or-pos, leb-true, leb-false, lt-ltb, le-ltb}
use Rattle.std.proofs.Math.Logic.{inl, inr}
use Rattle.std.proofs.Math.Bool.{Bool}
use mathlib.Core.List.{List, [], ◌∷◌, ◌++◌}
use Prim.Native.Nat.{ℕ, zero, suc, ◌+◌, ◌*◌, ◌≤◌, ◌<◌}
use native.Mathlib.Omega.{arith}
use Rattle.std.proofs.Math.Numerals.{add-one}
use Rattle.std.proofs.Math.Dec.{leb}
use Rattle.std.proofs.Math.ListN.{length}
use Rattle.base.proofs.Truth.{clash, lt_or_ge}
use Rattle.base.specs.Range.{first}
use Rattle.base.proofs.Range.{first≤, first_at, first_before}
use Rattle.walks.specs.Graph.{Graph, WellFormed, walk, Trace, Below, snoc-ind}
use Rattle.walks.proofs.Graph.{walk_snoc, trace_front, trace_below, length_snoc}
use Rattle.base.specs.Pigeon.{Twice}
use Rattle.base.proofs.Pigeon.{pigeonhole}
use Rattle.walks.proofs.Bound.{bound}
use Rattle.walks.specs.Reach.{ReachedBefore}
use Rattle.walks.specs.Order.{rank, rank_from}
use Rattle.walks.proofs.Order.{rank_snoc, rank_length, rank_lex←}
use Rattle.walks.specs.Near.{LeadsToBad, distance, least_trace}
use Rattle.walks.proofs.Near.{distance≤, distance<, distance→, distance_le, least_trace_unique}
use Rattle.walks.specs.Cleared.{cleared}
use Rattle.walks.proofs.Cleared.{cleared_means}
use Rattle.search_theory.specs.Queue.{Made, Queue, entry_of, event_of, level_start, link_of, path, read_back}

-- d links spell d events
pub read_back_length : (N K : ℕ → ℕ) (d x : ℕ) → length (read_back N K d x) ≡ d
unfolding read_back
read_back_length N K zero x = refl
read_back_length N K (suc d) x =
    length_snoc (read_back N K d (entry_of (K (N x)))) (event_of (K (N x))) ∙ ap suc (read_back_length N K d (entry_of (K (N x))))

-- entries are different nodes
distinct : {g : Graph} {N K D : ℕ → ℕ} {head k tail : ℕ} → Queue g N K D head k tail → (x y : ℕ) → x < y → y < tail → N x ≢ N y
distinct {K = K} q x y l h e = omega (arith, q.rising x y l h, ap K e)

-- events below e are below 12
below_12 : (e : ℕ) → e ≤ 12 → (t : List ℕ) → Below e t → Below 12 t
below_12 e h [] b = tt
below_12 e h (i ∷ t) b = (omega (arith, b.0), below_12 e h t b.1)

module _ {g : Graph} (w : WellFormed g) (N K D : ℕ → ℕ) (head tail : ℕ) (q : Queue g N K D head 0 tail) where
  -- the trace of entry x
  P : ℕ → List ℕ
  P x = path N K D x

  -- the start has the empty trace
  path_root : P 0 ≡ []
  unfolding read_back P
  path_root = rw (q.root.0, q.root.2)

  -- an entry has the trace of the entry it was made from, and the event
  path_step : (x j i : ℕ) → Made g N K D x j i → P x ≡ P j ++ (i ∷ [])
  unfolding read_back P
  path_step x j i m =
      let d : D (N x) ≡ suc (D (N j)) = m.depth ∙ add-one (D (N j)) in
      let u : entry_of (K (N x)) ≡ j = omega (arith, m.link, m.event, q.few) in
      let v : event_of (K (N x)) ≡ i = omega (arith, m.link, m.event, q.few) in
      rw d (rw (u, v))

  -- the trace of the start has the rank 0, the least
  rank_root : rank 12 (P 0) ≡ 0
  unfolding rank rank_from
  rank_root = rw path_root

  -- the rank of an entry's trace follows from that of the entry it was made from, and the event
  rank_step : (x j i : ℕ) → Made g N K D x j i → rank 12 (P x) ≡ rank 12 (P j) * 12 + i + 1
  rank_step x j i m = rw (path_step x j i m) (rank_snoc 12 (P j) i)

  -- later entries have greater traces
  ordered : (x y : ℕ) → x < y → y < tail → rank 12 (P x) < rank 12 (P y)
  ordered x y l h = go y x y (omega arith) l h
    where
      step : (x y : ℕ) → x < y → y < tail → ((u v : ℕ) → v < y → u < v → rank 12 (P u) < rank 12 (P v)) → rank 12 (P x) < rank 12 (P y)
      step x y l h ih = pick (eq-zero-or-pos x)
        where
          m : (j : ℕ) × (i : ℕ) × Made g N K D y j i
          m = q.made y (omega arith) h

          pick : (x ≡ 0) ⊎ (0 < x) → rank 12 (P x) < rank 12 (P y)
          pick (inl z) = omega (arith, ap (λ (u : ℕ). rank 12 (P u)) z, rank_root, rank_step y m.0 m.1 m.2)
          pick (inr p) = turn (lt_or_ge k.0 m.0)
            where
              k : (j : ℕ) × (i : ℕ) × Made g N K D x j i
              k = q.made x p (omega arith)

              turn : (k.0 < m.0) ⊎ (m.0 ≤ k.0) → rank 12 (P x) < rank 12 (P y)
              turn (inl a) =
                  omega (arith, rank_step x k.0 k.1 k.2, rank_step y m.0 m.1 m.2, ih k.0 m.0 m.2.before a, k.2.event, q.few)
              turn (inr a) =
                  let r = q.rising x y l h in
                  let e : k.0 ≡ m.0 = omega (arith, r, a, k.2.link, m.2.link, k.2.event, m.2.event, q.few) in
                  omega (arith, rank_step x k.0 k.1 k.2, rank_step y m.0 m.1 m.2, ap (λ (u : ℕ). rank 12 (P u)) e, r, k.2.link, m.2.link, e)

      go : (f x y : ℕ) → y ≤ f → x < y → y < tail → rank 12 (P x) < rank 12 (P y)
      go zero x y b l h = absurd (omega arith)
      go (suc f) x y b l h = step x y l h (λ u v s t. go f u v (omega arith) t (omega arith))

  -- an entry's trace leads to its node
  pub path_walk : (x : ℕ) → x < tail → walk g 0 (path N K D x) ≡ N x
  unfolding walk P
  path_walk x h = go x x (omega arith) h
    where
      go : (f x : ℕ) → x ≤ f → x < tail → walk g 0 (P x) ≡ N x
      go zero x b h = let z : x ≡ 0 = omega arith in rw (z, path_root) (sym q.root.0)
      go (suc f) x b h = pick (eq-zero-or-pos x) (go f)
        where
          pick : (x ≡ 0) ⊎ (0 < x) → ((x : ℕ) → x ≤ f → x < tail → walk g 0 (P x) ≡ N x) → walk g 0 (P x) ≡ N x
          pick (inl z) ih = rw (z, path_root) (sym q.root.0)
          pick (inr p) ih =
              let m = q.made x p h in
              ap (walk g 0) (path_step x m.0 m.1 m.2) ∙ walk_snoc g 0 (P m.0) m.1
              ∙ ap (λ (u : ℕ). g.next u m.1) (ih m.0 (omega (arith, m.2.before)) (omega (arith, m.2.before))) ∙ m.2.edge

  -- an entry's trace is a trace
  path_trace : (x : ℕ) → x < tail → Trace g (P x)
  unfolding P
  path_trace x h = rw (path_walk x h) (q.entry x h).0

  -- an entry's trace is as long as the entry is far
  path_length : (x : ℕ) → length (P x) ≡ D (N x)
  unfolding P
  path_length x = read_back_length N K (D (N x)) x

  -- a trace has events below 12 only
  trace_12 : (t : List ℕ) → Trace g t → Below 12 t
  trace_12 t h = below_12 g.events q.few t (trace_below w t h)

  -- What is known of a trace t: its node has an entry, with a trace that is no greater; or an entry that has still to
  -- be taken has a trace that is no greater.
  Known : List ℕ → Type 0
  Known t =
      ((y : ℕ) × (y < tail) × (N y ≡ walk g 0 t) × (rank 12 (P y) ≤ rank 12 t))
      ⊎ ((x : ℕ) × (head ≤ x) × (x < tail) × (rank 12 (P x) ≤ rank 12 t))

  -- an entry made no later than by event i of entry x, whose trace is no greater than t, has none greater than t with i
  made_by : (t : List ℕ) (x y i : ℕ) → x < tail → y < tail → i < 12 → rank 12 (P x) ≤ rank 12 t → K (N y) ≤ link_of x i
      → rank 12 (P y) ≤ rank 12 (t ++ (i ∷ []))
  made_by t x y i hx hy hi r k = rw (rank_snoc 12 t i) (pick (eq-zero-or-pos y))
    where
      pick : (y ≡ 0) ⊎ (0 < y) → rank 12 (P y) ≤ rank 12 t * 12 + i + 1
      pick (inl z) = omega (arith, ap (λ (u : ℕ). rank 12 (P u)) z, rank_root)
      pick (inr p) = turn (lt_or_ge m.0 x)
        where
          m : (j : ℕ) × (i : ℕ) × Made g N K D y j i
          m = q.made y p hy

          turn : (m.0 < x) ⊎ (x ≤ m.0) → rank 12 (P y) ≤ rank 12 t * 12 + i + 1
          turn (inl a) = omega (arith, rank_step y m.0 m.1 m.2, ordered m.0 x a hx, m.2.event, q.few)
          turn (inr a) =
              let e : m.0 ≡ x = omega (arith, m.2.link, k, hi, a) in
              omega (arith, rank_step y m.0 m.1 m.2, ap (λ (u : ℕ). rank 12 (P u)) e, m.2.link, k, e)

  -- where a trace is known, so is one event more
  known_snoc : (t : List ℕ) (i : ℕ) → Trace g (t ++ (i ∷ [])) → Known t → Known (t ++ (i ∷ []))
  unfolding Known
  known_snoc t i h (inr (x, a, b, c)) = inr (x, a, b, omega (arith, rank_snoc 12 t i))
  known_snoc t i h (inl (y, a, b, c)) = go (lt_or_ge y head)
    where
      go : (y < head) ⊎ (head ≤ y) → Known (t ++ (i ∷ []))
      go (inr l) = inr (y, l, a, omega (arith, rank_snoc 12 t i))
      go (inl l) =
          let e : g.next (N y) i ≡ walk g 0 (t ++ (i ∷ [])) = ap (λ (u : ℕ). g.next u i) b ∙ sym (walk_snoc g 0 t i) in
          let s : g.next (N y) i < g.size = rw e h in
          let v = w.labels (N y) i s in
          let k = q.done y l i v s in
          let z = q.placed (g.next (N y) i) s k.0 in
          inl (z.0, z.1, z.2 ∙ e, made_by t y z.0 i a z.1 (omega (arith, v, q.few)) c (rw z.2 k.1))

  -- every trace is known
  known : (t : List ℕ) → Trace g t → Known t
  unfolding walk Known
  known = snoc-ind (λ t. Trace g t → Known t) (λ h. inl (0, q.some, q.root.0, omega (arith, rank_root)))
      (λ t i ih h. known_snoc t i h (ih (trace_front w t (i ∷ []) h)))

  -- later entries are no nearer
  pub deeper : (x y : ℕ) → x ≤ y → y < tail → D (N x) ≤ D (N y)
  deeper x y l h = go (eq-or-lt_of_le l)
    where
      go : (x ≡ y) ⊎ (x < y) → D (N x) ≤ D (N y)
      go (inl e) = rw e (omega arith)
      go (inr k) =
          omega (arith, path_length x, path_length y, rank_length 12 (P x) (P y) (omega arith) (trace_12 (P y) (path_trace y h)) (omega (arith, ordered x y k h)))

  -- The count of the nodes nearer than depth k is L, if the first L entries are, and the others and those to be taken
  -- are not.
  cleared_is : (k L : ℕ) → L ≤ tail → ((x : ℕ) → x < L → ReachedBefore g k (N x)) → ((x : ℕ) → L ≤ x → x < tail → k ≤ D (N x))
      → ((x : ℕ) → head ≤ x → x < tail → k ≤ D (N x)) → cleared g k ≡ L
  unfolding Known
  cleared_is k L le near far left = (cleared_means w k L).1 (
    N,
    record {
      holds = λ x h. ((q.entry x (omega arith)).0, near x h);
      differ = λ x y a b. distinct q x y a (omega arith);
      every = λ v p. listed v p.0 p.1;
    },
  )
    where
      listed : (v : ℕ) → v < g.size → ReachedBefore g k v → (x : ℕ) × (x < L) × (N x ≡ v)
      listed v l (t, s, e) = pick (known t tr)
        where
          tr : Trace g t
          tr = rw e l

          short : (x : ℕ) → rank 12 (P x) ≤ rank 12 t → D (N x) < k
          short x r = omega (arith, path_length x, s, rank_length 12 (P x) t (omega arith) (trace_12 t tr) r)

          pick : Known t → (x : ℕ) × (x < L) × (N x ≡ v)
          pick (inr (x, a, b, c)) = absurd (omega (arith, left x a b, short x c))
          pick (inl (y, a, b, c)) = (y, before (lt_or_ge y L), b ∙ e)
            where
              before : (y < L) ⊎ (L ≤ y) → y < L
              before (inl f) = f
              before (inr f) = absurd (omega (arith, far y f a, short y c))

  -- where none is left to be taken, all nodes that are reached have entries
  pub cleared_all : tail ≤ head → cleared g g.size ≡ tail
  cleared_all h = cleared_is g.size tail (omega arith)
      (λ x l. let s = bound w (P x) (path_trace x l) in (s.0, s.1, s.2 ∙ (unfold P in path_walk x l)))
      (λ x a b. absurd (omega arith)) (λ x a b. absurd (omega arith))

  module _ (bad : ℕ → Bool) (good : (x : ℕ) → x < head → bad (N x) ≡ false) where
    -- where none is left to be taken and none is bad, no bad node is reached
    pub distance_none : tail ≤ head → distance g bad ≡ g.size
    unfolding Known
    distance_none h = go (lt_or_ge (distance g bad) g.size)
      where
        go : (distance g bad < g.size) ⊎ (g.size ≤ distance g bad) → distance g bad ≡ g.size
        go (inr l) = omega (arith, distance_le g bad)
        go (inl l) = let t = distance→ g bad w l in absurd (no t.0 t.2)
          where
            no : (t : List ℕ) → LeadsToBad g bad 0 t → ⊥
            no t l = pick (known t l.inside)
              where
                pick : Known t → ⊥
                pick (inl (y, a, b, c)) = clash l.ends (rw b at (good y (omega arith)))
                pick (inr (x, a, b, c)) = omega arith

    module _ (h : head < tail) (hit : bad (N head) ≡ true) where
      -- no list to a bad node comes before the trace of the first bad entry
      foremost : (t : List ℕ) → LeadsToBad g bad 0 t → rank 12 (P head) ≤ rank 12 t
      unfolding Known
      foremost t l = go (known t l.inside)
        where
          later : (x : ℕ) → head ≤ x → x < tail → rank 12 (P x) ≤ rank 12 t → rank 12 (P head) ≤ rank 12 t
          later x a b c = pick (eq-or-lt_of_le a)
            where
              pick : (head ≡ x) ⊎ (head < x) → rank 12 (P head) ≤ rank 12 t
              pick (inl e) = omega (arith, ap (λ (u : ℕ). rank 12 (P u)) e, c)
              pick (inr k) = omega (arith, ordered head x k b)

          go : Known t → rank 12 (P head) ≤ rank 12 t
          go (inr (x, a, b, c)) = later x a b c
          go (inl (y, a, b, c)) = pick (lt_or_ge y head)
            where
              pick : (y < head) ⊎ (head ≤ y) → rank 12 (P head) ≤ rank 12 t
              pick (inl k) = absurd (clash l.ends (rw b at (good y k)))
              pick (inr k) = later y k a c

      leads : LeadsToBad g bad 0 (P head)
      unfolding P
      leads = record { inside = path_trace head h; ends = rw (path_walk head h) hit }

      -- the depth of the first bad entry is the distance
      pub distance_is : distance g bad ≡ D (N head)
      distance_is =
          let t = distance→ g bad w (distance< g bad w (P head) leads) in
          let s = rank_length 12 (P head) t.0 (omega arith) (trace_12 t.0 t.2.inside) (foremost t.0 t.2) in
          omega (arith, distance≤ g bad w (P head) leads, path_length head, s, t.1)

      -- the trace of the first bad entry is the least trace to a bad node
      pub trace_is : least_trace g bad ≡ path N K D head
      unfolding P
      trace_is =
          let e : length (P head) ≡ distance g bad = path_length head ∙ sym distance_is in
          sym (least_trace_unique g bad w (P head) e leads (λ t f l. rank_lex← 12 (P head) t (e ∙ sym f) (trace_12 t l.inside) (foremost t l)))

      -- the entries before the level of the first bad entry are the nodes that are nearer
      pub cleared_before : cleared g (distance g bad) ≡ level_start N D head
      cleared_before = rw distance_is (cleared_is (D (N head)) L (omega (arith, upto))
          (λ x l. (P x, omega (arith, path_length x, nearer x l), unfold P in path_walk x (omega (arith, upto))))
          (λ x a b. omega (arith, further (lt_or_ge L head), deeper L x a b))
          (λ x a b. deeper head x a b))
        where
          f : ℕ → Bool
          f x = leb (D (N head)) (D (N x))

          L : ℕ
          L = first f head

          upto : L ≤ head
          upto = first≤ f head

          nearer : (x : ℕ) → x < L → D (N x) < D (N head)
          nearer x l = leb-false _ _ (first_before f head x l)

          further : (L < head) ⊎ (head ≤ L) → D (N head) ≤ D (N L)
          further (inl l) = leb-true _ _ (first_at f head l)
          further (inr l) = let e : L ≡ head = omega (arith, upto) in rw e (omega arith)

module _ (g : Graph) (N K D : ℕ → ℕ) (head k tail : ℕ) (q : Queue g N K D head k tail) where
  -- there are no more entries than nodes
  pub capacity : tail ≤ g.size
  capacity = go (lt_or_ge g.size tail)
    where
      go : (g.size < tail) ⊎ (tail ≤ g.size) → tail ≤ g.size
      go (inr l) = l
      go (inl l) = let t = pigeonhole g.size N (λ x h. (q.entry x (omega arith)).0) in absurd (distinct q t.0 t.1 t.2 (omega (arith, t.3)) t.4)

  -- there are fewer entries than nodes while some node has none
  pub room_left : (v : ℕ) → v < g.size → K v ≡ 0 → tail < g.size
  room_left v l z = go (lt_or_ge tail g.size)
    where
      -- the nodes of the entries, and after them the node v
      f : ℕ → ℕ
      f x = cond (ltb x g.size) (N x) v

      f_old : (x : ℕ) → x < g.size → f x ≡ N x
      f_old x h = rw (lt-ltb x g.size h)

      f_new : (x : ℕ) → g.size ≤ x → f x ≡ v
      f_new x h = rw (le-ltb x g.size h)

      go : (tail < g.size) ⊎ (g.size ≤ tail) → tail < g.size
      go (inl h) = h
      go (inr h) = absurd (twice (pigeonhole g.size f (λ x a. small x (lt_or_ge x g.size))))
        where
          small : (x : ℕ) → (x < g.size) ⊎ (g.size ≤ x) → f x < g.size
          small x (inl a) = rw (f_old x a) (q.entry x (omega arith)).0
          small x (inr a) = rw (f_new x a) l

          twice : Twice f g.size → ⊥
          twice (x, y, a, b, e) = pick (lt_or_ge y g.size)
            where
              pick : (y < g.size) ⊎ (g.size ≤ y) → ⊥
              pick (inl c) = distinct q x y a (omega arith) (sym (f_old x (omega arith)) ∙ e ∙ f_old y c)
              pick (inr c) = omega (arith, z, (q.entry x (omega arith)).1, ap K (sym (f_old x (omega arith)) ∙ e ∙ f_new y c))
