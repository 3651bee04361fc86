-- Nothing to believe: laws of what specs/Steps.antt defines. Each function of the search gives the next what it asks.
use Rattle.std.specs.Prelude.{◌≡◌, ◌⊎◌, Bool, true, false, cond, List, ℕ, ◌+◌, ◌*◌, ◌/◌, ◌%◌, ◌≤◌, ◌<◌, leb, ltb, get_or, drop}
use Rattle.std.proofs.Math.Path.{refl, sym}
use Rattle.std.proofs.Common.{ap, ◌∙◌, inl, inr, ⊎_elim, arith, mul-pos, mul-le-mul_right, div-add-mod', div-lt_iff_lt-mul, mod-lt, eq-or-lt_of_le, add-one}
use Rattle.std.proofs.Math.Arith.{digits_lt}
use borrow.Author.Tests.{lt-ltb, le-ltb, le-leb, lt-leb}
use Rattle.base.proofs.Truth.{lt_or_ge}
use Rattle.base.proofs.Range.{first_is, first_none}
use Rattle.walks.specs.Graph.{Graph}
use Rattle.walks.specs.Product.{product}
use Rattle.search_theory.specs.Tables.{table_graph, table_pairs}
use Rattle.search_theory.proofs.Tables.{next_both, next_none}
use Rattle.search_theory.specs.Words.{words_for, St, st, node_at, visited, tried, scanned, Running, Stepped, VisitOk, put, none, LevelIs}
use Rattle.search_theory.proofs.Words.{tail_le, entry_kept, visit_ok, scan_kept, running_next, running_start, level_grows, level_next}
use Rattle.search_theory.specs.Queue.{link_of, level_start}
use Rattle.search_theory.specs.Found.{Ended}
use Rattle.search_theory.specs.Steps.{Before, RunOk, ScanOk, Seat, Sizes, StepFacts, StepOk}

-- the product of two numbers up to 32 is at most 1,024
pub small_product : (r q : ℕ) → r ≤ 32 → q ≤ 32 → r * q ≤ 1024
small_product r q h k = omega (arith, mul-le-mul_right q h)

-- there are at most 1,024 pairs
few_pairs : (p q e n : ℕ) → Sizes p q e n → n ≤ 1024
few_pairs p q e n z = omega (arith, z.size, small_product p q z.rows z.columns)

-- what holds before entry h holds with the words compared with those of now
pub before_here : (g : Graph) (bad : ℕ → Bool) (w : List ℕ) (h d start end : ℕ) (s : St) → Before g bad w h d start end s → Before g bad s.work h d start end s
before_here g bad w h d start end s f = record {
  far = f.far;
  running = f.running;
  within = f.within;
  good = f.good;
  long = refl;
  rest = refl;
  level = f.level;
  since = f.since;
  until = f.until;
}

-- no event has been tried yet
pub scan_none : (g : Graph) (h v : ℕ) (s : St) → s ≡ scanned g h v 0 s
unfolding scanned
scan_none g h v s = refl

-- one event more of an entry is tried
pub scan_next : (g : Graph) (h v k : ℕ) (s s₁ s₂ : St) → s₁ ≡ scanned g h v k s → s₂ ≡ tried g h v k s₁ → s₂ ≡ scanned g h v (k + 1) s
unfolding scanned
scan_next g h v k s s₁ s₂ x y = rw (add-one, ← x) y

module _ (p q e n : ℕ) (w : List ℕ) (o : RunOk p q e n w) where
  -- the start is a pair
  some_pair : 0 < n
  some_pair = rw o.sizes.size (mul-pos o.sizes.some_p o.sizes.some_q)

  -- the start may be visited
  pub run_visit_ok : VisitOk n 0 (st 0 w)
  run_visit_ok = record { small = few_pairs p q e n o.sizes; room = o.room; node = some_pair; free = λ z. some_pair }

module _ (a b : List ℕ) (p q e n : ℕ) where
  -- the graph that is searched
  abbrev G : Graph
  G = table_pairs a b p q e

  -- the graph that is searched has n nodes
  pub pairs_size : Sizes p q e n → G.size ≡ n
  unfolding table_pairs table_graph product
  pairs_size z = sym z.size

  -- the graph that is searched has e events
  pairs_events : G.events ≡ e
  unfolding table_pairs table_graph product
  pairs_events = refl

  -- an entry of the queue has its seat
  pub seat : (D : ℕ → ℕ) (h k : ℕ) (s : St) → Sizes p q e n → Running G D h k s → (x : ℕ) → x < s.tail → Seat n x s.work
  seat D h k s z r x l = rw (← pairs_size z) (record {
    small = r.small;
    room = r.room;
    inside = omega (arith, tail_le G D h k s r);
    node = (r.queue.entry x l).0;
  })

  module _ (place row column k : ℕ) (s : St) (o : StepOk a b p q e n place row column k s) where
    -- what a step computes stays small
    pub step_facts : StepFacts q n place row column k
    step_facts =
        let z = o.sizes in
        let m = few_pairs p q e n z in
        record {
          low = omega (arith, o.in_p, z.rows);
          lower = omega (arith, o.in_q, z.columns);
          few = omega (arith, o.event, z.events);
          small = m;
          early = omega (arith, m, o.inside);
          wide = z.columns;
        }

    -- the number of the pair that the event leads to is small, and it is a pair
    pub step_product : (x y : ℕ) → x < p → y < q → (x * q ≤ 1024) × (x * q + y < n)
    step_product x y h l = (small_product x q (omega (arith, o.sizes.rows)) o.sizes.columns, rw o.sizes.size (digits_lt h l))

    -- the pair that the event leads to may be visited
    pub step_visit_ok : (x y : ℕ) → x < p → y < q → VisitOk n (x * q + y) s
    step_visit_ok x y h l =
        let m = pairs_size o.sizes in
        rw m at (visit_ok G o.far place k (x * q + y) s o.running (rw m (step_product x y h l).1))

    -- the way out where both tables have a successor
    pub step_both : (x y : ℕ) (s' : St) → x ≡ get_or a (row * 12 + k) 0 → y ≡ get_or b (column * 12 + k) 0 → x < p → y < q
        → s' ≡ visited n (x * q + y) (link_of place k) s → s' ≡ tried G place (row * q + column) k s
    unfolding tried
    step_both x y s' u v h l c =
        let m = pairs_size o.sizes in
        let to : G.next (row * q + column) k ≡ x * q + y =
        next_both a b p q e row column k o.in_p o.in_q o.event (rw (← u) h) (rw (← v) l) ∙ rw (u, v)
        in
        let i : x * q + y < G.size = rw m (step_product x y h l).1 in
        rw (to, lt-ltb (x * q + y) G.size i, m) c

    -- where one of the tables has no successor, nothing is done
    step_none : (p ≤ get_or a (row * 12 + k) 0) ⊎ (q ≤ get_or b (column * 12 + k) 0) → s ≡ tried G place (row * q + column) k s
    unfolding tried
    step_none h =
        let i : G.size ≤ G.next (row * q + column) k =
        rw (pairs_size o.sizes, o.sizes.size) (next_none a b p q e row column k o.in_p o.in_q o.event h)
        in
        rw (le-ltb (G.next (row * q + column) k) G.size i)

    -- the way out where the first table has no successor
    pub step_first : (x : ℕ) → x ≡ get_or a (row * 12 + k) 0 → p ≤ x → s ≡ tried G place (row * q + column) k s
    step_first x u h = step_none (inl (rw (← u) h))

    -- the way out where the second table has no successor
    pub step_second : (y : ℕ) → y ≡ get_or b (column * 12 + k) 0 → q ≤ y → s ≡ tried G place (row * q + column) k s
    step_second y u h = step_none (inr (rw (← u) h))

  module _ (place : ℕ) (s : St) (o : ScanOk a b p q e n place s) where
    -- the entry has its seat
    pub scan_seat : Seat n place s.work
    scan_seat = seat o.far place 0 s o.sizes o.running place o.here

    -- the node of the entry
    abbrev node₀ : ℕ
    node₀ = node_at s.work place

    -- the facts of a scan with the entry's pair taken apart
    module _ (row column : ℕ) (er : row ≡ node₀ / q) (ec : column ≡ node₀ % q) where
      -- all events tried from the pair's two nodes are tried from the pair
      pub scan_end : (s₁ : St) (k : ℕ) → s₁ ≡ scanned G place (row * q + column) k s → s₁ ≡ scanned G place node₀ k s
      scan_end s₁ k c = c ∙ ap (λ (y : ℕ). scanned G place y k s) (rw (er, ec) (div-add-mod' node₀ q))

      -- after k events the next may be tried
      pub scan_step_ok : (k : ℕ) (s₁ : St) → k < e → s₁ ≡ scanned G place (row * q + column) k s → StepOk a b p q e n place row column k s₁
      scan_step_ok k s₁ l c = record {
        sizes = o.sizes;
        far = t.far;
        running = rw (scan_end s₁ k c) t.running;
        inside = scan_seat.inside;
        in_p = rw er ((div-lt_iff_lt-mul o.sizes.some_q).1 (rw (← o.sizes.size) scan_seat.node));
        in_q = rw ec (mod-lt node₀ o.sizes.some_q);
        event = l;
      }
        where
          t : Stepped G o.far (o.far node₀) place k s (scanned G place node₀ k s)
          t = scan_kept G o.far place s o.running o.here k (rw pairs_events (omega arith))

  module _ (w : List ℕ) (o : RunOk p q e n w) where
    -- the start is an entry, alone in its level
    pub run_start : (bad : ℕ → Bool) (s : St) → s ≡ visited n 0 1 (st 0 w) → Before G bad w 0 0 0 1 s
    run_start bad s c =
        let m = pairs_size o.sizes in
        let few = few_pairs p q e n o.sizes in
        let r = running_start G w (rw pairs_events o.sizes.events) (rw m (some_pair p q e n w o)) (rw m few) (rw m o.room) (rw m o.clean) in
        let c' : s ≡ visited G.size 0 1 (st 0 w) = rw m c in
        let one : (visited G.size 0 1 (st 0 w)).tail ≡ 1 = r.2 in
        rw c' (record {
          far = put none 0 0;
          running = r.0;
          within = omega arith;
          good = λ x l. absurd (omega arith);
          long = r.1.long;
          rest = r.1.rest;
          level = record {
            order = (omega arith, omega (arith, one));
            nearer = λ x l. absurd (omega arith);
            here = λ x a b. let e : x ≡ 0 = omega arith in rw e (ap (put none 0 0) r.0.queue.root.0 ∙ r.0.queue.root.2);
            farther = λ x a b. absurd (omega (arith, one));
          };
          since = omega arith;
          until = λ l. omega arith;
        })

    -- when the start is an entry, the words that are not the search's own are as they were
    pub start_rest : (s : St) → s ≡ visited n 0 1 (st 0 w) → drop (words_for G.size) s.work ≡ drop (words_for G.size) w
    start_rest s c = (run_start (λ v. false) s c).rest

  module _ (bad : ℕ → Bool) (w : List ℕ) (h d start end : ℕ) (s : St) (z : Sizes p q e n) (f : Before G bad w h d start end s) where
    -- the distances of the entries
    abbrev E : ℕ → ℕ
    E x = f.far (node_at s.work x)

    -- entry h is at the distance d, which is small
    at_depth : h < s.tail → E h ≡ d
    at_depth l = f.level.here h f.since (f.until l)

    pub shallow : h < s.tail → d < 1024
    shallow l = omega (arith, at_depth l, f.running.queue.near h l, tail_le G f.far h 0 s f.running, few_pairs p q e n z, pairs_size z)

    -- a good entry whose events have all been tried: the level goes on, or the next one begins where it ends
    pub run_more : (s₁ : St) (d₁ start₁ end₁ : ℕ) → h < s.tail → bad (node_at s.work h) ≡ false → s₁ ≡ scanned G h (node_at s.work h) e s
        → d₁ ≡ cond (ltb (h + 1) end) d (d + 1) → start₁ ≡ cond (ltb (h + 1) end) start end → end₁ ≡ cond (ltb (h + 1) end) end s₁.tail
        → Before G bad w (h + 1) d₁ start₁ end₁ s₁
    run_more s₁ d₁ start₁ end₁ l t c ed es ee = rw c' (pick (lt_or_ge (h + 1) end))
      where
        s' : St
        s' = scanned G h (node_at s.work h) G.events s

        c' : s₁ ≡ s'
        c' = c ∙ ap (λ (y : ℕ). scanned G h (node_at s.work h) y s) (sym pairs_events)

        r : Stepped G f.far (f.far (node_at s.work h)) h G.events s s'
        r = scan_kept G f.far h s f.running l G.events (omega arith)

        E' : ℕ → ℕ
        E' x = r.far (node_at s'.work x)

        level' : LevelIs E' d start end s'.tail
        level' = level_grows E E' d start end s.tail s'.tail f.level r.keeps.queue.grows
            (λ x a. entry_kept G f.far r.far h 0 s s' f.running r.keeps x a)
            (λ x a b. r.fresh x a b ∙ ap (λ (y : ℕ). y + 1) (at_depth l))

        good' : (x : ℕ) → x < h + 1 → bad (node_at s'.work x) ≡ false
        good' x k = ap bad (r.keeps.queue.nodes x (omega arith))
            ∙ ⊎_elim (λ (i : x ≡ h). rw i t) (λ (i : x < h). f.good x i) (eq-or-lt_of_le (omega arith))

        pick : (h + 1 < end) ⊎ (end ≤ h + 1) → Before G bad w (h + 1) d₁ start₁ end₁ s'
        pick (inl i) = rw (ed, es, ee, lt-ltb (h + 1) end i) (record {
          far = r.far;
          running = running_next G r.far h s' r.running;
          within = omega (arith, r.keeps.queue.grows);
          good = good';
          long = r.keeps.long ∙ f.long;
          rest = r.keeps.rest ∙ f.rest;
          level = level';
          since = omega (arith, f.since);
          until = λ k. i;
        })
        pick (inr i) = rw (ed, es, ee, c', le-ltb (h + 1) end i) (record {
          far = r.far;
          running = running_next G r.far h s' r.running;
          within = omega (arith, r.keeps.queue.grows);
          good = good';
          long = r.keeps.long ∙ f.long;
          rest = r.keeps.rest ∙ f.rest;
          level = level_next E' d start end s'.tail level';
          since = omega (arith, f.until l);
          until = λ k. k;
        })

    -- what is not the search's own is as it was, if it was so where the loop began
    rest_kept : (w₀ : List ℕ) → drop (words_for G.size) w ≡ drop (words_for G.size) w₀ → drop (words_for n) s.work ≡ drop (words_for n) w₀
    rest_kept w₀ r =
        ap (λ (y : ℕ). drop (words_for y) s.work) (sym (pairs_size z)) ∙ f.rest ∙ r
        ∙ ap (λ (y : ℕ). drop (words_for y) w₀) (pairs_size z)

    -- the level's first entry is the first that is no nearer than entry h
    begins : h < s.tail → level_start (node_at s.work) f.far h ≡ start
    begins l = go (eq-or-lt_of_le f.since)
      where
        test : ℕ → Bool
        test x = leb (E h) (E x)

        before : (x : ℕ) → x < start → test x ≡ false
        before x k = lt-leb (E h) (E x) (omega (arith, at_depth l, f.level.nearer x k))

        go : (start ≡ h) ⊎ (start < h) → level_start (node_at s.work) f.far h ≡ start
        go (inl i) = first_none test h (λ x k. before x (omega arith)) ∙ sym i
        go (inr i) = first_is test h start i before
            (le-leb (E h) (E start) (omega (arith, at_depth l, f.level.here start (omega arith) (omega (arith, f.until l)))))

    -- the search stops at a bad entry
    pub run_hit : (w₀ : List ℕ) → drop (words_for G.size) w ≡ drop (words_for G.size) w₀ → bad (node_at s.work h) ≡ true
        → Ended G bad h d start s × (drop (words_for n) s.work ≡ drop (words_for n) w₀)
    run_hit w₀ r t = (
      record { far = f.far; running = f.running; within = f.within; good = f.good; hit = λ l. t; depth = at_depth; level = begins },
      rest_kept w₀ r,
    )

    -- the search stops where the queue ends
    pub run_over : (w₀ : List ℕ) → drop (words_for G.size) w ≡ drop (words_for G.size) w₀ → s.tail ≤ h
        → Ended G bad h d start s × (drop (words_for n) s.work ≡ drop (words_for n) w₀)
    run_over w₀ r k = (
      record {
        far = f.far;
        running = f.running;
        within = f.within;
        good = f.good;
        hit = λ l. absurd (omega arith);
        depth = λ l. absurd (omega arith);
        level = λ l. absurd (omega arith);
      },
      rest_kept w₀ r,
    )
