-- Nothing to believe: laws of what specs/Words.antt defines. The steps of the search keep what holds of the queue.
use Rattle.std.specs.Prelude.{◌≡◌, ◌⊎◌, ◌≢◌, Bool, cond, List, eqb, length, set}
use Rattle.std.proofs.Math.Path.{refl}
use Rattle.std.proofs.Common.{sym, ap, ◌∙◌, inl, inr, arith, eq-zero-or-pos, add-one, length-set, drop-set-lt}
use Rattle.std.proofs.Math.Bool.{true, false}
use Prim.Native.Nat.{ℕ, zero, suc, ◌+◌, ◌≤◌, ◌<◌}
use Rattle.std.proofs.Math.Dec.{ltb}
use Rattle.std.proofs.Math.Seq.{get_or-set_same, get_or-set_other}
use borrow.Author.Tests.{eq-eqb, ne_eqb, ltb-true, ltb-false}
use Rattle.base.proofs.Truth.{lt_or_ge}
use Rattle.walks.specs.Graph.{Graph}
use Rattle.search_theory.specs.Queue.{link_of}
use Rattle.search_theory.proofs.Queue.{capacity, room_left}
use Rattle.search_theory.specs.Push.{Pushed}
use Rattle.search_theory.proofs.Push.{kept_refl, kept_trans, pushed_kept, queue_push, queue_skip, queue_next, queue_start}
use Rattle.search_theory.specs.Words.{Keeps, LevelIs, Running, St, Stepped, VisitOk, link_at, node_at, none, put, scanned, st, tried, visited, words_for}

-- where nothing is done, all stays as it was
pub keeps_refl : (n : ℕ) (D : ℕ → ℕ) (s : St) → Keeps n D D s s
keeps_refl n D s = record { queue = kept_refl n (node_at s.work) (link_at n s.work) D s.tail; long = refl; rest = refl }

-- what one step and then another leave as it was, both together do
pub keeps_trans : (n : ℕ) (D D₁ D₂ : ℕ → ℕ) (a b c : St) → Keeps n D D₁ a b → Keeps n D₁ D₂ b c → Keeps n D D₂ a c
keeps_trans n D D₁ D₂ a b c p q = record {
  queue = kept_trans n (node_at a.work) (link_at n a.work) D (node_at b.work) (link_at n b.work) D₁
      (node_at c.work) (link_at n c.work) D₂ a.tail b.tail c.tail p.queue q.queue;
  long = q.long ∙ p.long;
  rest = q.rest ∙ p.rest;
}

put_same : (D : ℕ → ℕ) (v d : ℕ) → put D v d v ≡ d
put_same D v d = rw (eq-eqb v v refl)

put_other : (D : ℕ → ℕ) (v d u : ℕ) → u ≢ v → put D v d u ≡ D u
put_other D v d u n = rw (ne_eqb u v n)

module _ (n : ℕ) (w : List ℕ) (D : ℕ → ℕ) (tail v m d : ℕ) (room : words_for n ≤ length w) (ht : tail < n) (hv : v < n) where
  -- the work list with the link of a new entry
  abbrev w₁ : List ℕ
  w₁ = set w (n + v) m

  -- the work list with the link of a new entry and then its node, at the tail
  abbrev w₂ : List ℕ
  w₂ = set w₁ tail v

  -- no word is added by the link of a new entry
  long₁ : length w₁ ≡ length w
  long₁ = length-set w (n + v) m

  -- the two words of a new entry make it one
  words_pushed : link_at n w v ≡ 0 → Pushed n (node_at w) (link_at n w) D (node_at w₂) (link_at n w₂) (put D v d) tail v m d
  unfolding node_at link_at
  words_pushed z = record {
    was = z;
    new = get_or-set_same w₁ tail v 0 (omega (arith, long₁));
    old = λ x h. get_or-set_other w₁ tail x v 0 (λ e. omega arith) ∙ get_or-set_other w (n + v) x m 0 (λ e. omega arith);
    link = get_or-set_other w₁ tail (n + v) v 0 (λ e. omega arith) ∙ get_or-set_same w (n + v) m 0 (omega arith);
    links = λ u h ne. get_or-set_other w₁ tail (n + u) v 0 (λ e. omega arith) ∙ get_or-set_other w (n + v) (n + u) m 0 (λ e. ne (omega arith));
    dist = put_same D v d;
    dists = λ u h ne. put_other D v d u ne;
  }

  -- the two words of a new entry leave the rest
  words_keep : link_at n w v ≡ 0 → Keeps n D (put D v d) (st tail w) (st (tail + 1) w₂)
  words_keep z = record {
    queue = rw (add-one tail) (pushed_kept n (node_at w) (link_at n w) D (node_at w₂) (link_at n w₂) (put D v d) tail v m d (words_pushed z));
    long = length-set w₁ tail v ∙ long₁;
    rest = drop-set-lt (words_for n) w₁ tail v (omega arith) ∙ drop-set-lt (words_for n) w (n + v) m (omega arith);
  }

-- while the search runs, any node may be visited
pub visit_ok : (g : Graph) (D : ℕ → ℕ) (h k v : ℕ) (s : St) → Running g D h k s → v < g.size → VisitOk g.size v s
visit_ok g D h k v s r l = record {
  small = r.small;
  room = r.room;
  node = l;
  free = room_left g (node_at s.work) (link_at g.size s.work) D h k s.tail r.queue v l;
}

-- an entry keeps its distance in a step
pub entry_kept : (g : Graph) (D D' : ℕ → ℕ) (h k : ℕ) (s s' : St) → Running g D h k s → Keeps g.size D D' s s'
    → (x : ℕ) → x < s.tail → D' (node_at s'.work x) ≡ D (node_at s.work x)
entry_kept g D D' h k s s' r p x l =
    let e = r.queue.entry x l in
    ap D' (p.queue.nodes x l) ∙ p.queue.dists (node_at s.work x) e.0 e.1

module _ (g : Graph) (D : ℕ → ℕ) (h k : ℕ) (s : St) (r : Running g D h k s) (ht : h < s.tail) (ke : k < g.events) where
  -- the number of nodes
  abbrev n : ℕ
  n = g.size

  -- the node to which event k leads from entry h
  abbrev v : ℕ
  v = g.next (node_at s.work h) k

  -- the distance of entry h
  abbrev d : ℕ
  d = D (node_at s.work h)

  -- what holds after an event that leads to no node, or to one that has an entry
  skip : (v < n → 0 < link_at n s.work v) → Stepped g D d h (suc k) s s
  skip p = record {
    far = D;
    running = record {
      small = r.small;
      room = r.room;
      queue = queue_skip g (node_at s.work) (link_at n s.work) D h k s.tail r.queue p;
    };
    keeps = keeps_refl n D s;
    fresh = λ x a b. absurd (omega arith);
  }

  -- what holds after the node to which event k leads is visited
  visit_kept : v < n → Stepped g D d h (suc k) s (visited n v (link_of h k) s)
  unfolding visited
  visit_kept l = go (eq-zero-or-pos (link_at n s.work v))
    where
      m : ℕ
      m = link_of h k

      w' : List ℕ
      w' = set (set s.work (n + v) m) s.tail v

      go : (link_at n s.work v ≡ 0) ⊎ (0 < link_at n s.work v) → Stepped g D d h (suc k) s (cond (eqb (link_at n s.work v) 0) (st (s.tail + 1) w') s)
      go (inl z) = rw (eq-eqb (link_at n s.work v) 0 z) (
          record {
            far = put D v (d + 1);
            running = record {
              small = r.small;
              room = omega (arith, r.room, keeps.long);
              queue = rw (add-one s.tail) (queue_push g (node_at s.work) (link_at n s.work) D (node_at w') (link_at n w') (put D v (d + 1))
                  h k s.tail v r.queue ht ke l refl pushed);
            };
            keeps = keeps;
            fresh = λ x a b. let e : x ≡ s.tail = omega arith in rw e (ap (put D v (d + 1)) pushed.new ∙ pushed.dist);
          }
          )
        where
          free : s.tail < n
          free = (visit_ok g D h k v s r l).free z

          pushed : Pushed n (node_at s.work) (link_at n s.work) D (node_at w') (link_at n w') (put D v (d + 1)) s.tail v m (d + 1)
          pushed = words_pushed n s.work D s.tail v m (d + 1) r.room free l z

          keeps : Keeps n D (put D v (d + 1)) s (st (s.tail + 1) w')
          keeps = words_keep n s.work D s.tail v m (d + 1) r.room free l z
      go (inr p) = rw (ne_eqb (link_at n s.work v) 0 (λ e. omega arith)) (skip (λ b. p))

  -- what holds after event k of entry h is tried, wherever it leads
  try_kept : Stepped g D d h (suc k) s (tried g h (node_at s.work h) k s)
  unfolding tried
  try_kept = go (ltb v n) refl
    where
      go : (b : Bool) → ltb v n ≡ b → Stepped g D d h (suc k) s (cond b (visited n v (link_of h k) s) s)
      go true e = visit_kept (ltb-true v n e)
      go false e = skip (λ b. absurd (omega (arith, ltb-false v n e)))

module _ (g : Graph) (D : ℕ → ℕ) (h : ℕ) (s : St) (r : Running g D h 0 s) (ht : h < s.tail) where
  -- the node of entry h
  abbrev N : ℕ
  N = node_at s.work h

  -- what holds after k events holds after one event more
  scan_more : (k : ℕ) → k < g.events → (s₁ : St) → Stepped g D (D N) h k s s₁ → Stepped g D (D N) h (suc k) s (tried g h N k s₁)
  scan_more k l s₁ q = record {
    far = t.far;
    running = t.running;
    keeps = keeps_trans g.size D q.far t.far s s₁ (tried g h N k s₁) q.keeps t.keeps;
    fresh = fresh';
  }
    where
      a : node_at s₁.work h ≡ N
      a = q.keeps.queue.nodes h ht

      there : h < s₁.tail
      there = omega (arith, q.keeps.queue.grows)

      t : Stepped g q.far (q.far N) h (suc k) s₁ (tried g h N k s₁)
      t = rw a at (try_kept g q.far h k s₁ q.running there l)

      same : q.far N ≡ D N
      same = ap q.far (sym a) ∙ entry_kept g D q.far h 0 s s₁ r q.keeps h ht

      fresh' : (x : ℕ) → s.tail ≤ x → x < (tried g h N k s₁).tail → t.far (node_at (tried g h N k s₁).work x) ≡ D N + 1
      fresh' x b c = go (lt_or_ge x s₁.tail)
        where
          go : (x < s₁.tail) ⊎ (s₁.tail ≤ x) → t.far (node_at (tried g h N k s₁).work x) ≡ D N + 1
          go (inl e) = entry_kept g q.far t.far h k s₁ (tried g h N k s₁) q.running t.keeps x e ∙ q.fresh x b e
          go (inr e) = t.fresh x e c ∙ ap (λ (y : ℕ). y + 1) same

  -- what holds after k events of entry h
  pub scan_kept : (k : ℕ) → k ≤ g.events → Stepped g D (D (node_at s.work h)) h k s (scanned g h (node_at s.work h) k s)
  unfolding scanned
  scan_kept zero l = record { far = D; running = r; keeps = keeps_refl g.size D s; fresh = λ x a b. absurd (omega arith) }
  scan_kept (suc k) l = scan_more k l (scanned g h N k s) (scan_kept k (omega arith))

-- what holds of the work list holds when all events of entry h have been tried
pub running_next : (g : Graph) (D : ℕ → ℕ) (h : ℕ) (s : St) → Running g D h g.events s → Running g D (h + 1) 0 s
running_next g D h s r = record {
  small = r.small;
  room = r.room;
  queue = queue_next g (node_at s.work) (link_at g.size s.work) D h s.tail r.queue;
}

-- the start is made an entry, in a list without links
pub running_start : (g : Graph) (w : List ℕ) → g.events ≤ 12 → 0 < g.size → g.size ≤ 1024 → words_for g.size ≤ length w
    → ((u : ℕ) → u < g.size → link_at g.size w u ≡ 0)
    → Running g (put none 0 0) 0 0 (visited g.size 0 1 (st 0 w)) × Keeps g.size none (put none 0 0) (st 0 w) (visited g.size 0 1 (st 0 w))
    × ((visited g.size 0 1 (st 0 w)).tail ≡ 1)
unfolding visited
running_start g w few pos small room clean = rw (eq-eqb (link_at g.size w 0) 0 (clean 0 pos)) (
  record {
    small = small;
    room = omega (arith, keeps.long);
    queue = queue_start g (node_at w) (link_at n w) none (node_at w') (link_at n w') (put none 0 0) few pos clean pushed;
  },
  keeps,
  refl,
)
  where
    n : ℕ
    n = g.size

    w' : List ℕ
    w' = set (set w (n + 0) 1) 0 0

    pushed : Pushed n (node_at w) (link_at n w) none (node_at w') (link_at n w') (put none 0 0) 0 0 1 0
    pushed = words_pushed n w none 0 0 1 0 room pos pos (clean 0 pos)

    keeps : Keeps n none (put none 0 0) (st 0 w) (st 1 w')
    keeps = words_keep n w none 0 0 1 0 room pos pos (clean 0 pos)

-- there are no more entries than nodes
pub tail_le : (g : Graph) (D : ℕ → ℕ) (h k : ℕ) (s : St) → Running g D h k s → s.tail ≤ g.size
tail_le g D h k s r = capacity g (node_at s.work) (link_at g.size s.work) D h k s.tail r.queue

-- ---- levels

-- new entries that are one farther leave the levels as they are
pub level_grows : (E E' : ℕ → ℕ) (d start end tail tail' : ℕ) → LevelIs E d start end tail → tail ≤ tail' → ((x : ℕ) → x < tail → E' x ≡ E x)
    → ((x : ℕ) → tail ≤ x → x < tail' → E' x ≡ d + 1) → LevelIs E' d start end tail'
level_grows E E' d start end tail tail' l g old new = record {
  order = (l.order.0, omega (arith, l.order.1, g));
  nearer = λ x h. omega (arith, old x (omega (arith, l.order)), l.nearer x h);
  here = λ x a b. old x (omega (arith, l.order)) ∙ l.here x a b;
  farther = λ x a b. pick x a b (lt_or_ge x tail);
}
  where
    pick : (x : ℕ) → end ≤ x → x < tail' → (x < tail) ⊎ (tail ≤ x) → E' x ≡ d + 1
    pick x a b (inl c) = old x c ∙ l.farther x a c
    pick x a b (inr c) = new x c b

-- the next level goes from where a level ends to the last entry
pub level_next : (E : ℕ → ℕ) (d start end tail : ℕ) → LevelIs E d start end tail → LevelIs E (d + 1) end tail tail
level_next E d start end tail l = record {
  order = (l.order.1, omega arith);
  nearer = λ x h. pick x h (lt_or_ge x start);
  here = λ x a b. l.farther x a b;
  farther = λ x a b. absurd (omega arith);
}
  where
    pick : (x : ℕ) → x < end → (x < start) ⊎ (start ≤ x) → E x < d + 1
    pick x h (inl c) = omega (arith, l.nearer x c)
    pick x h (inr c) = omega (arith, l.here x c h)
