-- Nothing to believe: the theory of the search. The search's work list: with n nodes, n words each for the queue's
-- entries and for the links of the nodes. The distances of the nodes stand nowhere; a function of the proofs has them
-- (`D`). The steps of the search on it, each a definition of the shape of its code, and what they keep.
use Rattle.std.specs.Prelude.{◌≡◌, cond, List, eqb, length, get_or, set, drop}
use Prim.Native.Nat.{ℕ, zero, suc, ◌+◌, ◌*◌, ◌≤◌, ◌<◌}
use Rattle.std.proofs.Math.Dec.{ltb}
use Rattle.walks.specs.Graph.{Graph}
use Rattle.search_theory.specs.Queue.{link_of, Queue}
use Rattle.search_theory.specs.Push.{Kept}

-- How many words a search over n nodes has: n for the queue and n for the links.
abbrev pub words_for : ℕ → ℕ
words_for n = 2 * n

-- The node of entry x, from the work list.
unfoldable pub node_at : List ℕ → ℕ → ℕ
node_at w x = get_or w x 0

-- The link of node v, from the work list.
unfoldable pub link_at : ℕ → List ℕ → ℕ → ℕ
link_at n w v = get_or w (n + v) 0

-- The state of a search: the number of entries and the work list.
pub record St : Type 0 where
  pub tail : ℕ
  pub work : List ℕ

-- A number of entries and a work list as one state.
abbrev pub st : ℕ → List ℕ → St
st t w = record { tail = t; work = w }

-- Node v is made an entry with the link m, unless it is one.
unfoldable pub visited : ℕ → ℕ → ℕ → St → St
visited n v m s = cond (eqb (link_at n s.work v) 0) (st (s.tail + 1) (set (set s.work (n + v) m) s.tail v)) s

-- Event k of entry h, the node v, is tried.
unfoldable pub tried : Graph → ℕ → ℕ → ℕ → St → St
tried g h v k s = cond (ltb (g.next v k) g.size) (visited g.size (g.next v k) (link_of h k) s) s

-- The first k events of entry h, the node v, are tried.
unfoldable pub scanned : Graph → ℕ → ℕ → ℕ → St → St
scanned g h v zero s = s
scanned g h v (suc k) s = tried g h v k (scanned g h v k s)

-- What holds of the work list, with the distances D, when all events of the entries before h, and k events of entry h,
-- have been tried.
pub record Running (g : Graph) (D : ℕ → ℕ) (h k : ℕ) (s : St) : Type 0 where
  pub small : g.size ≤ 1024
  pub room : words_for g.size ≤ length s.work
  pub queue : Queue g (node_at s.work) (link_at g.size s.work) D h k s.tail

-- What a step leaves as it was: the entries, their links and distances, and all words after the first 2 n.
pub record Keeps (n : ℕ) (D D' : ℕ → ℕ) (s s' : St) : Type 0 where
  pub queue : Kept n (node_at s.work) (link_at n s.work) D (node_at s'.work) (link_at n s'.work) D' s.tail s'.tail
  pub long : length s'.work ≡ length s.work
  pub rest : drop (words_for n) s'.work ≡ drop (words_for n) s.work

-- the distances with d for node v
abbrev pub put : (ℕ → ℕ) → ℕ → ℕ → ℕ → ℕ
put D v d u = cond (eqb u v) d (D u)

-- what a visit asks: the node's word is there, and so is the next entry's if it will be one
pub record VisitOk (n v : ℕ) (s : St) : Type 0 where
  pub small : n ≤ 1024
  pub room : words_for n ≤ length s.work
  pub node : v < n
  pub free : link_at n s.work v ≡ 0 → s.tail < n

-- What holds after some events of entry h, at the distance d: the distances are `far`, and every new entry is one
-- farther.
pub record Stepped (g : Graph) (D : ℕ → ℕ) (d h k : ℕ) (s s' : St) : Type 0 where
  pub far : ℕ → ℕ
  pub running : Running g far h k s'
  pub keeps : Keeps g.size D far s s'
  pub fresh : (x : ℕ) → s.tail ≤ x → x < s'.tail → far (node_at s'.work x) ≡ d + 1

-- the distances at the start
abbrev pub none : ℕ → ℕ
none u = 0

-- ---- levels

-- The entries of a queue by their distances: those before `start` are nearer than d, those from there to `end` are at
-- d, the later ones at d + 1. E x is the distance of entry x.
pub record LevelIs (E : ℕ → ℕ) (d start end tail : ℕ) : Type 0 where
  pub order : (start ≤ end) × (end ≤ tail)
  pub nearer : (x : ℕ) → x < start → E x < d
  pub here : (x : ℕ) → start ≤ x → x < end → E x ≡ d
  pub farther : (x : ℕ) → end ≤ x → x < tail → E x ≡ d + 1
