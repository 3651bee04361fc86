-- Nothing to believe: the theory of the search. What the search answers and leaves behind, said by the theory of walks
-- alone; and where it has ended.
use Rattle.std.specs.Prelude.{◌≡◌, Bool, true, false, cond, List, ℕ, ◌*◌, ◌/◌, ◌%◌, ◌≤◌, ◌<◌, ltb, replicate}
use Rattle.base.specs.Front.{at_front}
use Rattle.walks.specs.Graph.{Graph, walk}
use Rattle.walks.specs.Pairs.{pair_distance, pair_trace, pair_cleared}
use Rattle.search_theory.specs.declared.Found.{Found}
use Rattle.search_theory.specs.declared.Found.TheVariants.{Clear, Bad}
use Rattle.search_theory.specs.Tables.{table_graph, bad_in}
use Rattle.search_theory.specs.Queue.{read_back, level_start}
use Rattle.search_theory.specs.Words.{words_for, St, node_at, link_at, Running}

module _ (r d : Graph) (bad : ℕ → ℕ → Bool) where
  -- The answer of a search: the nearest bad pair with its distance, the pair to which its least trace leads, and how
  -- many pairs are nearer; if none is reached, how many pairs are.
  unfoldable pub found_of : Found
  found_of = cond (ltb (pair_distance r d bad) (r.size * d.size))
      (Bad (pair_distance r d bad) (walk r 0 (pair_trace r d bad)) (walk d 0 (pair_trace r d bad)) (pair_cleared r d (pair_distance r d bad)))
      (Clear (pair_cleared r d (r.size * d.size)))

  -- The trace list at exit: the least trace in front and the rest untouched; as it was if no bad pair is reached.
  unfoldable pub trace_found : List ℕ → List ℕ
  trace_found trace = cond (ltb (pair_distance r d bad) (r.size * d.size)) (at_front trace (pair_trace r d bad)) trace

-- The work list at exit: the words of the search are 0 and the rest untouched.
unfoldable pub work_found : ℕ → List ℕ → List ℕ
work_found n work = at_front work (replicate (words_for n) 0)

-- What a search over two tables answers and leaves in its lists.
pub record Searched (a b : List ℕ) (p q e : ℕ) (bad : List Bool) (work trace work' trace' : List ℕ) (found : Found) : Type 0 where
  pub answer : found ≡ found_of (table_graph a p e) (table_graph b q e) (bad_in bad q)
  pub traced : trace' ≡ trace_found (table_graph a p e) (table_graph b q e) (bad_in bad q) trace
  pub zeroed : work' ≡ work_found (p * q) work

-- The search has ended at entry h: it is the first bad one, at the distance d, and c entries are nearer; or there is
-- none. The distances are `far`.
pub record Ended (g : Graph) (bad : ℕ → Bool) (h d c : ℕ) (s : St) : Type 0 where
  pub far : ℕ → ℕ
  pub running : Running g far h 0 s
  pub within : h ≤ s.tail
  pub good : (x : ℕ) → x < h → bad (node_at s.work x) ≡ false
  pub hit : h < s.tail → bad (node_at s.work h) ≡ true
  pub depth : h < s.tail → far (node_at s.work h) ≡ d
  pub level : h < s.tail → level_start (node_at s.work) far h ≡ c

-- The answer where the search ended at entry h of t, at the distance d with c entries that are nearer.
unfoldable pub settled : ℕ → List ℕ → ℕ → ℕ → ℕ → ℕ → Found
settled q w h t d c = cond (ltb h t) (Bad d (node_at w h / q) (node_at w h % q) c) (Clear t)

-- The trace list at exit, as the links of the work list spell it.
unfoldable pub read_out : ℕ → List ℕ → ℕ → ℕ → ℕ → List ℕ → List ℕ
read_out n w h t d trace = cond (ltb h t) (at_front trace (read_back (node_at w) (link_at n w) d h)) trace
