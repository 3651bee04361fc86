-- Nothing to believe: the theory of the search. What the functions of the search ask of one another.
use Rattle.std.specs.Prelude.{◌≡◌, Bool, false, List, ℕ, ◌*◌, ◌≤◌, ◌<◌, length, drop}
use Rattle.walks.specs.Graph.{Graph}
use Rattle.search_theory.specs.Tables.{table_pairs}
use Rattle.search_theory.specs.Words.{words_for, St, node_at, link_at, Running, LevelIs}

-- The sizes of two graphs, p and q nodes and e events, and the number n of their pairs.
pub record Sizes (p q e n : ℕ) : Type 0 where
  pub some_p : 0 < p
  pub some_q : 0 < q
  pub rows : p ≤ 32
  pub columns : q ≤ 32
  pub events : e ≤ 12
  pub size : n ≡ p * q

-- The numbers that a step computes with are small.
pub record StepFacts (q n place row column k : ℕ) : Type 0 where
  pub low : row < 32
  pub lower : column < 32
  pub few : k < 12
  pub small : n ≤ 1024
  pub early : place < 1024
  pub wide : q ≤ 32

-- Where an entry stands, and what is read there.
pub record Seat (n place : ℕ) (w : List ℕ) : Type 0 where
  pub small : n ≤ 1024
  pub room : words_for n ≤ length w
  pub inside : place < n
  pub node : node_at w place < n

-- A search may start: the links are 0.
pub record RunOk (p q e n : ℕ) (w : List ℕ) : Type 0 where
  pub sizes : Sizes p q e n
  pub room : words_for n ≤ length w
  pub clean : (v : ℕ) → v < n → link_at n w v ≡ 0

-- The search before entry h, at the distance d: all earlier entries are good, those before `start` are nearer, the
-- level ends at `end`, and the words that are not the search's own are those of w. The distances are `far`.
pub record Before (g : Graph) (bad : ℕ → Bool) (w : List ℕ) (h d start end : ℕ) (s : St) : Type 0 where
  pub far : ℕ → ℕ
  pub running : Running g far h 0 s
  pub within : h ≤ s.tail
  pub good : (x : ℕ) → x < h → bad (node_at s.work x) ≡ false
  pub long : length s.work ≡ length w
  pub rest : drop (words_for g.size) s.work ≡ drop (words_for g.size) w
  pub level : LevelIs (λ x. far (node_at s.work x)) d start end s.tail
  pub since : start ≤ h
  pub until : h < s.tail → h < end

module _ (a b : List ℕ) (p q e n : ℕ) where
  -- the graph that is searched
  abbrev G : Graph
  G = table_pairs a b p q e

  -- Event k of entry `place`, the pair (row, column), may be tried.
  pub record StepOk (place row column k : ℕ) (s : St) : Type 0 where
    pub sizes : Sizes p q e n
    pub far : ℕ → ℕ
    pub running : Running G far place k s
    pub inside : place < n
    pub in_p : row < p
    pub in_q : column < q
    pub event : k < e

  -- The events of entry `place` may be tried.
  pub record ScanOk (place : ℕ) (s : St) : Type 0 where
    pub sizes : Sizes p q e n
    pub far : ℕ → ℕ
    pub running : Running G far place 0 s
    pub here : place < s.tail
