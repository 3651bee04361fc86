-- Finite labelled graphs with one start node and at most one successor on each event, and walks in them.
use Rattle.std.specs.Prelude.{List, [], ◌∷◌, ◌++◌, ℕ, ◌≤◌, ◌<◌}
use Rattle.std.proofs.Common.{append-nil}
use Rattle.std.proofs.Math.Seq.{append_snoc}

-- A graph: a node is a number below `size`, 0 is the start. `next n i` is the successor of n on event i; a number not
-- below `size` stands for none.
pub record Graph : Type 0 where
  -- how many events there are: they are the numbers below it
  pub events : ℕ
  -- how many nodes there are
  pub size : ℕ
  pub next : ℕ → ℕ → ℕ

-- What the theory asks of a graph.
pub record WellFormed (g : Graph) : Type 0 where
  -- there is a start
  pub start : 0 < g.size
  -- no event leads back from "none"
  pub none : (n i : ℕ) → g.size ≤ n → g.size ≤ g.next n i
  -- only an event has a successor
  pub labels : (n i : ℕ) → g.next n i < g.size → i < g.events

-- The node to which the events of t lead from n.
unfoldable pub walk : Graph → ℕ → List ℕ → ℕ
walk g n [] = n
walk g n (i ∷ t) = walk g (g.next n i) t

-- t is a trace of g: its events lead from the start to a node.
abbrev pub Trace : Graph → List ℕ → Type 0
Trace g t = walk g 0 t < g.size

-- Every event of t is below E.
abbrev pub Below : ℕ → List ℕ → Type 0
Below E [] = Unit {0}
Below E (i ∷ t) = (i < E) × Below E t

-- induction on the last element
pub snoc-ind {ℓ} : (A : List ℕ → Type ℓ) → A [] → ((t : List ℕ) (i : ℕ) → A t → A (t ++ (i ∷ []))) → (t : List ℕ) → A t
snoc-ind A base step t = go [] t base
  where
    go : (s t : List ℕ) → A s → A (s ++ t)
    go s [] a = rw (append-nil s) a
    go s (i ∷ t) a = rw (append_snoc s i t) at (go (s ++ (i ∷ [])) t (step s i a))
