-- Nothing to believe: the theory of the search. A node that becomes the last entry of the queue, and what stays as it is.
use Rattle.std.specs.Prelude.{◌≡◌, ◌≢◌, ℕ, ◌≤◌, ◌<◌}

-- The node v, which had no entry, is now entry `tail`, with the link m and the distance d; all else is as it was.
pub record Pushed (n : ℕ) (N K D N' K' D' : ℕ → ℕ) (tail v m d : ℕ) : Type 0 where
  pub was : K v ≡ 0
  pub new : N' tail ≡ v
  pub old : (x : ℕ) → x < tail → N' x ≡ N x
  pub link : K' v ≡ m
  pub links : (u : ℕ) → u < n → u ≢ v → K' u ≡ K u
  pub dist : D' v ≡ d
  pub dists : (u : ℕ) → u < n → u ≢ v → D' u ≡ D u

-- What is in the queue stays as it is: entries, links and distances.
pub record Kept (n : ℕ) (N K D N' K' D' : ℕ → ℕ) (tail tail' : ℕ) : Type 0 where
  pub grows : tail ≤ tail'
  pub nodes : (x : ℕ) → x < tail → N' x ≡ N x
  pub links : (u : ℕ) → u < n → 0 < K u → K' u ≡ K u
  pub dists : (u : ℕ) → u < n → 0 < K u → D' u ≡ D u
