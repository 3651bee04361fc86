-- The probes of a node (01, "Probes"): the minimal hitting sets of its acceptances (001, section 2.2), those with fewer
-- events first (02, K3). A set of events is a number in which event i adds 2 ^ i. Each notion is given twice: as a test
-- or a list that computes, and in plain words; laws in both directions join the two. Crates above use `probes` by its
-- name and the laws of ProbeLaws, and never unfold it (but the cases, which compute).
use Rattle.std.specs.Prelude.{◌≡◌, ◌⊎◌, ◌↔◌, Bool, not, ◌&&◌, List, ℕ, suc, ◌^◌, ◌<◌, eqb, length, get_or}
use Rattle.base.specs.Range.{all}
use Rattle.base.specs.Gather.{select}
use Rattle.base.specs.Joined.{joined}
use Rattle.base.specs.Sorted.{In, Sorted}
use Rattle.events.specs.Bit.{bit, Within}
use Rattle.events.specs.Sets.{inside, meets}
use Rattle.events.specs.Size.{size}

-- x meets every acceptance
unfoldable pub hits : List ℕ → ℕ → Bool
hits accs x = all (λ j. meets (get_or accs j 0) x) (length accs)

-- x meets every acceptance, and no smaller set inside x does (a set inside x is a number no greater than x)
unfoldable pub is_probe : List ℕ → ℕ → Bool
is_probe accs x = hits accs x && all (λ y. not (inside y x && hits accs y)) x

-- the probes that have j events, among the sets of events below e, ascending by number
unfoldable pub probes_of : List ℕ → ℕ → ℕ → List ℕ
probes_of accs e j = select (λ x. eqb (size x) j && is_probe accs x) (2 ^ e)

-- the probes among the sets of events below e: those with no event, then those with one, and so on to those with e
unfoldable pub probes : List ℕ → ℕ → List ℕ
probes accs e = joined (probes_of accs e) (suc e)

-- X has an event of every acceptance
abbrev pub Hits : List ℕ → ℕ → Type 0
Hits accs X = (j : ℕ) → j < length accs → (i : ℕ) × (bit (get_or accs j 0) i ≡ 1) × (bit X i ≡ 1)

-- X is a minimal hitting set: it hits, and a set inside it that hits is X itself
pub record Probe (accs : List ℕ) (X : ℕ) : Type 0 where
  pub hits : Hits accs X
  pub minimal : (Y : ℕ) → Within Y X → Hits accs Y → Y ≡ X

-- X comes before Y: it has fewer events, or as many and the lower number
abbrev pub Before : ℕ → ℕ → Type 0
Before X Y = (size X < size Y) ⊎ ((size X ≡ size Y) × (X < Y))

-- a list is the probe list of some acceptances: just their minimal hitting sets stand in it, in that order
pub record ProbeList (accs l : List ℕ) : Type 0 where
  pub just : (X : ℕ) → In l X ↔ Probe accs X
  pub ordered : Sorted Before l

-- every acceptance has only events below e
abbrev pub Narrow : List ℕ → ℕ → Type 0
Narrow accs e = (j : ℕ) → j < length accs → get_or accs j 0 < 2 ^ e
