-- Nothing to believe: the shapes of loops. The code's test of one set in a single pass, when it succeeds; the probes as
-- they are found, by their number; and those of a size among them. Laws join them to Probes.
use Rattle.std.specs.Prelude.{◌≡◌, Bool, false, cond, List, [], ◌∷◌, ℕ, ◌-◌, ◌^◌, ◌<◌, eqb, length, get_or}
use Rattle.std.specs.Int.Bits.{bit_and, bit_or}
use Rattle.base.specs.Gather.{select}
use Rattle.events.specs.Size.{size}
use Rattle.probes_spec.specs.Probes.{is_probe}

-- event i is the only one that X has in common with some acceptance
abbrev pub Alone : List ℕ → ℕ → ℕ → Type 0
Alone accs X i = (j : ℕ) × (j < length accs) × (bit_and (get_or accs j 0) X ≡ 2 ^ i)

-- y where it has at most one event, else the empty set
unfoldable pub lone : ℕ → ℕ
lone y = cond (eqb (bit_and y (y - 1)) 0) y 0

-- the pass over the acceptances: each must meet x, and the events that are alone in a meeting are gathered in `own`; at
-- the end these must be all of x
unfoldable pub one_pass : List ℕ → ℕ → ℕ → Bool
one_pass [] x own = eqb own x
one_pass (a ∷ accs) x own = cond (eqb (bit_and a x) 0) false (one_pass accs x (bit_or own (lone (bit_and a x))))

-- the probes by their number alone, as they are found
unfoldable pub probes_by_number : List ℕ → ℕ → List ℕ
probes_by_number accs e = select (is_probe accs) (2 ^ e)

-- the sets of a list that have j events, in their order
unfoldable pub of_size : List ℕ → ℕ → List ℕ
of_size [] j = []
of_size (x ∷ l) j = cond (eqb (size x) j) (x ∷ of_size l j) (of_size l j)
