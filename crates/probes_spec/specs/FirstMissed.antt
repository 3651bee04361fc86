-- What a comparison names at a refusal (01, "A comparison"): the first probe in the list that some device acceptance
-- misses, with the lowest such acceptance. The device's acceptances ascend, so the lowest is the first.
use Rattle.std.specs.Prelude.{◌≡◌, cond, List, [], ◌∷◌, ℕ, Option, Some, None, ◌<◌, length, get_or}
use Rattle.events.specs.Bit.{Apart}
use Rattle.events.specs.Sets.{meets}
use Rattle.probes_spec.specs.declared.Missed.{Missed}
use Rattle.probes_spec.specs.Probes.{probes}

-- the first acceptance of a list that has no event of p, named with p
unfoldable pub missing : ℕ → List ℕ → Option Missed
missing p [] = None
missing p (a ∷ dev) = cond (meets p a) (missing p dev) (Some (record { probe = p; acceptance = a }))

-- the first of two answers that names something
unfoldable pub or_next : Option Missed → Option Missed → Option Missed
or_next None m = m
or_next (Some n) m = Some n

-- the first set of a list that some acceptance misses, with the first such acceptance
unfoldable pub first_missing : List ℕ → List ℕ → Option Missed
first_missing [] dev = None
first_missing (p ∷ ps) dev = or_next (missing p dev) (first_missing ps dev)

-- the first probe of the reference's acceptances that some acceptance of the device misses, with the first such
-- acceptance
unfoldable pub first_missed : List ℕ → ℕ → List ℕ → Option Missed
first_missed accs e dev = first_missing (probes accs e) dev

-- the numbers of what is named: 1 where a probe is found and 0 where none is, the probe, the acceptance that misses it
pub record MissedNumbers : Type 0 where
  pub found : ℕ
  pub probe : ℕ
  pub acceptance : ℕ

-- the numbers of each case of an answer; a probe and an acceptance that are not found are 0
unfoldable pub missed_numbers : Option Missed → MissedNumbers
missed_numbers None = record { found = 0; probe = 0; acceptance = 0 }
missed_numbers (Some m) = record { found = 1; probe = m.probe; acceptance = m.acceptance }

-- no set of the list is missed by an acceptance, in plain words
abbrev pub NoneMissed : List ℕ → List ℕ → Type 0
NoneMissed ps dev = (x : ℕ) → x < length ps → (j : ℕ) → j < length dev → ¬ Apart (get_or ps x 0) (get_or dev j 0)

-- in plain words: p is in the list and a among the acceptances, and they have no common event; no set before p is
-- missed, and p is missed by no acceptance before a
pub record MissedFirst (ps dev : List ℕ) (p a : ℕ) : Type 0 where
  pub place : ℕ
  pub place_in : place < length ps
  pub probe : get_or ps place 0 ≡ p
  pub spot : ℕ
  pub spot_in : spot < length dev
  pub acceptance : get_or dev spot 0 ≡ a
  pub misses : Apart p a
  pub earlier : (x : ℕ) → x < place → (j : ℕ) → j < length dev → ¬ Apart (get_or ps x 0) (get_or dev j 0)
  pub lower : (j : ℕ) → j < spot → ¬ Apart p (get_or dev j 0)
