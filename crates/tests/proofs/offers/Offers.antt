-- What is offered: the parts of the offer.
use Rattle.std.proofs.Common.{◌≡◌, ◌≢◌, ℕ, ◌%◌, ◌≤◌, ◌<◌, List, length, get_or, ◌∙◌, arith, ne_eqb, mod-lt}
use Rattle.base.specs.Front.{at_front}
use Rattle.base.proofs.Front.{at_front_before}
use Rattle.sheet_spec.specs.declared.Row.{Row}
use Rattle.sheet_spec.specs.Kept.{initials}
use Rattle.tests_spec.specs.Runs.{all_events, chosen}
use Rattle.tests_spec.proofs.Offers.{initials_small}

-- no initial is outside the e events
pub inside : (e : ℕ) (w : Row) → e ≤ 12 → initials e w ≤ all_events e
unfolding all_events
inside e w h = omega (arith, initials_small e w h)

-- the probe of a choice number
module _ (ps : List ℕ) (h : ℕ) {m : ℕ} (q : m ≡ length ps) where
  pub chosen_none : m ≡ 0 → 0 ≡ chosen ps h
  unfolding chosen
  chosen_none z = rw (← q, z)

  -- the probe of a choice number, from a list that has the probes at its front
  pub chosen_some : (out : List ℕ) {found : List ℕ} → m ≢ 0 → found ≡ at_front out ps → get_or found (h % m) 0 ≡ chosen ps h
  unfolding chosen
  chosen_some out n p =
      let l : h % m < length ps = rw (← q) (mod-lt h (omega arith)) in
      rw p (at_front_before out ps (h % m) 0 l ∙ rw (← q, ne_eqb m 0 n))
