-- The two loops that look for a missed set: from set x of the list on, and from acceptance k on.
use Rattle.std.proofs.Common.{◌≡◌, ℕ, ◌+◌, ◌<◌, ◌≤◌, ◌≢◌, ◌↔◌, List, Option, Some, None, length, get_or, drop, ap, ◌∙◌, eq-eqb, ne_eqb}
use lib.Bits.{bit_and}
use Rattle.events.specs.Sets.{meets}
use Rattle.probes_spec.specs.declared.Missed.{Missed}
use Rattle.probes_spec.specs.Probes.{probes}
use Rattle.probes_spec.specs.FirstMissed.{missing, or_next, first_missing, first_missed, missed_numbers, NoneMissed}
use Rattle.probes_spec.proofs.FirstMissedLaws.{found_0}
use Rattle.probes.proofs.candidates.Passes.{left_some, left_none}

-- the inner loop
module _ (device : List ℕ) (k p : ℕ) where
  pub miss_at : k < length device → bit_and p (get_or device k 0) ≡ 0 → missing p (drop k device) ≡ Some (record { probe = p; acceptance = get_or device k 0 })
  unfolding missing meets
  miss_at h z = rw (left_some device k h, eq-eqb (bit_and p (get_or device k 0)) 0 z)

  pub miss_more : k < length device → bit_and p (get_or device k 0) ≢ 0 → missing p (drop k device) ≡ missing p (drop (k + 1) device)
  unfolding missing meets
  miss_more h z = rw (left_some device k h, ne_eqb (bit_and p (get_or device k 0)) 0 z)

  pub miss_end : length device ≤ k → missing p (drop k device) ≡ None
  unfolding missing
  miss_end h = rw (left_none device k h)

-- the outer loop
module _ (list device : List ℕ) (x : ℕ) where
  pub named_at : x < length list → (m : Missed) → missing (get_or list x 0) device ≡ Some m → first_missing (drop x list) device ≡ Some m
  unfolding first_missing or_next
  named_at h m e = rw (left_some list x h, e)

  pub named_more : x < length list → missing (get_or list x 0) device ≡ None → first_missing (drop x list) device ≡ first_missing (drop (x + 1) list) device
  unfolding first_missing or_next
  named_more h m = rw (left_some list x h, m)

  pub named_end : length list ≤ x → first_missing (drop x list) device ≡ None
  unfolding first_missing
  named_end h = rw (left_none list x h)

-- what the call promises of its answer: it is the definition's, and nothing is found exactly if no probe is missed
pub told_missed : {r : Option Missed} (accs : List ℕ) (e : ℕ) (dev list : List ℕ) → list ≡ probes accs e → r ≡ first_missing list dev
    → (r ≡ first_missed accs e dev) × (((missed_numbers r).found ≡ 0) ↔ NoneMissed (probes accs e) dev)
unfolding first_missed
told_missed accs e dev list q p = let t = p ∙ ap (λ (l : List ℕ). first_missing l dev) q in (t, rw t (found_0 accs e dev))
