-- Nothing to believe: laws of what specs/Front.antt defines.
use Rattle.std.specs.Prelude.{◌≡◌, List, ◌++◌, ℕ, ◌+◌, ◌-◌, ◌≤◌, ◌<◌, length, get_or, take, drop}
use Rattle.std.proofs.Common.{ap, ◌∙◌, arith, length-append, length-drop, get_or-append-add, get_or-drop, take_at}
use Rattle.std.proofs.Math.ListN.{get_or-append}
use Rattle.base.specs.Front.{at_front}

module _ (out ps : List ℕ) where
  -- where ps have room in the list, it keeps its length
  pub at_front_length : length ps ≤ length out → length (at_front out ps) ≡ length out
  at_front_length l = simp (length-append, length-drop) (omega (arith, l))

  -- what is written over the front stands at its places
  pub at_front_before : (x d : ℕ) → x < length ps → get_or (at_front out ps) x d ≡ get_or ps x d
  at_front_before x d l = get_or-append ps (drop (length ps) out) d x l

  -- behind what is written over the front, the list is as it was
  pub at_front_behind : (x d : ℕ) → length ps ≤ x → get_or (at_front out ps) x d ≡ get_or out x d
  at_front_behind x d l =
      let e : x ≡ length ps + (x - length ps) = omega arith in
      rw e (get_or-append-add ps (drop (length ps) out) (x - length ps) d ∙ get_or-drop (length ps) out (x - length ps) d)

  module _ {n : ℕ} (e : length ps ≡ n) where
    -- the front of the list, of as many places as were written, is what was written
    pub at_front_taken : take n (at_front out ps) ≡ ps
    at_front_taken = take_at ps (drop (length ps) out) n e

    -- the list after ps were written, by their number n, as loops and inner calls have it, which count what they write
    pub at_front_count : at_front out ps ≡ ps ++ drop n out
    at_front_count = ap (λ (k : ℕ). ps ++ drop k out) e
