-- Nothing to believe: laws. Where a text that was put over a list ends: within the list, so that the bytes before that
-- place can be written.
use Rattle.std.specs.Prelude.{◌≡◌, List, ℕ, ◌≤◌, length, take}
use Rattle.std.proofs.Common.{sym, ap, arith, length-take-le}
use Rattle.text_spec.specs.Adds.{Holds, Adds}
use Rattle.text_spec.proofs.AddsLaws.{length_over, adds_all}

module _ (o text : List ℕ) {out : List ℕ} {at : ℕ} where
  -- the end of a text that a list holds lies within the list
  pub holds_inside : Holds o text out at → at ≤ length out
  holds_inside h = omega (arith, h.1, ap length h.0, length_over text o)

  -- before the end of a text that a list holds stand as many bytes
  pub holds_front : Holds o text out at → at ≡ length (take at out)
  holds_front h = sym (length-take-le at out (holds_inside h))

  -- the end of a text that was added from the front lies within the list, and as many bytes stand before it
  pub adds_within : Adds text o 0 out at → at ≤ length out
  adds_within p = holds_inside (adds_all p)

  pub adds_front : Adds text o 0 out at → at ≡ length (take at out)
  adds_front p = holds_front (adds_all p)
