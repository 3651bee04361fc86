-- `named::first_event`. The loop's invariant: no event below `i` is in the set.
use Rattle.std.specs.Prelude.{◌≡◌, false, ℕ, ◌≤◌, ◌<◌}
use Rattle.events.specs.Sets.{has}
use Rattle.comparison.proofs.named.first_event.Given as goal

abbrev pub invariant-loop-i : goal.invariant-loop-i
invariant-loop-i l = (l.i ≤ 12) × ((k : ℕ) → k < l.i → has l.set k ≡ false)
