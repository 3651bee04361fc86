-- `events::with_event`: the sum is the set with the event, and so it has 16 bits, as the set has.
use mathlib.Core.Path.{◌≡◌}
use Prim.Native.Nat.{ℕ, ◌*◌, ◌+◌, ◌-◌, ◌/◌, ◌%◌, ◌^◌, ◌<◌}
use native.Mathlib.Nat.{mod-eq_of_lt}
use native.Mathlib.Omega.{arith}
use Rattle.events.specs.Bit.{bit}
use Rattle.events.specs.Sets.{insert}
use Rattle.events.proofs.Sets.{insert_sum, insert_small}
use Rattle.events.proofs.with_event.Goals as goal

-- the code's sum: 1 minus the event's digit, shifted back to its place, loses nothing in 16 bits
made : (X i : ℕ) → X < 65536 → i < 16 → X + (1 - X / 2 ^ i % 2) * 2 ^ i % 65536 ≡ insert X i
unfolding bit
made X i h l =
    let small : (1 - X / 2 ^ i % 2) * 2 ^ i < 65536 = omega (arith, insert_sum X i l, insert_small X i h l) in
    rw (mod-eq_of_lt small) (insert_sum X i l)

pub overflow_add-result : goal.overflow_add-result
overflow_add-result c =
    let a = c.args in
    omega (arith, made a.set a.event (omega arith) c.requires, insert_small a.set a.event (omega arith) c.requires)

pub returns : goal.returns
returns c = made c.args.set c.args.event (omega arith) c.requires
