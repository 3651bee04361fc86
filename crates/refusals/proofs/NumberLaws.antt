-- Nothing to believe: laws. No number is 0, and each names one cause.
use Rattle.std.specs.Prelude.{◌≡◌, ℕ, cond, eqb, Option, Some, None, Ok, Err, ◌<◌}
use Rattle.std.proofs.Math.Path.{refl}
use Rattle.std.proofs.Common.{sym, ◌∙◌, ap}
use native.Mathlib.Omega.{arith}
use Rattle.refusals.specs.declared.Refusal.{Refusal}
use Rattle.refusals.specs.declared.Refusal.TheVariants.{Length, Version, Ranges, Bytes, Count, Successor, Acceptances, Unreached, Node, ShortList, Events, WorkList, TraceList, Test, Event, Ended, NotOffered, CodeTwice, CodesDiffer, ScriptLength, Table, RuleValue, RuleEvent, Seed, Wish, Nodes, BoundNodes, BoundList}
use Rattle.refusals.specs.Numbers.{number, refusal_in, numbered}

-- no cause has the number 0
pub number_some : (cause : Refusal) → 0 < number cause
number_some Length = omega arith
number_some Version = omega arith
number_some Ranges = omega arith
number_some Bytes = omega arith
number_some Count = omega arith
number_some Successor = omega arith
number_some Acceptances = omega arith
number_some Unreached = omega arith
number_some Node = omega arith
number_some ShortList = omega arith
number_some Events = omega arith
number_some WorkList = omega arith
number_some TraceList = omega arith
number_some Test = omega arith
number_some Event = omega arith
number_some Ended = omega arith
number_some NotOffered = omega arith
number_some CodeTwice = omega arith
number_some CodesDiffer = omega arith
number_some ScriptLength = omega arith
number_some Table = omega arith
number_some RuleValue = omega arith
number_some RuleEvent = omega arith
number_some Seed = omega arith
number_some Wish = omega arith
number_some Nodes = omega arith
number_some BoundNodes = omega arith
number_some BoundList = omega arith

-- the cause that a number names
abbrev cause_of : ℕ → Option Refusal
cause_of n =
    cond (eqb n 1) (Some Length)
    (cond (eqb n 2) (Some Version)
    (cond (eqb n 3) (Some Ranges)
    (cond (eqb n 4) (Some Bytes)
    (cond (eqb n 5) (Some Count)
    (cond (eqb n 6) (Some Successor)
    (cond (eqb n 7) (Some Acceptances)
    (cond (eqb n 8) (Some Unreached)
    (cond (eqb n 9) (Some Node)
    (cond (eqb n 10) (Some ShortList)
    (cond (eqb n 11) (Some Events)
    (cond (eqb n 12) (Some WorkList)
    (cond (eqb n 13) (Some TraceList)
    (cond (eqb n 14) (Some Test)
    (cond (eqb n 15) (Some Event)
    (cond (eqb n 16) (Some Ended)
    (cond (eqb n 17) (Some NotOffered)
    (cond (eqb n 18) (Some CodeTwice)
    (cond (eqb n 19) (Some CodesDiffer)
    (cond (eqb n 20) (Some ScriptLength)
    (cond (eqb n 21) (Some Table)
    (cond (eqb n 22) (Some RuleValue)
    (cond (eqb n 23) (Some RuleEvent)
    (cond (eqb n 27) (Some Seed)
    (cond (eqb n 28) (Some Wish)
    (cond (eqb n 29) (Some Nodes)
    (cond (eqb n 30) (Some BoundNodes)
    (cond (eqb n 31) (Some BoundList)
    None)))))))))))))))))))))))))))

named : (cause : Refusal) → cause_of (number cause) ≡ Some cause
named Length = refl
named Version = refl
named Ranges = refl
named Bytes = refl
named Count = refl
named Successor = refl
named Acceptances = refl
named Unreached = refl
named Node = refl
named ShortList = refl
named Events = refl
named WorkList = refl
named TraceList = refl
named Test = refl
named Event = refl
named Ended = refl
named NotOffered = refl
named CodeTwice = refl
named CodesDiffer = refl
named ScriptLength = refl
named Table = refl
named RuleValue = refl
named RuleEvent = refl
named Seed = refl
named Wish = refl
named Nodes = refl
named BoundNodes = refl
named BoundList = refl

-- causes with one number are one
pub same_number : (a b : Refusal) → number a ≡ number b → a ≡ b
same_number a b e = grind (arith, named a, named b, ap cause_of e)

-- an answer has the number 0 just where it is no refusal
pub refused_some : (A : Type 0) (cause : Refusal) → 0 < refusal_in {A = A} (Err cause)
refused_some A cause = number_some cause

-- an answer that is numbered keeps what it has
pub numbered_ok : {A : Type 0} (x : A) → numbered (Ok x) ≡ Ok x
numbered_ok x = refl
