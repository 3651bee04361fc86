-- The number of each cause of a refusal (01, "Who can cause a refusal"; 02), and answers in numbers.
use Rattle.std.specs.Prelude.{ℕ, Result, Ok, Err}
use Rattle.refusals.specs.declared.Refusal.{Refusal}
use Rattle.refusals.specs.declared.Refusal.TheVariants.{Length, Version, Ranges, Bytes, Count, Successor, Acceptances, Unreached, Node, ShortList, Events, WorkList, TraceList, Test, Event, Ended, NotOffered, CodeTwice, CodesDiffer, ScriptLength, Table, RuleValue, RuleEvent, Seed, Wish, Nodes, BoundNodes, BoundList}

-- the number of a cause
abbrev pub number : Refusal → ℕ
number Length = 1
number Version = 2
number Ranges = 3
number Bytes = 4
number Count = 5
number Successor = 6
number Acceptances = 7
number Unreached = 8
number Node = 9
number ShortList = 10
number Events = 11
number WorkList = 12
number TraceList = 13
number Test = 14
number Event = 15
number Ended = 16
number NotOffered = 17
number CodeTwice = 18
number CodesDiffer = 19
number ScriptLength = 20
number Table = 21
number RuleValue = 22
number RuleEvent = 23
number Seed = 27
number Wish = 28
number Nodes = 29
number BoundNodes = 30
number BoundList = 31

-- the number of an answer's refusal, 0 for none
abbrev pub refusal_in : {A : Type 0} → Result A Refusal → ℕ
refusal_in (Ok x) = 0
refusal_in (Err cause) = number cause

-- an answer, or the number of its refusal
abbrev pub numbered : {A : Type 0} → Result A Refusal → Result A ℕ
numbered (Ok x) = Ok x
numbered (Err cause) = Err (number cause)
