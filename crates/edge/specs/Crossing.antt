-- Nothing to believe: laws. Each number crosses under its own name, and a run's record as it is.
use Rattle.std.specs.Prelude.{◌≡◌, refl, ℕ}
use Rattle.tests_spec.specs.declared.Stepped.{Stepped}
use Rattle.tests_spec.specs.Numbers.{Said, said}
use Rattle.verdicts_spec.specs.Numbers.{Judgement, Suited}
use Rattle.comparison_spec.specs.Numbers.{Compared}
use Rattle.keypad_spec.specs.Numbers.{Keyed, Looked}
use Rattle.edge.specs.Flat.{listed_flat, said_flat, stepped_flat, judged_flat, suited_flat, compared_flat, keyed_flat, looked_flat, walked_flat, bounded_flat}

-- a probe list's answer: two numbers
pub listed_crosses : (refusal count : ℕ) → ((listed_flat (refusal, count)).refusal ≡ refusal) × ((listed_flat (refusal, count)).count ≡ count)
unfolding listed_flat
listed_crosses refusal count = (refl, refl)

-- an answer to an opening or a report: three numbers
pub said_crosses : (a : Said) → ((said_flat a).refusal ≡ a.refusal) × ((said_flat a).kind ≡ a.kind) × ((said_flat a).value ≡ a.value)
unfolding said_flat
said_crosses a = (refl, refl, refl)

-- a step: its answer in numbers, and the record after it
pub stepped_crosses : (z : Stepped) → ((stepped_flat z).answer ≡ said_flat (said z.answer)) × ((stepped_flat z).run ≡ z.run)
stepped_crosses z = (refl, refl)

-- a verdict, and the answer on all tests: two numbers each
pub judged_crosses : (a : Judgement) → ((judged_flat a).refusal ≡ a.refusal) × ((judged_flat a).kind ≡ a.kind)
unfolding judged_flat
judged_crosses a = (refl, refl)

pub suited_crosses : (a : Suited) → ((suited_flat a).refusal ≡ a.refusal) × ((suited_flat a).count ≡ a.count)
unfolding suited_flat
suited_crosses a = (refl, refl)

-- a comparison's answer: seven numbers
pub compared_crosses : (a : Compared)
    → ((compared_flat a).refusal ≡ a.refusal) × ((compared_flat a).kind ≡ a.kind) × ((compared_flat a).d ≡ a.d) × ((compared_flat a).cleared ≡ a.cleared)
    × ((compared_flat a).event ≡ a.event) × ((compared_flat a).probe ≡ a.probe) × ((compared_flat a).acceptance ≡ a.acceptance)
unfolding compared_flat
compared_crosses a = (refl, refl, refl, refl, refl, refl, refl)

-- a check of a keypad's table: five numbers; a lookup in it: six
pub keyed_crosses : (a : Keyed)
    → ((keyed_flat a).refusal ≡ a.refusal) × ((keyed_flat a).kind ≡ a.kind) × ((keyed_flat a).code ≡ a.code) × ((keyed_flat a).first ≡ a.first) × ((keyed_flat a).second ≡ a.second)
unfolding keyed_flat
keyed_crosses a = (refl, refl, refl, refl, refl)

pub looked_crosses : (a : Looked)
    → ((looked_flat a).refusal ≡ a.refusal) × ((looked_flat a).kind ≡ a.kind) × ((looked_flat a).event ≡ a.event) × ((looked_flat a).code ≡ a.code)
    × ((looked_flat a).first ≡ a.first) × ((looked_flat a).second ≡ a.second)
unfolding looked_flat
looked_crosses a = (refl, refl, refl, refl, refl, refl)

-- a walk's answer: two numbers
pub walked_crosses : (refusal length : ℕ) → ((walked_flat (refusal, length)).refusal ≡ refusal) × ((walked_flat (refusal, length)).length ≡ length)
unfolding walked_flat
walked_crosses refusal length = (refl, refl)

-- the answer of the call that writes a pair of sheets: three numbers
pub bounded_crosses : (refusal reference device : ℕ)
    → ((bounded_flat (refusal, reference, device)).refusal ≡ refusal) × ((bounded_flat (refusal, reference, device)).reference ≡ reference)
    × ((bounded_flat (refusal, reference, device)).device ≡ device)
unfolding bounded_flat
bounded_crosses refusal reference device = (refl, refl, refl)
