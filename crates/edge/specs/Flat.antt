-- What crosses the edge for a probe list, a report, an answer, a verdict, all verdicts, a comparison, a check and a
-- lookup of a keypad's table, a walk and a pair of sheets: numbers alone. Every number of a report has a reading, and
-- so has every byte of a flag (`flag` of tests_spec), so that every content of what is handed over is answered.
use Rattle.std.specs.Prelude.{◌≡◌, cond, ℕ, ◌≤◌, ◌<◌, ltb}
use Rattle.std.proofs.Common.{lt-ltb, le-ltb}
use Rattle.tests_spec.specs.declared.Report.{Report}
use Rattle.tests_spec.specs.declared.Report.TheVariants.{Event, Blocked}
use Rattle.tests_spec.specs.declared.Stepped.{Stepped}
use Rattle.tests_spec.specs.Numbers.{Said, said}
use Rattle.verdicts_spec.specs.Numbers.{Judgement, Suited}
use Rattle.comparison_spec.specs.Numbers.{Compared}
use Rattle.keypad_spec.specs.Numbers.{Keyed, Looked}
use Rattle.edge.specs.declared.BenchListed.{BenchListed}
use Rattle.edge.specs.declared.BenchSaid.{BenchSaid}
use Rattle.edge.specs.declared.BenchStepped.{BenchStepped}
use Rattle.edge.specs.declared.BenchJudged.{BenchJudged}
use Rattle.edge.specs.declared.BenchSuited.{BenchSuited}
use Rattle.edge.specs.declared.BenchCompared.{BenchCompared}
use Rattle.edge.specs.declared.BenchKeypad.{BenchKeypad}
use Rattle.edge.specs.declared.BenchFound.{BenchFound}
use Rattle.edge.specs.declared.BenchWalked.{BenchWalked}
use Rattle.edge.specs.declared.BenchBounded.{BenchBounded}

-- the numbers of a probe list's answer
unfoldable pub listed_flat : ℕ × ℕ → BenchListed
listed_flat a = record { refusal = a.0; count = a.1 }

-- the numbers of an answer to an opening or a report
unfoldable pub said_flat : Said → BenchSaid
said_flat a = record { refusal = a.refusal; kind = a.kind; value = a.value }

-- the report that a number is: 0 to 255 is that event, any other number is "blocked"
unfoldable pub report_flat : ℕ → Report
report_flat x = cond (ltb x 256) (Event x) Blocked

-- an answer in numbers, and the record beside it
abbrev pub stepped_flat : Stepped → BenchStepped
stepped_flat z = record { answer = said_flat (said z.answer); run = z.run }

-- the numbers of a verdict
unfoldable pub judged_flat : Judgement → BenchJudged
judged_flat a = record { refusal = a.refusal; kind = a.kind }

-- the numbers of the answer on all tests
unfoldable pub suited_flat : Suited → BenchSuited
suited_flat a = record { refusal = a.refusal; count = a.count }

-- the numbers of a comparison's answer
unfoldable pub compared_flat : Compared → BenchCompared
compared_flat a =
    record { refusal = a.refusal; kind = a.kind; d = a.d; cleared = a.cleared; event = a.event; probe = a.probe; acceptance = a.acceptance }

-- the numbers of the answer of a check of a keypad's table
unfoldable pub keyed_flat : Keyed → BenchKeypad
keyed_flat a = record { refusal = a.refusal; kind = a.kind; code = a.code; first = a.first; second = a.second }

-- the numbers of the answer of a lookup in a keypad's table
unfoldable pub looked_flat : Looked → BenchFound
looked_flat a = record { refusal = a.refusal; kind = a.kind; event = a.event; code = a.code; first = a.first; second = a.second }

-- the numbers of a walk's answer
unfoldable pub walked_flat : ℕ × ℕ → BenchWalked
walked_flat a = record { refusal = a.0; length = a.1 }

-- the numbers of the answer of the call that writes a pair of sheets
unfoldable pub bounded_flat : ℕ × ℕ × ℕ → BenchBounded
bounded_flat a = record { refusal = a.0; reference = a.1; device = a.2 }

-- a number below 256 is the report of that event
pub report_event : (x : ℕ) → x < 256 → report_flat x ≡ Event x
unfolding report_flat
report_event x l = rw (lt-ltb x 256 l)

-- a number from 256 on is the report "blocked"
pub report_blocked : (x : ℕ) → 256 ≤ x → report_flat x ≡ Blocked
unfolding report_flat
report_blocked x l = rw (le-ltb x 256 l)
