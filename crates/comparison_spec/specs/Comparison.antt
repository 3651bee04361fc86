-- What a comparison answers, and what the two lent lists then hold (01, "A comparison"). P is the reference, Q the
-- device; `trace_only` counts strays alone. What these definitions mean is said in Meaning; ComparisonLaws, OutcomeLaws
-- and CallLaws tie the two.
use Rattle.std.specs.Prelude.{Bool, ◌&&◌, cond, List, [], ℕ, ◌-◌, ◌*◌, eqb, ltb, leb, length, replicate, Option, Some, None, Result, Ok, Err}
use Rattle.base.specs.Refusal.{unless}
use Rattle.base.specs.Front.{at_front}
use Rattle.walks.specs.Graph.{walk}
use Rattle.walks.specs.Pairs.{pair_distance, pair_trace, pair_cleared}
use Rattle.sheet_spec.specs.declared.Row.{Row}
use Rattle.sheet_spec.specs.declared.Sheet.{Sheet}
use Rattle.sheet_spec.specs.Kept.{row, graph, acceptances}
use Rattle.sheet_spec.specs.Refusals.{pair_fault}
use Rattle.probes_spec.specs.declared.Missed.{Missed}
use Rattle.probes_spec.specs.FirstMissed.{first_missed}
use Rattle.refinement_spec.specs.ViolatingPairs.{has_stray, first_stray, violating}
use Rattle.comparison_spec.specs.declared.Outcome.{Outcome}
use Rattle.comparison_spec.specs.declared.Outcome.TheVariants.{Refines, Stray, Refusal}

-- how many pairs of nodes there are: p times q
unfoldable pub pair_count : Sheet → Sheet → ℕ
pair_count P Q = P.n * Q.n

-- how many words the work list is to hold: two for each pair (02, K7)
abbrev pub work_words : Sheet → Sheet → ℕ
work_words P Q = 2 * pair_count P Q

-- d: the length of the shortest common trace to a violating pair; p times q where there is none
unfoldable pub nearest : Bool → Sheet → Sheet → ℕ
nearest trace_only P Q = pair_distance (graph P) (graph Q) (violating trace_only P Q)

-- the trace of the nearest violation: among the common traces of length d to a violating pair the one least by event
-- number, first difference deciding
unfoldable pub nearest_trace : Bool → Sheet → Sheet → List ℕ
nearest_trace trace_only P Q = pair_trace (graph P) (graph Q) (violating trace_only P Q)

-- the trace beside the answer: the nearest violation's, or none
unfoldable pub trace_of : Bool → Sheet → Sheet → List ℕ
trace_of trace_only P Q = cond (ltb (nearest trace_only P Q) (pair_count P Q)) (nearest_trace trace_only P Q) []

-- "cleared", the product states nearer than d: the number of different pairs reached by common traces shorter than d;
-- of all reached pairs if there is no violation
unfoldable pub cleared_of : Bool → Sheet → Sheet → ℕ
cleared_of trace_only P Q = pair_cleared (graph P) (graph Q) (nearest trace_only P Q)

-- the row of the node of a sheet at the end of the trace of the nearest violation
unfoldable pub last_row : Bool → Sheet → Sheet → Sheet → Row
last_row trace_only P Q s = row s (walk (graph s) 0 (nearest_trace trace_only P Q))

-- the answer for a refusal: the first probe in the list that some device acceptance misses is named, with the lowest
-- such acceptance (at a violating pair without a stray there is one)
unfoldable pub refusal_named : ℕ → ℕ → Option Missed → Outcome
refusal_named d cleared None = Refusal d cleared 0 0
refusal_named d cleared (Some m) = Refusal d cleared m.probe m.acceptance

-- what is named at a pair of rows: a stray before a refusal, and then the smallest stray event
unfoldable pub named : ℕ → ℕ → ℕ → Row → Row → Outcome
named d cleared e r q =
    cond (has_stray e r q) (Stray d cleared (first_stray e r q)) (refusal_named d cleared (first_missed (acceptances r) e (acceptances q)))

-- the answer of a comparison that is not refused: "refines", or "violates" with d
unfoldable pub comparison_of : Bool → Sheet → Sheet → Outcome
comparison_of trace_only P Q =
    cond (ltb (nearest trace_only P Q) (pair_count P Q))
    (named (nearest trace_only P Q) (cleared_of trace_only P Q) P.e (last_row trace_only P Q P) (last_row trace_only P Q Q))
    (Refines (cleared_of trace_only P Q))

-- the refusal of a comparison: the reference's own, the device's own; 11: E differs; 19: a code differs; 12: a work
-- list below 2 p q words; 13: a trace list below p q - 1 bytes
unfoldable pub compare_fault : Sheet → Sheet → List ℕ → List ℕ → ℕ
compare_fault P Q work trace =
    pair_fault P Q
    (unless (leb (work_words P Q) (length work)) 12
    (unless (leb (pair_count P Q - 1) (length trace)) 13 0))

-- the answer of a comparison: that of the two sheets, or the number of the refusal
unfoldable pub outcome_of : Bool → Sheet → Sheet → List ℕ → List ℕ → Result Outcome ℕ
outcome_of trace_only P Q work trace =
    cond (eqb (compare_fault P Q work trace) 0) (Ok (comparison_of trace_only P Q)) (Err (compare_fault P Q work trace))

-- the trace list at exit: the trace fills its front and the rest is untouched; untouched where there is none or the
-- call is refused
unfoldable pub trace_after : Bool → Sheet → Sheet → List ℕ → List ℕ → List ℕ
trace_after trace_only P Q work trace =
    cond (eqb (compare_fault P Q work trace) 0 && ltb (nearest trace_only P Q) (pair_count P Q))
    (at_front trace (nearest_trace trace_only P Q))
    trace

-- the work list at exit: 2 p q words are 0 and later words left; untouched where the call is refused
unfoldable pub work_after : Sheet → Sheet → List ℕ → List ℕ → List ℕ
work_after P Q work trace =
    cond (eqb (compare_fault P Q work trace) 0) (at_front work (replicate (work_words P Q) 0)) work
