-- Nothing to believe: cases. 01's example pair: of its six tests the first five pass and the last fails; trace-only all
-- pass; a list of five places is too short, and sheets with different E are refused first.
use Rattle.std.specs.Prelude.{◌≡◌, refl, Bool, true, false, List, [], ◌∷◌, ℕ, replicate}
use Rattle.base.specs.Range.{all, any}
use Rattle.base.specs.Table.{up_to}
use Rattle.events.specs.Bit.{bit, set_of}
use Rattle.events.specs.Sets.{has, inside, meets}
use Rattle.walks.specs.Reach.{nearer, leads}
use Rattle.sheet_spec.specs.Kept.{successor, acceptance, acceptances, initials, may_stop, step}
use Rattle.sheet_spec.specs.Rules.{ranges_ok, count_ok, counts_ok, successors_ok, row_successors_ok, successor_ok, sets_ok, row_sets_ok, set_ok, ascends, none_inside, blank, unused_ok, blanks_ok, reached_ok, code_new, codes_agree, codes_blank, codes_ok}
use Rattle.sheet_spec.specs.Refusals.{head_fault, layout_fault, graph_fault, bytes_fault, sheet_fault, codes_fault, shared_fault}
use Rattle.sheet_spec.specs.Reading.{read_sheet, answer}
use Rattle.sheet_spec.specs.Spelling.{length_field, next_at, start_of, succ_of, sets_of, row_at, row_of, sheet_of, code_of, nodes_at}
use Rattle.sheet_spec.specs.Examples.{example_reference, example_device, stopped, sheet}
use Rattle.refinement_spec.specs.ViolatingPairs.{strays, has_stray, covers, has_refusal, violates, violating}
use Rattle.verdicts_spec.specs.Verdicts.{fails_from, verdict_fault, verdict_of}
use Rattle.verdicts_spec.specs.Numbers.{judged, suited}
use Rattle.verdicts_spec.specs.Suites.{test_count, verdict_number, suite_fault, suite_of, verdicts_after}

-- the example's reference against a device, with a list of some places that hold 9: the refusal, how many tests, and
-- the list at exit
unfoldable pub suite_numbers : Bool → List ℕ → ℕ → List ℕ
suite_numbers trace_only Q places =
    let r = suited (suite_of (sheet example_reference) (sheet Q) (replicate places 9)) in
    r.refusal ∷ r.count ∷ verdicts_after trace_only (sheet example_reference) (sheet Q) (replicate places 9)

pub example_suite :
    (suite_numbers false example_device 8 ≡ 0 ∷ 6 ∷ 11 ∷ 11 ∷ 11 ∷ 11 ∷ 11 ∷ 12 ∷ 9 ∷ 9 ∷ [])
    × (suite_numbers false example_device 6 ≡ 0 ∷ 6 ∷ 11 ∷ 11 ∷ 11 ∷ 11 ∷ 11 ∷ 12 ∷ [])
    × (suite_numbers true example_device 6 ≡ 0 ∷ 6 ∷ 11 ∷ 11 ∷ 11 ∷ 11 ∷ 11 ∷ 11 ∷ [])
    × (suite_numbers false example_reference 5 ≡ 0 ∷ 4 ∷ 11 ∷ 11 ∷ 11 ∷ 11 ∷ 9 ∷ [])
    × (suite_numbers false example_device 5 ≡ 10 ∷ 0 ∷ 9 ∷ 9 ∷ 9 ∷ 9 ∷ 9 ∷ [])
    × (suite_numbers false stopped 1 ≡ 11 ∷ 0 ∷ 9 ∷ [])
unfolding suite_numbers test_count verdict_number suite_fault suite_of verdicts_after suited sheet example_reference example_device stopped read_sheet answer bytes_fault head_fault length_field layout_fault next_at start_of succ_of sets_of row_at row_of sheet_of graph_fault ranges_ok count_ok counts_ok successors_ok row_successors_ok successor_ok sets_ok row_sets_ok set_ok ascends none_inside blank unused_ok blanks_ok reached_ok sheet_fault successor acceptance acceptances initials may_stop step bit has inside meets set_of nearer leads all any up_to strays has_stray covers has_refusal violates violating fails_from verdict_fault verdict_of judged codes_fault nodes_at code_of codes_ok code_new codes_blank shared_fault codes_agree
example_suite = (refl, refl, refl, refl, refl, refl)
