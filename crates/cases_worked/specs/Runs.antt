-- Nothing to believe: cases beyond the table. A run that ends failed, as a term of the definition of a failed test; and
-- a device that trace-refines the reference, fails no trace-only test, and has an inconclusive run (02, K4).
use Rattle.std.specs.Prelude.{◌≡◌, refl, ◌≢◌, true, false, [], ◌∷◌, ℕ, zero, suc, ◌≤◌, ◌<◌}
use Rattle.std.proofs.Common.{inl, inr, arith}
use Rattle.base.specs.Range.{all, any}
use Rattle.base.specs.Count.{count}
use Rattle.base.specs.Table.{up_to}
use Rattle.base.specs.Gather.{gather, select}
use Rattle.base.specs.Joined.{joined}
use Rattle.events.specs.Bit.{bit, set_of}
use Rattle.events.specs.Sets.{has, inside, meets}
use Rattle.events.proofs.Sets.{meets_not}
use Rattle.events.specs.Size.{size}
use Rattle.walks.specs.Reach.{nearer, leads}
use Rattle.sheet_spec.specs.Kept.{successor, acceptance, acceptances, initials, may_stop, step}
use Rattle.sheet_spec.specs.Rules.{ranges_ok, count_ok, counts_ok, successors_ok, row_successors_ok, successor_ok, sets_ok, row_sets_ok, set_ok, ascends, none_inside, blank, unused_ok, blanks_ok, reached_ok, code_new, codes_blank, codes_ok}
use Rattle.sheet_spec.specs.Refusals.{head_fault, layout_fault, graph_fault, bytes_fault, sheet_fault, codes_fault}
use Rattle.sheet_spec.specs.Reading.{read_sheet, answer}
use Rattle.sheet_spec.specs.Spelling.{length_field, next_at, start_of, succ_of, sets_of, row_at, row_of, sheet_of, code_of, nodes_at}
use Rattle.probes_spec.specs.Probes.{hits, is_probe, probes_of, probes}
use Rattle.refinement_spec.specs.Refinement.{TraceRefines}
use Rattle.refinement_spec.specs.ViolatingPairs.{strays, has_stray, violates, violating}
use Rattle.tests_spec.specs.declared.Report.TheVariants.{Event, Blocked}
use Rattle.tests_spec.specs.declared.Answer.TheVariants.{Going, Inconclusive}
use Rattle.tests_spec.specs.Flags.{flag, flag_of}
use Rattle.tests_spec.specs.Runs.{all_events, outside, probes_at, chosen, offer_of, new_run, open_fault, open_of, record_ok, event_fault, report_fault, moved_by, ended_run, answer_of, step_of}
use Rattle.verdicts_spec.specs.Verdicts.{CanReport, Failed, device_after, EndsFailed, FailsTest, fails_from}
use Rattle.verdicts_spec.proofs.TestLaws.{tests_complete, refining_unfailed}
use Rattle.sheet_spec.specs.Examples.{example_reference, example_device, must_loop, stopped, sheet}

-- a number below 255 is a successor
on : (x : ℕ) → x < 255 → x ≢ 255
on x l e = omega arith

-- event 0 is one of two events
some : {A : Type 0} → A → (0 < 2) × A
some a = (omega arith, a)

-- the device of 01's example fails test 5: with choice number 1 it does event 0 five times, is then offered only event
-- 1, and blocks
pub example_fails : FailsTest false (sheet example_reference) (sheet example_device) 5
unfolding sheet example_reference example_device read_sheet answer bytes_fault head_fault length_field layout_fault next_at start_of succ_of sets_of row_at row_of sheet_of graph_fault ranges_ok count_ok counts_ok successors_ok row_successors_ok successor_ok sets_ok row_sets_ok set_ok ascends none_inside blank unused_ok blanks_ok reached_ok sheet_fault successor acceptance acceptances initials may_stop bit has inside meets set_of nearer leads all any up_to hits is_probe gather select joined size count probes_of probes all_events outside probes_at chosen flag flag_of offer_of new_run record_ok open_fault open_of ended_run event_fault report_fault moved_by answer_of step_of step CanReport Failed device_after EndsFailed codes_fault nodes_at code_of codes_ok code_new codes_blank
example_fails = (
  1,
  omega arith,
  3,
  refl,
  (
    Event 0 ∷ Event 0 ∷ Event 0 ∷ Event 0 ∷ Event 0 ∷ Blocked ∷ [],
    (
      (refl, some (on 1 (omega arith))),
      inr (
        3,
        refl,
        (
          (refl, some (on 2 (omega arith))),
          inr (
            3,
            refl,
            (
              (refl, some (on 0 (omega arith))),
              inr (
                3,
                refl,
                (
                  (refl, some (on 1 (omega arith))),
                  inr (
                    3,
                    refl,
                    (
                      (refl, some (on 2 (omega arith))),
                      inr (
                        2,
                        refl,
                        ((0, omega arith, meets_not 1 2 refl), inl (refl, tt)),
                      ),
                    ),
                  ),
                ),
              ),
            ),
          ),
        ),
      ),
    ),
  ),
)

-- the two sheets of the next cases are accepted, and have equally many events
loop_accepted : sheet_fault (sheet must_loop) ≡ 0
unfolding sheet must_loop stopped read_sheet answer bytes_fault head_fault length_field layout_fault next_at start_of succ_of sets_of row_at row_of sheet_of graph_fault ranges_ok count_ok counts_ok successors_ok row_successors_ok successor_ok sets_ok row_sets_ok set_ok ascends none_inside blank unused_ok blanks_ok reached_ok sheet_fault successor acceptance acceptances initials may_stop step bit has inside meets set_of nearer leads all any up_to codes_fault nodes_at code_of codes_ok code_new codes_blank
loop_accepted = refl

stopped_accepted : sheet_fault (sheet stopped) ≡ 0
unfolding sheet must_loop stopped read_sheet answer bytes_fault head_fault length_field layout_fault next_at start_of succ_of sets_of row_at row_of sheet_of graph_fault ranges_ok count_ok counts_ok successors_ok row_successors_ok successor_ok sets_ok row_sets_ok set_ok ascends none_inside blank unused_ok blanks_ok reached_ok sheet_fault successor acceptance acceptances initials may_stop step bit has inside meets set_of nearer leads all any up_to codes_fault nodes_at code_of codes_ok code_new codes_blank
stopped_accepted = refl

stopped_events : (sheet must_loop).e ≡ (sheet stopped).e
unfolding sheet must_loop stopped read_sheet answer bytes_fault head_fault length_field layout_fault next_at start_of succ_of sets_of row_at row_of sheet_of graph_fault ranges_ok count_ok counts_ok successors_ok row_successors_ok successor_ok sets_ok row_sets_ok set_ok ascends none_inside blank unused_ok blanks_ok reached_ok sheet_fault successor acceptance acceptances initials may_stop step bit has inside meets set_of nearer leads all any up_to codes_fault nodes_at code_of codes_ok code_new codes_blank
stopped_events = refl

-- a device that stops at once trace-refines a reference that must loop
pub stopped_refines : TraceRefines (sheet must_loop) (sheet stopped)
unfolding sheet must_loop stopped read_sheet answer bytes_fault head_fault length_field layout_fault next_at start_of succ_of sets_of row_at row_of sheet_of graph_fault ranges_ok count_ok counts_ok successors_ok row_successors_ok successor_ok sets_ok row_sets_ok set_ok ascends none_inside blank unused_ok blanks_ok reached_ok sheet_fault successor acceptance acceptances initials may_stop step bit has inside meets set_of nearer leads all any up_to codes_fault nodes_at code_of codes_ok code_new codes_blank strays has_stray violates violating fails_from
stopped_refines = (tests_complete (sheet must_loop) (sheet stopped) loop_accepted stopped_accepted stopped_events true).0 passes
  where
    passes : (k : ℕ) → k < 1 → fails_from true (sheet must_loop) (sheet stopped) k 0 0 ≡ false
    passes zero l = refl
    passes (suc k) l = absurd (omega arith)

-- so it meets no failure in any trace-only test
pub stopped_unfailed : (k : ℕ) → k ≤ 1023 → ¬ FailsTest true (sheet must_loop) (sheet stopped) k
stopped_unfailed = refining_unfailed (sheet must_loop) (sheet stopped) loop_accepted stopped_accepted stopped_events true stopped_refines

-- and a run of it is inconclusive: test 1, trace-only, offers event 0, the device can block, and the run ends so
pub stopped_inconclusive : ((open_of true (sheet must_loop) 1 0).answer ≡ Going 1)
    × CanReport (sheet stopped) 0 1 Blocked
    × ((step_of (sheet must_loop) (open_of true (sheet must_loop) 1 0).run Blocked).answer ≡ Inconclusive)
unfolding sheet must_loop stopped read_sheet answer bytes_fault head_fault length_field layout_fault next_at start_of succ_of sets_of row_at row_of sheet_of graph_fault ranges_ok count_ok counts_ok successors_ok row_successors_ok successor_ok sets_ok row_sets_ok set_ok ascends none_inside blank unused_ok blanks_ok reached_ok sheet_fault successor acceptance acceptances initials may_stop step bit has inside meets set_of nearer leads all any up_to codes_fault nodes_at code_of codes_ok code_new codes_blank hits is_probe gather select joined size count probes_of probes all_events outside probes_at chosen flag flag_of offer_of new_run record_ok open_fault open_of ended_run event_fault report_fault answer_of step_of CanReport
stopped_inconclusive = (refl, (0, omega arith, meets_not 0 1 refl), refl)
