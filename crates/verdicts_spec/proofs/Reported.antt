-- Nothing to believe: cases. What a device cannot report, on the device of 01's example.
use Rattle.std.specs.Prelude.{◌≡◌, refl, ℕ, zero, suc, ◌+◌, ◌≤◌, ◌<◌}
use Rattle.std.proofs.Common.{arith}
use Rattle.base.specs.Range.{all, any}
use Rattle.base.specs.Table.{up_to}
use Rattle.events.specs.Bit.{bit, set_of}
use Rattle.events.specs.Sets.{inside, meets}
use Rattle.walks.specs.Reach.{nearer, leads}
use Rattle.sheet_spec.specs.Kept.{row, successor, acceptance, initials, step}
use Rattle.sheet_spec.specs.Rules.{ranges_ok, count_ok, successors_ok, row_successors_ok, successor_ok, sets_ok, row_sets_ok, set_ok, ascends, none_inside, reached_ok, code_new, codes_ok}
use Rattle.sheet_spec.specs.Reading.{read_sheet, answer}
use Rattle.sheet_spec.specs.Refusals.{head_fault, layout_fault, graph_fault, bytes_fault, codes_fault}
use Rattle.sheet_spec.specs.Spelling.{length_field, next_at, start_of, succ_of, sets_of, row_at, row_of, sheet_of, code_of, nodes_at}
use Rattle.sheet_spec.specs.Examples.{example_device, sheet}
use Rattle.tests_spec.specs.declared.Report.TheVariants.{Event, Blocked}
use Rattle.verdicts_spec.specs.Verdicts.{CanReport}

-- what the device cannot report: at node 0 event 0 where only event 1 is offered; at node 2, which has event 0 alone,
-- event 1; and there it cannot block where event 0 is offered
pub unreported :
    (¬ CanReport (sheet example_device) 0 2 (Event 0)) × (¬ CanReport (sheet example_device) 2 3 (Event 1)) × (¬ CanReport (sheet example_device) 2 1 Blocked)
unfolding CanReport sheet example_device read_sheet answer bytes_fault head_fault length_field layout_fault next_at start_of succ_of sets_of row_at row_of sheet_of graph_fault ranges_ok count_ok successors_ok row_successors_ok successor_ok sets_ok row_sets_ok set_ok ascends none_inside reached_ok successor acceptance initials step bit inside meets set_of nearer leads all any up_to codes_fault nodes_at code_of codes_ok code_new
unreported = (
  λ (x : CanReport (sheet example_device) 0 2 (Event 0)). zero_one x.0,
  λ (x : CanReport (sheet example_device) 2 3 (Event 1)). x.1.1 refl,
  λ (x : CanReport (sheet example_device) 2 1 Blocked). alone x.0 x.1 x.2,
)
  where
    zero_one : ◌≡◌ {A = ℕ} 0 1 → ⊥
    zero_one e = omega arith

    alone : (j : ℕ) → j < 1 → ((i : ℕ) → bit (acceptance (row (sheet example_device) 2) j) i + bit 1 i ≤ 1) → ⊥
    alone zero l f = let z : 2 ≤ 1 = f 0 in omega arith
    alone (suc j) l f = omega arith
