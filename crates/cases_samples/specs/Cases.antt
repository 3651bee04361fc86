-- Nothing to believe: for the programs of cases. The sheets that the Run programs name are accepted, no other number
-- names one, and the change for a refusal deserves it, that for 19 beside the sheet as it was. (The five sheets of 12
-- events are left out: to compute with them takes too much memory; that they are accepted is seen when the programs
-- run.)
use Rattle.std.specs.Prelude.{◌≡◌, refl, List, [], ◌∷◌, map, ℕ}
use Rattle.std.proofs.Common.{◌∙◌}
use Rattle.base.specs.Range.{all, any}
use Rattle.base.specs.Table.{up_to}
use Rattle.events.specs.Bit.{bit, set_of}
use Rattle.events.specs.Sets.{has, inside}
use Rattle.walks.specs.Reach.{nearer, leads}
use Rattle.sheet_spec.specs.Kept.{successor, acceptance, initials, step}
use Rattle.sheet_spec.specs.Rules.{ranges_ok, count_ok, counts_ok, successor_ok, row_successors_ok, successors_ok, ascends, none_inside, set_ok, row_sets_ok, sets_ok, blank, unused_ok, blanks_ok, reached_ok, code_new, codes_blank, codes_ok, codes_agree}
use Rattle.sheet_spec.specs.Refusals.{head_fault, layout_fault, graph_fault, bytes_fault, sheet_fault, codes_fault, shared_fault}
use Rattle.sheet_spec.specs.Reading.{answer, read_sheet}
use Rattle.sheet_spec.proofs.AnswerLaws.{read_refusal, read_kept}
use Rattle.sheet_spec.specs.Spelling.{length_field, next_at, start_of, succ_of, sets_of, row_at, row_of, sheet_of, code_of, nodes_at}
use Rattle.sheet_spec.specs.Examples.{example_reference, example_device, coded_reference, coded_device, only_zero, only_one, may_loop, must_loop, stopped}
use Rattle.sheet_spec.specs.declared.Sheet.{Sheet}
use Rattle.cases_samples.specs.Samples.{leads_to_end, small_bytes, small_probe_first, misses_both, misses_second, misses_all, small_probe_later, misses_later, last_with_each, each_alone, ordered_bytes, sixteen_pairs, sixteen_others, four_triples, leads_back, loops_on_both, sample_bytes, sample_of, with_new_node, with_count, with_row, with_code, changed_to}

-- the refusal of each of the sheets as it is read, 0 for none
unfoldable pub faults : List ℕ
faults = map (λ w. bytes_fault (sample_bytes w)) (1 ∷ 2 ∷ 3 ∷ 4 ∷ 5 ∷ 6 ∷ 7 ∷ 8 ∷ 12 ∷ 13 ∷ 16 ∷ 17 ∷ 20 ∷ 21 ∷ 22 ∷ 23 ∷ 24 ∷ 25 ∷ [])

-- the refusal of what no number names
unfoldable pub unnamed_faults : List ℕ
unnamed_faults = map (λ w. sheet_fault (sample_of w)) (0 ∷ 14 ∷ 15 ∷ 18 ∷ 19 ∷ 28 ∷ [])

-- the refusals of a sheet that is changed for 0, 3, 5, 6, 7, 8, 18 and 19
unfoldable pub changed_faults : ℕ → List ℕ
changed_faults w = map (λ m. sheet_fault (changed_to (sample_of w) m)) (0 ∷ 3 ∷ 5 ∷ 6 ∷ 7 ∷ 8 ∷ 18 ∷ 19 ∷ [])

-- the refusal of what two sheets must share
unfoldable pub shared : Sheet → Sheet → ℕ
shared P Q = shared_fault P.e P.codes Q.e Q.codes

-- what two sheets must share: a sheet and the same changed for 19; versions 1 and 2 of 01's sheets, in four pairs
unfoldable pub shared_faults : List ℕ
shared_faults =
    shared (sample_of 1) (changed_to (sample_of 1) 19) ∷ shared (sample_of 1) (sample_of 17)
    ∷ shared (sample_of 16) (sample_of 17) ∷ shared (sample_of 16) (sample_of 2) ∷ shared (sample_of 1) (sample_of 16) ∷ []

-- the sheets are read without refusal, and those that are changed get the refusal that they deserve
pub samples_hold :
    (faults ≡ 0 ∷ 0 ∷ 0 ∷ 0 ∷ 0 ∷ 0 ∷ 0 ∷ 0 ∷ 0 ∷ 0 ∷ 0 ∷ 0 ∷ 0 ∷ 0 ∷ 0 ∷ 0 ∷ 0 ∷ 0 ∷ [])
    × (unnamed_faults ≡ 3 ∷ 3 ∷ 3 ∷ 3 ∷ 3 ∷ 3 ∷ [])
    × (changed_faults 1 ≡ 0 ∷ 3 ∷ 5 ∷ 6 ∷ 7 ∷ 8 ∷ 18 ∷ 0 ∷ [])
    × (shared_faults ≡ 19 ∷ 0 ∷ 19 ∷ 19 ∷ 19 ∷ [])
unfolding faults unnamed_faults changed_faults shared shared_faults changed_to with_code coded_reference coded_device shared_fault codes_agree with_new_node with_count with_row sample_of sample_bytes small_bytes leads_to_end small_probe_first misses_both misses_second misses_all small_probe_later misses_later last_with_each each_alone ordered_bytes sixteen_pairs sixteen_others four_triples leads_back loops_on_both example_reference example_device only_zero only_one may_loop must_loop stopped read_sheet answer bytes_fault head_fault length_field layout_fault next_at start_of succ_of sets_of row_at row_of sheet_of graph_fault ranges_ok count_ok counts_ok successor_ok row_successors_ok successors_ok ascends none_inside set_ok row_sets_ok sets_ok blank unused_ok blanks_ok reached_ok sheet_fault successor acceptance initials step bit set_of has inside nearer leads all any up_to codes_fault nodes_at code_of codes_ok code_new codes_blank
samples_hold = (refl, refl, refl, refl)

-- a sheet that is read without refusal is accepted by every call
pub sample_accepted : (w : ℕ) → bytes_fault (sample_bytes w) ≡ 0 → sheet_fault (sample_of w) ≡ 0
unfolding sample_of
sample_accepted w h = read_kept (sample_bytes w) (read_refusal (sample_bytes w) ∙ h)
