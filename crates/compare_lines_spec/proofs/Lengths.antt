-- Nothing to believe: laws. How long the text can be: at most 3,184 bytes, so that it always fits.
use Rattle.std.specs.Prelude.{◌≡◌, Bool, ◌&&◌, cond, List, ◌++◌, eqb, ltb, take, Option, Some, None, Ok, Err}
use Rattle.std.proofs.Math.Path.{refl, sym}
use Rattle.std.proofs.Common.{◌∙◌, inl, inr, arith, length-append, pow_mono, ltb-true}
use Rattle.std.proofs.Math.Bool.{true, false}
use Prim.Native.Nat.{ℕ, zero, suc, ◌*◌, ◌^◌, ◌≤◌, ◌<◌}
use Rattle.std.proofs.Math.Nat.{le_trans}
use Rattle.std.proofs.Math.ListN.{length, get_or, length-replicate}
use Rattle.base.proofs.Count.{count_le}
use Rattle.base.proofs.Range.{first≤}
use Rattle.base.proofs.Table.{length_up_to, get_or_up_to}
use Rattle.base.specs.Front.{at_front}
use Rattle.base.proofs.Front.{at_front_taken}
use Rattle.walks.specs.Graph.{Graph, walk}
use Rattle.walks.specs.Near.{later, choice, least_from, least_trace}
use Rattle.walks.specs.Cleared.{cleared}
use Rattle.walks.specs.Product.{product}
use Rattle.walks.specs.Pairs.{pair_distance, pair_trace, pair_cleared, on_codes}
use Rattle.walks.proofs.Pairs.{pair_distance_le, pair_trace_length, pair_trace_leads}
use Rattle.sheet_spec.specs.declared.Row.{Row}
use Rattle.sheet_spec.specs.declared.Sheet.{Sheet}
use Rattle.sheet_spec.specs.Kept.{graph, acceptance, acceptances, initials}
use Rattle.sheet_spec.specs.Refusals.{sheet_fault, Agree, PairWays}
use Rattle.sheet_spec.proofs.PairFaults.{pair_ways}
use Rattle.sheet_spec.proofs.SoundLaws.{nodes_most, check_sound}
use Rattle.probes_spec.specs.declared.Missed.{Missed}
use Rattle.probes_spec.specs.Probes.{probes}
use Rattle.probes_spec.proofs.ProbeLaws.{probe_small}
use Rattle.probes_spec.specs.FirstMissed.{first_missed}
use Rattle.probes_spec.proofs.FirstMissedLaws.{missed_found}
use Rattle.events.specs.Sets.{has}
use Rattle.refinement_spec.specs.ViolatingPairs.{strays, has_stray, first_stray, violating}
use Rattle.comparison_spec.specs.declared.Outcome.TheVariants.{Refines, Stray}
use Rattle.comparison_spec.proofs.CallLaws.{compare_11, compare_19, compare_fits}
use Rattle.comparison_spec.specs.Comparison.{pair_count, nearest, nearest_trace, cleared_of, last_row, refusal_named, named, comparison_of, compare_fault, outcome_of, trace_after}
use Rattle.text_spec.specs.Lines.{ascii, decimal, number_line, event_list, trace_line}
use Rattle.text_spec.proofs.DecimalLaws.{decimal_few}
use Rattle.text_spec.proofs.LengthLaws.{number_length, trace_length}
use Rattle.text_pair_spec.proofs.ProgramLaws.{pair_length}
use Rattle.compare_lines_spec.specs.Lines.{violates_line, refused_probe_line, outcome_lines}
use Rattle.compare_lines_spec.specs.Program.{work_list, trace_list, compared_lines, compare_text}

-- the length of each line, by the digits of its numbers
violates_length : (d c : ℕ) → d < 10000 → c < 10000 → length (violates_line d c) ≤ 33
unfolding violates_line
violates_length d c h k =
    omega (
      arith,
      length-append (ascii "violates after ") (decimal d ++ (ascii " cleared " ++ (decimal c ++ ascii "\n"))),
      length-append (decimal d) (ascii " cleared " ++ (decimal c ++ ascii "\n")),
      length-append (ascii " cleared ") (decimal c ++ ascii "\n"),
      length-append (decimal c) (ascii "\n"),
      decimal_few 3 d h,
      decimal_few 3 c k,
    )

refused_length : (p a : ℕ) → p < 10000 → a < 10000 → length (refused_probe_line p a) ≤ 21
unfolding refused_probe_line
refused_length p a h k =
    omega (
      arith,
      length-append (ascii "refused ") (decimal p ++ (ascii " by " ++ (decimal a ++ ascii "\n"))),
      length-append (decimal p) (ascii " by " ++ (decimal a ++ ascii "\n")),
      length-append (ascii " by ") (decimal a ++ ascii "\n"),
      length-append (decimal a) (ascii "\n"),
      decimal_few 3 p h,
      decimal_few 3 a k,
    )

-- the events of a least trace have at most two digits
choice_small : (g : Graph) (bad : ℕ → Bool) → g.events ≤ 12 → (j n : ℕ) → choice g bad j n < 100
unfolding choice
choice_small g bad h j n = omega (arith, first≤ (later g bad j n) g.events)

least_length : (g : Graph) (bad : ℕ → Bool) → g.events ≤ 12 → (j n : ℕ) → length (event_list (least_from g bad j n)) ≤ 3 * j
unfolding least_from event_list
least_length g bad h zero n = omega arith
least_length g bad h (suc j) n =
    one (choice g bad j n) (least_from g bad j (g.next n (choice g bad j n))) (choice_small g bad h j n) (least_length g bad h j (g.next n (choice g bad j n)))
  where
    one : (e : ℕ) (t : List ℕ) → e < 100 → length (event_list t) ≤ 3 * j → length ((ascii " " ++ decimal e) ++ event_list t) ≤ 3 * suc j
    one e t l ih = rw (length-append (ascii " " ++ decimal e) (event_list t)) (omega (arith, decimal_few 1 e l))

module _ (P Q : Sheet) (h_p : sheet_fault P ≡ 0) (h_q : sheet_fault Q ≡ 0) where
  -- there are at most 1,024 pairs
  pairs_le : pair_count P Q ≤ 1024
  unfolding pair_count
  pairs_le = nodes_most (check_sound P h_p) (check_sound Q h_q)

  -- both lists that the program lends are enough: 12 and 13 cannot occur
  pub lists_fit : Agree P Q → compare_fault P Q work_list trace_list ≡ 0
  unfolding work_list trace_list
  lists_fit agree = compare_fits P Q work_list trace_list h_p h_q agree (rw length-replicate (omega (arith, pairs_le))) (rw length-replicate (omega (arith, pairs_le)))

  -- so a comparison of the program is refused with 11 or 19 alone
  compare_le : compare_fault P Q work_list trace_list ≤ 19
  compare_le = go (pair_ways P Q)
    where
      go : PairWays P Q → compare_fault P Q work_list trace_list ≤ 19
      go (inl a) = omega (arith, lists_fit a)
      go (inr (inl n)) = omega (arith, (compare_11 P Q work_list trace_list).1 ((h_p, h_q), n))
      go (inr (inr w)) = omega (arith, (compare_19 P Q work_list trace_list).1 ((h_p, h_q), w))

  module _ (trace_only : Bool) where
    nearest_le : nearest trace_only P Q ≤ 1024
    unfolding nearest pair_count
    nearest_le = le_trans (pair_distance_le (graph P) (graph Q) (violating trace_only P Q)) pairs_le

    cleared_le : cleared_of trace_only P Q ≤ 1024
    unfolding cleared_of pair_cleared cleared product pair_count
    cleared_le = le_trans (count_le _ (P.n * Q.n)) pairs_le

    -- the length of the trace line, whatever stands behind the trace
    events_length : length (event_list (nearest_trace trace_only P Q)) ≤ 3 * nearest trace_only P Q
    unfolding nearest nearest_trace pair_trace pair_distance least_trace product
    events_length = least_length (product (graph P) (graph Q)) (on_codes (graph Q) (violating trace_only P Q)) (check_sound P h_p).ranges.e_high _ 0

    told_length : (list : List ℕ) → nearest trace_only P Q < pair_count P Q → length (trace_line (take (nearest trace_only P Q) (at_front list (nearest_trace trace_only P Q)))) ≤ 3075
    told_length list h =
        rw (at_front_taken list (nearest_trace trace_only P Q) nearest_length, trace_length (nearest_trace trace_only P Q)) (omega (arith, h, pairs_le, events_length))
      where
        nearest_length : length (nearest_trace trace_only P Q) ≡ nearest trace_only P Q
        nearest_length = unfold nearest in (unfold nearest_trace in (pair_trace_length (graph P) (graph Q) (violating trace_only P Q)))

    -- the smallest stray event has at most two digits
    stray_small : (e : ℕ) (r q : Row) → first_stray e r q < 100
    unfolding first_stray
    stray_small e r q = omega (arith, first≤ (has (strays (initials e r) (initials e q))) 12)

    -- a set of at most 12 events has at most four digits
    set_small : (e : ℕ) → e ≤ 12 → 2 ^ e < 10000
    set_small e l = let m : 2 ^ e ≤ 2 ^ 12 = pow_mono l in omega arith

    -- the device's acceptances at the end of the trace are sets of its events
    narrow_last : nearest trace_only P Q < pair_count P Q → (j : ℕ) → j < (last_row trace_only P Q Q).c → acceptance (last_row trace_only P Q Q) j < 2 ^ Q.e
    unfolding last_row nearest nearest_trace pair_count
    narrow_last h j l =
        let w = pair_trace_leads (check_sound P h_p).graphed (check_sound Q h_q).graphed (violating trace_only P Q) h in
        (check_sound Q h_q).narrow (walk (graph Q) 0 (pair_trace (graph P) (graph Q) (violating trace_only P Q))) j w.in_d l

    -- what a refusal names has at most four digits
    found_small : (r q : Row) → ((j : ℕ) → j < q.c → acceptance q j < 2 ^ Q.e) → (p a : ℕ) → first_missed (acceptances r) P.e (acceptances q) ≡ Some (record { probe = p; acceptance = a })
        → (p < 10000) × (a < 10000)
    unfolding acceptances
    found_small r q narrow p a e =
        let w = (missed_found (acceptances r) P.e (acceptances q) p a).0 e in
        let i : w.spot < q.c = omega (arith, w.spot_in, length_up_to (acceptance q) q.c) in
        let x : get_or (probes (acceptances r) P.e) w.place 0 < 2 ^ P.e = probe_small (acceptances r) P.e w.place w.place_in in
        let y : acceptance q w.spot ≡ a = sym (get_or_up_to (acceptance q) q.c w.spot 0 i) ∙ w.acceptance in
        (omega (arith, x, w.probe, set_small P.e (check_sound P h_p).ranges.e_high), omega (arith, y, narrow w.spot i, set_small Q.e (check_sound Q h_q).ranges.e_high))

    -- the length of the three lines of a violation
    three_length : (d c : ℕ) (told end : List ℕ) → d ≤ 1024 → c ≤ 1024 → length told ≤ 3075 → length end ≤ 21 → length (violates_line d c ++ (told ++ end)) ≤ 3129
    three_length d c told end h k s l =
        omega (arith, length-append (violates_line d c) (told ++ end), length-append told end, violates_length d c (omega arith) (omega arith), s, l)

    named_length : (d c : ℕ) (r q : Row) → d ≤ 1024 → c ≤ 1024 → ((j : ℕ) → j < q.c → acceptance q j < 2 ^ Q.e) → (t : List ℕ) → length (trace_line (take d t)) ≤ 3075
        → length (outcome_lines (Ok (named d c P.e r q)) t) ≤ 3129
    unfolding named outcome_lines refusal_named
    named_length d c r q h k narrow t s = go (has_stray P.e r q) (first_missed (acceptances r) P.e (acceptances q)) refl
      where
        go : (b : Bool) (m : Option Missed) → first_missed (acceptances r) P.e (acceptances q) ≡ m
            → length (outcome_lines (Ok (cond b (Stray d c (first_stray P.e r q)) (refusal_named d c m))) t) ≤ 3129
        go true m e =
            three_length d c (trace_line (take d t)) (number_line (ascii "stray ") (first_stray P.e r q)) h k s
            (omega (arith, number_length (ascii "stray ") 1 (first_stray P.e r q) (stray_small P.e r q)))
        go false None e = three_length d c (trace_line (take d t)) (refused_probe_line 0 0) h k s (refused_length 0 0 (omega arith) (omega arith))
        go false (Some m) e =
            let w = found_small r q narrow m.probe m.acceptance e in
            three_length d c (trace_line (take d t)) (refused_probe_line m.probe m.acceptance) h k s (refused_length m.probe m.acceptance w.0 w.1)

    -- the length of the lines of an answer of the program
    answer_length : length (outcome_lines (outcome_of trace_only P Q work_list trace_list) (trace_after trace_only P Q work_list trace_list)) ≤ 3129
    unfolding outcome_of trace_after comparison_of outcome_lines
    answer_length = go (eqb k 0) (ltb (nearest trace_only P Q) (pair_count P Q)) refl
      where
        k : ℕ
        k = compare_fault P Q work_list trace_list

        go : (x y : Bool) → ltb (nearest trace_only P Q) (pair_count P Q) ≡ y
            → length (outcome_lines
            (cond x (Ok (cond y (named (nearest trace_only P Q) (cleared_of trace_only P Q) P.e (last_row trace_only P Q P) (last_row trace_only P Q Q)) (Refines (cleared_of trace_only P Q)))) (Err k))
            (cond (x && y) (at_front trace_list (nearest_trace trace_only P Q)) trace_list)) ≤ 3129
        go true true e =
            let h = ltb-true (nearest trace_only P Q) (pair_count P Q) e in
            named_length (nearest trace_only P Q) (cleared_of trace_only P Q) (last_row trace_only P Q P) (last_row trace_only P Q Q) nearest_le cleared_le (narrow_last h)
            (at_front trace_list (nearest_trace trace_only P Q)) (told_length trace_list h)
        go true false e = omega (arith, number_length (ascii "refines cleared ") 3 (cleared_of trace_only P Q) (omega (arith, cleared_le)))
        go false y e = omega (arith, number_length (ascii "comparison refused ") 1 k (omega (arith, compare_le)))

  -- the length of the lines after two accepted sheets
  compared_length : length (compared_lines P Q) ≤ 3129
  unfolding compared_lines
  compared_length = answer_length _

-- every text has at most 3,184 bytes
pub text_length : (input : List ℕ) → length (compare_text input) ≤ 3184
unfolding compare_text
text_length input = pair_length compared_lines 3129 compared_length input

-- every text fits where 4,096 bytes are kept
pub text_fits : (input : List ℕ) → length (compare_text input) ≤ 4096
text_fits input = omega (arith, text_length input)
