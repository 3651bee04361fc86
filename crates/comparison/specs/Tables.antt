-- Nothing to believe: for the proofs of this crate. From the tables to the definitions: the graph that a sheet's table
-- draws is the sheet's, the table of violating pairs holds what the definition says, and so a search over them gives
-- the answer and leaves the lists as they are defined.
use Rattle.std.specs.Prelude.{◌≡◌, ◌⊎◌, ◌≢◌, Bool, List, ℕ, ◌+◌, ◌*◌, ◌≤◌, ◌<◌, length, get_or, Result, Ok, Err}
use Rattle.std.proofs.Math.Path.{sym, fun_ext}
use Rattle.std.proofs.Common.{ap, ◌∙◌, inl, inr, arith}
use borrow.Author.Tests.{lt-ltb, le-ltb}
use Rattle.base.proofs.Truth.{lt_or_ge}
use Rattle.base.proofs.Count.{count_le}
use Rattle.base.specs.Table.{up_to}
use Rattle.walks.specs.Graph.{Graph}
use Rattle.walks.specs.Cleared.{cleared}
use Rattle.walks.specs.Product.{product}
use Rattle.walks.specs.Pairs.{pair_distance, pair_trace, pair_cleared}
use Rattle.walks.proofs.Pairs.{pair_trace_leads, pair_cleared_more}
use Rattle.sheet_spec.specs.declared.Sheet.{Sheet}
use Rattle.sheet_spec.specs.Kept.{row, successor, step, graph}
use Rattle.sheet_spec.specs.Refusals.{sheet_fault}
use Rattle.sheet_spec.specs.Sound.{Sound}
use Rattle.sheet_spec.proofs.SoundLaws.{nodes_most, check_sound}
use Rattle.refinement_spec.specs.ViolatingPairs.{violating}
use Rattle.comparison_spec.specs.declared.Outcome.{Outcome}
use Rattle.comparison_spec.specs.Comparison.{pair_count, nearest, nearest_trace, cleared_of, last_row, comparison_of, compare_fault, trace_after}
use Rattle.comparison_spec.specs.Numbers.{compared}
use Rattle.comparison_spec.proofs.NumberLaws.{compared_refusal}
use Rattle.comparison_spec.proofs.CallLaws.{compare_0, denied_outcome, denied_trace, denied_work, given_outcome, given_trace, given_no_trace, given_work}
use Rattle.search_theory.specs.declared.Found.{Found}
use Rattle.search_theory.specs.Tables.{table_next, table_graph, bad_in}
use Rattle.search_theory.specs.Found.{found_of, Searched, trace_found, work_found}
use Rattle.search_theory.specs.Read.{SearchOk}
use Rattle.sheet_rows.specs.Tables.{flat_at, flat_holds}
use Rattle.comparison.specs.ViolatingTable.{violating_table, table_holds}
use Rattle.comparison.specs.Told.{told, Fits}
use Rattle.comparison.specs.FaultOn.{fault_on, fault_is}
use Rattle.comparison_spec.specs.Contract.{Compares}
use Rattle.comparison.specs.Agree.{Agree, distance_same, trace_same}

-- ---- the tables

-- what a sheet's table holds for node v and event i
flat_at_lem : (s : Sheet) (v i : ℕ) → v < 32 → i < 12 → get_or (up_to (flat_at s.rows) 384) (v * 12 + i) 0 ≡ successor (row s v) i
flat_at_lem s v i h k = flat_holds s.rows v i h k

-- the graph that a sheet's table draws is the sheet's
pub flat_graph : (s : Sheet) → s.n ≤ 32 → s.e ≤ 12 → table_graph (up_to (flat_at s.rows) 384) s.n s.e ≡ graph s
unfolding table_graph table_next step
flat_graph s n e = ap (λ (f : ℕ → ℕ → ℕ). record { events = s.e; size = s.n; next = f }) (fun_ext (λ v. fun_ext (λ i. at v i (lt_or_ge v s.n) (lt_or_ge i s.e))))
  where
    at : (v i : ℕ) → (v < s.n) ⊎ (s.n ≤ v) → (i < s.e) ⊎ (s.e ≤ i) → table_next (up_to (flat_at s.rows) 384) s.n s.e v i ≡ step s v i
    at v i (inl h) (inl k) = rw (lt-ltb v s.n h, lt-ltb i s.e k) (flat_at_lem s v i (omega arith) (omega arith))
    at v i (inl h) (inr k) = rw (lt-ltb v s.n h, le-ltb i s.e k)
    at v i (inr h) k = rw (le-ltb v s.n h)

-- the table of violating pairs agrees with the definition at the pairs of nodes
pub bad_agree : (trace_only : Bool) (P Q : Sheet) → Agree (graph P) (graph Q) (bad_in (violating_table trace_only P Q) Q.n) (violating trace_only P Q)
unfolding bad_in
bad_agree trace_only P Q n m h k = table_holds trace_only P Q n m h k

-- ---- what is found

cleared_le : (r d : Graph) (k : ℕ) → pair_cleared r d k ≤ r.size * d.size
unfolding pair_cleared cleared product
cleared_le r d k = count_le _ (r.size * d.size)

module _ (trace_only : Bool) (P Q : Sheet) (op : Sound P) (oq : Sound Q) where
  -- the test of pairs that the table holds
  abbrev table : ℕ → ℕ → Bool
  table = bad_in (violating_table trace_only P Q) Q.n

  same_distance : pair_distance (graph P) (graph Q) table ≡ nearest trace_only P Q
  unfolding nearest
  same_distance = distance_same op.graphed oq.graphed table (violating trace_only P Q) (bad_agree trace_only P Q)

  same_trace : nearest trace_only P Q < P.n * Q.n → pair_trace (graph P) (graph Q) table ≡ nearest_trace trace_only P Q
  unfolding nearest_trace
  same_trace l = trace_same op.graphed oq.graphed table (violating trace_only P Q) (bad_agree trace_only P Q) (rw same_distance l)

  -- the answer that follows from what is found is the definition's
  pub found_told : told P Q (found_of (graph P) (graph Q) table) ≡ comparison_of trace_only P Q
  unfolding told found_of comparison_of cleared_of last_row pair_count
  found_told = go (lt_or_ge (nearest trace_only P Q) (P.n * Q.n))
    where
      go : (nearest trace_only P Q < P.n * Q.n) ⊎ (P.n * Q.n ≤ nearest trace_only P Q) → told P Q (found_of (graph P) (graph Q) table) ≡ comparison_of trace_only P Q
      go (inl l) = rw (same_distance, lt-ltb (nearest trace_only P Q) (P.n * Q.n) l, same_trace l)
      go (inr l) = rw (same_distance, le-ltb (nearest trace_only P Q) (P.n * Q.n) l, pair_cleared_more op.graphed oq.graphed (nearest trace_only P Q) l)

  pub found_fits : Fits P Q (found_of (graph P) (graph Q) table)
  unfolding Fits found_of
  found_fits = go (lt_or_ge (pair_distance (graph P) (graph Q) table) (P.n * Q.n))
    where
      go : (pair_distance (graph P) (graph Q) table < P.n * Q.n) ⊎ (P.n * Q.n ≤ pair_distance (graph P) (graph Q) table)
          → Fits P Q (found_of (graph P) (graph Q) table)
      go (inl l) =
          let w = pair_trace_leads op.graphed oq.graphed table l in
          rw (lt-ltb (pair_distance (graph P) (graph Q) table) (P.n * Q.n) l)
          (omega (arith, nodes_most op oq), w.in_r, w.in_d, omega (arith, nodes_most op oq, cleared_le (graph P) (graph Q) (pair_distance (graph P) (graph Q) table)))
      go (inr l) = rw (le-ltb (pair_distance (graph P) (graph Q) table) (P.n * Q.n) l) (omega (arith, nodes_most op oq, cleared_le (graph P) (graph Q) (P.n * Q.n)))

  -- the trace list that follows from what is found is the definition's
  after_trace : (work trace : List ℕ) → compare_fault P Q work trace ≡ 0 → trace_found (graph P) (graph Q) table trace ≡ trace_after trace_only P Q work trace
  unfolding trace_found pair_count
  after_trace work trace z = go (lt_or_ge (nearest trace_only P Q) (P.n * Q.n))
    where
      go : (nearest trace_only P Q < P.n * Q.n) ⊎ (P.n * Q.n ≤ nearest trace_only P Q) → trace_found (graph P) (graph Q) table trace ≡ trace_after trace_only P Q work trace
      go (inl l) =
          rw (same_distance, lt-ltb (nearest trace_only P Q) (P.n * Q.n) l, same_trace l)
          (sym (given_trace P Q work trace trace_only z l))
      go (inr l) = rw (same_distance, le-ltb (nearest trace_only P Q) (P.n * Q.n) l) (sym (given_no_trace P Q work trace trace_only l))

-- ---- the call

module _ (P Q : Sheet) (work trace : List ℕ) where
  -- a call that is refused meets its contract
  pub compares_denied : (trace_only : Bool) (k : ℕ) → k ≡ fault_on P Q (length work) (length trace) → 0 < k → Compares trace_only P Q work trace work trace (Err k)
  compares_denied trace_only k e n =
      let f = e ∙ fault_is P Q work trace in
      let m : compare_fault P Q work trace ≢ 0 = λ z. omega (arith, f, z, n) in
      let a = ap (λ (x : ℕ). Err x) f ∙ sym (denied_outcome P Q work trace trace_only m) in
      record { answer = a; numbers = ap (λ (o : Result Outcome ℕ). (compared o).refusal) a ∙ compared_refusal trace_only P Q work trace; traced = sym (denied_trace P Q work trace trace_only m); zeroed = sym (denied_work P Q work trace trace_only m) }

  -- a call that the code does not refuse is not refused
  pub passed : 0 ≡ fault_on P Q (length work) (length trace) → compare_fault P Q work trace ≡ 0
  passed e = sym (fault_is P Q work trace) ∙ sym e

  module _ (z : compare_fault P Q work trace ≡ 0) where
    pub both_accepted : (sheet_fault P ≡ 0) × (sheet_fault Q ≡ 0)
    both_accepted = ((compare_0 P Q work trace).0 z).0.0.0

    sound_P : Sound P
    sound_P = check_sound P both_accepted.0

    sound_Q : Sound Q
    sound_Q = check_sound Q both_accepted.1

    same_events : P.e ≡ Q.e
    same_events = ((compare_0 P Q work trace).0 z).0.0.1.0

    module _ {p q e : ℕ} (ep : p ≡ P.n) (eq : q ≡ Q.n) (ee : e ≡ P.e) where
      -- the search may be called
      pub search_fits : SearchOk p q e work trace
      unfolding pair_count
      search_fits =
          let w = (compare_0 P Q work trace).0 z in
          rw (ep, eq, ee)
          (record {
            first_some = sound_P.ranges.n_low;
            first_most = sound_P.ranges.n_high;
            second_some = sound_Q.ranges.n_low;
            second_most = sound_Q.ranges.n_high;
            events = sound_P.ranges.e_high;
            words = omega (arith, w.0.1);
            places = omega (arith, w.1);
          })

      -- what the search answers and leaves is the comparison's
      module _ (trace_only : Bool) {a b : List ℕ} {bad : List Bool} {work' trace' : List ℕ} {found : Found} (ea : a ≡ up_to (flat_at P.rows) 384)
          (eb : b ≡ up_to (flat_at Q.rows) 384) (et : bad ≡ violating_table trace_only P Q) (s : Searched a b p q e bad work trace work' trace' found) where
        searched : Searched (up_to (flat_at P.rows) 384) (up_to (flat_at Q.rows) 384) P.n Q.n P.e (violating_table trace_only P Q) work trace work' trace' found
        searched = rw (ea, eb, et, ep, eq, ee) at s

        graph_P : table_graph (up_to (flat_at P.rows) 384) P.n P.e ≡ graph P
        graph_P = flat_graph P sound_P.ranges.n_high sound_P.ranges.e_high

        graph_Q : table_graph (up_to (flat_at Q.rows) 384) Q.n P.e ≡ graph Q
        graph_Q = rw same_events (flat_graph Q sound_Q.ranges.n_high sound_Q.ranges.e_high)

        found_is : found ≡ found_of (graph P) (graph Q) (table trace_only P Q sound_P sound_Q)
        found_is = rw (graph_P, graph_Q) at searched.answer

        pub answer_fits : Fits P Q found
        answer_fits = rw found_is (found_fits trace_only P Q sound_P sound_Q)

        pub compares_found : (r : Outcome) → r ≡ told P Q found → Compares trace_only P Q work trace work' trace' (Ok r)
        compares_found r er =
            let x = ap (λ (o : Outcome). Ok o) (er ∙ ap (told P Q) found_is ∙ found_told trace_only P Q sound_P sound_Q) ∙ sym (given_outcome P Q work trace trace_only z) in
            record {
              answer = x;
              numbers = ap (λ (o : Result Outcome ℕ). (compared o).refusal) x ∙ compared_refusal trace_only P Q work trace;
              traced = (rw (graph_P, graph_Q) at searched.traced) ∙ after_trace trace_only P Q sound_P sound_Q work trace z;
              zeroed = (unfold work_found pair_count in (searched.zeroed ∙ sym (given_work P Q work trace trace_only z)));
            }
