-- Nothing to believe: laws. The answer and the trace list of a call that is not refused: exactly what 01 describes.
use Rattle.std.specs.Prelude.{◌≡◌, ◌⊎◌, Bool, List, ℕ, ◌-◌, ◌*◌, ◌≤◌, ◌<◌, length, get_or, take, Result, Ok}
use Rattle.std.proofs.Common.{sym, ap, ◌∙◌, inl, inr, arith, lt-ltb}
use Rattle.base.proofs.Truth.{lt_or_ge}
use Rattle.base.proofs.Front.{at_front_taken, at_front_length, at_front_behind}
use Rattle.sheet_spec.specs.declared.Sheet.{Sheet}
use Rattle.sheet_spec.specs.Refusals.{sheet_fault}
use Rattle.sheet_spec.specs.Sound.{Sound}
use Rattle.sheet_spec.proofs.SoundLaws.{check_sound}
use Rattle.sheet_spec.proofs.CodeLaws.{agree_self}
use Rattle.comparison_spec.specs.declared.Outcome.{Outcome}
use Rattle.comparison_spec.specs.declared.Outcome.TheVariants.{Refines}
use Rattle.comparison_spec.specs.Comparison.{pair_count, nearest, nearest_trace, cleared_of, compare_fault, outcome_of, trace_after, trace_of}
use Rattle.comparison_spec.specs.Meaning.{Describes}
use Rattle.comparison_spec.proofs.ComparisonLaws.{trace_length}
use Rattle.comparison_spec.proofs.OutcomeLaws.{comparison_describes, describes_only, comparison_self}
use Rattle.comparison_spec.proofs.CallLaws.{compare_0, compare_fits, given_outcome, given_trace, given_no_trace}

-- a sheet that is not refused, compared with itself with lists that are long enough, refines
pub outcome_self : (trace_only : Bool) (s : Sheet) → sheet_fault s ≡ 0 → (work trace : List ℕ) → 2 * pair_count s s ≤ length work → pair_count s s - 1 ≤ length trace
    → outcome_of trace_only s s work trace ≡ Ok (Refines (cleared_of trace_only s s))
outcome_self trace_only s h work trace l k = given_outcome s s work trace trace_only (compare_fits s s work trace h h (agree_self s) l k) ∙ ap (λ (o : Outcome). Ok o) (comparison_self (check_sound s h) trace_only)

module _ (trace_only : Bool) (P Q : Sheet) (acc_p : sheet_fault P ≡ 0) (acc_q : sheet_fault Q ≡ 0) (same : P.e ≡ Q.e) (work trace : List ℕ) (z : compare_fault P Q work trace ≡ 0) where
  op : Sound P
  op = check_sound P acc_p

  oq : Sound Q
  oq = check_sound Q acc_q

  -- the front of the trace list at exit is the trace
  front : nearest trace_only P Q < pair_count P Q → take (nearest trace_only P Q) (trace_after trace_only P Q work trace) ≡ nearest_trace trace_only P Q
  front l = rw (given_trace P Q work trace trace_only z l) (at_front_taken trace (nearest_trace trace_only P Q) (trace_length op oq same trace_only))

  -- where there is a violation, behind its trace the list is as it was
  pub trace_rest : nearest trace_only P Q < pair_count P Q → (x : ℕ) → nearest trace_only P Q ≤ x → get_or (trace_after trace_only P Q work trace) x 0 ≡ get_or trace x 0
  trace_rest l x h = rw (given_trace P Q work trace trace_only z l) (at_front_behind trace (nearest_trace trace_only P Q) x 0 (omega (arith, trace_length op oq same trace_only, h)))

  -- the trace list keeps its length
  pub trace_kept : length (trace_after trace_only P Q work trace) ≡ length trace
  trace_kept = go (lt_or_ge (nearest trace_only P Q) (pair_count P Q))
    where
      go : (nearest trace_only P Q < pair_count P Q) ⊎ (pair_count P Q ≤ nearest trace_only P Q) → length (trace_after trace_only P Q work trace) ≡ length trace
      go (inl l) =
          let o = (compare_0 P Q work trace).0 z in
          rw (given_trace P Q work trace trace_only z l) (at_front_length trace (nearest_trace trace_only P Q) (omega (arith, o.1, l, trace_length op oq same trace_only)))
      go (inr l) = ap length (given_no_trace P Q work trace trace_only l)

  -- the answer, with the trace, is what 01 describes
  pub outcome_describes : Describes trace_only P Q (outcome_of trace_only P Q work trace) (trace_of trace_only P Q)
  outcome_describes = rw (given_outcome P Q work trace trace_only z) (comparison_describes op oq same trace_only)

  -- whatever 01 describes is that answer; and its trace, where there is a violation, is the front of the trace list
  pub outcome_only : (o : Result Outcome ℕ) (t : List ℕ) → Describes trace_only P Q o t → o ≡ outcome_of trace_only P Q work trace
  outcome_only o t d = (describes_only op oq same trace_only o t d).0 ∙ sym (given_outcome P Q work trace trace_only z)

  pub trace_unique : (o : Result Outcome ℕ) (t : List ℕ) → Describes trace_only P Q o t → nearest trace_only P Q < pair_count P Q → t ≡ take (nearest trace_only P Q) (trace_after trace_only P Q work trace)
  unfolding trace_of
  trace_unique o t d l =
      (describes_only op oq same trace_only o t d).1
      ∙ rw (lt-ltb (nearest trace_only P Q) (pair_count P Q) l) (sym (front l))

-- "every answer, trace and cleared count is the one that the larger list gave" (02, K7): two calls that are not refused
-- answer alike, however long their lists are and whatever they hold
module _ (trace_only : Bool) (P Q : Sheet) (acc_p : sheet_fault P ≡ 0) (acc_q : sheet_fault Q ≡ 0) (same : P.e ≡ Q.e) (work trace larger other : List ℕ)
    (z : compare_fault P Q work trace ≡ 0) (z' : compare_fault P Q larger other ≡ 0) where
  pub same_answer : outcome_of trace_only P Q work trace ≡ outcome_of trace_only P Q larger other
  same_answer = given_outcome P Q work trace trace_only z ∙ sym (given_outcome P Q larger other trace_only z')

  -- the fronts of the trace lists of two calls that are not refused are one trace
  pub same_trace : nearest trace_only P Q < pair_count P Q → take (nearest trace_only P Q) (trace_after trace_only P Q work trace) ≡ take (nearest trace_only P Q) (trace_after trace_only P Q larger other)
  same_trace l = front trace_only P Q acc_p acc_q same work trace z l ∙ sym (front trace_only P Q acc_p acc_q same larger other z' l)
