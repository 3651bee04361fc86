-- What `judge_all` answers and leaves at each return, in the order of the code.
use Rattle.std.specs.Prelude.{◌≡◌, refl, Bool, true, false, cond, List, ◌++◌, ℕ, ◌*◌, ◌≤◌, ◌<◌, length, drop, Result, Ok, Err}
use Rattle.std.proofs.Common.{sym, ap, ◌∙◌, arith}
use borrow.Author.Tests.{le-leb, lt-leb}
use Rattle.base.specs.Refusal.{unless}
use Rattle.base.proofs.Refusal.{or_else_some}
use Rattle.base.specs.Table.{up_to}
use Rattle.base.proofs.Table.{length_up_to, up_to_ext}
use Rattle.base.proofs.Front.{at_front_count}
use Rattle.sheet_spec.specs.declared.Sheet.{Sheet}
use Rattle.sheet_spec.specs.Kept.{sheet_with}
use Rattle.sheet_spec.specs.Refusals.{pair_fault}
use Rattle.verdicts_spec.specs.declared.Verdict.{Verdict}
use Rattle.verdicts_spec.specs.declared.Verdict.TheVariants.{Passes, Fails}
use Rattle.verdicts_spec.specs.Verdicts.{fails_from}
use Rattle.verdicts_spec.specs.Numbers.{judged, suited}
use Rattle.verdicts_spec.proofs.VerdictLaws.{verdict_given}
use Rattle.verdicts_layers.specs.LayerShapes.{kind_of}
use Rattle.verdicts_spec.specs.Suites.{test_count, verdict_number, suite_fault, suite_of, verdicts_after}
use Rattle.verdicts_spec.proofs.SuiteLaws.{denied_suite, denied_verdicts, given_suite, given_verdicts}
use Rattle.verdicts_spec.proofs.Complete.{none_refused}
use Rattle.verdicts.proofs.Pairs.{pair_then, good_pair}
use Rattle.verdicts.proofs.Verdicts.{test_apart}

-- a verdict's number is that of its test
number_of : (b : Bool) → (judged (Ok (cond b Fails Passes))).kind ≡ kind_of b
unfolding judged kind_of
number_of true = refl
number_of false = refl

module _ (trace_only : Bool) (P Q : Sheet) (o : List ℕ) where
  -- what the contract says of an answer in numbers and of the list at exit
  abbrev pub Says : Result ℕ ℕ → List ℕ → Type 0
  Says r after = (r ≡ suite_of P Q o) × ((suited r).refusal ≡ suite_fault P Q o) × (after ≡ verdicts_after trace_only P Q o)

  refused : {m : ℕ} → suite_fault P Q o ≡ m → 0 < m → Says (Err m) o
  unfolding suited
  refused {m} f h =
      let n : suite_fault P Q o ≡ 0 → ⊥ = λ e. omega (arith, e, f) in
      (sym (denied_suite P Q o n ∙ ap (λ (x : ℕ). Err x) f), sym f, sym (denied_verdicts P Q o n trace_only))

  -- a refusal of the pair is that of the call
  pub suite_pair_refused : {m : ℕ} → m ≡ pair_fault P Q 0 → 0 < m → Says (Err m) o
  unfolding suite_fault
  suite_pair_refused {m} e h = refused (pair_then P Q (unless _ 10 0) ∙ rw (← e) (or_else_some m _ h)) h

  module _ (z : 0 ≡ pair_fault P Q 0) where
    -- past the pair the list may be too short
    pub room_refused : length o < P.n * Q.n → Says (Err 10) o
    unfolding suite_fault test_count
    room_refused l = refused (pair_then P Q (unless _ 10 0) ∙ rw (← z, lt-leb (P.n * Q.n) (length o) l)) (omega arith)

    module _ (l : P.n * Q.n ≤ length o) where
      fits : suite_fault P Q o ≡ 0
      unfolding suite_fault test_count
      fits = pair_then P Q (unless _ 10 0) ∙ rw (← z, le-leb (P.n * Q.n) (length o) l)

      -- the test over the rows is the test over the sheets, so its number is that of the verdict
      number : (k : ℕ) → k < test_count P Q → kind_of (fails_from trace_only (sheet_with P.rows P.e P.n) (sheet_with Q.rows P.e Q.n) k 0 0) ≡ verdict_number trace_only P Q k
      unfolding verdict_number
      number k h =
          let g = good_pair P Q z in
          ap kind_of (test_apart trace_only P Q k g.1.0) ∙ sym (number_of (fails_from trace_only P Q k 0 0))
          ∙ ap (λ (v : Result Verdict ℕ). (judged v).kind) (sym (verdict_given P Q k trace_only (none_refused P Q g.0.0 g.0.1 g.1 k h)))

      -- else the verdicts of all tests are written
      pub all_judged : {after : List ℕ}
          → after ≡ up_to (λ k. kind_of (fails_from trace_only (sheet_with P.rows P.e P.n) (sheet_with Q.rows P.e Q.n) k 0 0)) (P.n * Q.n) ++ drop (P.n * Q.n) o
          → Says (Ok (P.n * Q.n)) after
      unfolding test_count suited
      all_judged {after} h = (
        sym (given_suite P Q o fits),
        sym fits,
        h ∙ ap (λ (x : List ℕ). x ++ drop (P.n * Q.n) o) (up_to_ext _ (verdict_number trace_only P Q) (P.n * Q.n) number)
            ∙ sym (given_verdicts P Q o fits trace_only ∙ at_front_count o (up_to (verdict_number trace_only P Q) (test_count P Q)) (length_up_to (verdict_number trace_only P Q) (test_count P Q))),
      )
