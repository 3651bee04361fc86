-- All verdicts at once: what the call answers, and what the lent list then holds. P is the reference, of p nodes, and Q
-- the device, of q nodes; `trace_only` is true for trace-only tests. The verdict of test k is `verdict_of`, the same that
-- a single verdict gives.
use Rattle.std.specs.Prelude.{Bool, cond, List, ℕ, ◌*◌, eqb, leb, length, Result, Ok, Err}
use Rattle.base.specs.Refusal.{unless}
use Rattle.base.specs.Table.{up_to}
use Rattle.base.specs.Front.{at_front}
use Rattle.sheet_spec.specs.declared.Sheet.{Sheet}
use Rattle.sheet_spec.specs.Refusals.{pair_fault}
use Rattle.verdicts_spec.specs.Verdicts.{verdict_of}
use Rattle.verdicts_spec.specs.Numbers.{judged}

-- how many tests there are: p times q
unfoldable pub test_count : Sheet → Sheet → ℕ
test_count P Q = P.n * Q.n

-- the number of the verdict on test k: 11 for "passes", 12 for "fails"
unfoldable pub verdict_number : Bool → Sheet → Sheet → ℕ → ℕ
verdict_number trace_only P Q k = (judged (verdict_of trace_only P Q k)).kind

-- the refusal of the call, 0 for none: the reference's own, the device's own; 11: E differs; 19: a code differs; 10: a
-- list shorter than the tests
unfoldable pub suite_fault : Sheet → Sheet → List ℕ → ℕ
suite_fault P Q out = pair_fault P Q (unless (leb (test_count P Q) (length out)) 10 0)

-- the answer of the call: how many tests were judged, or the refusal
unfoldable pub suite_of : Sheet → Sheet → List ℕ → Result ℕ ℕ
suite_of P Q out = cond (eqb (suite_fault P Q out) 0) (Ok (test_count P Q)) (Err (suite_fault P Q out))

-- the list at exit: the verdicts of tests 0 to p q - 1 at its front and the rest untouched; after a refusal as it was
unfoldable pub verdicts_after : Bool → Sheet → Sheet → List ℕ → List ℕ
verdicts_after trace_only P Q out =
    cond (eqb (suite_fault P Q out) 0) (at_front out (up_to (verdict_number trace_only P Q) (test_count P Q))) out
