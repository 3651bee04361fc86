-- The step of the count of tests that pass, and the room in the list of verdicts.
use Rattle.std.specs.Prelude.{◌≡◌, Bool, true, false, cond, List, ℕ, ◌+◌, ◌*◌, eqb, length, get_or, replicate, Result, Ok, Err}
use Rattle.std.proofs.Math.Path.{refl}
use Rattle.std.proofs.Common.{ap, arith, add-one, eqb-true}
use Rattle.base.specs.Count.{count}
use Rattle.sheet_spec.specs.declared.Sheet.{Sheet}
use Rattle.text.proofs.PageLaws.{joined_none, joined_next, joined_end}
use Rattle.verdicts_spec.specs.Numbers.{passes_number}
use Rattle.verdicts_spec.specs.Suites.{test_count, suite_fault, suite_of, verdicts_after}
use Rattle.verdicts_spec.proofs.SuiteLaws.{given_room, verdicts_length}
use Rattle.suite_lines_spec.specs.Lines.{passed_of, suite_lines}
use Rattle.suite_lines_spec.specs.Program.{verdict_list, judged_lines}
use Rattle.suite_lines.specs.Shapes.{Room}

-- lines that are put one after another
pub ruleset lines_one_by_one = (joined_none, joined_next, joined_end)

-- of no test none passes
pub passed_none : (vs : List ℕ) → passed_of vs 0 ≡ 0
unfolding passed_of count
passed_none vs = refl

-- one test more is counted, if it passes
pub passed_more : (vs : List ℕ) (k : ℕ) → passed_of vs (k + 1) ≡ passed_of vs k + cond (eqb (get_or vs k 0) passes_number) 1 0
unfolding passed_of count
passed_more vs k = rw (add-one k)

module _ (P Q : Sheet) {s : Result ℕ ℕ} (vs : List ℕ) where
  -- the answer of the call leaves room for its verdicts
  pub room_of : (o : List ℕ) → s ≡ suite_of P Q o → vs ≡ verdicts_after false P Q o → Room s vs
  unfolding Room suite_of
  room_of o e v = rw e (go (eqb (suite_fault P Q o) 0) refl)
    where
      go : (b : Bool) → eqb (suite_fault P Q o) 0 ≡ b → Room (cond b (Ok (test_count P Q)) (Err (suite_fault P Q o))) vs
      go true z = omega (arith, ap length v, verdicts_length P Q o false, given_room P Q o (eqb-true (suite_fault P Q o) 0 z))
      go false z = tt

  -- the lines of the call's answer are those of the definition
  pub judged_is : s ≡ suite_of P Q (replicate 1024 0) → vs ≡ verdicts_after false P Q (replicate 1024 0) → suite_lines (P.n * Q.n) s vs ≡ judged_lines P Q
  unfolding judged_lines verdict_list test_count
  judged_is e v = rw (e, v)
