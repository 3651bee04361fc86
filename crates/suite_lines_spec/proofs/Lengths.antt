-- Nothing to believe: laws. How long the text can be: at most 17,495 bytes.
use Rattle.std.specs.Prelude.{◌≡◌, Bool, true, false, cond, List, ◌++◌, ℕ, ◌-◌, ◌*◌, ◌≤◌, ◌<◌, eqb, length, get_or}
use Rattle.std.proofs.Common.{inl, inr, arith, length-append}
use Rattle.base.proofs.JoinedLaws.{joined_length}
use Rattle.sheet_spec.specs.declared.Sheet.{Sheet}
use Rattle.sheet_spec.specs.Refusals.{sheet_fault, PairWays}
use Rattle.sheet_spec.proofs.PairFaults.{pair_ways}
use Rattle.text_spec.specs.Lines.{ascii, decimal, number_line}
use Rattle.text_spec.proofs.DecimalLaws.{decimal_few}
use Rattle.text_spec.proofs.LengthLaws.{number_length}
use Rattle.verdicts_spec.specs.Numbers.{passes_number}
use Rattle.verdicts_spec.specs.Suites.{test_count, verdicts_after}
use Rattle.verdicts_spec.proofs.Complete.{tests_few}
use Rattle.text_pair_spec.proofs.ProgramLaws.{pair_length}
use Rattle.suite_lines_spec.specs.Lines.{test_line, test_lines, passed_of, last_words, last_line}
use Rattle.suite_lines_spec.specs.Program.{verdict_list, judged_lines, suite_text}
use Rattle.suite_lines_spec.proofs.ProgramLaws.{passed_few, unequal_lines, unequal_codes_lines, equal_lines}

-- the length of the line of a test
test_length : (k v : ℕ) → k < 10000 → length (test_line k v) ≤ 17
unfolding test_line
test_length k v h = go (eqb v passes_number)
  where
    end : (t : List ℕ) → length t ≤ 8 → length (ascii "test " ++ (decimal k ++ t)) ≤ 17
    end t l = omega (arith, length-append (ascii "test ") (decimal k ++ t), length-append (decimal k) t, decimal_few 3 k h)

    go : (b : Bool) → length (ascii "test " ++ (decimal k ++ cond b (ascii " passes\n") (ascii " fails\n"))) ≤ 17
    go true = end (ascii " passes\n") (omega arith)
    go false = end (ascii " fails\n") (omega arith)

-- the length of the lines of n tests
pub tests_length : (vs : List ℕ) (n : ℕ) → n ≤ 1024 → length (test_lines vs n) ≤ 17 * n
unfolding test_lines
tests_length vs n h = omega (arith, joined_length (λ k. test_line k (get_or vs k 0)) 17 n (λ k l. test_length k (get_or vs k 0) (omega arith)))

-- the length of the last line
pub last_length : (n m f : ℕ) → n ≤ 1024 → m ≤ 1024 → f ≤ 1024 → length (last_line n m f) ≤ 32
unfolding last_line last_words
last_length n m f a b c = go (eqb f n)
  where
    end : (t : List ℕ) → length t ≤ 13 → length (ascii "tests " ++ (decimal n ++ (ascii " run " ++ (decimal m ++ t)))) ≤ 32
    end t l =
        omega (
          arith,
          length-append (ascii "tests ") (decimal n ++ (ascii " run " ++ (decimal m ++ t))),
          length-append (decimal n) (ascii " run " ++ (decimal m ++ t)),
          length-append (ascii " run ") (decimal m ++ t),
          length-append (decimal m) t,
          decimal_few 3 n (omega arith),
          decimal_few 3 m (omega arith),
        )

    go : (x : Bool) → length (ascii "tests " ++ (decimal n ++ (ascii " run " ++ (decimal m ++ cond x (ascii " all pass\n") (number_line (ascii " failed ") (m - f)))))) ≤ 32
    go true = end (ascii " all pass\n") (omega arith)
    go false = end (number_line (ascii " failed ") (m - f)) (omega (arith, number_length (ascii " failed ") 3 (m - f) (omega arith)))

module _ (P Q : Sheet) (acc_p : sheet_fault P ≡ 0) (acc_q : sheet_fault Q ≡ 0) where
  -- the length of the lines after two accepted sheets: at most 1,024 tests and the last line, or a refusal
  judged_length : length (judged_lines P Q) ≤ 17440
  judged_length = go (pair_ways P Q)
    where
      go : PairWays P Q → length (judged_lines P Q) ≤ 17440
      go (inl a) =
          let few = tests_few P Q acc_p acc_q a in
          rw (equal_lines P Q acc_p acc_q a, length-append (test_lines vs (test_count P Q)) (last_line (test_count P Q) (test_count P Q) (passed_of vs (test_count P Q))))
          (omega (arith, tests_length vs (test_count P Q) few, few, last_length (test_count P Q) (test_count P Q) (passed_of vs (test_count P Q)) few few (omega (arith, few, passed_few vs (test_count P Q)))))
        where
          vs : List ℕ
          vs = verdicts_after false P Q verdict_list
      go (inr (inl n)) = rw (unequal_lines P Q acc_p acc_q n) (omega (arith, number_length (ascii "suite refused ") 1 11 (omega arith)))
      go (inr (inr w)) = rw (unequal_codes_lines P Q acc_p acc_q w) (omega (arith, number_length (ascii "suite refused ") 1 19 (omega arith)))

-- every text has at most 17,495 bytes
pub text_length : (input : List ℕ) → length (suite_text input) ≤ 17495
unfolding suite_text
text_length input = pair_length judged_lines 17440 judged_length input
