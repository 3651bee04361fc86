-- Nothing to believe: laws. What the text says after two accepted sheets: if they agree they get a line for each test
-- and the last line, which says "all pass" exactly if the device refines the reference; with another E they get the
-- refusal 11, with one E and another code the refusal 19.
use Rattle.std.specs.Prelude.{◌≡◌, ◌≢◌, ◌↔◌, false, List, ◌++◌, length, get_or}
use Rattle.std.proofs.Common.{sym, ◌∙◌, arith}
use Rattle.std.proofs.Math.Bool.{Bool}
use Prim.Native.Nat.{ℕ, ◌-◌, ◌≤◌, ◌<◌}
use Rattle.std.proofs.Math.Dec.{eqb}
use Rattle.std.proofs.lemmas.List.{length-replicate}
use borrow.Author.Tests.{eq-eqb, ne_eqb, eqb-true}
use Rattle.base.proofs.Count.{count_le, count_all→, count_all←}
use Rattle.sheet_spec.specs.declared.Sheet.{Sheet}
use Rattle.sheet_spec.specs.Refusals.{sheet_fault, Agree, CodesDiffer}
use Rattle.refinement_spec.specs.Refinement.{RefinesIn}
use Rattle.text_spec.specs.Lines.{ascii, number_line}
use Rattle.text_pair_spec.specs.BackToBack.{BackToBack, after_sheets}
use Rattle.text_pair_spec.proofs.BackToBackLaws.{pair_text_lem}
use Rattle.verdicts_spec.specs.Numbers.{passes_number}
use Rattle.verdicts_spec.specs.Suites.{test_count, suite_fault}
use Rattle.verdicts_spec.proofs.SuiteLaws.{suite_11, suite_19, suite_fits, denied_suite, given_suite}
use Rattle.verdicts_spec.proofs.Complete.{tests_few, suite_complete}
use Rattle.suite_lines_spec.specs.Lines.{test_lines, passed_of, last_words, last_line, suite_lines}
use Rattle.suite_lines_spec.specs.Program.{verdict_list, after, judged_lines, suite_text}

-- no more tests pass than there are
pub passed_few : (vs : List ℕ) (n : ℕ) → passed_of vs n ≤ n
unfolding passed_of
passed_few vs n = count_le (λ k. eqb (get_or vs k 0) passes_number) n

-- the list of verdicts has 1,024 places, enough for every two sheets that are not refused
list_length : length verdict_list ≡ 1024
unfolding verdict_list
list_length = length-replicate {A = ℕ} 1024 0

module _ (P Q : Sheet) (acc_p : sheet_fault P ≡ 0) (acc_q : sheet_fault Q ≡ 0) where
  -- a refusal of the call is printed with its number
  denied_lines : (m : ℕ) → m ≢ 0 → suite_fault P Q verdict_list ≡ m → judged_lines P Q ≡ number_line (ascii "suite refused ") m
  unfolding judged_lines suite_lines
  denied_lines m n z = rw (denied_suite P Q verdict_list (λ e. n (sym z ∙ e)), z)

  -- where E differs, the refusal 11 is printed
  pub unequal_lines : P.e ≢ Q.e → judged_lines P Q ≡ number_line (ascii "suite refused ") 11
  unequal_lines n = denied_lines 11 (λ e. omega arith) ((suite_11 P Q verdict_list).1 ((acc_p, acc_q), n))

  -- where E is one and some event has another code, the refusal 19 is printed
  pub unequal_codes_lines : (P.e ≡ Q.e) × CodesDiffer P Q → judged_lines P Q ≡ number_line (ascii "suite refused ") 19
  unequal_codes_lines w = denied_lines 19 (λ e. omega arith) ((suite_19 P Q verdict_list).1 ((acc_p, acc_q), w))

  -- where the sheets agree, there is room for the verdicts
  room : Agree P Q → test_count P Q ≤ length verdict_list
  room agree = omega (arith, list_length, tests_few P Q acc_p acc_q agree)

  module _ (agree : Agree P Q) where
    -- where the sheets agree, a line for each test is printed, and the last line
    pub equal_lines : judged_lines P Q ≡ test_lines (after P Q) (test_count P Q) ++ last_line (test_count P Q) (test_count P Q) (passed_of (after P Q) (test_count P Q))
    unfolding judged_lines suite_lines
    equal_lines = rw (given_suite P Q verdict_list (suite_fits P Q verdict_list acc_p acc_q agree (room agree)))

  module _ (same : Agree P Q) where
    -- as many pass as there are tests exactly if the device refines the reference
    pub all_passed : (passed_of (after P Q) (test_count P Q) ≡ test_count P Q) ↔ RefinesIn false P Q
    unfolding passed_of
    all_passed =
        (λ z. w.0 (λ k l. eqb-true (get_or (after P Q) k 0) passes_number (count_all→ f (test_count P Q) z k l)), λ r. count_all← f (test_count P Q) (λ k l. eq-eqb (get_or (after P Q) k 0) passes_number (w.1 r k l)))
      where
        f : ℕ → Bool
        f k = eqb (get_or (after P Q) k 0) passes_number

        w : ((k : ℕ) → k < test_count P Q → get_or (after P Q) k 0 ≡ passes_number) ↔ RefinesIn false P Q
        w = suite_complete P Q acc_p acc_q same verdict_list (room same) false

    -- the last line says "all pass" exactly if the device refines the reference, else how many tests failed
    pub says_all : RefinesIn false P Q → last_words (test_count P Q) (test_count P Q) (passed_of (after P Q) (test_count P Q)) ≡ ascii " all pass\n"
    unfolding last_words
    says_all r = rw (eq-eqb (passed_of (after P Q) (test_count P Q)) (test_count P Q) (all_passed.1 r))

    pub says_failed : ¬ RefinesIn false P Q → last_words (test_count P Q) (test_count P Q) (passed_of (after P Q) (test_count P Q)) ≡ number_line (ascii " failed ") (test_count P Q - passed_of (after P Q) (test_count P Q))
    unfolding last_words
    says_failed n = rw (ne_eqb (passed_of (after P Q) (test_count P Q)) (test_count P Q) (λ e. n (all_passed.0 e)))

module _ (input : List ℕ) (P Q : Sheet) (b : BackToBack input P Q) where
  -- two accepted sheets back to back get the line of each, and then what is judged of them
  pub suite_says : suite_text input ≡ after_sheets P Q (judged_lines P Q)
  unfolding suite_text
  suite_says = pair_text_lem input judged_lines P Q b

  -- with one E and other codes they get `suite refused 19` after the two lines, with another E 11
  pub suite_says_19 : (P.e ≡ Q.e) × CodesDiffer P Q → suite_text input ≡ after_sheets P Q (number_line (ascii "suite refused ") 19)
  suite_says_19 w = suite_says ∙ rw (unequal_codes_lines P Q b.reference_accepted.1 b.device_accepted.1 w)

  pub suite_says_11 : P.e ≢ Q.e → suite_text input ≡ after_sheets P Q (number_line (ascii "suite refused ") 11)
  suite_says_11 n = suite_says ∙ rw (unequal_lines P Q b.reference_accepted.1 b.device_accepted.1 n)
