-- Nothing to believe: laws. How long the text is: at most 65 bytes.
use Rattle.std.specs.Prelude.{◌≡◌, ◌⊎◌, ◌≢◌, cond, ℕ, zero, suc, Result, Ok, Err, ◌≤◌, ◌<◌, eqb}
use Rattle.std.proofs.Math.Path.{refl}
use Rattle.std.proofs.Common.{sym, ap, ◌∙◌, inl, inr, eq-eqb, ne_eqb}
use mathlib.Core.List.{List, [], ◌++◌}
use native.Mathlib.Omega.{arith}
use Rattle.std.proofs.Math.Decide.{ℕ_discrete}
use Rattle.std.proofs.Math.ListN.{length, length-append}
use Rattle.base.proofs.Truth.{lt_or_ge}
use Rattle.sheet_spec.specs.declared.Sheet.{Sheet}
use Rattle.sheet_spec.specs.declared.ReadSheet.{ReadSheet}
use Rattle.sheet_spec.specs.Reading.{read_sheet}
use Rattle.sheet_spec.specs.Refusals.{sheet_fault, Own}
use Rattle.sheet_spec.proofs.AnswerLaws.{read_kept}
use Rattle.sheet_spec.proofs.SoundLaws.{check_sound}
use Rattle.keypad_spec.specs.declared.Keypad.{Keypad}
use Rattle.keypad_spec.specs.declared.Keypad.TheVariants.{Good, Gap, Overlap}
use Rattle.keypad_spec.specs.Tables.{rule_count}
use Rattle.keypad_spec.specs.Calls.{keypad_fault, keypad_of}
use Rattle.keypad_spec.specs.Numbers.{keyed}
use Rattle.keypad_spec.proofs.RefusalLaws.{whole_rules, keypad_0, keypad_numbers}
use Rattle.keypad_spec.proofs.CallLaws.{check_good, check_gap, check_overlap, check_denied, find_some}
use Rattle.text_spec.specs.Lines.{ascii, decimal, value_from, number_line, sheet_line}
use Rattle.text_spec.specs.Input.{cut_input}
use Rattle.text_spec.proofs.DecimalLaws.{decimal_few}
use Rattle.text_spec.proofs.LengthLaws.{number_length, sheet_length}
use Rattle.text_sheet_spec.specs.Head.{head_line}
use Rattle.text_sheet_spec.proofs.ShowLaws.{head_accepted}
use Rattle.text_sheet_spec.proofs.Lengths.{head_length}
use Rattle.text_pair_spec.specs.Split.{first_sheet, second_sheet}
use Rattle.keypad_check_lines_spec.specs.declared.AskedCode.{AskedCode}
use Rattle.keypad_check_lines_spec.specs.declared.AskedCode.TheVariants.{Nothing, Code}
use Rattle.keypad_check_lines_spec.specs.Lines.{rules_line, overlap_line, told_lines}
use Rattle.keypad_check_lines_spec.specs.Program.{word_code, asked_of, table_lines, read_lines, input_lines, keypad_text}
use Rattle.keypad_check_lines_spec.specs.Says.{event_text}
use Rattle.keypad_check_lines_spec.proofs.WordLaws.{asked_none, asked_code, asked_no_code, asked_more, code_means}
use Rattle.keypad_check_lines_spec.proofs.ProgramLaws.{plain_lines, code_plain, event_lines}

-- ---- the lines

rules_length : (n : ℕ) → n < 100 → length (rules_line n) ≤ 15
unfolding rules_line
rules_length n h = omega (arith, length-append (ascii "table ") (decimal n ++ ascii " rules\n"), length-append (decimal n) (ascii " rules\n"), decimal_few 1 n h)

overlap_length : (c i k : ℕ) → c < 1000 → i < 100 → k < 100 → length (overlap_line c i k) ≤ 25
unfolding overlap_line
overlap_length c i k h u v =
    omega (
      arith,
      length-append (ascii "overlap ") (decimal c ++ (ascii " by " ++ (decimal i ++ (ascii " and " ++ (decimal k ++ ascii "\n"))))),
      length-append (decimal c) (ascii " by " ++ (decimal i ++ (ascii " and " ++ (decimal k ++ ascii "\n")))),
      length-append (ascii " by ") (decimal i ++ (ascii " and " ++ (decimal k ++ ascii "\n"))),
      length-append (decimal i) (ascii " and " ++ (decimal k ++ ascii "\n")),
      length-append (ascii " and ") (decimal k ++ ascii "\n"),
      length-append (decimal k) (ascii "\n"),
      decimal_few 2 c h,
      decimal_few 1 i u,
      decimal_few 1 k v,
    )

event_length : (c e : ℕ) → c < 1000 → e < 100 → length (event_text c e) ≤ 18
event_length c e h k =
    omega (
      arith,
      length-append (ascii "code ") (decimal c ++ (ascii " event " ++ (decimal e ++ ascii "\n"))),
      length-append (decimal c) (ascii " event " ++ (decimal e ++ ascii "\n")),
      length-append (ascii " event ") (decimal e ++ ascii "\n"),
      length-append (decimal e) (ascii "\n"),
      decimal_few 2 c h,
      decimal_few 1 e k,
    )

-- ---- the lines of a table

module _ (s : Sheet) (b : List ℕ) (acc : sheet_fault s ≡ 0) where
  few_rules : keypad_fault s b ≡ 0 → rule_count b ≤ 64
  few_rules z = ((whole_rules b).0 ((keypad_0 s b).0 z).0.0.1).1

  few_faults : keypad_fault s b ≤ 23
  few_faults = go (keypad_numbers s b)
    where
      go : (keypad_fault s b ≡ 0) ⊎ (Own (keypad_fault s b) ⊎ ((keypad_fault s b ≡ 21) ⊎ ((keypad_fault s b ≡ 22) ⊎ (keypad_fault s b ≡ 23)))) → keypad_fault s b ≤ 23
      go (inl e) = omega (arith, e)
      go (inr (inl (l, inl k))) = omega (arith, k)
      go (inr (inl (l, inr k))) = omega (arith, k)
      go (inr (inr (inl e))) = omega (arith, e)
      go (inr (inr (inr (inl e)))) = omega (arith, e)
      go (inr (inr (inr (inr e)))) = omega (arith, e)

  told_length : length (told_lines (rule_count b) (keypad_of s b) ++ []) ≤ 40
  unfolding told_lines
  told_length = go (keypad_of s b) refl
    where
      go : (a : Result Keypad ℕ) → keypad_of s b ≡ a → length (told_lines (rule_count b) a ++ []) ≤ 40
      go (Ok Good) e =
          let z = ((check_good s b).0 e).0 in
          omega (arith, length-append (rules_line (rule_count b) ++ ascii "good\n") [], length-append (rules_line (rule_count b)) (ascii "good\n"), rules_length (rule_count b) (omega (arith, few_rules z)))
      go (Ok (Gap c)) e =
          let z = (check_gap s b c).0 e in
          omega (
            arith,
            length-append (rules_line (rule_count b) ++ number_line (ascii "gap ") c) [],
            length-append (rules_line (rule_count b)) (number_line (ascii "gap ") c),
            rules_length (rule_count b) (omega (arith, few_rules z.0)),
            number_length (ascii "gap ") 2 c (omega (arith, z.1.is_code)),
          )
      go (Ok (Overlap c i k)) e =
          let z = (check_overlap s b c i k).0 e in
          let r = few_rules z.0 in
          omega (
            arith,
            length-append (rules_line (rule_count b) ++ overlap_line c i k) [],
            length-append (rules_line (rule_count b)) (overlap_line c i k),
            rules_length (rule_count b) (omega (arith, r)),
            overlap_length c i k (omega (arith, z.1.is_code)) (omega (arith, r, z.1.lower, z.1.is_rule)) (omega (arith, r, z.1.is_rule)),
          )
      go (Err m) e =
          let z = (check_denied s b m).0 e in
          omega (arith, length-append (number_line (ascii "table refused ") m) [], number_length (ascii "table refused ") 1 m (omega (arith, few_faults, z.1)))

  table_length : length (table_lines Nothing s b) ≤ 40
  table_length = rw (plain_lines s b) told_length

  code_length : (c : ℕ) → c < 256 → length (table_lines (Code c) s b) ≤ 40
  unfolding told_lines keyed
  code_length c h = go (keypad_of s b) refl
    where
      same : keypad_of s b ≢ Ok Good → length (table_lines (Code c) s b) ≤ 40
      same n = rw (code_plain s b c n) table_length

      go : (a : Result Keypad ℕ) → keypad_of s b ≡ a → length (table_lines (Code c) s b) ≤ 40
      go (Ok Good) q =
          let f = find_some s b c q h in
          let z = ((check_good s b).0 q).0 in
          rw (event_lines s b c f.0 q f.2)
          (omega (
            arith,
            length-append (rules_line (rule_count b) ++ ascii "good\n") (event_text c f.0),
            length-append (rules_line (rule_count b)) (ascii "good\n"),
            rules_length (rule_count b) (omega (arith, few_rules z)),
            event_length c f.0 (omega (arith, h)) (omega (arith, f.1, (check_sound s acc).ranges.e_high)),
          ))
      go (Ok (Gap d)) q = same (λ e. omega (arith, ap (λ (a : Result Keypad ℕ). (keyed a).kind) (sym q ∙ e)))
      go (Ok (Overlap d i k)) q = same (λ e. omega (arith, ap (λ (a : Result Keypad ℕ). (keyed a).kind) (sym q ∙ e)))
      go (Err m) q = same (λ e. omega (arith, ap (λ (a : Result Keypad ℕ). (keyed a).kind) (sym q ∙ e)))

-- ---- the text

-- lines after a sheet that is accepted, of at most 40 bytes
input_length : (asked : AskedCode) → ((s : Sheet) (b : List ℕ) → sheet_fault s ≡ 0 → length (table_lines asked s b) ≤ 40) → (input : List ℕ) → length (input_lines asked input) ≤ 65
unfolding input_lines read_lines
input_length asked h input = go (ℕ_discrete a.refusal 0)
  where
    a : ReadSheet
    a = read_sheet (first_sheet input)

    go : Dec (a.refusal ≡ 0) → length (head_line a ++ cond (eqb a.refusal 0) (table_lines asked a.sheet (second_sheet input)) []) ≤ 65
    go (yes z) =
        let k = read_kept (first_sheet input) z in
        let r = (check_sound a.sheet k).ranges in
        rw (eq-eqb a.refusal 0 z, head_accepted a z)
        (omega (
          arith,
          length-append (sheet_line (ascii "sheet ") a.sheet.n a.sheet.e) (table_lines asked a.sheet (second_sheet input)),
          sheet_length (ascii "sheet ") a.sheet.n a.sheet.e (omega (arith, r.n_high)) (omega (arith, r.e_high)),
          h a.sheet (second_sheet input) k,
        ))
    go (no n) = rw (ne_eqb a.refusal 0 n) (omega (arith, length-append (head_line a) [], head_length (first_sheet input)))

-- every text, whatever the words are, has at most 65 bytes
pub text_length : (count : ℕ) (word input : List ℕ) → length (keypad_text (asked_of count word) input) ≤ 65
unfolding keypad_text
text_length count word input = go (lt_or_ge 1 count) (lt_or_ge 255 (word_code word))
  where
    one : (count ≡ 0) ⊎ (count ≡ 1) → (255 < word_code word) ⊎ (word_code word ≤ 255) → length (keypad_text (asked_of count word) input) ≤ 65
    one (inl z) k = rw (z, asked_none word) (input_length Nothing table_length (cut_input input))
    one (inr z) (inl k) = rw (z, asked_no_code word (λ w. omega (arith, k, (code_means word).1 w))) (omega arith)
    one (inr z) (inr k) =
        let w = (code_means word).0 k in
        rw (z, asked_code word w.0 w.1) (input_length (Code (value_from 0 word)) (λ s b acc. code_length s b acc (value_from 0 word) (omega (arith, w.1))) (cut_input input))

    which : (n : ℕ) → n ≤ 1 → (n ≡ 0) ⊎ (n ≡ 1)
    which zero l = inl refl
    which (suc n) l = inr (omega arith)

    go : (1 < count) ⊎ (count ≤ 1) → (255 < word_code word) ⊎ (word_code word ≤ 255) → length (keypad_text (asked_of count word) input) ≤ 65
    go (inl l) k = rw (asked_more word count l) (omega arith)
    go (inr l) k = one (which count l) k
