-- Nothing to believe: laws. What the text says, exactly when: nothing in wrong use; a refused sheet its own number,
-- whatever follows it; of an accepted sheet and any table, of whatever length, the table's refusal, or whether it is
-- good, in the meaning of each answer; and the event of a code exactly in a good table.
use Rattle.std.specs.Prelude.{◌≡◌, ◌⊎◌, ◌≢◌, ◌↔◌, Bool, true, false, cond, ℕ, Result, Ok, Err, ◌+◌, ◌-◌, ◌≤◌, ◌<◌, eqb, get_or, drop}
use Rattle.std.proofs.Math.Path.{refl}
use Rattle.std.proofs.Common.{sym, ap, ◌∙◌, inl, inr, arith, take-append-drop, take_all, ne_eqb}
use Rattle.std.proofs.Math.Logic.Iff as Iff
use mathlib.Core.List.{List, [], ◌++◌, append_assoc, append-nil}
use Rattle.std.proofs.Math.ListN.{length, take}
use Rattle.std.proofs.Math.Seq.{take-append-add, length-take-le}
use Rattle.base.proofs.Truth.{lt_or_ge}
use Rattle.sheet_spec.specs.declared.Sheet.{Sheet}
use Rattle.sheet_spec.specs.declared.ReadSheet.{ReadSheet}
use Rattle.sheet_spec.specs.Form.{Bytes}
use Rattle.sheet_spec.specs.Refusals.{sheet_fault, Own}
use Rattle.sheet_spec.specs.Reading.{read_sheet, accepted}
use Rattle.sheet_spec.proofs.AnswerLaws.{read_refusal}
use Rattle.sheet_spec.proofs.Octets.{below_take}
use Rattle.sheet_spec.proofs.EncodingLaws.{reads→, reads_as, accepted_exactly, bytes_length}
use Rattle.keypad_spec.specs.declared.Keypad.{Keypad}
use Rattle.keypad_spec.specs.declared.Keypad.TheVariants.{Good, Gap, Overlap}
use Rattle.keypad_spec.specs.declared.Found.TheVariants.{Event}
use Rattle.keypad_spec.specs.Tables.{rule_count, event_of}
use Rattle.keypad_spec.specs.Calls.{keypad_fault, keypad_of, found_of}
use Rattle.keypad_spec.specs.Numbers.{looked}
use Rattle.keypad_spec.specs.Meaning.{Matches, GoodTable, GapAt, OverlapAt, SizeFault, ValueFault, EventFault}
use Rattle.keypad_spec.proofs.RefusalLaws.{keypad_sheet, keypad_21, keypad_22, keypad_23, keypad_numbers}
use Rattle.keypad_spec.proofs.CallLaws.{check_good, check_gap, check_overlap, check_denied, find_event, find_some, find_gap, find_overlap, find_denied}
use Rattle.text_spec.specs.Lines.{ascii, sheet_line}
use Rattle.text_spec.specs.Input.{cut_input}
use Rattle.text_spec.proofs.TellLaws.{same_rest, after_number, sheet_tells}
use Rattle.text_sheet_spec.specs.Head.{head_line, refused_sheet_line}
use Rattle.text_sheet_spec.proofs.ShowLaws.{head_accepted, head_refused}
use Rattle.text_pair_spec.specs.Split.{first_end, first_sheet, second_sheet}
use Rattle.text_pair_spec.proofs.SplitLaws.{split_whole, split_accepted}
use Rattle.keypad_check_lines_spec.specs.declared.AskedCode.{AskedCode}
use Rattle.keypad_check_lines_spec.specs.declared.AskedCode.TheVariants.{Nothing, Code, Wrong}
use Rattle.keypad_check_lines_spec.specs.Lines.{told_lines, found_line}
use Rattle.keypad_check_lines_spec.specs.Program.{asked_line, table_lines, read_lines, input_lines, keypad_text}
use Rattle.keypad_check_lines_spec.specs.Says.{WithTable, after_sheet, good_text, gap_text, overlap_text, refused_text, event_text}
use Rattle.keypad_check_lines_spec.proofs.LineLaws.{good_parts, gap_parts, overlap_lines, denied_parts, told_tells}

-- ---- the lines of a table

module _ (s : Sheet) (b : List ℕ) where
  -- where the table is not good, the line of a code is not there
  no_event : (c : ℕ) → keypad_of s b ≢ Ok Good → asked_line (Code c) s b ≡ []
  unfolding asked_line found_line
  no_event c n = go (keypad_of s b) refl
    where
      go : (a : Result Keypad ℕ) → keypad_of s b ≡ a → found_line c (found_of s b c) ≡ []
      go (Ok Good) e = absurd (n e)
      go (Ok (Gap d)) e = rw ((find_gap s b c d).1 e)
      go (Ok (Overlap d i k)) e = rw ((find_overlap s b c d i k).1 e)
      go (Err m) e = rw ((find_denied s b c m).1 e)

  -- so a code changes nothing there
  pub code_plain : (c : ℕ) → keypad_of s b ≢ Ok Good → table_lines (Code c) s b ≡ table_lines Nothing s b
  unfolding table_lines asked_line
  code_plain c n = rw (no_event c n)

  -- without a code the lines are those of the answer
  pub plain_lines : table_lines Nothing s b ≡ told_lines (rule_count b) (keypad_of s b) ++ []
  unfolding table_lines asked_line
  plain_lines = refl

  -- with a code and a good table, the line of its event is the last
  pub event_lines : (c e : ℕ) → keypad_of s b ≡ Ok Good → found_of s b c ≡ Ok (Event e) → table_lines (Code c) s b ≡ told_lines (rule_count b) (Ok Good) ++ event_text c e
  unfolding table_lines asked_line found_line
  event_lines c e p q = rw (p, q)

  event_asked : (c e : ℕ) → found_of s b c ≡ Ok (Event e) → asked_line (Code c) s b ≡ event_text c e
  unfolding asked_line found_line
  event_asked c e q = rw q

  -- a table of more than 64 rules gets 21, whatever its bytes are
  long_table : sheet_fault s ≡ 0 → 195 ≤ length b → keypad_of s b ≡ Err 21
  long_table h l = (check_denied s b 21).1 ((λ e. omega (arith, e)), (keypad_21 s b).1 (h, inr (inl (omega (arith, l)))))

-- two tables of more than 64 rules have the same lines
long_same : (asked : AskedCode) (s : Sheet) (b d : List ℕ) → sheet_fault s ≡ 0 → 195 ≤ length b → 195 ≤ length d → table_lines asked s b ≡ table_lines asked s d
unfolding table_lines asked_line told_lines found_line
long_same Nothing s b d h l k = rw (long_table s b h l, long_table s d h k)
long_same (Code c) s b d h l k =
    rw (long_table s b h l, long_table s d h k, (find_denied s b c 21).1 (long_table s b h l), (find_denied s d c 21).1 (long_table s d h k))
long_same Wrong s b d h l k = rw (long_table s b h l, long_table s d h k)

-- ---- the sheet and the table of an input

-- the sheet of an input, as it is read
abbrev sheet_read : List ℕ → ReadSheet
sheet_read input = read_sheet (first_sheet (cut_input input))

-- 1 for wrong use, to tell the cases apart
abbrev wrongness : AskedCode → ℕ
wrongness Nothing = 0
wrongness (Code c) = 0
wrongness Wrong = 1

nothing_right : Nothing ≢ Wrong
nothing_right e = omega (arith, ap wrongness e)

code_right : (c : ℕ) → Code c ≢ Wrong
code_right c e = omega (arith, ap wrongness e)

-- wrong use prints nothing
pub wrong_silent : (input : List ℕ) → keypad_text Wrong input ≡ []
unfolding keypad_text
wrong_silent input = refl

module _ (input : List ℕ) where
  -- without wrong use, the lines of the input that counts
  text_lines : (asked : AskedCode) → asked ≢ Wrong → keypad_text asked input ≡ input_lines asked (cut_input input)
  unfolding keypad_text
  text_lines Nothing n = refl
  text_lines (Code c) n = refl
  text_lines Wrong n = absurd (n refl)

  -- a refused sheet: its refusal with its meaning alone, whatever follows it
  pub says_sheet : (asked : AskedCode) → asked ≢ Wrong → (read_sheet (first_sheet (cut_input input))).refusal ≢ 0
      → keypad_text asked input ≡ refused_sheet_line (read_sheet (first_sheet (cut_input input))).refusal
  unfolding input_lines read_lines
  says_sheet asked n k =
      text_lines asked n ∙ rw (ne_eqb (sheet_read input).refusal 0 k) (append-nil (head_line (sheet_read input)) ∙ head_refused (sheet_read input) k)

module _ (input : List ℕ) (s : Sheet) (b : List ℕ) (w : WithTable input s b) where
  -- what counts of the table
  counted : List ℕ
  counted = take (4096 - length w.sheet_bytes_lem) b

  few : length w.sheet_bytes_lem ≤ 1471
  few = bytes_length w.sheet_bytes_lem s w.of_sheet w.sheet_accepted.0 w.sheet_accepted.1

  cut_parts : cut_input input ≡ w.sheet_bytes_lem ++ counted
  unfolding cut_input counted
  cut_parts =
      let e : length w.sheet_bytes_lem + (4096 - length w.sheet_bytes_lem) ≡ 4096 = omega (arith, few) in
      rw w.bytes (ap (λ (k : ℕ). take k (w.sheet_bytes_lem ++ b)) (sym e) ∙ take-append-add w.sheet_bytes_lem b (4096 - length w.sheet_bytes_lem))

  spelled : read_sheet w.sheet_bytes_lem ≡ accepted s
  spelled = reads_as w.sheet_bytes_lem s w.of_sheet w.sheet_accepted.0 w.sheet_accepted.1

  -- the sheet of the input is this one, and the bytes after it are the table's that count
  parts : (first_sheet (cut_input input) ≡ w.sheet_bytes_lem) × (second_sheet (cut_input input) ≡ counted)
  parts = let x = split_accepted w.sheet_bytes_lem counted (reads→ w.sheet_bytes_lem s spelled).0 in (rw cut_parts x.0, rw cut_parts x.1)

  sheet_is : sheet_read input ≡ accepted s
  sheet_is = rw parts.0 spelled

  -- bytes that are cut off play no part: such a table is refused with 21, cut or not
  lines_uncut : (asked : AskedCode) → table_lines asked s counted ≡ table_lines asked s b
  unfolding counted
  lines_uncut asked = go (lt_or_ge (4096 - length w.sheet_bytes_lem) (length b))
    where
      go : (4096 - length w.sheet_bytes_lem < length b) ⊎ (length b ≤ 4096 - length w.sheet_bytes_lem) → table_lines asked s counted ≡ table_lines asked s b
      go (inl l) =
          let k = length-take-le (4096 - length w.sheet_bytes_lem) b (omega (arith, l)) in
          long_same asked s counted b w.sheet_accepted.1 (omega (arith, k, few)) (omega (arith, l, few))
      go (inr l) = rw (take_all (4096 - length w.sheet_bytes_lem) b l)

  -- an accepted sheet and a table, of whatever length: the line of the sheet, and those of the table
  pub text_says : (asked : AskedCode) → asked ≢ Wrong → keypad_text asked input ≡ after_sheet s (table_lines asked s b)
  unfolding input_lines read_lines
  text_says asked n =
      text_lines input asked n ∙ rw (sheet_is, parts.1, lines_uncut asked) (ap (λ (l : List ℕ). l ++ table_lines asked s b) (head_accepted (accepted s) refl))

  -- the lines after that of the sheet are the same where the texts are
  after : (asked : AskedCode) → asked ≢ Wrong → (l : List ℕ) → keypad_text asked input ≡ after_sheet s l → table_lines asked s b ≡ l
  after asked n l e = (sheet_tells (ascii "sheet ") s.n s.e s.n s.e (table_lines asked s b) l (sym (text_says asked n) ∙ e)).2

  -- the lines of a case are printed exactly if the check answers it
  plain_exactly : (a : Result Keypad ℕ) → (keypad_text Nothing input ≡ after_sheet s (told_lines (rule_count b) a ++ [])) ↔ (keypad_of s b ≡ a)
  plain_exactly a = (to, from)
    where
      to : keypad_text Nothing input ≡ after_sheet s (told_lines (rule_count b) a ++ []) → keypad_of s b ≡ a
      to e = (told_tells (rule_count b) (rule_count b) (keypad_of s b) a [] [] (sym (plain_lines s b) ∙ after Nothing nothing_right _ e)).0

      from : keypad_of s b ≡ a → keypad_text Nothing input ≡ after_sheet s (told_lines (rule_count b) a ++ [])
      from e = text_says Nothing nothing_right ∙ rw (plain_lines s b, e)

  -- `good` exactly if nothing is refused and just one rule matches each code
  pub says_good : (keypad_text Nothing input ≡ after_sheet s (good_text (rule_count b) [])) ↔ ((keypad_fault s b ≡ 0) × GoodTable b)
  says_good = rw (← good_parts (rule_count b) []) (Iff.trans (plain_exactly (Ok Good)) (check_good s b))

  -- `gap c` exactly if no rule matches the smallest bad code, c
  pub says_gap : (c : ℕ) → (keypad_text Nothing input ≡ after_sheet s (gap_text (rule_count b) c)) ↔ ((keypad_fault s b ≡ 0) × GapAt b c)
  says_gap c = rw (← gap_parts (rule_count b) [] c) (Iff.trans (plain_exactly (Ok (Gap c))) (check_gap s b c))

  -- `overlap c by i and k` exactly if i and k are the two lowest rules that match the smallest bad code, c
  pub says_overlap : (c i k : ℕ) → (keypad_text Nothing input ≡ after_sheet s (overlap_text (rule_count b) c i k)) ↔ ((keypad_fault s b ≡ 0) × OverlapAt b c i k)
  says_overlap c i k = rw (← overlap_lines (rule_count b) [] c i k) (Iff.trans (plain_exactly (Ok (Overlap c i k))) (check_overlap s b c i k))

  -- `table refused m` exactly with the number of the refusal
  pub says_refused : (m : ℕ) → (keypad_text Nothing input ≡ after_sheet s (refused_text m)) ↔ ((m ≢ 0) × (keypad_fault s b ≡ m))
  says_refused m = rw (← denied_parts (rule_count b) [] m) (Iff.trans (plain_exactly (Err m)) (check_denied s b m))

  -- 21, 22 and 23, each exactly for its fault, in this order
  pub says_21 : (keypad_text Nothing input ≡ after_sheet s (refused_text 21)) ↔ SizeFault b
  says_21 = (λ e. ((keypad_21 s b).0 ((says_refused 21).0 e).1).1, λ f. (says_refused 21).1 ((λ z. omega (arith, z)), (keypad_21 s b).1 (w.sheet_accepted.1, f)))

  pub says_22 : (keypad_text Nothing input ≡ after_sheet s (refused_text 22)) ↔ ((¬ SizeFault b) × ValueFault b)
  says_22 = (
    λ e. let x = (keypad_22 s b).0 ((says_refused 22).0 e).1 in (x.0.1, x.1),
    λ f. (says_refused 22).1 ((λ z. omega (arith, z)), (keypad_22 s b).1 ((w.sheet_accepted.1, f.0), f.1)),
  )

  pub says_23 : (keypad_text Nothing input ≡ after_sheet s (refused_text 23)) ↔ ((¬ SizeFault b) × (¬ ValueFault b) × EventFault s.e b)
  says_23 = (
    λ e. let x = (keypad_23 s b).0 ((says_refused 23).0 e).1 in (x.0.0.1, x.0.1, x.1),
    λ f. (says_refused 23).1 ((λ z. omega (arith, z)), (keypad_23 s b).1 (((w.sheet_accepted.1, f.0), f.1), f.2)),
  )

  -- with a code, a table that is not good gets the same text as without
  pub says_same : (c : ℕ) → keypad_of s b ≢ Ok Good → keypad_text (Code c) input ≡ keypad_text Nothing input
  says_same c n = text_says (Code c) (code_right c) ∙ rw (code_plain s b c n) (sym (text_says Nothing nothing_right))

  -- `code c event e` after `good` exactly if nothing is refused, the table is good and the rule that matches c has e
  pub says_event : (c : ℕ) → c < 256 → (e : ℕ)
      → (keypad_text (Code c) input ≡ after_sheet s (good_text (rule_count b) (event_text c e)))
      ↔ ((keypad_fault s b ≡ 0) × GoodTable b × ((i : ℕ) × (i < rule_count b) × Matches b c i × (event_of b i ≡ e)))
  unfolding table_lines looked
  says_event c h e = (to, from)
    where
      Given : Type 0
      Given = (keypad_fault s b ≡ 0) × GoodTable b × ((i : ℕ) × (i < rule_count b) × Matches b c i × (event_of b i ≡ e))

      to : keypad_text (Code c) input ≡ after_sheet s (good_text (rule_count b) (event_text c e)) → Given
      to t =
          let x = told_tells (rule_count b) (rule_count b) (keypad_of s b) (Ok Good) (asked_line (Code c) s b) (event_text c e) (after (Code c) (code_right c) _ t ∙ sym (good_parts (rule_count b) (event_text c e))) in
          let f = find_some s b c x.0 h in
          let q = after_number 32 (omega arith) c c _ _ (same_rest (ascii "code ") _ _ (sym (event_asked s b c f.0 f.2) ∙ x.1)) in
          let v = after_number 10 (omega arith) f.0 e [] [] (same_rest (ascii "event ") _ _ q.1) in
          (find_event s b c h e).0 (f.2 ∙ ap (λ (x : ℕ). Ok (Event x)) v.0)

      from : Given → keypad_text (Code c) input ≡ after_sheet s (good_text (rule_count b) (event_text c e))
      from g =
          text_says (Code c) (code_right c)
          ∙ rw (event_lines s b c e ((check_good s b).1 (g.0, g.1)) ((find_event s b c h e).1 g), good_parts (rule_count b) (event_text c e))

-- ---- every input

-- the sheet is accepted exactly if the input begins with the bytes of one; the rest is the table
pub sheet_exactly : (input : List ℕ) → Bytes input → ((read_sheet (first_sheet (cut_input input))).refusal ≡ 0) ↔ ((s : Sheet) × (b : List ℕ) × WithTable input s b)
unfolding cut_input first_sheet
sheet_exactly input y = (to, λ x. ap (λ (a : ReadSheet). a.refusal) (sheet_is input x.0 x.1 x.2))
  where
    cut : List ℕ
    cut = cut_input input

    to : (sheet_read input).refusal ≡ 0 → (s : Sheet) × (b : List ℕ) × WithTable input s b
    to h =
        let x = (accepted_exactly (first_sheet cut) (below_take 256 (first_end cut) cut (omega arith) (below_take 256 4096 input (omega arith) y))).0 (sym (read_refusal (first_sheet cut)) ∙ h) in (
          x.0,
          second_sheet cut ++ drop 4096 input,
          record {
            sheet_accepted = (x.1, x.2);
            sheet_bytes_lem = first_sheet cut;
            of_sheet = x.3;
            bytes = sym (take-append-drop 4096 input) ∙ ap (λ (l : List ℕ). l ++ drop 4096 input) (sym (split_whole cut)) ∙ append_assoc (first_sheet cut) (second_sheet cut) (drop 4096 input);
          },
        )

-- `table refused m` names no other number than 21, 22 and 23
pub says_only_21_to_23 : (input : List ℕ) (s : Sheet) (b : List ℕ) → WithTable input s b → (m : ℕ)
    → keypad_text Nothing input ≡ after_sheet s (refused_text m) → (m ≡ 21) ⊎ ((m ≡ 22) ⊎ (m ≡ 23))
says_only_21_to_23 input s b w m t =
    let x = (says_refused input s b w m).0 t in rw (← x.1) (go (keypad_numbers s b) (λ e. x.0 (sym x.1 ∙ e)))
  where
    go : (keypad_fault s b ≡ 0) ⊎ (Own (keypad_fault s b) ⊎ ((keypad_fault s b ≡ 21) ⊎ ((keypad_fault s b ≡ 22) ⊎ (keypad_fault s b ≡ 23))))
        → keypad_fault s b ≢ 0 → (keypad_fault s b ≡ 21) ⊎ ((keypad_fault s b ≡ 22) ⊎ (keypad_fault s b ≡ 23))
    go (inl e) n = absurd (n e)
    go (inr (inl o)) n = absurd (let z = (keypad_sheet s b (keypad_fault s b) o).0 refl in n (sym z ∙ w.sheet_accepted.1))
    go (inr (inr f)) n = f

-- every text without wrong use begins with an `s`
text_begins : (input : List ℕ) (asked : AskedCode) → asked ≢ Wrong → get_or (keypad_text asked input) 0 0 ≡ 115
unfolding input_lines read_lines head_line sheet_line refused_sheet_line
text_begins input asked n = rw (text_lines input asked n) (go (eqb (sheet_read input).refusal 0))
  where
    go : (x : Bool)
        → get_or (cond x (sheet_line (ascii "sheet ") (sheet_read input).sheet.n (sheet_read input).sheet.e) (refused_sheet_line (sheet_read input).refusal)
        ++ cond x (table_lines asked (sheet_read input).sheet (second_sheet (cut_input input))) []) 0 0 ≡ 115
    go true = refl
    go false = refl

-- nothing is printed exactly in wrong use
pub silent_exactly : (asked : AskedCode) (input : List ℕ) → (keypad_text asked input ≡ []) ↔ (asked ≡ Wrong)
silent_exactly asked input = (λ e. to asked e, λ e. rw e (wrong_silent input))
  where
    to : (asked : AskedCode) → keypad_text asked input ≡ [] → asked ≡ Wrong
    to Nothing e = absurd (let z = ap (λ (l : List ℕ). get_or l 0 0) e in omega (arith, z, text_begins input Nothing nothing_right))
    to (Code c) e = absurd (let z = ap (λ (l : List ℕ). get_or l 0 0) e in omega (arith, z, text_begins input (Code c) (code_right c)))
    to Wrong e = refl
