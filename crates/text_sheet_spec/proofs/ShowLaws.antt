-- Nothing to believe: laws. What `show` prints in each case, when it prints catalogue codes, and that bytes behind
-- 4,096 play no part.
use Rattle.std.specs.Prelude.{◌≡◌, ◌⊎◌, ◌≢◌, ◌↔◌, true, false, List, [], ◌++◌, ℕ, zero, suc, ◌+◌, ◌≤◌, ◌<◌, length}
use Rattle.std.proofs.Common.{sym, ap, ◌∙◌, inl, inr, append-nil, arith, length-append, eq-eqb, ne_eqb}
use Rattle.base.proofs.Truth.{dec, not_i}
use Rattle.base.proofs.Finds.{finds_none}
use Rattle.base.specs.Joined.{joined}
use Rattle.sheet_spec.specs.declared.Row.{Row}
use Rattle.sheet_spec.specs.declared.Sheet.{Sheet}
use Rattle.sheet_spec.specs.declared.ReadSheet.{ReadSheet}
use Rattle.sheet_spec.specs.Kept.{code, successor, may_stop}
use Rattle.sheet_spec.specs.Rules.{first_codes_ok}
use Rattle.sheet_spec.proofs.RuleLaws.{first_finds}
use Rattle.sheet_spec.proofs.Chains.{settled}
use Rattle.sheet_spec.specs.Spelling.{version}
use Rattle.sheet_spec.specs.Reading.{read_sheet}
use Rattle.sheet_spec.specs.Encoding.{HasFirstCodes}
use Rattle.sheet_spec.proofs.AnswerLaws.{read_refusal, read_kept}
use Rattle.sheet_spec.proofs.EncodingLaws.{reads, version_1_codes}
use Rattle.sheet_spec.proofs.SoundLaws.{check_sound}
use Rattle.text_spec.specs.Lines.{ascii, numbers_text, sheet_line}
use Rattle.text_spec.proofs.InputLaws.{cut_short, cut_more}
use Rattle.text_sheet_spec.specs.Head.{refused_sheet_line, head_line}
use Rattle.text_sheet_spec.specs.Show.{code_line, codes_lines, event_line, successor_line, acceptance_line, rest_lines, node_lines, body_lines, show_lines, show_text}

-- the first line of an accepted sheet, and of a refused one
pub head_accepted : (a : ReadSheet) → a.refusal ≡ 0 → head_line a ≡ sheet_line (ascii "sheet ") a.sheet.n a.sheet.e
unfolding head_line
head_accepted a h = rw (eq-eqb a.refusal 0 h)

pub head_refused : (a : ReadSheet) → a.refusal ≢ 0 → head_line a ≡ refused_sheet_line a.refusal
unfolding head_line
head_refused a h = rw (ne_eqb a.refusal 0 h)

-- after the first line stand the lines of the codes and those of each node of an accepted sheet; of another sheet
-- nothing follows
pub show_accepted : (a : ReadSheet) → a.refusal ≡ 0
    → show_lines a ≡ head_line a ++ (codes_lines a.sheet.e a.sheet.codes ++ joined (node_lines a.sheet) a.sheet.n)
unfolding show_lines body_lines
show_accepted a h = rw (eq-eqb a.refusal 0 h)

pub show_refused : (a : ReadSheet) → a.refusal ≢ 0 → show_lines a ≡ head_line a
unfolding show_lines
show_refused a h = rw (ne_eqb a.refusal 0 h) (append-nil (head_line a))

-- codes of version 1 have no line
pub codes_first : (e : ℕ) (codes : List ℕ) → first_codes_ok e codes ≡ true → codes_lines e codes ≡ []
unfolding codes_lines
codes_first e codes t = rw t

-- other codes have a line for each event, in order
pub codes_other : (e : ℕ) (codes : List ℕ) → first_codes_ok e codes ≡ false → codes_lines e codes ≡ joined (code_line codes) e
unfolding codes_lines
codes_other e codes t = rw t

-- texts one after another, of which each has a byte, are some text
joined_some : (f : ℕ → List ℕ) (n i : ℕ) → i < n → ((j : ℕ) → 0 < length (f j)) → joined f n ≢ []
unfolding joined
joined_some f zero i l h p = omega arith
joined_some f (suc n) i l h p = omega (arith, ap length p, length-append (joined f n) (f n), h n)

line_some : (codes : List ℕ) (i : ℕ) → 0 < length (code_line codes i)
unfolding code_line
line_some codes i = omega arith

module _ (s : Sheet) where
  -- no code is printed exactly if every event i has the code i + 1
  pub codes_none : (codes_lines s.e s.codes ≡ []) ↔ HasFirstCodes s
  codes_none = (to, from)
    where
      to : codes_lines s.e s.codes ≡ [] → HasFirstCodes s
      to p i l = go (dec (first_codes_ok s.e s.codes))
        where
          go : (first_codes_ok s.e s.codes ≡ true) ⊎ (first_codes_ok s.e s.codes ≡ false) → code s i ≡ i + 1
          go (inl t) = settled (code s i) (i + 1) (λ n. (first_finds s.e s.codes).clear t (i, l, n))
          go (inr t) = absurd (joined_some (code_line s.codes) s.e i l (line_some s.codes) (sym (codes_other s.e s.codes t) ∙ p))

      from : HasFirstCodes s → codes_lines s.e s.codes ≡ []
      from f = codes_first s.e s.codes (finds_none (first_finds s.e s.codes) (λ w. w.2 (f w.0 w.1)))

  -- where some event i has another code than i + 1, every event has a line with its number and its code, in order
  pub codes_each : (i : ℕ) → i < s.e → code s i ≢ i + 1
      → codes_lines s.e s.codes ≡ joined (λ j. numbers_text (ascii "code ") j (ascii " ") (code s j) (ascii "\n")) s.e
  unfolding code_line
  codes_each i l n = codes_other s.e s.codes (not_i (λ t. (first_finds s.e s.codes).clear t (i, l, n)))

-- of a version 1 sheet no code is printed
pub version_1_shown : (b : List ℕ) → (read_sheet b).refusal ≡ 0 → version b ≡ 1
    → show_lines (read_sheet b) ≡ head_line (read_sheet b) ++ joined (node_lines (read_sheet b).sheet) (read_sheet b).sheet.n
version_1_shown b h v = rw (show_accepted (read_sheet b) h, (codes_none (read_sheet b).sheet).1 first)
  where
    first : HasFirstCodes (read_sheet b).sheet
    first = let z = rw (read_refusal b) at h in rw (reads b z) (version_1_codes b z v)

-- an input of at most 4,096 bytes, so every sheet, is read whole
pub show_whole : (input : List ℕ) → length input ≤ 4096 → show_text input ≡ show_lines (read_sheet input)
unfolding show_text
show_whole input h = ap (λ (b : List ℕ). show_lines (read_sheet b)) (cut_short input h)

-- bytes behind 4,096 count as absent
pub later_absent : (input more : List ℕ) → length input ≡ 4096 → show_text (input ++ more) ≡ show_text input
unfolding show_text
later_absent input more h = ap (λ (b : List ℕ). show_lines (read_sheet b)) (cut_more input more h)

-- a sheet that was read without refusal has at most 12 events and 32 nodes
module _ (b : List ℕ) (h : (read_sheet b).refusal ≡ 0) where
  pub read_events : (read_sheet b).sheet.e ≤ 12
  read_events = (check_sound (read_sheet b).sheet (read_kept b h)).ranges.e_high

  pub read_nodes : (read_sheet b).sheet.n ≤ 32
  read_nodes = (check_sound (read_sheet b).sheet (read_kept b h)).ranges.n_high

-- an event without a successor has no line, any other one has
pub successor_none : (r : Row) (i : ℕ) → successor r i ≡ 255 → successor_line r i ≡ []
unfolding successor_line
successor_none r i h = rw (eq-eqb (successor r i) 255 h)

pub successor_some : (r : Row) (i : ℕ) → successor r i ≢ 255 → successor_line r i ≡ event_line i (successor r i)
unfolding successor_line
successor_some r i h = rw (ne_eqb (successor r i) 255 h)

-- after the events of a node stands `may stop`, or its acceptances
pub rest_stop : (r : Row) → may_stop r ≡ true → rest_lines r ≡ ascii "may stop\n"
unfolding rest_lines
rest_stop r h = rw h

pub rest_accepts : (r : Row) → may_stop r ≡ false → rest_lines r ≡ joined (acceptance_line r) r.c
unfolding rest_lines
rest_accepts r h = rw h
