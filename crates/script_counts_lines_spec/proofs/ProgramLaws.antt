-- Nothing to believe: laws. What the text says, exactly when: a refused sheet its own number, whatever the word; then,
-- of two accepted sheets, 11 if E differs, 19 if E is one and a code differs, 20 if they agree and the word is no
-- number up to 16, and else the five lines of the counts, which sum to the scripts that there are. From a text the
-- answer can be read back.
use Rattle.std.specs.Prelude.{◌≡◌, ◌⊎◌, ◌≢◌, ◌↔◌, List, ◌++◌, ℕ, ◌+◌, ◌^◌, ◌<◌, ◌≤◌}
use Rattle.std.proofs.Common.{sym, ◌∙◌, inl, inr, arith}
use Rattle.std.proofs.Math.Path.{ap}
use Rattle.std.proofs.Math.Decide.{ℕ_discrete}
use borrow.Author.Tests.{ne_eqb}
use Rattle.base.proofs.Truth.{lt_or_ge}
use Rattle.sheet_spec.specs.declared.Sheet.{Sheet}
use Rattle.sheet_spec.specs.Refusals.{sheet_fault, Agree, CodesDiffer, PairWays}
use Rattle.sheet_spec.proofs.PairFaults.{pair_ways}
use Rattle.text_spec.specs.Lines.{ascii, value_from, number_line, sheet_line}
use Rattle.text_spec.proofs.TellLaws.{same_number}
use Rattle.text_pair_spec.specs.Program.{reference, device}
use Rattle.text_pair_spec.proofs.ProgramLaws.{reference_refused, device_refused}
use Rattle.text_pair_spec.specs.BackToBack.{BackToBack, after_sheets}
use Rattle.text_pair_spec.proofs.BackToBackLaws.{pair_text_lem, sheets_tell}
use Rattle.scripts_spec.specs.Scripts.{Walked, DeviceStops, ReferenceStops, count_of, scripts_fault, scripts_of}
use Rattle.scripts_spec.proofs.CountLaws.{counts_sum}
use Rattle.scripts_spec.proofs.CallLaws.{scripts_11, scripts_19, scripts_20, scripts_0, scripts_denied, scripts_given, scripts_refusal}
use Rattle.script_counts_lines_spec.specs.Lines.{scripts_lines}
use Rattle.script_counts_lines_spec.specs.Program.{length_of, counted_lines, scripts_text}
use Rattle.script_counts_lines_spec.specs.Says.{IsLength, refused_line, spelled, five_lines}
use Rattle.script_counts_lines_spec.proofs.LineLaws.{five_spelled, spelled_tells, spelled_refused}
use Rattle.script_counts_lines_spec.proofs.WordLaws.{length_is, length_short, short_or_not}

-- ---- the lines of an answer

module _ (P Q : Sheet) (L : ℕ) where
  -- a refused call prints the line of its refusal, every other the five lines
  denied_lines : scripts_fault P Q L ≢ 0 → scripts_lines P.e L (scripts_of P Q L) ≡ refused_line (scripts_fault P Q L)
  unfolding scripts_lines
  denied_lines n = rw (scripts_denied P Q L n, ne_eqb (scripts_fault P Q L) 0 n)

  pub given_lines : scripts_fault P Q L ≡ 0 → scripts_lines P.e L (scripts_of P Q L) ≡ five_lines P Q L
  unfolding scripts_lines
  given_lines z = rw (scripts_given P Q L z) (five_spelled L (P.e ^ L) _ _ _)

-- different answers have different lines; the five lines tell L too
pub lines_tell : (P Q : Sheet) (L : ℕ) (P' Q' : Sheet) (L' : ℕ) → scripts_lines P.e L (scripts_of P Q L) ≡ scripts_lines P'.e L' (scripts_of P' Q' L')
    → (scripts_of P Q L ≡ scripts_of P' Q' L') × ((scripts_of P Q L).refusal ≡ 0 → L ≡ L')
lines_tell P Q L P' Q' L' e = go (ℕ_discrete (scripts_fault P Q L) 0) (ℕ_discrete (scripts_fault P' Q' L') 0)
  where
    go : Dec (scripts_fault P Q L ≡ 0) → Dec (scripts_fault P' Q' L' ≡ 0) → (scripts_of P Q L ≡ scripts_of P' Q' L') × ((scripts_of P Q L).refusal ≡ 0 → L ≡ L')
    go (yes f) (yes g) =
        let w = spelled_tells L (P.e ^ L) _ _ _ _ L' (P'.e ^ L') _ _ _ _ (sym (given_lines P Q L f) ∙ e ∙ given_lines P' Q' L' g) in
        (rw (scripts_given P Q L f, scripts_given P' Q' L' g, w.2, w.3, w.4), λ z. w.0)
    go (yes f) (no k) = absurd (spelled_refused L _ _ _ _ _ (scripts_fault P' Q' L') (sym (given_lines P Q L f) ∙ e ∙ denied_lines P' Q' L' k))
    go (no n) (yes g) = absurd (spelled_refused L' _ _ _ _ _ (scripts_fault P Q L) (sym (given_lines P' Q' L' g) ∙ sym e ∙ denied_lines P Q L n))
    go (no n) (no k) =
        let w = same_number (ascii "scripts refused ") (scripts_fault P Q L) (scripts_fault P' Q' L') (sym (denied_lines P Q L n) ∙ e ∙ denied_lines P' Q' L' k) in
        (rw (scripts_denied P Q L n, scripts_denied P' Q' L' k, w), λ z. absurd (n (sym (scripts_refusal P Q L) ∙ z)))

-- ---- the lines of a word and two accepted sheets

module _ (word : List ℕ) (P Q : Sheet) (acc_p : sheet_fault P ≡ 0) (acc_q : sheet_fault Q ≡ 0) where
  -- a refusal of the call is printed with its number
  numbered : (m : ℕ) → m ≢ 0 → scripts_fault P Q (length_of word) ≡ m → counted_lines word P Q ≡ refused_line m
  unfolding counted_lines
  numbered m n z = denied_lines P Q (length_of word) (λ e. n (sym z ∙ e)) ∙ rw z

  -- where E differs, the refusal 11 is printed
  pub unequal_lines : P.e ≢ Q.e → counted_lines word P Q ≡ refused_line 11
  unequal_lines n = numbered 11 (λ e. omega arith) ((scripts_11 P Q (length_of word)).1 ((acc_p, acc_q), n))

  -- where E is one and some event has another code, the refusal 19 is printed
  pub unequal_codes_lines : (P.e ≡ Q.e) × CodesDiffer P Q → counted_lines word P Q ≡ refused_line 19
  unequal_codes_lines w = numbered 19 (λ e. omega arith) ((scripts_19 P Q (length_of word)).1 ((acc_p, acc_q), w))

  module _ (agree : Agree P Q) where
    -- where the sheets agree, a word that is no length of a script gets the refusal 20
    pub no_length_lines : ¬ IsLength word → counted_lines word P Q ≡ refused_line 20
    no_length_lines n = numbered 20 (λ e. omega arith) ((scripts_20 P Q (length_of word)).1 (((acc_p, acc_q), agree), long (lt_or_ge 16 (length_of word))))
      where
        long : (16 < length_of word) ⊎ (length_of word ≤ 16) → 16 < length_of word
        long (inl l) = l
        long (inr l) = absurd (n ((length_short word).0 l))

    -- and one that is, the five lines of the scripts of so many events
    pub length_lines : IsLength word → counted_lines word P Q ≡ five_lines P Q (value_from 0 word)
    unfolding counted_lines
    length_lines w =
        given_lines P Q (length_of word) ((scripts_0 P Q (length_of word)).1 (((acc_p, acc_q), agree), λ l. omega (arith, l, (length_short word).1 w)))
        ∙ ap (five_lines P Q) (length_is word w)

-- ---- the text

-- a refused sheet gets its own number, whatever the word; the reference comes first
module _ (word input : List ℕ) where
  pub says_reference : (reference input).refusal ≢ 0 → scripts_text word input ≡ number_line (ascii "reference refused ") (reference input).refusal
  unfolding scripts_text
  says_reference n = reference_refused input (counted_lines word) n

  pub says_device : (reference input).refusal ≡ 0 → (device input).refusal ≢ 0
      → scripts_text word input ≡ sheet_line (ascii "reference ") (reference input).sheet.n (reference input).sheet.e ++ number_line (ascii "device refused ") (device input).refusal
  unfolding scripts_text
  says_device h n = device_refused input (counted_lines word) h n

module _ (word input : List ℕ) (P Q : Sheet) (b : BackToBack input P Q) where
  acc_p : sheet_fault P ≡ 0
  acc_p = b.reference_accepted.1

  acc_q : sheet_fault Q ≡ 0
  acc_q = b.device_accepted.1

  -- two accepted sheets back to back get the line of each, and then what is counted of them
  pub text_says : scripts_text word input ≡ after_sheets P Q (counted_lines word P Q)
  unfolding scripts_text
  text_says = pair_text_lem input (counted_lines word) P Q b

  -- the lines after those of the sheets are the same where the texts are
  found : (l : List ℕ) → scripts_text word input ≡ after_sheets P Q l → counted_lines word P Q ≡ l
  found l e = (sheets_tell P Q P.n P.e Q.n Q.e (counted_lines word P Q) l (sym text_says ∙ e)).4

  -- the refusals of the call: 11, 19 and 20
  abbrev Refused : ℕ → Type 0
  Refused m = ((m ≡ 11) × (P.e ≢ Q.e)) ⊎ (((m ≡ 19) × ((P.e ≡ Q.e) × CodesDiffer P Q)) ⊎ ((m ≡ 20) × (Agree P Q × (¬ IsLength word))))

  -- two accepted sheets get no other refusal
  pair_refused : (m : ℕ) → scripts_text word input ≡ after_sheets P Q (refused_line m) → Refused m
  pair_refused m t = go (pair_ways P Q) (short_or_not word)
    where
      number : (k : ℕ) → counted_lines word P Q ≡ refused_line k → m ≡ k
      number k l = same_number (ascii "scripts refused ") m k (sym (found _ t) ∙ l)

      go : PairWays P Q → IsLength word ⊎ (¬ IsLength word) → Refused m
      go (inl a) (inl w) = absurd (spelled_refused _ _ _ _ _ _ m (sym (length_lines word P Q acc_p acc_q a w) ∙ found _ t))
      go (inl a) (inr n) = inr (inr (number 20 (no_length_lines word P Q acc_p acc_q a n), (a, n)))
      go (inr (inl d)) w = inl (number 11 (unequal_lines word P Q acc_p acc_q d), d)
      go (inr (inr d)) w = inr (inl (number 19 (unequal_codes_lines word P Q acc_p acc_q d), d))

  -- two accepted sheets get 11 exactly if E differs, whatever the word
  pub says_11 : (scripts_text word input ≡ after_sheets P Q (refused_line 11)) ↔ (P.e ≢ Q.e)
  says_11 = (λ t. to (pair_refused 11 t), λ n. text_says ∙ rw (unequal_lines word P Q acc_p acc_q n))
    where
      to : Refused 11 → P.e ≢ Q.e
      to (inl x) = x.1
      to (inr (inl x)) = absurd (omega (arith, x.0))
      to (inr (inr x)) = absurd (omega (arith, x.0))

  -- 19 exactly if they have one E and some event has another code, whatever the word
  pub says_19 : (scripts_text word input ≡ after_sheets P Q (refused_line 19)) ↔ ((P.e ≡ Q.e) × CodesDiffer P Q)
  says_19 = (λ t. to (pair_refused 19 t), λ w. text_says ∙ rw (unequal_codes_lines word P Q acc_p acc_q w))
    where
      to : Refused 19 → (P.e ≡ Q.e) × CodesDiffer P Q
      to (inl x) = absurd (omega (arith, x.0))
      to (inr (inl x)) = x.1
      to (inr (inr x)) = absurd (omega (arith, x.0))

  -- 20 exactly if they agree and the word is not one to five digits whose value is at most 16
  pub says_20 : (scripts_text word input ≡ after_sheets P Q (refused_line 20)) ↔ (Agree P Q × (¬ IsLength word))
  says_20 = (λ t. to (pair_refused 20 t), λ w. text_says ∙ rw (no_length_lines word P Q acc_p acc_q w.0 w.1))
    where
      to : Refused 20 → Agree P Q × (¬ IsLength word)
      to (inl x) = absurd (omega (arith, x.0))
      to (inr (inl x)) = absurd (omega (arith, x.0))
      to (inr (inr x)) = x.1

  -- the call's refusals are these three
  pub says_only_11_19_or_20 : (m : ℕ) → scripts_text word input ≡ after_sheets P Q (refused_line m) → (m ≡ 11) ⊎ ((m ≡ 19) ⊎ (m ≡ 20))
  says_only_11_19_or_20 m t = to (pair_refused m t)
    where
      to : Refused m → (m ≡ 11) ⊎ ((m ≡ 19) ⊎ (m ≡ 20))
      to (inl x) = inl x.0
      to (inr (inl x)) = inr (inl x.0)
      to (inr (inr x)) = inr (inr x.0)

  -- the counts are printed exactly if they agree and the word is one to five digits whose value is at most 16; they are
  -- those of scripts of so many events
  pub says_counts : (scripts_text word input ≡ after_sheets P Q (five_lines P Q (value_from 0 word))) ↔ (Agree P Q × IsLength word)
  says_counts = (λ t. go t (pair_ways P Q) (short_or_not word), λ w. text_says ∙ rw (length_lines word P Q acc_p acc_q w.0 w.1))
    where
      go : scripts_text word input ≡ after_sheets P Q (five_lines P Q (value_from 0 word)) → PairWays P Q → IsLength word ⊎ (¬ IsLength word) → Agree P Q × IsLength word
      go t (inl a) (inl w) = (a, w)
      go t (inl a) (inr n) = absurd (spelled_refused _ _ _ _ _ _ 20 (sym (found _ t) ∙ no_length_lines word P Q acc_p acc_q a n))
      go t (inr (inl d)) w = absurd (spelled_refused _ _ _ _ _ _ 11 (sym (found _ t) ∙ unequal_lines word P Q acc_p acc_q d))
      go t (inr (inr d)) w = absurd (spelled_refused _ _ _ _ _ _ 19 (sym (found _ t) ∙ unequal_codes_lines word P Q acc_p acc_q d))

  -- no other five lines are printed, be their numbers what they may: the first names the value of the word and all
  -- scripts of so many events, which the three counts sum to
  pub says_numbers : (L n w d r m : ℕ) → scripts_text word input ≡ after_sheets P Q (spelled L n w d r m)
      → (L ≡ value_from 0 word) × (n ≡ P.e ^ L) × (w ≡ count_of P Q L Walked) × (d ≡ count_of P Q L DeviceStops) × (r ≡ count_of P Q L ReferenceStops) × (m ≡ d + r) × (w + m ≡ n)
  says_numbers L n w d r m t = go (pair_ways P Q) (short_or_not word)
    where
      Told : Type 0
      Told = (L ≡ value_from 0 word) × (n ≡ P.e ^ L) × (w ≡ count_of P Q L Walked) × (d ≡ count_of P Q L DeviceStops) × (r ≡ count_of P Q L ReferenceStops) × (m ≡ d + r) × (w + m ≡ n)

      told : Agree P Q → IsLength word → Told
      told a x =
          let v : ℕ = value_from 0 word in
          let y = spelled_tells L n w d r m v (P.e ^ v) _ _ _ _ (sym (found _ t) ∙ length_lines word P Q acc_p acc_q a x) in
          (y.0, rw y.0 y.1, rw y.0 y.2, rw y.0 y.3, rw y.0 y.4, rw (y.3, y.4) y.5, rw (y.1, y.2, y.5) (counts_sum P Q v))

      go : PairWays P Q → IsLength word ⊎ (¬ IsLength word) → Told
      go (inl a) (inl x) = told a x
      go (inl a) (inr x) = absurd (spelled_refused _ _ _ _ _ _ 20 (sym (found _ t) ∙ no_length_lines word P Q acc_p acc_q a x))
      go (inr (inl x)) y = absurd (spelled_refused _ _ _ _ _ _ 11 (sym (found _ t) ∙ unequal_lines word P Q acc_p acc_q x))
      go (inr (inr x)) y = absurd (spelled_refused _ _ _ _ _ _ 19 (sym (found _ t) ∙ unequal_codes_lines word P Q acc_p acc_q x))

-- two texts of accepted sheets that are the same come from the same answer, and where it is no refusal from the same L
pub text_tells : (word input : List ℕ) (P Q : Sheet) → BackToBack input P Q → (word' input' : List ℕ) (P' Q' : Sheet) → BackToBack input' P' Q' → scripts_text word input ≡ scripts_text word' input'
    → (scripts_of P Q (length_of word) ≡ scripts_of P' Q' (length_of word')) × ((scripts_of P Q (length_of word)).refusal ≡ 0 → length_of word ≡ length_of word')
unfolding counted_lines
text_tells word input P Q b word' input' P' Q' b' t =
    lines_tell P Q (length_of word) P' Q' (length_of word')
    (sheets_tell P Q P'.n P'.e Q'.n Q'.e _ _ (sym (text_says word input P Q b) ∙ t ∙ text_says word' input' P' Q' b')).4
