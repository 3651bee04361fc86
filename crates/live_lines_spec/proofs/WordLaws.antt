-- Nothing to believe: laws. Which lines are reports: `blocked`, and `event ` with one to three digits, each with or
-- without one carriage return at its end. Every other line is an event that no sheet has, and is refused with 15. And
-- which words ask for a test: any others are refused with 14.
use Rattle.std.specs.Prelude.{◌≡◌, refl, ◌⊎◌, ◌≢◌, ◌↔◌, Bool, not, ◌&&◌, ◌||◌, cond, List, [], ◌∷◌, ◌++◌, ℕ, suc, ◌+◌, ◌-◌, ◌≤◌, ◌<◌, eqb, leb, length, get_or, take, drop}
use Rattle.std.proofs.Common.{sym, ap, subst, ◌∙◌, inl, inr, true≢false, append_assoc, length-append, length-drop, drop_of_length-le, take-append-drop, take_at, drop_at, get_or-append-add}
use Rattle.std.proofs.Math.Bool.{true, false}
use Rattle.std.proofs.lemmas.Bool.{false≢true}
use native.Mathlib.Omega.{arith}
use Rattle.std.proofs.Math.Seq.{take-length, split_at}
use Rattle.std.proofs.lemmas.List.{get_or_at}
use borrow.Author.Tests.{eqb-true, eqb-false, ne_eqb, leb-true, leb-false, le-leb}
use Rattle.base.proofs.Truth.{dec, and_l, and_r, not_i, lt_or_ge}
use Rattle.sheet_spec.specs.declared.Sheet.{Sheet}
use Rattle.sheet_spec.proofs.SoundLaws.{check_sound}
use Rattle.text_spec.specs.Lines.{ascii, decimal, value_from}
use Rattle.text_spec.proofs.DecimalLaws.{decimal_value, decimal_some, decimal_digits}
use Rattle.words_spec.specs.Numbers.{number_in, number_of, Digits}
use Rattle.words_spec.proofs.NumberLaws.{number_from, number_most, number_long, number_large, number_decimal, word_number}
use Rattle.tests_spec.specs.declared.Run.{Run}
use Rattle.tests_spec.specs.declared.Report.{Report}
use Rattle.tests_spec.specs.declared.Report.TheVariants.{Event, Blocked}
use Rattle.tests_spec.specs.declared.Answer.TheVariants.{Denied}
use Rattle.tests_spec.specs.Runs.{report_fault, step_of}
use Rattle.tests_spec.proofs.RunLaws.{report_15, report_0}
use Rattle.tests_spec.specs.Reports.{Beyond}
use Rattle.tests_spec.proofs.RunRecords.{step_refused}
use Rattle.words_spec.specs.Same.{same_text}
use Rattle.words_spec.proofs.SameLaws.{same→, same←}
use Rattle.live_lines_spec.specs.Words.{event_named, report_of, counted_bytes, heard, last_ok, words_ok, asked_of}

-- ---- reports

-- a line is these words, with or without one carriage return after them
abbrev pub Typed : List ℕ → List ℕ → Type 0
Typed words line = (line ≡ words) ⊎ (line ≡ words ++ (13 ∷ []))

-- a carriage return at the end of a line does not count
pub heard_return : (words : List ℕ) → heard (words ++ (13 ∷ [])) ≡ report_of words
unfolding heard counted_bytes
heard_return words =
    let n : length (words ++ (13 ∷ [])) - 1 ≡ length words = omega (arith, length-append words (13 ∷ [])) in
    rw (n, get_or_at words 13 [] 0 (length words) refl) (ap report_of (take_at words (13 ∷ []) (length words) refl))

-- a line that ends with another byte counts whole
pub heard_plain : (line : List ℕ) → get_or line (length line - 1) 0 ≢ 13 → heard line ≡ report_of line
unfolding heard counted_bytes
heard_plain line n = rw (ne_eqb (get_or line (length line - 1) 0) 13 n) (ap report_of (take-length line))

return_some : (line : List ℕ) → get_or line (length line - 1) 0 ≡ 13 → 0 < length line
return_some [] e = let z : ◌≡◌ {A = ℕ} 0 13 = e in absurd (omega (arith, z))
return_some (b ∷ line) e = omega arith

-- a line whose last byte is a carriage return is the bytes before it, and that
return_last : (line : List ℕ) → get_or line (length line - 1) 0 ≡ 13 → line ≡ take (length line - 1) line ++ (13 ∷ [])
return_last line e =
    split_at line (length line - 1) 0 (omega (arith, return_some line e))
    ∙ rw (e, drop_of_length-le line {i = suc (length line - 1)} (omega arith))

-- every line counts whole, or is some words and a carriage return
line_cases : (line : List ℕ) → (words : List ℕ) × Typed words line × (heard line ≡ report_of words)
line_cases line = go (dec (eqb (get_or line (length line - 1) 0) 13))
  where
    go : (eqb (get_or line (length line - 1) 0) 13 ≡ true) ⊎ (eqb (get_or line (length line - 1) 0) 13 ≡ false) → (words : List ℕ) × Typed words line × (heard line ≡ report_of words)
    go (inl t) =
        let q = return_last line (eqb-true (get_or line (length line - 1) 0) 13 t) in
        (take (length line - 1) line, inr q, ap heard q ∙ heard_return (take (length line - 1) line))
    go (inr t) = (line, inl refl, heard_plain line (eqb-false (get_or line (length line - 1) 0) 13 t))

-- a line that begins with `event ` is not `blocked`
event_not_blocked : (rest : List ℕ) → same_text (ascii "event " ++ rest) (ascii "blocked") ≡ false
event_not_blocked rest = not_i (λ t. go (ap (λ (t : List ℕ). get_or t 0 0) (same→ (ascii "event " ++ rest) (ascii "blocked") t)))
  where
    go : ◌≡◌ {A = ℕ} 101 98 → ⊥
    go e = omega arith

named_after : (rest : List ℕ) → event_named (ascii "event " ++ rest) ≡ number_in 3 254 rest
unfolding event_named
named_after rest = rw (take_at (ascii "event ") rest 6 refl, same← (ascii "event ") (ascii "event ") refl, drop_at (ascii "event ") rest 6 refl)

-- `event ` and some bytes is the event whose number these are
report_after : (rest : List ℕ) → report_of (ascii "event " ++ rest) ≡ Event (number_in 3 254 rest)
unfolding report_of
report_after rest = rw (event_not_blocked rest) (ap Event (named_after rest))

report_event : (n : ℕ) → n < 256 → report_of (ascii "event " ++ decimal n) ≡ Event n
report_event n h = report_after (decimal n) ∙ ap Event (go (dec (leb n 254)))
  where
    go : (leb n 254 ≡ true) ⊎ (leb n 254 ≡ false) → number_in 3 254 (decimal n) ≡ n
    go (inl t) = number_decimal 2 254 n (omega arith) (leb-true n 254 t)
    go (inr t) =
        let l = leb-false n 254 t in
        number_large 3 (decimal n) 254 (omega (arith, decimal_value n)) ∙ omega arith

-- `event ` and some bytes ends with the last of these bytes
event_last : (rest : List ℕ) → 0 < length rest → get_or (ascii "event " ++ rest) (length (ascii "event " ++ rest) - 1) 0 ≡ get_or rest (length rest - 1) 0
event_last rest h =
    let q : length (ascii "event " ++ rest) - 1 ≡ length (ascii "event ") + (length rest - 1) = omega (arith, length-append (ascii "event ") rest) in
    ap (λ (k : ℕ). get_or (ascii "event " ++ rest) k 0) q ∙ get_or-append-add (ascii "event ") rest (length rest - 1) 0

-- `event n` is event n; 255, the last number that a byte holds, is an event that no sheet has
pub heard_event : (n : ℕ) → n < 256 → (line : List ℕ) → Typed (ascii "event " ++ decimal n) line → heard line ≡ Event n
heard_event n h line (inl e) =
    ap heard e
    ∙ heard_plain (ascii "event " ++ decimal n) (λ z. last (sym (event_last (decimal n) (decimal_some n)) ∙ z))
    ∙ report_event n h
  where
    last : get_or (decimal n) (length (decimal n) - 1) 0 ≢ 13
    last z = omega (arith, z, (decimal_digits n (length (decimal n) - 1) (omega (arith, decimal_some n))).0)
heard_event n h line (inr e) = ap heard e ∙ heard_return (ascii "event " ++ decimal n) ∙ report_event n h

is_blocked : Report → Bool
is_blocked (Event i) = false
is_blocked Blocked = true

event_in : Report → ℕ
event_in (Event i) = i
event_in Blocked = 255

blocked_report : report_of (ascii "blocked") ≡ Blocked
unfolding report_of
blocked_report = rw (same← (ascii "blocked") (ascii "blocked") refl)

blocked_only : (words : List ℕ) → report_of words ≡ Blocked → words ≡ ascii "blocked"
unfolding report_of is_blocked
blocked_only words e = go (dec (same_text words (ascii "blocked")))
  where
    go : (same_text words (ascii "blocked") ≡ true) ⊎ (same_text words (ascii "blocked") ≡ false) → words ≡ ascii "blocked"
    go (inl t) = same→ words (ascii "blocked") t
    go (inr t) = absurd (false≢true (ap is_blocked (rw t at e)))

-- the line `blocked`, and no other, is the report Blocked
pub heard_blocked : (line : List ℕ) → (heard line ≡ Blocked) ↔ Typed (ascii "blocked") line
heard_blocked line = (λ e. forth (line_cases line) e, back)
  where
    forth : (words : List ℕ) × Typed words line × (heard line ≡ report_of words) → heard line ≡ Blocked → Typed (ascii "blocked") line
    forth (words, t, q) e = subst (λ (w : List ℕ). Typed w line) (blocked_only words (sym q ∙ e)) t

    back : Typed (ascii "blocked") line → heard line ≡ Blocked
    back (inl e) = ap heard e ∙ heard_plain (ascii "blocked") (λ z. omega (arith, z)) ∙ blocked_report
    back (inr e) = ap heard e ∙ heard_return (ascii "blocked") ∙ blocked_report

-- a text that names an event below 255 is `event ` and its digits
named_only : (words : List ℕ) → event_named words < 255 → (rest : List ℕ) × (words ≡ ascii "event " ++ rest) × Digits 3 rest × (value_from 0 rest ≡ event_named words)
unfolding event_named
named_only words = go (same_text (take 6 words) (ascii "event ")) refl
  where
    go : (b : Bool) → same_text (take 6 words) (ascii "event ") ≡ b → cond b (number_in 3 254 (drop 6 words)) 255 < 255
        → (rest : List ℕ) × (words ≡ ascii "event " ++ rest) × Digits 3 rest × (value_from 0 rest ≡ cond b (number_in 3 254 (drop 6 words)) 255)
    go true t l =
        let w = number_from 3 (drop 6 words) 254 (omega arith) in
        (drop 6 words, sym (take-append-drop 6 words) ∙ ap (λ (a : List ℕ). a ++ drop 6 words) (same→ (take 6 words) (ascii "event ") t), w.0, w.1)
    go false t l = absurd (omega arith)

named_most : (words : List ℕ) → event_named words ≤ 255
unfolding event_named
named_most words = go (same_text (take 6 words) (ascii "event "))
  where
    go : (b : Bool) → cond b (number_in 3 254 (drop 6 words)) 255 ≤ 255
    go true = omega (arith, number_most 3 (drop 6 words) 254)
    go false = omega arith

event_only : (words : List ℕ) (n : ℕ) → report_of words ≡ Event n → n ≢ 255 → (rest : List ℕ) × (words ≡ ascii "event " ++ rest) × Digits 3 rest × (value_from 0 rest ≡ n)
unfolding report_of is_blocked event_in
event_only words n e d = go (dec (same_text words (ascii "blocked")))
  where
    go : (same_text words (ascii "blocked") ≡ true) ⊎ (same_text words (ascii "blocked") ≡ false)
        → (rest : List ℕ) × (words ≡ ascii "event " ++ rest) × Digits 3 rest × (value_from 0 rest ≡ n)
    go (inl t) = absurd (true≢false (ap is_blocked (rw t at e)))
    go (inr t) =
        let q : event_named words ≡ n = ap event_in (rw t at e) in
        let w = named_only words (omega (arith, q, d, named_most words)) in
        (w.0, w.1, w.2, w.3 ∙ q)

-- another event than 255 is heard only in a line that is `event ` and one to three digits, and it is the number that
-- they write
pub heard_event_only : (line : List ℕ) (n : ℕ) → heard line ≡ Event n → n ≢ 255
    → (rest : List ℕ) × Typed (ascii "event " ++ rest) line × Digits 3 rest × (value_from 0 rest ≡ n)
heard_event_only line n e d = go (line_cases line)
  where
    go : (words : List ℕ) × Typed words line × (heard line ≡ report_of words) → (rest : List ℕ) × Typed (ascii "event " ++ rest) line × Digits 3 rest × (value_from 0 rest ≡ n)
    go (words, t, q) =
        let w = event_only words n (sym q ∙ e) d in
        (w.0, subst (λ (l : List ℕ). Typed l line) w.1 t, w.2, w.3)

-- a text that ends with a carriage return is no report
return_no_report : (words : List ℕ) → report_of (words ++ (13 ∷ [])) ≡ Event 255
unfolding report_of
return_no_report words = rw (not_blocked) (ap Event (unnamed (lt_or_ge (event_named (words ++ (13 ∷ []))) 255)))
  where
    long : length (words ++ (13 ∷ [])) ≡ length words + 1
    long = length-append words (13 ∷ [])

    last : get_or (words ++ (13 ∷ [])) (length (words ++ (13 ∷ [])) - 1) 0 ≡ 13
    last = get_or_at words 13 [] 0 (length (words ++ (13 ∷ [])) - 1) (omega (arith, long))

    not_blocked : same_text (words ++ (13 ∷ [])) (ascii "blocked") ≡ false
    not_blocked = not_i (λ t. clash_last (sym last ∙ ap (λ (l : List ℕ). get_or l (length l - 1) 0) (same→ (words ++ (13 ∷ [])) (ascii "blocked") t)))
      where
        clash_last : ◌≡◌ {A = ℕ} 13 100 → ⊥
        clash_last e = omega arith

    unnamed : (event_named (words ++ (13 ∷ [])) < 255) ⊎ (255 ≤ event_named (words ++ (13 ∷ []))) → event_named (words ++ (13 ∷ [])) ≡ 255
    unnamed (inl l) = absurd (digit (named_only (words ++ (13 ∷ [])) l))
      where
        digit : (rest : List ℕ) × (words ++ (13 ∷ []) ≡ ascii "event " ++ rest) × Digits 3 rest × (value_from 0 rest ≡ event_named (words ++ (13 ∷ []))) → ⊥
        digit (rest, q, d, v) =
            let z : 13 ≡ get_or rest (length rest - 1) 0 = sym last ∙ ap (λ (l : List ℕ). get_or l (length l - 1) 0) q ∙ event_last rest (omega (arith, d.some)) in
            omega (arith, z, (d.each (length rest - 1) (omega (arith, d.some))).0)
    unnamed (inr l) = omega (arith, named_most (words ++ (13 ∷ [])))

-- a line with two carriage returns at its end is no report
pub heard_two_returns : (words : List ℕ) → heard (words ++ (13 ∷ 13 ∷ [])) ≡ Event 255
heard_two_returns words = ap heard (sym (append_assoc words (13 ∷ []) (13 ∷ []))) ∙ heard_return (words ++ (13 ∷ [])) ∙ return_no_report words

long_no_report : (words : List ℕ) → 9 < length words → report_of words ≡ Event 255
unfolding report_of event_named
long_no_report words l = rw (not_blocked) (ap Event (go (same_text (take 6 words) (ascii "event "))))
  where
    not_blocked : same_text words (ascii "blocked") ≡ false
    not_blocked = not_i (λ t. sized (ap length (same→ words (ascii "blocked") t)))
      where
        sized : length words ≡ 7 → ⊥
        sized e = omega arith

    go : (b : Bool) → cond b (number_in 3 254 (drop 6 words)) 255 ≡ 255
    go true = number_long 3 (drop 6 words) 254 (omega (arith, length-drop 6 words))
    go false = refl

-- a line of more than ten bytes is no report
pub heard_long : (line : List ℕ) → 10 < length line → heard line ≡ Event 255
heard_long line l = go (line_cases line)
  where
    go : (words : List ℕ) × Typed words line × (heard line ≡ report_of words) → heard line ≡ Event 255
    go (words, inl e, q) = q ∙ long_no_report words (omega (arith, ap length e))
    go (words, inr e, q) = q ∙ long_no_report words (omega (arith, ap length e, length-append words (13 ∷ [])))

-- what is no report is refused with 15, on every accepted sheet and in every run that is not refused itself (by 16 or
-- 9, as "blocked" would be too)
pub unheard_refused : (s : Sheet) (r : Run) → report_fault s r Blocked ≡ 0 → (step_of s r (Event 255)).answer ≡ Denied 15
unfolding Beyond
unheard_refused s r z =
    let w = ((report_0 s r Blocked).0 z).0.0 in
    let b : s.e ≤ 255 = omega (arith, (check_sound s w.0.0).ranges.e_high) in
    (step_refused s r (Event 255) 15).1 ((report_15 s r (Event 255)).1 (w, b), λ e. omega arith)

-- ---- the words of a test

-- words that are k and h in base ten ask for that test: with no word after them, and trace-only with `traces`
pub asked_test : (k h : ℕ) → k ≤ 65535 → h ≤ 65535 → (word : List ℕ) → asked_of (decimal k) (decimal h) false word ≡ record { k = k; h = h; trace_only = false }
unfolding asked_of words_ok last_ok
asked_test k h p q word = rw (word_number k p, word_number h q, le-leb k 65535 p, le-leb h 65535 q)

pub asked_traces : (k h : ℕ) → k ≤ 65535 → h ≤ 65535 → asked_of (decimal k) (decimal h) true (ascii "traces") ≡ record { k = k; h = h; trace_only = true }
unfolding asked_of words_ok last_ok
asked_traces k h p q = rw (word_number k p, word_number h q, le-leb k 65535 p, le-leb h 65535 q, same← (ascii "traces") (ascii "traces") refl)

module _ (k h : List ℕ) (there : Bool) (word : List ℕ) where
  -- a test is asked for only by numbers, and by no other last word than `traces`
  pub words_only : words_ok k h there word ≡ true → (number_of k ≢ 65536) × (number_of h ≢ 65536) × (there ≡ true → word ≡ ascii "traces")
  unfolding words_ok last_ok
  words_only t =
      let r = and_r (leb (number_of k) 65535) (leb (number_of h) 65535 && last_ok there word) t in
      let a = leb-true (number_of k) 65535 (and_l (leb (number_of k) 65535) (leb (number_of h) 65535 && last_ok there word) t) in
      let b = leb-true (number_of h) 65535 (and_l (leb (number_of h) 65535) (last_ok there word) r) in
      (λ e. omega arith, λ e. omega arith, last there (and_r (leb (number_of h) 65535) (last_ok there word) r))
    where
      last : (b : Bool) → (not b || same_text word (ascii "traces")) ≡ true → b ≡ true → word ≡ ascii "traces"
      last true s e = same→ word (ascii "traces") s
      last false s e = absurd (false≢true e)

  -- bad words ask for test 65,535
  pub words_bad : words_ok k h there word ≡ false → (asked_of k h there word).k ≡ 65535
  unfolding asked_of
  words_bad t = rw t
