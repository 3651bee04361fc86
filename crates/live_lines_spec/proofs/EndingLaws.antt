-- Nothing to believe: laws. What the endings of a run are evidence of: each is printed exactly if the run ended so, and
-- no other line that is printed begins with `run `. And the first line tells the test, the choice number, whether the
-- run is trace-only, and the size of the sheet.
use Rattle.std.specs.Prelude.{◌≡◌, refl, ◌⊎◌, ◌↔◌, Bool, cond, ℕ, eqb}
use Rattle.std.proofs.Common.{sym, ◌∙◌, inl, inr, arith}
use Rattle.std.proofs.Math.Path.{ap}
use Rattle.std.proofs.Math.Bool.{true, false}
use Rattle.std.proofs.lemmas.Bool.{false≢true}
use mathlib.Core.List.{List, [], ◌++◌, append_assoc}
use Rattle.std.proofs.Math.ListN.{get_or, drop}
use Rattle.sheet_spec.specs.declared.Sheet.{Sheet}
use Rattle.text_spec.specs.Lines.{ascii, decimal, number_line, sheet_line}
use Rattle.text_spec.specs.Sets.{set_words}
use Rattle.text_spec.proofs.TellLaws.{same_rest, after_number, sheet_tells}
use Rattle.tests_spec.specs.declared.Run.{Run}
use Rattle.tests_spec.specs.declared.Report.{Report}
use Rattle.tests_spec.specs.declared.Report.TheVariants.{Event, Blocked}
use Rattle.tests_spec.specs.declared.Answer.{Answer}
use Rattle.tests_spec.specs.declared.Answer.TheVariants.{Going, Stray, Refused, Passed, Inconclusive, Denied}
use Rattle.tests_spec.specs.Numbers.{said}
use Rattle.tests_spec.specs.Runs.{offer_of, report_fault, step_of}
use Rattle.tests_spec.specs.Reports.{Straying, Refusing, Passing, Halting}
use Rattle.tests_spec.proofs.RunLaws.{stray_step, blocked_refused, answer_of_lem, kind_same}
use Rattle.tests_spec.proofs.Endings.{strayed_means, refused_means, passed_means, inconclusive_means}
use Rattle.live_lines_spec.specs.declared.Asked.{Asked}
use Rattle.live_lines_spec.specs.Answers.{kind_words, head_line, offer_line, refused_set_line, report_refused_line, answer_lines, goes_on, test_lines, opening_lines, ended_line}

-- a text begins with these words
abbrev pub StartsWith : List ℕ → List ℕ → Type 0
StartsWith words text = (rest : List ℕ) × (text ≡ words ++ rest)

-- an answer that ends a run: a stray, "refused", passed, or inconclusive
abbrev pub Ends : Answer → Type 0
Ends a = ((i : ℕ) × (a ≡ Stray i)) ⊎ (((X : ℕ) × (a ≡ Refused X)) ⊎ ((a ≡ Passed) ⊎ (a ≡ Inconclusive)))

-- ---- the text of an answer, whatever was offered before it

-- the text of an answer is `run passed` exactly if the answer is that the run has passed
pub passed_exactly : (x : ℕ) (a : Answer) → (answer_lines x a ≡ ascii "run passed\n") ↔ (a ≡ Passed)
unfolding answer_lines offer_line number_line refused_set_line report_refused_line said
passed_exactly x (Going y) = (λ e. absurd (let z = ap (λ (l : List ℕ). get_or l 0 0) e in omega (arith, z)), λ e. absurd (omega (arith, kind_same e)))
passed_exactly x (Stray i) = (λ e. absurd (let z = ap (λ (l : List ℕ). get_or l 4 0) e in omega (arith, z)), λ e. absurd (omega (arith, kind_same e)))
passed_exactly x (Refused y) = (λ e. absurd (let z = ap (λ (l : List ℕ). get_or l 4 0) e in omega (arith, z)), λ e. absurd (omega (arith, kind_same e)))
passed_exactly x Passed = (λ e. refl, λ e. refl)
passed_exactly x Inconclusive = (λ e. absurd (let z = ap (λ (l : List ℕ). get_or l 4 0) e in omega (arith, z)), λ e. absurd (omega (arith, kind_same e)))
passed_exactly x (Denied m) = (λ e. absurd (let z = ap (λ (l : List ℕ). get_or l 1 0) e in omega (arith, z)), λ e. absurd (omega (arith, kind_same e)))

-- the text of an answer is `run inconclusive` exactly if the answer is that the run is inconclusive
pub inconclusive_exactly : (x : ℕ) (a : Answer) → (answer_lines x a ≡ ascii "run inconclusive\n") ↔ (a ≡ Inconclusive)
unfolding answer_lines offer_line number_line refused_set_line report_refused_line said
inconclusive_exactly x (Going y) = (λ e. absurd (let z = ap (λ (l : List ℕ). get_or l 0 0) e in omega (arith, z)), λ e. absurd (omega (arith, kind_same e)))
inconclusive_exactly x (Stray i) = (λ e. absurd (let z = ap (λ (l : List ℕ). get_or l 4 0) e in omega (arith, z)), λ e. absurd (omega (arith, kind_same e)))
inconclusive_exactly x (Refused y) = (λ e. absurd (let z = ap (λ (l : List ℕ). get_or l 4 0) e in omega (arith, z)), λ e. absurd (omega (arith, kind_same e)))
inconclusive_exactly x Passed = (λ e. absurd (let z = ap (λ (l : List ℕ). get_or l 4 0) e in omega (arith, z)), λ e. absurd (omega (arith, kind_same e)))
inconclusive_exactly x Inconclusive = (λ e. refl, λ e. refl)
inconclusive_exactly x (Denied m) = (λ e. absurd (let z = ap (λ (l : List ℕ). get_or l 1 0) e in omega (arith, z)), λ e. absurd (omega (arith, kind_same e)))

-- the text of an answer begins with `run failed stray ` exactly if the answer is a stray
pub stray_exactly : (x : ℕ) (a : Answer) → StartsWith (ascii "run failed stray ") (answer_lines x a) ↔ ((i : ℕ) × (a ≡ Stray i))
unfolding answer_lines offer_line number_line refused_set_line report_refused_line said
stray_exactly x (Going y) = (λ w. absurd (let z = ap (λ (l : List ℕ). get_or l 0 0) w.1 in omega (arith, z)), λ w. absurd (omega (arith, kind_same w.1)))
stray_exactly x (Stray i) = (λ w. (i, refl), λ w. (decimal i ++ ascii "\n", refl))
stray_exactly x (Refused y) = (λ w. absurd (let z = ap (λ (l : List ℕ). get_or l 11 0) w.1 in omega (arith, z)), λ w. absurd (omega (arith, kind_same w.1)))
stray_exactly x Passed = (λ w. absurd (let z = ap (λ (l : List ℕ). get_or l 4 0) w.1 in omega (arith, z)), λ w. absurd (omega (arith, kind_same w.1)))
stray_exactly x Inconclusive = (λ w. absurd (let z = ap (λ (l : List ℕ). get_or l 4 0) w.1 in omega (arith, z)), λ w. absurd (omega (arith, kind_same w.1)))
stray_exactly x (Denied m) = (λ w. absurd (let z = ap (λ (l : List ℕ). get_or l 1 0) w.1 in omega (arith, z)), λ w. absurd (omega (arith, kind_same w.1)))

-- the text of an answer begins with `run failed refused ` exactly if the answer is "refused"
pub refused_exactly : (x : ℕ) (a : Answer) → StartsWith (ascii "run failed refused ") (answer_lines x a) ↔ ((X : ℕ) × (a ≡ Refused X))
unfolding answer_lines offer_line number_line refused_set_line report_refused_line said
refused_exactly x (Going y) = (λ w. absurd (let z = ap (λ (l : List ℕ). get_or l 0 0) w.1 in omega (arith, z)), λ w. absurd (omega (arith, kind_same w.1)))
refused_exactly x (Stray i) = (λ w. absurd (let z = ap (λ (l : List ℕ). get_or l 11 0) w.1 in omega (arith, z)), λ w. absurd (omega (arith, kind_same w.1)))
refused_exactly x (Refused y) = (λ w. (y, refl), λ w. (set_words y ++ ascii "\n", refl))
refused_exactly x Passed = (λ w. absurd (let z = ap (λ (l : List ℕ). get_or l 4 0) w.1 in omega (arith, z)), λ w. absurd (omega (arith, kind_same w.1)))
refused_exactly x Inconclusive = (λ w. absurd (let z = ap (λ (l : List ℕ). get_or l 4 0) w.1 in omega (arith, z)), λ w. absurd (omega (arith, kind_same w.1)))
refused_exactly x (Denied m) = (λ w. absurd (let z = ap (λ (l : List ℕ). get_or l 1 0) w.1 in omega (arith, z)), λ w. absurd (omega (arith, kind_same w.1)))

going_on : (y : ℕ) → ¬ Ends (Going y)
unfolding said
going_on y (inl w) = omega (arith, kind_same w.1)
going_on y (inr (inl w)) = omega (arith, kind_same w.1)
going_on y (inr (inr (inl e))) = omega (arith, kind_same e)
going_on y (inr (inr (inr e))) = omega (arith, kind_same e)

denied_on : (m : ℕ) → ¬ Ends (Denied m)
unfolding said
denied_on m (inl w) = omega (arith, kind_same w.1)
denied_on m (inr (inl w)) = omega (arith, kind_same w.1)
denied_on m (inr (inr (inl e))) = omega (arith, kind_same e)
denied_on m (inr (inr (inr e))) = omega (arith, kind_same e)

-- the text of an answer begins with `run ` exactly if the answer ends the run
pub ending_exactly : (x : ℕ) (a : Answer) → StartsWith (ascii "run ") (answer_lines x a) ↔ Ends a
unfolding answer_lines offer_line number_line refused_set_line report_refused_line
ending_exactly x (Going y) = (λ w. absurd (let z = ap (λ (l : List ℕ). get_or l 0 0) w.1 in omega (arith, z)), λ e. absurd (going_on y e))
ending_exactly x (Stray i) = (λ w. inl (i, refl), λ e. (ascii "failed stray " ++ (decimal i ++ ascii "\n"), refl))
ending_exactly x (Refused y) = (λ w. inr (inl (y, refl)), λ e. (ascii "failed refused " ++ (set_words y ++ ascii "\n"), refl))
ending_exactly x Passed = (λ w. inr (inr (inl refl)), λ e. (ascii "passed\n", refl))
ending_exactly x Inconclusive = (λ w. inr (inr (inr refl)), λ e. (ascii "inconclusive\n", refl))
ending_exactly x (Denied m) = (λ w. absurd (let z = ap (λ (l : List ℕ). get_or l 1 0) w.1 in omega (arith, z)), λ e. absurd (denied_on m e))

-- the run goes on after exactly the answers that do not end it
pub goes_on_means : (a : Answer) → (goes_on a ≡ true) ↔ (¬ Ends a)
unfolding goes_on
goes_on_means (Going y) = (λ t. going_on y, λ n. refl)
goes_on_means (Stray i) = (λ t. absurd (false≢true t), λ n. absurd (n (inl (i, refl))))
goes_on_means (Refused X) = (λ t. absurd (false≢true t), λ n. absurd (n (inr (inl (X, refl)))))
goes_on_means Passed = (λ t. absurd (false≢true t), λ n. absurd (n (inr (inr (inl refl)))))
goes_on_means Inconclusive = (λ t. absurd (false≢true t), λ n. absurd (n (inr (inr (inr refl)))))
goes_on_means (Denied m) = (λ t. denied_on m, λ n. refl)

-- ---- every sheet, record and report

module _ (s : Sheet) (r : Run) (x : Report) (y : ℕ) where
  -- `run passed` is printed exactly if the report is not refused and the run has passed with it
  pub says_passed : (answer_lines y (step_of s r x).answer ≡ ascii "run passed\n") ↔ ((report_fault s r x ≡ 0) × Passing s r x)
  says_passed =
      let p = passed_exactly y (step_of s r x).answer in
      (λ e. (passed_means s r x).0 (p.0 e), λ w. p.1 ((passed_means s r x).1 w))

  -- `run inconclusive` is printed exactly if the report is not refused and is "blocked", in a trace-only run, below
  -- depth k
  pub says_inconclusive : (answer_lines y (step_of s r x).answer ≡ ascii "run inconclusive\n") ↔ ((report_fault s r x ≡ 0) × Halting r x)
  says_inconclusive =
      let p = inconclusive_exactly y (step_of s r x).answer in
      (λ e. (inconclusive_means s r x).0 (p.0 e), λ w. p.1 ((inconclusive_means s r x).1 w))

  -- `run failed stray ` is printed exactly if the report is not refused and is an event outside the initials
  pub says_stray : StartsWith (ascii "run failed stray ") (answer_lines y (step_of s r x).answer) ↔ ((report_fault s r x ≡ 0) × Straying s r x)
  says_stray =
      let p = stray_exactly y (step_of s r x).answer in
      (λ e. (strayed_means s r x).0 (p.0 e), λ w. p.1 ((strayed_means s r x).1 w))

  -- `run failed refused ` is printed exactly if the report is not refused and is "blocked", in a run that is not
  -- trace-only, at a node that may not stop
  pub says_refused : StartsWith (ascii "run failed refused ") (answer_lines y (step_of s r x).answer) ↔ ((report_fault s r x ≡ 0) × Refusing s r x)
  says_refused =
      let p = refused_exactly y (step_of s r x).answer in
      (λ e. (refused_means s r x).0 (p.0 e), λ w. p.1 ((refused_means s r x).1 w))

  -- what is printed to a report begins with `run ` exactly if the report is not refused and ends the run in one of
  -- these four ways
  pub says_ending : StartsWith (ascii "run ") (answer_lines y (step_of s r x).answer) ↔ ((report_fault s r x ≡ 0) × (Straying s r x ⊎ (Refusing s r x ⊎ (Passing s r x ⊎ Halting r x))))
  says_ending = (λ e. forth ((ending_exactly y (step_of s r x).answer).0 e), λ w. (ending_exactly y (step_of s r x).answer).1 (back w.0 w.1))
    where
      forth : Ends (step_of s r x).answer → (report_fault s r x ≡ 0) × (Straying s r x ⊎ (Refusing s r x ⊎ (Passing s r x ⊎ Halting r x)))
      forth (inl e) = let w = (strayed_means s r x).0 e in (w.0, inl w.1)
      forth (inr (inl e)) = let w = (refused_means s r x).0 e in (w.0, inr (inl w.1))
      forth (inr (inr (inl e))) = let w = (passed_means s r x).0 e in (w.0, inr (inr (inl w.1)))
      forth (inr (inr (inr e))) = let w = (inconclusive_means s r x).0 e in (w.0, inr (inr (inr w.1)))

      back : report_fault s r x ≡ 0 → Straying s r x ⊎ (Refusing s r x ⊎ (Passing s r x ⊎ Halting r x)) → Ends (step_of s r x).answer
      back z (inl w) = inl ((strayed_means s r x).1 (z, w))
      back z (inr (inl w)) = inr (inl ((refused_means s r x).1 (z, w)))
      back z (inr (inr (inl w))) = inr (inr (inl ((passed_means s r x).1 (z, w))))
      back z (inr (inr (inr w))) = inr (inr (inr ((inconclusive_means s r x).1 (z, w))))

-- the event of a stray is the one that was reported
pub stray_line : (y : ℕ) (s : Sheet) (r : Run) (i : ℕ) → report_fault s r (Event i) ≡ 0 → Straying s r (Event i)
    → answer_lines y (step_of s r (Event i)).answer ≡ number_line (ascii "run failed stray ") i
unfolding answer_lines Straying
stray_line y s r i z w = rw (answer_of_lem (stray_step s r i z w))

-- the set of a refusal is what the run offered
pub refused_line_lem : (y : ℕ) (s : Sheet) (r : Run) → report_fault s r Blocked ≡ 0 → Refusing s r Blocked
    → answer_lines y (step_of s r Blocked).answer ≡ ascii "run failed refused " ++ (set_words (offer_of s r) ++ ascii "\n")
unfolding answer_lines refused_set_line Refusing
refused_line_lem y s r z w = rw (answer_of_lem (blocked_refused s r z w.0 w.1))

-- ---- all other lines

-- an offer does not begin with `run `
pub offer_other : (x : ℕ) → ¬ StartsWith (ascii "run ") (offer_line x)
unfolding offer_line
offer_other x w = let z = ap (λ (l : List ℕ). get_or l 0 0) w.1 in omega (arith, z)

-- the line of a refused report does not begin with `run `
pub report_other : (m : ℕ) → ¬ StartsWith (ascii "run ") (report_refused_line m)
unfolding report_refused_line
report_other m w = let z = ap (λ (l : List ℕ). get_or l 1 0) w.1 in omega (arith, z)

-- the first line of a run does not begin with `run `
pub head_other : (trace_only : Bool) (k h n e : ℕ) → ¬ StartsWith (ascii "run ") (head_line trace_only k h n e)
unfolding head_line kind_words
head_other true k h n e w = let z = ap (λ (l : List ℕ). get_or l 0 0) w.1 in omega (arith, z)
head_other false k h n e w = let z = ap (λ (l : List ℕ). get_or l 0 0) w.1 in omega (arith, z)

test_other : (asked : Asked) (n e : ℕ) (a : Answer) → ¬ StartsWith (ascii "run ") (test_lines asked n e a)
unfolding test_lines head_line kind_words number_line
test_other asked n e (Going x) w = go asked.trace_only (ap (λ (l : List ℕ). get_or l 0 0) w.1)
  where
    go : (b : Bool) → get_or (head_line b asked.k asked.h n e ++ offer_line x) 0 0 ≡ 114 → ⊥
    go true z = omega (arith, z)
    go false z = omega (arith, z)
test_other asked n e (Stray i) w = let z = ap (λ (l : List ℕ). get_or l 0 0) w.1 in omega (arith, z)
test_other asked n e (Refused x) w = let z = ap (λ (l : List ℕ). get_or l 0 0) w.1 in omega (arith, z)
test_other asked n e Passed w = let z = ap (λ (l : List ℕ). get_or l 0 0) w.1 in omega (arith, z)
test_other asked n e Inconclusive w = let z = ap (λ (l : List ℕ). get_or l 0 0) w.1 in omega (arith, z)
test_other asked n e (Denied m) w = let z = ap (λ (l : List ℕ). get_or l 0 0) w.1 in omega (arith, z)

-- what an opening prints does not begin with `run `
pub opening_other : (asked : Asked) (n e fault : ℕ) (a : Answer) → ¬ StartsWith (ascii "run ") (opening_lines asked n e fault a)
unfolding opening_lines number_line
opening_other asked n e fault a = go (eqb fault 0)
  where
    go : (b : Bool) → ¬ StartsWith (ascii "run ") (cond b (test_lines asked n e a) (number_line (ascii "reference refused ") fault))
    go true w = test_other asked n e a w
    go false w = let z = ap (λ (l : List ℕ). get_or l 1 0) w.1 in omega (arith, z)

-- the line where a run has not ended does not begin with `run `
pub ended_other : (many : Bool) → ¬ StartsWith (ascii "run ") (ended_line many)
unfolding ended_line
ended_other true w = let z = ap (λ (l : List ℕ). get_or l 0 0) w.1 in omega (arith, z)
ended_other false w = let z = ap (λ (l : List ℕ). get_or l 0 0) w.1 in omega (arith, z)

-- ---- the first line

-- the first line begins with `trace-only ` exactly in a trace-only run
pub head_kind : (trace_only : Bool) (k h n e : ℕ) → StartsWith (ascii "trace-only ") (head_line trace_only k h n e) ↔ (trace_only ≡ true)
unfolding head_line kind_words
head_kind true k h n e = (λ w. refl, λ t. (_, refl))
head_kind false k h n e = (λ w. absurd (let z = ap (λ (l : List ℕ). get_or l 1 0) w.1 in omega (arith, z)), λ t. absurd (false≢true t))

-- what follows the kind of a run in its first line
abbrev after_kind : ℕ → ℕ → ℕ → ℕ → List ℕ
after_kind k h n e = ascii "test " ++ (decimal k ++ (ascii " choice " ++ (decimal h ++ (ascii " " ++ sheet_line (ascii "reference ") n e))))

head_parts : (trace_only : Bool) (k h n e : ℕ) → head_line trace_only k h n e ≡ kind_words trace_only ++ after_kind k h n e
unfolding head_line
head_parts trace_only k h n e =
    let rest : List ℕ = sheet_line (ascii "reference ") n e in
    ap (λ (l : List ℕ). kind_words trace_only ++ (ascii "test " ++ l))
    (append_assoc (decimal k) (ascii " choice " ++ (decimal h ++ ascii " ")) rest
    ∙ ap (λ (l : List ℕ). decimal k ++ (ascii " choice " ++ l)) (append_assoc (decimal h) (ascii " ") rest))

numbers_told : (k h n e k' h' n' e' : ℕ) → after_kind k h n e ≡ after_kind k' h' n' e' → (k ≡ k') × (h ≡ h') × (n ≡ n') × (e ≡ e')
numbers_told k h n e k' h' n' e' q =
    let a = after_number 32 (omega arith) k k' _ _ (same_rest (ascii "test ") _ _ q) in
    let b = after_number 32 (omega arith) h h' _ _ (same_rest (ascii "choice ") _ _ a.1) in
    let c = sheet_tells (ascii "reference ") n e n' e' [] [] (ap (λ (l : List ℕ). l ++ []) b.1) in
    (a.0, b.0, c.0, c.1)

-- two runs with the same first line have the same kind, test and choice number, on references of the same size
pub head_tells : (trace_only trace_only' : Bool) (k h n e k' h' n' e' : ℕ) → head_line trace_only k h n e ≡ head_line trace_only' k' h' n' e'
    → (trace_only ≡ trace_only') × (k ≡ k') × (h ≡ h') × (n ≡ n') × (e ≡ e')
head_tells trace_only trace_only' k h n e k' h' n' e' q = go trace_only trace_only' (sym (head_parts trace_only k h n e) ∙ q ∙ head_parts trace_only' k' h' n' e')
  where
    go : (b c : Bool) → kind_words b ++ after_kind k h n e ≡ kind_words c ++ after_kind k' h' n' e' → (b ≡ c) × (k ≡ k') × (h ≡ h') × (n ≡ n') × (e ≡ e')
    go true true p = unfold kind_words in let w = numbers_told k h n e k' h' n' e' (ap (λ (l : List ℕ). drop 11 l) p) in (refl, w.0, w.1, w.2, w.3)
    go true false p = unfold kind_words in absurd (let z = ap (λ (l : List ℕ). get_or l 1 0) p in omega (arith, z))
    go false true p = unfold kind_words in absurd (let z = ap (λ (l : List ℕ). get_or l 1 0) p in omega (arith, z))
    go false false p = unfold kind_words in let w = numbers_told k h n e k' h' n' e' p in (refl, w.0, w.1, w.2, w.3)
