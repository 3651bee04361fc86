-- Nothing to believe: laws. What `compare` prints, from bytes to bytes: every input gets the text that Says describes,
-- and Says describes no other. Two accepted sheets that agree get `refines cleared` exactly if the device refines the
-- reference, else the violation of demand 3; no input gets `comparison refused` with another number than 11 and 19, as
-- the lists are never too short.
use Rattle.std.specs.Prelude.{◌≡◌, refl, ◌⊎◌, ◌≢◌, ◌↔◌, Bool, ℕ, Result, Ok}
use Rattle.std.proofs.Math.Path.{sym, ap}
use Rattle.std.proofs.Common.{◌∙◌, inl, inr, arith}
use Rattle.std.proofs.Math.Logic.{⊎_map}
use Rattle.std.proofs.Math.Bool.{false}
use mathlib.Core.List.{List, [], ◌++◌}
use Rattle.std.proofs.Math.Decide.{ℕ_discrete}
use Rattle.std.proofs.Math.ListN.{take, length-replicate}
use Rattle.sheet_spec.specs.declared.Sheet.{Sheet}
use Rattle.sheet_spec.specs.declared.ReadSheet.{ReadSheet}
use Rattle.sheet_spec.specs.Form.{Bytes}
use Rattle.sheet_spec.specs.Refusals.{sheet_fault, Agree, CodesDiffer, PairWays}
use Rattle.sheet_spec.proofs.PairFaults.{pair_ways}
use Rattle.sheet_spec.specs.Reading.{read_sheet}
use Rattle.sheet_spec.proofs.SoundLaws.{check_sound}
use Rattle.refinement_spec.specs.Refinement.{ViolationIn, RefinesIn}
use Rattle.refinement_spec.proofs.RefinementLaws.{refines_means, refines_or_violation}
use Rattle.comparison_spec.specs.declared.Outcome.{Outcome}
use Rattle.comparison_spec.specs.declared.Outcome.TheVariants.{Refines}
use Rattle.comparison_spec.specs.Comparison.{compare_fault, outcome_of, trace_after}
use Rattle.comparison_spec.specs.Numbers.{compared}
use Rattle.comparison_spec.specs.Meaning as meaning
use Rattle.comparison_spec.specs.Meaning.{ReachedEver, Number, Describes}
use Rattle.comparison_spec.proofs.OutcomeLaws.{describes_only}
use Rattle.comparison_spec.proofs.AnswerLaws.{outcome_only}
use Rattle.comparison_spec.proofs.CallLaws.{compare_11, compare_19, denied_outcome}
use Rattle.claim.specs.Claim.{LongEnough, Reports, stray_reports, refusal_reports, Violated, Claim}
use Rattle.claim.proofs.Theorem.{claim}
use Rattle.text_spec.specs.Lines.{ascii, number_line, sheet_line, trace_line}
use Rattle.text_spec.proofs.TellLaws.{same_number, sheet_tells}
use Rattle.text_pair_spec.proofs.ProgramLaws as text
use Rattle.text_pair_spec.specs.Program.{reference, device}
use Rattle.text_pair_spec.specs.BackToBack.{BackToBack, after_sheets}
use Rattle.text_pair_spec.proofs.BackToBackLaws.{begins_read, reference_accepted, both_exactly, pair_text_lem, begins_text, sheets_tell}
use Rattle.compare_lines_spec.specs.Lines.{violates_line, refused_probe_line, outcome_lines}
use Rattle.compare_lines_spec.specs.Program.{work_list, trace_list, compared_lines, compare_text}
use Rattle.compare_lines_spec.proofs.LineLaws.{refines_refused, violates_refused, violates_refines, accepted_refused}
use Rattle.compare_lines_spec.proofs.Lengths.{lists_fit}
use Rattle.compare_lines_spec.specs.Says.{LastLine, of_stray, of_refusal, Says, reference_refused, device_refused, unequal, unequal_codes, refines, violates}

-- the numbers that an answer reports
reports_are : (o : Result Outcome ℕ) (d c : ℕ) → Reports o d c → ((compared o).d ≡ d) × ((compared o).cleared ≡ c)
unfolding compared
reports_are o d c (stray_reports d' c' i) = (refl, refl)
reports_are o d c (refusal_reports d' c' X A) = (refl, refl)

-- the lines of an answer that reports a violation
lines_of : (o : Result Outcome ℕ) (d c : ℕ) → Reports o d c → (t : List ℕ) → (end : List ℕ) × LastLine o end × (outcome_lines o t ≡ violates_line d c ++ (trace_line (take d t) ++ end))
unfolding outcome_lines
lines_of o d c (stray_reports d' c' i) t = (number_line (ascii "stray ") i, of_stray d c i, refl)
lines_of o d c (refusal_reports d' c' X A) t = (refused_probe_line X A, of_refusal d c X A, refl)

-- the lines of an answer whose last line is known
lines_end : (o : Result Outcome ℕ) (end : List ℕ) → LastLine o end → (t : List ℕ) → outcome_lines o t ≡ violates_line (compared o).d (compared o).cleared ++ (trace_line (take (compared o).d t) ++ end)
unfolding outcome_lines compared
lines_end o end (of_stray d c i) t = refl
lines_end o end (of_refusal d c X A) t = refl

module _ (P Q : Sheet) (acc_p : sheet_fault P ≡ 0) (acc_q : sheet_fault Q ≡ 0) where
  -- the lines of an answer of the program that is refused: its number, with refusals or with traces alone
  denied_lines : (trace_only : Bool) (t : List ℕ) (m : ℕ) → m ≢ 0 → compare_fault P Q work_list trace_list ≡ m
      → outcome_lines (outcome_of trace_only P Q work_list trace_list) t ≡ number_line (ascii "comparison refused ") m
  unfolding outcome_lines
  denied_lines trace_only t m n z = rw (denied_outcome P Q work_list trace_list trace_only (λ e. n (sym z ∙ e)), z)

  -- where E differs, 11 is printed
  unequal_lines : P.e ≢ Q.e → compared_lines P Q ≡ number_line (ascii "comparison refused ") 11
  unfolding compared_lines
  unequal_lines n = denied_lines _ _ 11 (λ e. omega arith) ((compare_11 P Q work_list trace_list).1 ((acc_p, acc_q), n))

  -- where E is one and an event has another code, 19 is printed
  unequal_codes_lines : (P.e ≡ Q.e) × CodesDiffer P Q → compared_lines P Q ≡ number_line (ascii "comparison refused ") 19
  unfolding compared_lines
  unequal_codes_lines w = denied_lines _ _ 19 (λ e. omega arith) ((compare_19 P Q work_list trace_list).1 ((acc_p, acc_q), w))

  module _ (agree : Agree P Q) where
    same : P.e ≡ Q.e
    same = agree.0

    told : Claim false P Q
    told = claim false P Q (inl acc_p) (inl acc_q) agree

    -- the lists that the program lends are long enough for every two accepted sheets that agree
    pub no_short_list : LongEnough P Q work_list trace_list
    unfolding work_list trace_list
    no_short_list = (rw length-replicate (omega (arith, told.few)), rw length-replicate (omega (arith, told.few)))

    -- whatever 01 describes of the two sheets is the answer
    only_answer : (o : Result Outcome ℕ) (t : List ℕ) → Describes false P Q o t → o ≡ outcome_of false P Q work_list trace_list
    only_answer = outcome_only false P Q acc_p acc_q same work_list trace_list (lists_fit P Q acc_p acc_q agree)

    -- where the device refines the reference, the number of the pairs reached is printed
    refines_lines : RefinesIn false P Q → (cleared : ℕ) × Number P Q (ReachedEver P Q) cleared × (compared_lines P Q ≡ number_line (ascii "refines cleared ") cleared)
    unfolding compared_lines outcome_lines
    refines_lines r =
        let x = (told.refined work_list trace_list no_short_list).1 r in
        (x.0, told.counted work_list trace_list no_short_list x.0 x.1, ap (λ (o : Result Outcome ℕ). outcome_lines o (trace_after false P Q work_list trace_list)) x.1)

    -- where the device does not refine the reference, the lines of the violation are printed
    violates_lines : ¬ RefinesIn false P Q → (o : Result Outcome ℕ) × (after : List ℕ) × (v : Violated false P Q o after) × (end : List ℕ) × LastLine o end
        × (compared_lines P Q ≡ violates_line v.d v.cleared ++ (trace_line (take v.d after) ++ end))
    unfolding compared_lines
    violates_lines n =
        let v = told.violated work_list trace_list no_short_list n in
        let x = lines_of (outcome_of false P Q work_list trace_list) v.d v.cleared v.reports (trace_after false P Q work_list trace_list) in
        (outcome_of false P Q work_list trace_list, trace_after false P Q work_list trace_list, v, x.0, x.1, x.2)

    -- the device refines the reference, or it does not
    decided : RefinesIn false P Q ⊎ (¬ RefinesIn false P Q)
    decided = go (refines_or_violation (check_sound P acc_p) (check_sound Q acc_q) same false)
      where
        go : RefinesIn false P Q ⊎ ((t : List ℕ) × ViolationIn false P Q t) → RefinesIn false P Q ⊎ (¬ RefinesIn false P Q)
        go (inl r) = inl r
        go (inr (t, v)) = inr (λ r. (refines_means (check_sound P acc_p) (check_sound Q acc_q) same false).0 r t v)

    -- a number of the pairs reached, where the device refines the reference, is the one printed
    refines_once : RefinesIn false P Q → (cleared : ℕ) → Number P Q (ReachedEver P Q) cleared → compared_lines P Q ≡ number_line (ascii "refines cleared ") cleared
    unfolding compared_lines outcome_lines
    refines_once r c k = ap (λ (o : Result Outcome ℕ). outcome_lines o (trace_after false P Q work_list trace_list)) (sym (only_answer (Ok (Refines c)) [] (meaning.refines c r k)))

    -- a violation of demand 3 is the one printed
    violates_once : ¬ RefinesIn false P Q → (o : Result Outcome ℕ) (after : List ℕ) (v : Violated false P Q o after) (end : List ℕ) → LastLine o end
        → compared_lines P Q ≡ violates_line v.d v.cleared ++ (trace_line (take v.d after) ++ end)
    unfolding compared_lines
    violates_once n o after v end l =
        let w = told.violated work_list trace_list no_short_list n in
        let e = only_answer o (take v.d after) v.describes in
        let a = reports_are o v.d v.cleared v.reports in
        let b = reports_are (outcome_of false P Q work_list trace_list) w.d w.cleared w.reports in
        let k : w.d ≡ v.d = sym b.0 ∙ ap (λ (x : Result Outcome ℕ). (compared x).d) (sym e) ∙ a.0 in
        let t : take v.d (trace_after false P Q work_list trace_list) ≡ take v.d after =
        ap (λ (x : ℕ). take x (trace_after false P Q work_list trace_list)) (sym k)
        ∙ (describes_only (check_sound P acc_p) (check_sound Q acc_q) same false (outcome_of false P Q work_list trace_list) (take w.d (trace_after false P Q work_list trace_list)) w.describes).1
        ∙ sym (describes_only (check_sound P acc_p) (check_sound Q acc_q) same false o (take v.d after) v.describes).1 in
        ap (λ (x : Result Outcome ℕ). outcome_lines x (trace_after false P Q work_list trace_list)) (sym e) ∙ lines_end o end l (trace_after false P Q work_list trace_list) ∙ rw (a.0, a.1, t)

module _ (input : List ℕ) (P Q : Sheet) (b : BackToBack input P Q) where
  acc_p : sheet_fault P ≡ 0
  acc_p = b.reference_accepted.1

  acc_q : sheet_fault Q ≡ 0
  acc_q = b.device_accepted.1

  -- two accepted sheets print their lines and those of their comparison
  pair_says : compare_text input ≡ after_sheets P Q (compared_lines P Q)
  unfolding compare_text
  pair_says = pair_text_lem input compared_lines P Q b

  -- the lines after those of the sheets are the same where the texts are
  pair_found : (l : List ℕ) → compare_text input ≡ after_sheets P Q l → compared_lines P Q ≡ l
  pair_found l e = (sheets_tell P Q P.n P.e Q.n Q.e (compared_lines P Q) l (sym pair_says ∙ e)).4

  -- two accepted sheets that agree get no refusal of the comparison
  none_refused : Agree P Q → (m : ℕ) → compare_text input ≢ after_sheets P Q (number_line (ascii "comparison refused ") m)
  none_refused agree m t = go (decided P Q acc_p acc_q agree)
    where
      go : RefinesIn false P Q ⊎ (¬ RefinesIn false P Q) → ⊥
      go (inl r) = let x = refines_lines P Q acc_p acc_q agree r in refines_refused x.0 m (sym x.2 ∙ pair_found _ t)
      go (inr n) = let x = violates_lines P Q acc_p acc_q agree n in violates_refused x.2.d x.2.cleared m _ (sym x.5 ∙ pair_found _ t)

  -- the refusals of the comparison: 11, where E differs, and 19, where E is one and a code differs
  abbrev Refused : ℕ → Type 0
  Refused m = ((m ≡ 11) × (P.e ≢ Q.e)) ⊎ ((m ≡ 19) × ((P.e ≡ Q.e) × CodesDiffer P Q))

  -- two accepted sheets get no other
  pair_refused : (m : ℕ) → compare_text input ≡ after_sheets P Q (number_line (ascii "comparison refused ") m)
      → Refused m
  pair_refused m t = go (pair_ways P Q)
    where
      number : (k : ℕ) → compared_lines P Q ≡ number_line (ascii "comparison refused ") k → m ≡ k
      number k l = same_number (ascii "comparison refused ") m k (sym (pair_found _ t) ∙ l)

      go : PairWays P Q → Refused m
      go (inl a) = absurd (none_refused a m t)
      go (inr (inl n)) = inl (number 11 (unequal_lines P Q acc_p acc_q n), n)
      go (inr (inr w)) = inr (number 19 (unequal_codes_lines P Q acc_p acc_q w), w)

  -- two accepted sheets print 11 exactly if E differs
  pub says_unequal : (compare_text input ≡ after_sheets P Q (number_line (ascii "comparison refused ") 11)) ↔ (P.e ≢ Q.e)
  says_unequal = (λ t. to (pair_refused 11 t), λ n. pair_says ∙ rw (unequal_lines P Q acc_p acc_q n))
    where
      to : Refused 11 → P.e ≢ Q.e
      to (inl x) = x.1
      to (inr x) = absurd (omega (arith, x.0))

  -- two accepted sheets print 19 exactly if they have one E and some event has another code
  pub says_unequal_codes : (compare_text input ≡ after_sheets P Q (number_line (ascii "comparison refused ") 19)) ↔ ((P.e ≡ Q.e) × CodesDiffer P Q)
  says_unequal_codes = (λ t. to (pair_refused 19 t), λ w. pair_says ∙ rw (unequal_codes_lines P Q acc_p acc_q w))
    where
      to : Refused 19 → (P.e ≡ Q.e) × CodesDiffer P Q
      to (inl x) = absurd (omega (arith, x.0))
      to (inr x) = x.1

  -- two accepted sheets that get `refines cleared` agree
  pair_agree : (c : ℕ) → compare_text input ≡ after_sheets P Q (number_line (ascii "refines cleared ") c) → Agree P Q
  pair_agree c t = go (pair_ways P Q)
    where
      go : PairWays P Q → Agree P Q
      go (inl a) = a
      go (inr (inl n)) = absurd (refines_refused c 11 (sym (pair_found _ t) ∙ unequal_lines P Q acc_p acc_q n))
      go (inr (inr w)) = absurd (refines_refused c 19 (sym (pair_found _ t) ∙ unequal_codes_lines P Q acc_p acc_q w))

  module _ (agree : Agree P Q) where
    -- where the device refines the reference, the number of all pairs reached by common traces is printed
    pub says_cleared : RefinesIn false P Q → (cleared : ℕ) × Number P Q (ReachedEver P Q) cleared × (compare_text input ≡ after_sheets P Q (number_line (ascii "refines cleared ") cleared))
    says_cleared r = let x = refines_lines P Q acc_p acc_q agree r in (x.0, x.1, pair_says ∙ rw x.2)

    -- `refines cleared` is printed exactly if the device refines the reference
    pub says_refines : ((cleared : ℕ) × (compare_text input ≡ after_sheets P Q (number_line (ascii "refines cleared ") cleared))) ↔ RefinesIn false P Q
    says_refines = (to, λ r. let x = says_cleared r in (x.0, x.2))
      where
        to : (cleared : ℕ) × (compare_text input ≡ after_sheets P Q (number_line (ascii "refines cleared ") cleared)) → RefinesIn false P Q
        to (c, t) = go (decided P Q acc_p acc_q agree)
          where
            go : RefinesIn false P Q ⊎ (¬ RefinesIn false P Q) → RefinesIn false P Q
            go (inl r) = r
            go (inr n) = let x = violates_lines P Q acc_p acc_q agree n in absurd (violates_refines x.2.d x.2.cleared c _ (sym x.5 ∙ pair_found _ t))

    -- where the device does not refine the reference, the d, the count, the trace and the witness of demand 3 are
    -- printed
    pub says_violates : ¬ RefinesIn false P Q → (o : Result Outcome ℕ) × (after : List ℕ) × (v : Violated false P Q o after) × (end : List ℕ) × LastLine o end
        × (compare_text input ≡ after_sheets P Q (violates_line v.d v.cleared ++ (trace_line (take v.d after) ++ end)))
    says_violates n = let x = violates_lines P Q acc_p acc_q agree n in (x.0, x.1, x.2, x.3, x.4, pair_says ∙ rw x.5)

  -- what is said of two accepted sheets
  pair_described : Says input (compare_text input)
  pair_described = go (pair_ways P Q)
    where
      go : PairWays P Q → Says input (compare_text input)
      go (inl agree) = alike (decided P Q acc_p acc_q agree)
        where
          alike : RefinesIn false P Q ⊎ (¬ RefinesIn false P Q) → Says input (compare_text input)
          alike (inl r) = let x = says_cleared agree r in rw x.2 (refines P Q b agree r x.0 x.1)
          alike (inr n) = let x = says_violates agree n in rw x.5 (violates P Q b agree n x.0 x.1 x.2 x.3 x.4)
      go (inr (inl n)) = rw (says_unequal.1 n) (unequal P Q b n)
      go (inr (inr w)) = rw (says_unequal_codes.1 w) (unequal_codes P Q b w.0 w.1)

-- every input of bytes gets a text that Says describes
pub compare_says : (input : List ℕ) → Bytes input → Says input (compare_text input)
unfolding compare_text
compare_says input y = go (ℕ_discrete (reference input).refusal 0)
  where
    go : Dec ((reference input).refusal ≡ 0) → Says input (compare_text input)
    go (no n) = rw (text.reference_refused input compared_lines n) (reference_refused (reference input).refusal n refl)
    go (yes h) = second (ℕ_discrete (device input).refusal 0)
      where
        second : Dec ((device input).refusal ≡ 0) → Says input (compare_text input)
        second (no n) =
            let x = (reference_accepted input y).0 h in
            let r = (begins_read input x.0 x.1 x.2).1 in
            let m : (read_sheet x.1).refusal ≢ 0 = λ z. n (ap (λ (a : ReadSheet). a.refusal) r ∙ z) in
            rw (begins_text input compared_lines x.0 x.1 x.2 m) (device_refused x.0 x.1 (read_sheet x.1).refusal x.2 m refl)
        second (yes k) = let x = (both_exactly input y).0 (h, k) in pair_described input x.0 x.1 x.2

-- a text that Says describes for an input is the one that the input gets
pub says_only : (input t : List ℕ) → Says input t → t ≡ compare_text input
unfolding compare_text
says_only input t (reference_refused m n e) = sym (text.reference_refused input compared_lines (λ z. n (sym e ∙ z)) ∙ rw e)
says_only input t (device_refused P rest m b n e) = sym (begins_text input compared_lines P rest b (λ z. n (sym e ∙ z)) ∙ rw e)
says_only input t (unequal P Q b n) = sym ((says_unequal input P Q b).1 n)
says_only input t (unequal_codes P Q b same w) = sym ((says_unequal_codes input P Q b).1 (same, w))
says_only input t (refines P Q b agree r c k) = sym (pair_says input P Q b ∙ rw (refines_once P Q b.reference_accepted.1 b.device_accepted.1 agree r c k))
says_only input t (violates P Q b agree n o after v end l) = sym (pair_says input P Q b ∙ rw (violates_once P Q b.reference_accepted.1 b.device_accepted.1 agree n o after v end l))

-- a text that has the line of a reference and that of a device, be their numbers what they may, is that of two accepted
-- sheets back to back
pub says_pair : (input : List ℕ) → Bytes input → (n e n' e' : ℕ) (findings : List ℕ)
    → compare_text input ≡ sheet_line (ascii "reference ") n e ++ (sheet_line (ascii "device ") n' e' ++ findings)
    → (P : Sheet) × (Q : Sheet) × BackToBack input P Q × (compare_text input ≡ after_sheets P Q findings)
unfolding number_line
says_pair input y n e n' e' l h = go (compare_text input) (compare_says input y) refl
  where
    Pair : Type 0
    Pair = (P : Sheet) × (Q : Sheet) × BackToBack input P Q × (compare_text input ≡ after_sheets P Q l)

    pair : (P Q : Sheet) → BackToBack input P Q → (x : List ℕ) → after_sheets P Q x ≡ compare_text input → Pair
    pair P Q b x t = (P, Q, b, sym t ∙ ap (after_sheets P Q) (sheets_tell P Q n e n' e' x l (t ∙ h)).4)

    go : (t : List ℕ) → Says input t → t ≡ compare_text input → Pair
    go t (reference_refused m z r) q = absurd (accepted_refused (ascii "reference ") n e m (sheet_line (ascii "device ") n' e' ++ l) (sym (q ∙ h)))
    go t (device_refused P rest m b z r) q =
        absurd (accepted_refused (ascii "device ") n' e' m l
        (sym (sheet_tells (ascii "reference ") P.n P.e n e (number_line (ascii "device refused ") m) (sheet_line (ascii "device ") n' e' ++ l) (q ∙ h)).2))
    go t (unequal P Q b z) q = pair P Q b (number_line (ascii "comparison refused ") 11) q
    go t (unequal_codes P Q b same z) q = pair P Q b (number_line (ascii "comparison refused ") 19) q
    go t (refines P Q b agree r c k) q = pair P Q b (number_line (ascii "refines cleared ") c) q
    go t (violates P Q b agree z o after v end k) q = pair P Q b (violates_line v.d v.cleared ++ (trace_line (take v.d after) ++ end)) q

-- no input gets `comparison refused` with another number than 11 and 19, so neither 12 nor 13
pub says_only_11_or_19 : (input : List ℕ) → Bytes input → (n e n' e' m : ℕ)
    → compare_text input ≡ sheet_line (ascii "reference ") n e ++ (sheet_line (ascii "device ") n' e' ++ number_line (ascii "comparison refused ") m)
    → (m ≡ 11) ⊎ (m ≡ 19)
says_only_11_or_19 input y n e n' e' m h =
    let x = says_pair input y n e n' e' (number_line (ascii "comparison refused ") m) h in
    ⊎_map (λ p. p.0) (λ p. p.0) (pair_refused input x.0 x.1 x.2 m x.3)

-- an input that gets `refines cleared` is two accepted sheets that agree, and the device refines the reference
pub says_cleared_only : (input : List ℕ) → Bytes input → (n e n' e' c : ℕ)
    → compare_text input ≡ sheet_line (ascii "reference ") n e ++ (sheet_line (ascii "device ") n' e' ++ number_line (ascii "refines cleared ") c)
    → (P : Sheet) × (Q : Sheet) × BackToBack input P Q × Agree P Q × RefinesIn false P Q
says_cleared_only input y n e n' e' c h =
    let x = says_pair input y n e n' e' (number_line (ascii "refines cleared ") c) h in
    let agree = pair_agree input x.0 x.1 x.2 c x.3 in
    (x.0, x.1, x.2, agree, (says_refines input x.0 x.1 x.2 agree).0 (c, x.3))
