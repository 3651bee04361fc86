-- Nothing to believe: laws. What the lines of `script_counts` tell: the five lines their numbers, and those of a
-- refusal are no others. So a text can be read back.
use Rattle.std.specs.Prelude.{◌≡◌, ◌≢◌, List, [], ◌∷◌, ◌++◌, ℕ, ◌+◌, get_or}
use Rattle.std.proofs.Common.{ap, ◌∙◌, append_assoc, arith}
use Rattle.text_spec.specs.Lines.{ascii, decimal, number_line}
use Rattle.text_spec.proofs.TellLaws.{same_rest, after_number, number_parts}
use Rattle.script_counts_lines_spec.specs.Lines.{total_line, count_lines}
use Rattle.script_counts_lines_spec.specs.Says.{refused_line, spelled}

-- the five lines are those that are spelled out; as many end early as the device and the reference stop
pub five_spelled : (L n w d r : ℕ) → count_lines L n w d r ≡ spelled L n w d r (d + r)
unfolding count_lines total_line number_line
five_spelled L n w d r =
    append_assoc (ascii "scripts of ") (decimal L ++ number_line (ascii " events ") n) walked
    ∙ ap (λ (l : List ℕ). ascii "scripts of " ++ l)
    (append_assoc (decimal L) (number_line (ascii " events ") n) walked
    ∙ ap (λ (l : List ℕ). decimal L ++ l)
    (number_parts (ascii " events ") n walked
    ∙ ap (λ (l : List ℕ). ascii " events " ++ (decimal n ++ (10 ∷ l)))
    (number_parts (ascii "walked ") w device
    ∙ ap (λ (l : List ℕ). ascii "walked " ++ (decimal w ++ (10 ∷ l)))
    (number_parts (ascii "device stops ") d reference
    ∙ ap (λ (l : List ℕ). ascii "device stops " ++ (decimal d ++ (10 ∷ l))) (number_parts (ascii "reference stops ") r early)))))
  where
    early : List ℕ
    early = number_line (ascii "ends early ") (d + r)

    reference : List ℕ
    reference = number_line (ascii "reference stops ") r ++ early

    device : List ℕ
    device = number_line (ascii "device stops ") d ++ reference

    walked : List ℕ
    walked = number_line (ascii "walked ") w ++ device

-- the five lines tell their numbers: different counts have different lines
pub spelled_tells : (L n w d r m L' n' w' d' r' m' : ℕ) → spelled L n w d r m ≡ spelled L' n' w' d' r' m'
    → (L ≡ L') × (n ≡ n') × (w ≡ w') × (d ≡ d') × (r ≡ r') × (m ≡ m')
spelled_tells L n w d r m L' n' w' d' r' m' e =
    let x0 = after_number 32 (omega arith) L L' _ _ (same_rest (ascii "scripts of ") _ _ e) in
    let x1 = after_number 10 (omega arith) n n' _ _ (same_rest (ascii "events ") _ _ x0.1) in
    let x2 = after_number 10 (omega arith) w w' _ _ (same_rest (ascii "walked ") _ _ x1.1) in
    let x3 = after_number 10 (omega arith) d d' _ _ (same_rest (ascii "device stops ") _ _ x2.1) in
    let x4 = after_number 10 (omega arith) r r' _ _ (same_rest (ascii "reference stops ") _ _ x3.1) in
    let x5 = after_number 10 (omega arith) m m' [] [] (same_rest (ascii "ends early ") _ _ x4.1) in
    (x0.0, x1.0, x2.0, x3.0, x4.0, x5.0)

-- counts are not printed as a refusal
pub spelled_refused : (L n w d r m k : ℕ) → spelled L n w d r m ≢ refused_line k
unfolding number_line
spelled_refused L n w d r m k e = let z = ap (λ (l : List ℕ). get_or l 8 0) e in omega (arith, z)
