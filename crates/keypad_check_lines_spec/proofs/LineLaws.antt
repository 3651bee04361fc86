-- Nothing to believe: laws. The lines of different answers of `keypad_check` differ, whatever follows them; so a text
-- can be read back.
use Rattle.std.specs.Prelude.{◌≡◌, refl, ◌≢◌, ℕ, Result, Ok, Err, get_or}
use Rattle.std.proofs.Common.{sym, ◌∙◌, arith}
use Rattle.std.proofs.Math.Path.{ap}
use mathlib.Core.List.{List, ◌∷◌, ◌++◌, append_assoc}
use Rattle.std.proofs.Math.ListN.{get_or-append}
use Rattle.text_spec.specs.Lines.{ascii, decimal, number_line}
use Rattle.text_spec.proofs.DecimalLaws.{decimal_some, decimal_digits}
use Rattle.text_spec.proofs.TellLaws.{same_rest, after_number, number_parts}
use Rattle.keypad_spec.specs.declared.Keypad.{Keypad}
use Rattle.keypad_spec.specs.declared.Keypad.TheVariants.{Good, Gap, Overlap}
use Rattle.keypad_check_lines_spec.specs.Lines.{rules_line, overlap_line, told_lines}
use Rattle.keypad_check_lines_spec.specs.Says.{good_text}

-- ---- the lines, in pieces

-- the line of a size, and what follows it
rules_parts : (n : ℕ) (x : List ℕ) → rules_line n ++ x ≡ ascii "table " ++ (decimal n ++ (ascii " rules\n" ++ x))
unfolding rules_line
rules_parts n x =
    append_assoc (ascii "table ") (decimal n ++ ascii " rules\n") x
    ∙ ap (λ (l : List ℕ). ascii "table " ++ l) (append_assoc (decimal n) (ascii " rules\n") x)

-- the line of an overlap, and what follows it
overlap_parts : (c i k : ℕ) (x : List ℕ)
    → overlap_line c i k ++ x ≡ ascii "overlap " ++ (decimal c ++ (ascii " by " ++ (decimal i ++ (ascii " and " ++ (decimal k ++ (10 ∷ x))))))
unfolding overlap_line
overlap_parts c i k x =
    append_assoc (ascii "overlap ") (decimal c ++ numbers) x
    ∙ ap (λ (l : List ℕ). ascii "overlap " ++ l)
    (append_assoc (decimal c) numbers x
    ∙ ap (λ (l : List ℕ). decimal c ++ l)
    (append_assoc (ascii " by ") (decimal i ++ (ascii " and " ++ (decimal k ++ ascii "\n"))) x
    ∙ ap (λ (l : List ℕ). ascii " by " ++ l)
    (append_assoc (decimal i) (ascii " and " ++ (decimal k ++ ascii "\n")) x
    ∙ ap (λ (l : List ℕ). decimal i ++ l)
    (append_assoc (ascii " and ") (decimal k ++ ascii "\n") x
    ∙ ap (λ (l : List ℕ). ascii " and " ++ l) (append_assoc (decimal k) (ascii "\n") x)))))
  where
    numbers : List ℕ
    numbers = ascii " by " ++ (decimal i ++ (ascii " and " ++ (decimal k ++ ascii "\n")))

-- the lines of each case, and what follows them
module _ (n : ℕ) (x : List ℕ) where
  pub good_parts : told_lines n (Ok Good) ++ x ≡ good_text n x
  unfolding told_lines
  good_parts = append_assoc (rules_line n) (ascii "good\n") x ∙ rules_parts n (ascii "good\n" ++ x)

  pub gap_parts : (c : ℕ) → told_lines n (Ok (Gap c)) ++ x ≡ ascii "table " ++ (decimal n ++ (ascii " rules\ngap " ++ (decimal c ++ (10 ∷ x))))
  unfolding told_lines
  gap_parts c =
      append_assoc (rules_line n) (number_line (ascii "gap ") c) x
      ∙ ap (λ (l : List ℕ). rules_line n ++ l) (number_parts (ascii "gap ") c x)
      ∙ rules_parts n (ascii "gap " ++ (decimal c ++ (10 ∷ x)))

  pub overlap_lines : (c i k : ℕ)
      → told_lines n (Ok (Overlap c i k)) ++ x
      ≡ ascii "table " ++ (decimal n ++ (ascii " rules\noverlap " ++ (decimal c ++ (ascii " by " ++ (decimal i ++ (ascii " and " ++ (decimal k ++ (10 ∷ x))))))))
  unfolding told_lines
  overlap_lines c i k =
      append_assoc (rules_line n) (overlap_line c i k) x
      ∙ ap (λ (l : List ℕ). rules_line n ++ l) (overlap_parts c i k x)
      ∙ rules_parts n (ascii "overlap " ++ (decimal c ++ (ascii " by " ++ (decimal i ++ (ascii " and " ++ (decimal k ++ (10 ∷ x)))))))

  pub denied_parts : (m : ℕ) → told_lines n (Err m) ++ x ≡ ascii "table refused " ++ (decimal m ++ (10 ∷ x))
  unfolding told_lines
  denied_parts m = number_parts (ascii "table refused ") m x

-- ---- what the lines tell

-- no number begins with an `r`
no_letter : (n : ℕ) (x y : List ℕ) → decimal n ++ x ≢ 114 ∷ y
no_letter n x y e =
    let z : get_or (decimal n ++ x) 0 0 ≡ 114 = ap (λ (l : List ℕ). get_or l 0 0) e in
    omega (arith, z, get_or-append (decimal n) x 0 0 (decimal_some n), (decimal_digits n 0 (decimal_some n)).1)

-- the line of a refused table is not that of a size
not_refused : (n m : ℕ) (x y : List ℕ) → ascii "table " ++ (decimal n ++ x) ≢ ascii "table refused " ++ (decimal m ++ y)
not_refused n m x y e = no_letter n x _ (same_rest (ascii "table ") (decimal n ++ x) _ e)

-- after the line of a size, the same follows
after_size : (n n' : ℕ) (x y : List ℕ) → ascii "table " ++ (decimal n ++ (ascii " rules\n" ++ x)) ≡ ascii "table " ++ (decimal n' ++ (ascii " rules\n" ++ y)) → x ≡ y
after_size n n' x y e =
    same_rest (ascii "rules\n") x y (after_number 32 (omega arith) n n' _ _ (same_rest (ascii "table ") (decimal n ++ (ascii " rules\n" ++ x)) _ e)).1

-- the same lines come from the same answer, and the same follows them
pub told_tells : (n n' : ℕ) (a r : Result Keypad ℕ) (x y : List ℕ) → told_lines n a ++ x ≡ told_lines n' r ++ y → (a ≡ r) × (x ≡ y)
told_tells n n' (Ok Good) (Ok Good) x y e = (refl, same_rest (ascii "good\n") x y (after_size n n' _ _ (sym (good_parts n x) ∙ e ∙ good_parts n' y)))
told_tells n n' (Ok Good) (Ok (Gap d)) x y e =
    let z = ap (λ (l : List ℕ). get_or l 1 0) (after_size n n' (ascii "good\n" ++ x) _ (sym (good_parts n x) ∙ e ∙ gap_parts n' y d)) in absurd (omega (arith, z))
told_tells n n' (Ok Good) (Ok (Overlap d j l)) x y e =
    let z = ap (λ (l : List ℕ). get_or l 0 0) (after_size n n' (ascii "good\n" ++ x) _ (sym (good_parts n x) ∙ e ∙ overlap_lines n' y d j l)) in absurd (omega (arith, z))
told_tells n n' (Ok Good) (Err m) x y e = absurd (not_refused n m _ _ (sym (good_parts n x) ∙ e ∙ denied_parts n' y m))
told_tells n n' (Ok (Gap c)) (Ok Good) x y e =
    let z = ap (λ (l : List ℕ). get_or l 1 0) (after_size n n' (ascii "gap " ++ (decimal c ++ (10 ∷ x))) _ (sym (gap_parts n x c) ∙ e ∙ good_parts n' y)) in absurd (omega (arith, z))
told_tells n n' (Ok (Gap c)) (Ok (Gap d)) x y e =
    let w = after_number 10 (omega arith) c d x y (same_rest (ascii "gap ") _ _ (after_size n n' _ _ (sym (gap_parts n x c) ∙ e ∙ gap_parts n' y d))) in
    (ap (λ (k : ℕ). Ok (Gap k)) w.0, w.1)
told_tells n n' (Ok (Gap c)) (Ok (Overlap d j l)) x y e =
    let z = ap (λ (l : List ℕ). get_or l 0 0) (after_size n n' (ascii "gap " ++ (decimal c ++ (10 ∷ x))) _ (sym (gap_parts n x c) ∙ e ∙ overlap_lines n' y d j l)) in absurd (omega (arith, z))
told_tells n n' (Ok (Gap c)) (Err m) x y e = absurd (not_refused n m _ _ (sym (gap_parts n x c) ∙ e ∙ denied_parts n' y m))
told_tells n n' (Ok (Overlap c i k)) (Ok Good) x y e =
    let z = ap (λ (l : List ℕ). get_or l 0 0) (after_size n n' (ascii "overlap " ++ (decimal c ++ (ascii " by " ++ (decimal i ++ (ascii " and " ++ (decimal k ++ (10 ∷ x))))))) _ (sym (overlap_lines n x c i k) ∙ e ∙ good_parts n' y)) in absurd (omega (arith, z))
told_tells n n' (Ok (Overlap c i k)) (Ok (Gap d)) x y e =
    let z = ap (λ (l : List ℕ). get_or l 0 0) (after_size n n' (ascii "overlap " ++ (decimal c ++ (ascii " by " ++ (decimal i ++ (ascii " and " ++ (decimal k ++ (10 ∷ x))))))) _ (sym (overlap_lines n x c i k) ∙ e ∙ gap_parts n' y d)) in absurd (omega (arith, z))
told_tells n n' (Ok (Overlap c i k)) (Ok (Overlap d j l)) x y e =
    let u = after_number 32 (omega arith) c d _ _ (same_rest (ascii "overlap ") _ _ (after_size n n' _ _ (sym (overlap_lines n x c i k) ∙ e ∙ overlap_lines n' y d j l))) in
    let v = after_number 32 (omega arith) i j _ _ (same_rest (ascii "by ") _ _ u.1) in
    let w = after_number 10 (omega arith) k l x y (same_rest (ascii "and ") _ _ v.1) in
    (rw (u.0, v.0, w.0), w.1)
told_tells n n' (Ok (Overlap c i k)) (Err m) x y e = absurd (not_refused n m _ _ (sym (overlap_lines n x c i k) ∙ e ∙ denied_parts n' y m))
told_tells n n' (Err m) (Ok Good) x y e = absurd (not_refused n' m _ _ (sym (good_parts n' y) ∙ sym e ∙ denied_parts n x m))
told_tells n n' (Err m) (Ok (Gap d)) x y e = absurd (not_refused n' m _ _ (sym (gap_parts n' y d) ∙ sym e ∙ denied_parts n x m))
told_tells n n' (Err m) (Ok (Overlap d j l)) x y e = absurd (not_refused n' m _ _ (sym (overlap_lines n' y d j l) ∙ sym e ∙ denied_parts n x m))
told_tells n n' (Err m) (Err k) x y e =
    let w = after_number 10 (omega arith) m k x y (same_rest (ascii "table refused ") _ _ (sym (denied_parts n x m) ∙ e ∙ denied_parts n' y k)) in
    (ap Err w.0, w.1)
