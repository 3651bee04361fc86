-- Nothing to believe: laws. What a text tells: texts that begin alike go on alike, a number ends where a character
-- before the digits follows it, a line of some words tells its number, the line of a sheet its nodes and events, and a
-- line of events these. So a text can be read back.
use Rattle.std.specs.Prelude.{◌≡◌, refl, List, [], ◌∷◌, ◌++◌, ℕ, suc, ◌≤◌, ◌<◌, length, get_or, drop}
use Rattle.std.proofs.Common.{sym, ap, ◌∙◌, append_assoc, arith}
use Rattle.std.proofs.Math.Seq.{drop-append_seam}
use Rattle.text_spec.specs.Lines.{ascii, decimal, value_from, number_line, sheet_line, event_list}
use Rattle.text_spec.proofs.DecimalLaws.{decimal_value, decimal_digits}

-- texts that begin alike go on alike
pub same_rest : (x a b : List ℕ) → x ++ a ≡ x ++ b → a ≡ b
same_rest x a b e = sym (drop-append_seam x a) ∙ ap (λ (l : List ℕ). drop (length x) l) e ∙ drop-append_seam x b

-- texts that begin with digits and then a character before the digits have the same digits, and go on alike
after_digits : (z w : ℕ) → z < 48 → w < 48 → (a b : List ℕ) → ((i : ℕ) → i < length a → 48 ≤ get_or a i 0) → ((i : ℕ) → i < length b → 48 ≤ get_or b i 0)
    → (x y : List ℕ) → a ++ (z ∷ x) ≡ b ++ (w ∷ y) → (a ≡ b) × (z ∷ x ≡ w ∷ y)
after_digits z w h l [] [] f g x y e = (refl, e)
after_digits z w h l [] (k ∷ b) f g x y e = let q : z ≡ k = ap (λ (l : List ℕ). get_or l 0 0) e in absurd (omega (arith, q, g 0 (omega arith)))
after_digits z w h l (k ∷ a) [] f g x y e = let q : k ≡ w = ap (λ (l : List ℕ). get_or l 0 0) e in absurd (omega (arith, q, f 0 (omega arith)))
after_digits z w h l (k ∷ a) (m ∷ b) f g x y e =
    let s : k ≡ m = ap (λ (l : List ℕ). get_or l 0 0) e in
    let q = after_digits z w h l a b (λ i l. f (suc i) (omega arith)) (λ i l. g (suc i) (omega arith)) x y (ap (λ (l : List ℕ). drop 1 l) e) in
    (rw (s, q.0), q.1)

-- texts that begin with a number and then a character before the digits have the same number, and go on alike
number_ends : (z w : ℕ) → z < 48 → w < 48 → (m n : ℕ) (x y : List ℕ) → decimal m ++ (z ∷ x) ≡ decimal n ++ (w ∷ y) → (m ≡ n) × (z ∷ x ≡ w ∷ y)
number_ends z w h l m n x y e =
    let q = after_digits z w h l (decimal m) (decimal n) (λ i l. (decimal_digits m i l).0) (λ i l. (decimal_digits n i l).0) x y e in
    (sym (decimal_value m) ∙ ap (value_from 0) q.0 ∙ decimal_value n, q.1)

pub after_number : (z : ℕ) → z < 48 → (m n : ℕ) (x y : List ℕ) → decimal m ++ (z ∷ x) ≡ decimal n ++ (z ∷ y) → (m ≡ n) × (x ≡ y)
after_number z h m n x y e = let q = number_ends z z h h m n x y e in (q.0, ap (λ (l : List ℕ). drop 1 l) q.1)

-- a line of some words and a number, and what follows it, part by part
pub number_parts : (words : List ℕ) (n : ℕ) (x : List ℕ) → number_line words n ++ x ≡ words ++ (decimal n ++ (10 ∷ x))
unfolding number_line
number_parts words n x = append_assoc words (decimal n ++ ascii "\n") x ∙ ap (λ (l : List ℕ). words ++ l) (append_assoc (decimal n) (ascii "\n") x)

-- a line of some words tells its number
pub same_number : (words : List ℕ) (m n : ℕ) → number_line words m ≡ number_line words n → m ≡ n
unfolding number_line
same_number words m n e = (after_number 10 (omega arith) m n [] [] (same_rest words (decimal m ++ ascii "\n") (decimal n ++ ascii "\n") e)).0

-- the line of a sheet, and what follows it, part by part
pub sheet_parts : (who : List ℕ) (n e : ℕ) (x : List ℕ) → sheet_line who n e ++ x ≡ who ++ (decimal n ++ (ascii " nodes " ++ (decimal e ++ (ascii " events\n" ++ x))))
unfolding sheet_line
sheet_parts who n e x =
    append_assoc who (decimal n ++ (ascii " nodes " ++ (decimal e ++ ascii " events\n"))) x
    ∙ ap (λ (l : List ℕ). who ++ l) (append_assoc (decimal n) (ascii " nodes " ++ (decimal e ++ ascii " events\n")) x
    ∙ ap (λ (l : List ℕ). decimal n ++ (ascii " nodes " ++ l)) (append_assoc (decimal e) (ascii " events\n") x))

-- texts that begin with the line of a sheet, be its numbers what they may, have the same numbers, and go on alike
pub sheet_tells : (who : List ℕ) (n e n' e' : ℕ) (x y : List ℕ) → sheet_line who n e ++ x ≡ sheet_line who n' e' ++ y → (n ≡ n') × (e ≡ e') × (x ≡ y)
sheet_tells who n e n' e' x y h =
    let a = same_rest who _ _ (sym (sheet_parts who n e x) ∙ h ∙ sheet_parts who n' e' y) in
    let b = after_number 32 (omega arith) n n' _ _ a in
    let c = after_number 32 (omega arith) e e' _ _ (same_rest (ascii "nodes ") _ _ b.1) in
    (b.0, c.0, same_rest (ascii "events\n") x y c.1)

-- after the events of a list, a blank before each, and a newline, an event or the newline comes first
events_parts : (i : ℕ) (t x : List ℕ) → event_list (i ∷ t) ++ x ≡ 32 ∷ (decimal i ++ (event_list t ++ x))
unfolding event_list
events_parts i t x = ap (λ (l : List ℕ). 32 ∷ l) (append_assoc (decimal i) (event_list t) x)

events_begin : (t x : List ℕ) → (z : ℕ) × (r : List ℕ) × (z < 48) × (event_list t ++ (10 ∷ x) ≡ z ∷ r)
unfolding event_list
events_begin [] x = (10, x, omega arith, refl)
events_begin (i ∷ t) x = (32, decimal i ++ (event_list t ++ (10 ∷ x)), omega arith, events_parts i t (10 ∷ x))

-- a line of events tells them
pub events_tell : (t u x y : List ℕ) → event_list t ++ (10 ∷ x) ≡ event_list u ++ (10 ∷ y) → t ≡ u
unfolding event_list
events_tell [] [] x y e = refl
events_tell [] (j ∷ u) x y e = let z : ◌≡◌ {A = ℕ} 10 32 = ap (λ (l : List ℕ). get_or l 0 0) e in absurd (omega (arith, z))
events_tell (i ∷ t) [] x y e = let z : ◌≡◌ {A = ℕ} 32 10 = ap (λ (l : List ℕ). get_or l 0 0) e in absurd (omega (arith, z))
events_tell (i ∷ t) (j ∷ u) x y e =
    let d : decimal i ++ (event_list t ++ (10 ∷ x)) ≡ decimal j ++ (event_list u ++ (10 ∷ y)) = ap (λ (l : List ℕ). drop 1 l) (sym (events_parts i t (10 ∷ x)) ∙ e ∙ events_parts j u (10 ∷ y)) in
    let a = events_begin t x in
    let b = events_begin u y in
    let q = number_ends a.0 b.0 a.2 b.2 i j a.1 b.1 (ap (λ (l : List ℕ). decimal i ++ l) (sym a.3) ∙ d ∙ ap (λ (l : List ℕ). decimal j ++ l) b.3) in
    go q.0 (events_tell t u x y (a.3 ∙ q.1 ∙ sym b.3))
  where
    go : i ≡ j → t ≡ u → i ∷ t ≡ j ∷ u
    go p q = rw (p, q)
