-- Nothing to believe: laws. The lines of an answer, in pieces; those of different pairs differ, and so do those of a
-- pair and of a refusal.
use Rattle.std.specs.Prelude.{◌≡◌, refl, ◌≢◌, List, [], ◌++◌, ℕ, Ok, Err, ◌+◌, ◌-◌, ◌*◌, get_or, take}
use Rattle.std.proofs.Common.{ap, ◌∙◌, append_assoc, arith}
use Rattle.text_spec.specs.Lines.{ascii, decimal_in, decimal, number_line}
use Rattle.text_spec.proofs.TellLaws.{same_rest, after_number}
use Rattle.bound_lines_spec.specs.Lines.{bytes_line, refused_line, bound_lines, reference_part, device_part, refusal_part}
use Rattle.bound_lines_spec.specs.Says.{pair_text, refused_text}

-- the line of a sheet, and what follows it
bytes_parts : (who : List ℕ) (n b : ℕ) (x : List ℕ) → bytes_line who n b ++ x ≡ who ++ (decimal n ++ (ascii " nodes " ++ (decimal b ++ (ascii " bytes\n" ++ x))))
unfolding bytes_line
bytes_parts who n b x =
    append_assoc who (decimal n ++ (ascii " nodes " ++ (decimal b ++ ascii " bytes\n"))) x
    ∙ ap (λ (l : List ℕ). who ++ l) (append_assoc (decimal n) (ascii " nodes " ++ (decimal b ++ ascii " bytes\n")) x
    ∙ ap (λ (l : List ℕ). decimal n ++ (ascii " nodes " ++ l)) (append_assoc (decimal b) (ascii " bytes\n") x))

-- the lines of the two lengths
pub lengths_parts : (p q r d : ℕ) → bound_lines p q (Ok (record { reference = r; device = d }))
    ≡ ascii "reference " ++ (decimal p ++ (ascii " nodes " ++ (decimal r ++ (ascii " bytes\ndevice "
    ++ (decimal q ++ (ascii " nodes " ++ (decimal d ++ (ascii " bytes\nfirst failing test " ++ (decimal (p * q - 1) ++ ascii "\n")))))))))
unfolding bound_lines number_line
lengths_parts p q r d =
    bytes_parts (ascii "reference ") p r (bytes_line (ascii "device ") q d ++ (ascii "first failing test " ++ (decimal (p * q - 1) ++ ascii "\n")))
    ∙ ap (λ (l : List ℕ). ascii "reference " ++ (decimal p ++ (ascii " nodes " ++ (decimal r ++ (ascii " bytes\n" ++ l)))))
    (bytes_parts (ascii "device ") q d (ascii "first failing test " ++ (decimal (p * q - 1) ++ ascii "\n")))

-- so those of a pair
pub pair_parts : (p q : ℕ) → bound_lines p q (Ok (record { reference = 7 * p + 5; device = 5 * q + 7 })) ≡ pair_text p q
pair_parts p q = lengths_parts p q (7 * p + 5) (5 * q + 7)

-- those of a refusal
pub denied_parts : (p q k : ℕ) → bound_lines p q (Err k) ≡ ascii "bound refused " ++ (decimal k ++ ascii "\n")
unfolding bound_lines refused_line number_line
denied_parts p q k = refl

pub thirty_parts : (p q : ℕ) → bound_lines p q (Err 30) ≡ refused_text
unfolding bound_lines refused_line number_line decimal decimal_in
thirty_parts p q = refl

-- bytes, and what is said where they are refused
pub part_lengths : (r d : ℕ) (list : List ℕ) → (reference_part (Ok (record { reference = r; device = d })) list ≡ take r list) × (device_part (Ok (record { reference = r; device = d })) list ≡ take d list) × (refusal_part (Ok (record { reference = r; device = d })) ≡ [])
unfolding reference_part device_part refusal_part
part_lengths r d list = (refl, refl, refl)

pub part_denied : (list : List ℕ) → (reference_part (Err 30) list ≡ []) × (device_part (Err 30) list ≡ []) × (refusal_part (Err 30) ≡ refused_text)
unfolding reference_part device_part refusal_part refused_line number_line decimal decimal_in
part_denied list = (refl, refl, refl)

-- a pair is not a refusal
pub not_refused : (p q : ℕ) → pair_text p q ≢ refused_text
not_refused p q e = let z = ap (λ (l : List ℕ). get_or l 0 0) e in omega (arith, z)

-- the same lines tell the same pair
pub pair_tells : (p q p' q' : ℕ) → pair_text p q ≡ pair_text p' q' → (p ≡ p') × (q ≡ q')
pair_tells p q p' q' e =
    let a = after_number 32 (omega arith) p p' _ _ (same_rest (ascii "reference ") _ _ e) in
    let b = after_number 32 (omega arith) (7 * p + 5) (7 * p' + 5) _ _ (same_rest (ascii "nodes ") _ _ a.1) in
    let c = after_number 32 (omega arith) q q' _ _ (same_rest (ascii "bytes\ndevice ") _ _ b.1) in
    (a.0, c.0)
