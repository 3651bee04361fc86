-- Nothing to believe: laws. The lines of different answers of `compare` differ, and those of an accepted and a refused
-- sheet do.
use Rattle.std.specs.Prelude.{◌≡◌, ◌≢◌, List, ◌++◌, ℕ, get_or}
use Rattle.std.proofs.Common.{sym, ap, ◌∙◌, arith}
use Rattle.std.proofs.Math.ListN.{get_or-append}
use Rattle.text_spec.specs.Lines.{ascii, decimal, number_line, sheet_line}
use Rattle.text_spec.proofs.DecimalLaws.{decimal_some, decimal_digits}
use Rattle.text_spec.proofs.TellLaws.{same_rest, sheet_parts}
use Rattle.compare_lines_spec.specs.Lines.{violates_line}

-- the first letters of the lines of the three kinds of findings differ
pub refines_refused : (c m : ℕ) → number_line (ascii "refines cleared ") c ≢ number_line (ascii "comparison refused ") m
unfolding number_line
refines_refused c m e = let z = ap (λ (l : List ℕ). get_or l 0 0) e in omega (arith, z)

pub violates_refused : (d c m : ℕ) (l : List ℕ) → violates_line d c ++ l ≢ number_line (ascii "comparison refused ") m
unfolding number_line violates_line
violates_refused d c m l e = let z = ap (λ (l : List ℕ). get_or l 0 0) e in omega (arith, z)

pub violates_refines : (d c k : ℕ) (l : List ℕ) → violates_line d c ++ l ≢ number_line (ascii "refines cleared ") k
unfolding number_line violates_line
violates_refines d c k l e = let z = ap (λ (l : List ℕ). get_or l 0 0) e in omega (arith, z)

-- a refused sheet's line is not that of an accepted one
pub accepted_refused : (who : List ℕ) (n e m : ℕ) (x : List ℕ) → sheet_line who n e ++ x ≢ who ++ number_line (ascii "refused ") m
unfolding number_line
accepted_refused who n e m x h =
    let a = same_rest who _ _ (sym (sheet_parts who n e x) ∙ h) in
    let z : get_or (decimal n ++ (ascii " nodes " ++ (decimal e ++ (ascii " events\n" ++ x)))) 0 0 ≡ 114 = ap (λ (l : List ℕ). get_or l 0 0) a in
    omega (arith, z, get_or-append (decimal n) (ascii " nodes " ++ (decimal e ++ (ascii " events\n" ++ x))) 0 0 (decimal_some n), (decimal_digits n 0 (decimal_some n)).1)
