-- Nothing to believe: laws. Codes play no part in a sheet beside 18 and 7: with other codes it gets the same refusal,
-- where neither list of codes is refused. So with the codes of version 1 an accepted sheet is accepted too. Crates above
-- say the same of verdicts and comparisons.
use Rattle.std.specs.Prelude.{◌≡◌, refl, true, cond, List, ℕ, ◌+◌, ◌≤◌, ◌<◌, ltb}
use Rattle.std.proofs.Common.{◌∙◌, arith, lt-ltb, le-ltb, ne_eqb}
use Rattle.base.proofs.Finds.{finds_none}
use Rattle.base.proofs.Table.{get_or_up_to, up_to_ext}
use Rattle.sheet_spec.specs.declared.Row.{Row}
use Rattle.sheet_spec.specs.declared.Sheet.{Sheet}
use Rattle.sheet_spec.specs.Kept.{code_at, first_codes, sheet_with, recoded, step}
use Rattle.sheet_spec.specs.Spelling.{version, event_count, code_of, codes_of}
use Rattle.sheet_spec.specs.Rules.{codes_ok, counts_ok, successors_ok, sets_ok, blanks_ok, codes_blank, reached_ok}
use Rattle.sheet_spec.specs.Encoding.{HasFirstCodes}
use Rattle.sheet_spec.specs.Refusals.{sheet_fault, Agree}
use Rattle.sheet_spec.specs.Faults.{GoodCodes}
use Rattle.sheet_spec.proofs.RuleLaws.{codes_find, blank_code_finds}
use Rattle.sheet_spec.proofs.SoundLaws.{check_sound}

-- good codes pass the tests of 18 and of unused places
good_distinct : (e : ℕ) (codes : List ℕ) → GoodCodes e codes → codes_ok e codes ≡ true
good_distinct e codes g = finds_none (codes_find e codes) g.0

good_blank : (e : ℕ) (codes : List ℕ) → GoodCodes e codes → codes_blank e codes ≡ true
good_blank e codes g = finds_none (blank_code_finds e codes) (λ w. w.2.1 (g.1 w.0 w.2.0 w.1))

-- a sheet gets the same refusal with any good codes
pub recoded_fault : (s : Sheet) (codes : List ℕ) → GoodCodes s.e s.codes → GoodCodes s.e codes → sheet_fault (recoded s codes) ≡ sheet_fault s
unfolding sheet_fault counts_ok successors_ok sets_ok blanks_ok reached_ok step
recoded_fault s codes g h =
    rw (good_distinct s.e s.codes g, good_blank s.e s.codes g, good_distinct s.e codes h, good_blank s.e codes h)

-- the codes of an accepted sheet are good
pub accepted_codes : (s : Sheet) → sheet_fault s ≡ 0 → GoodCodes s.e s.codes
accepted_codes s h = let o = check_sound s h in ((λ w. o.codes_differ w.0 w.1 w.2 w.3 w.4 w.5), o.unused_code)

-- the codes of version 1 are good
pub first_good : (e : ℕ) → e ≤ 12 → GoodCodes e (first_codes e)
first_good e h = ((λ w. w.4 (omega (arith, used w.0 w.2, used w.1 w.3, w.5))), free)
  where
    used : (i : ℕ) → i < e → code_at (first_codes e) i ≡ i + 1
    used i l = get_or_up_to (λ i. cond (ltb i e) (i + 1) 0) 12 i 0 (omega arith) ∙ rw (lt-ltb i e l)

    free : (i : ℕ) → e ≤ i → i < 12 → code_at (first_codes e) i ≡ 0
    free i k l = get_or_up_to (λ i. cond (ltb i e) (i + 1) 0) 12 i 0 l ∙ rw (le-ltb i e k)

-- the sheet of given rows has the codes of version 1
pub with_first : (rows : List Row) (e n : ℕ) → e ≤ 12 → HasFirstCodes (sheet_with rows e n)
with_first rows e n h i l = get_or_up_to (λ i. cond (ltb i e) (i + 1) 0) 12 i 0 (omega arith) ∙ rw (lt-ltb i e l)

-- an accepted sheet is accepted with the codes of version 1
pub first_accepted : (s : Sheet) → sheet_fault s ≡ 0 → sheet_fault (recoded s (first_codes s.e)) ≡ 0
first_accepted s h = recoded_fault s (first_codes s.e) (accepted_codes s h) (first_good s.e (check_sound s h).ranges.e_high) ∙ h

-- of two sheets alike but for codes the one, with the codes of the other, is the other
pub recoded_is : (s t : Sheet) → s.rows ≡ t.rows → s.e ≡ t.e → s.n ≡ t.n → recoded s t.codes ≡ t
recoded_is s t p q r = λ i. record { rows = p i; e = q i; n = r i; codes = t.codes }

-- bytes of version 1 have the codes of version 1
pub first_spelled : (b : List ℕ) → version b ≡ 1 → codes_of b ≡ first_codes (event_count b)
unfolding code_of
first_spelled b v = up_to_ext (code_of b) (λ i. cond (ltb i (event_count b)) (i + 1) 0) 12 (λ i l. rw (ne_eqb (version b) 2 (λ p. omega arith)))

-- a sheet agrees with itself
pub agree_self : (s : Sheet) → Agree s s
agree_self s = (refl, λ i l. refl)
