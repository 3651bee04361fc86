-- Nothing to believe: laws. What reading answers: the number of the refusal; with it 0 in every place, without it the
-- sheet that the bytes spell.
use Rattle.std.specs.Prelude.{◌≡◌, refl, ◌≢◌, List, ℕ, replicate}
use Rattle.std.proofs.Common.{sym, ◌∙◌, arith, ext_get_or, eq-eqb, ne_eqb}
use Rattle.std.proofs.lemmas.List.{length-replicate, get_or-replicate}
use Rattle.sheet_spec.specs.declared.Row.{Row}
use Rattle.sheet_spec.specs.declared.Sheet.{Sheet}
use Rattle.sheet_spec.specs.Kept.{no_row, row}
use Rattle.sheet_spec.specs.Refusals.{bytes_fault, sheet_fault}
use Rattle.sheet_spec.specs.Reading.{zero_sheet, answer, read_sheet, ZeroRow, Zero}
use Rattle.sheet_spec.proofs.Accepted.{read_accepted}
use Rattle.sheet_spec.proofs.Written.{row_path, sheet_path}

-- the row of zeros
abbrev zeros : Row
zeros = record { succ = replicate 12 0; sets = replicate 16 0; c = 0 }

zero_row : ZeroRow zeros
zero_row = record {
  succs = length-replicate {A = ℕ} 12 0;
  succ_zero = λ i l. get_or-replicate {A = ℕ} 12 i 0 255 l;
  sets = length-replicate {A = ℕ} 16 0;
  set_zero = λ j l. get_or-replicate {A = ℕ} 16 j 0 255 l;
  c_zero = refl;
}

zero_sheet_lem : Zero zero_sheet
zero_sheet_lem = record {
  rows = length-replicate {A = Row} 32 zeros;
  each = λ v l. rw (get_or-replicate {A = Row} 32 v zeros no_row l) zero_row;
  e_zero = refl;
  n_zero = refl;
  codes = length-replicate {A = ℕ} 12 0;
  code_zero = λ i l. get_or-replicate {A = ℕ} 12 i 0 255 l;
}

-- 0 in every place is that sheet and no other
zero_row_only : (r : Row) → ZeroRow r → r ≡ zeros
zero_row_only r z =
    row_path r zeros (ext_get_or 255 r.succ (replicate 12 0) z.succs (λ i l. z.succ_zero i (omega (arith, l, z.succs)) ∙ sym (get_or-replicate {A = ℕ} 12 i 0 255 (omega (arith, l, z.succs)))))
    (ext_get_or 255 r.sets (replicate 16 0) z.sets (λ j l. z.set_zero j (omega (arith, l, z.sets)) ∙ sym (get_or-replicate {A = ℕ} 16 j 0 255 (omega (arith, l, z.sets))))) z.c_zero

pub zero_only : (s : Sheet) → Zero s → s ≡ zero_sheet
zero_only s z =
    sheet_path s zero_sheet
    (ext_get_or no_row s.rows (replicate 32 zeros) z.rows (λ v l. zero_row_only (row s v) (z.each v (omega (arith, l, z.rows))) ∙ sym (get_or-replicate {A = Row} 32 v zeros no_row (omega (arith, l, z.rows)))))
    z.e_zero z.n_zero
    (ext_get_or 255 s.codes (replicate 12 0) z.codes (λ i l. z.code_zero i (omega (arith, l, z.codes)) ∙ sym (get_or-replicate {A = ℕ} 12 i 0 255 (omega (arith, l, z.codes)))))

-- the number that is answered is the refusal's, 0 for none
pub read_refusal : (b : List ℕ) → (read_sheet b).refusal ≡ bytes_fault b
unfolding read_sheet answer
read_refusal b = refl

-- what is read without refusal, a later call accepts
pub read_kept : (b : List ℕ) → (read_sheet b).refusal ≡ 0 → sheet_fault (read_sheet b).sheet ≡ 0
unfolding read_sheet answer
read_kept b h = rw (eq-eqb (bytes_fault b) 0 h) (read_accepted b h)

-- a refused answer has 0 everywhere else
pub refused_zero : (b : List ℕ) → bytes_fault b ≢ 0 → Zero (read_sheet b).sheet
unfolding read_sheet answer
refused_zero b n = rw (ne_eqb (bytes_fault b) 0 n) zero_sheet_lem
