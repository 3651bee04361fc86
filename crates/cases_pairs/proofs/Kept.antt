-- A sheet that was read without refusal is accepted.
use Rattle.std.specs.Prelude.{◌≡◌, List, ℕ}
use Rattle.std.proofs.Common.{sym, ap, ◌∙◌}
use Rattle.sheet_spec.specs.declared.Sheet.{Sheet}
use Rattle.sheet_spec.specs.declared.ReadSheet.{ReadSheet}
use Rattle.sheet_spec.specs.Refusals.{sheet_fault}
use Rattle.sheet_spec.specs.Reading.{accepted, read_sheet}
use Rattle.sheet_spec.proofs.AnswerLaws.{read_kept}

pub kept_fault : (b : List ℕ) {s : Sheet} → accepted s ≡ read_sheet b → sheet_fault s ≡ 0
kept_fault b {s} e =
    ap (λ (x : ReadSheet). sheet_fault x.sheet) e ∙ read_kept b (ap (λ (x : ReadSheet). x.refusal) (sym e))
