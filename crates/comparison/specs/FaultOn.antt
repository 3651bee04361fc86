-- Nothing to believe: for the proofs of this crate. The refusal of a comparison by the lengths of its two lists, and
-- that it is the definition's.
use Rattle.std.specs.Prelude.{◌≡◌, refl, List, ℕ, ◌-◌, leb, length}
use Rattle.base.specs.Refusal.{unless}
use Rattle.sheet_spec.specs.declared.Sheet.{Sheet}
use Rattle.sheet_spec.specs.Refusals.{pair_fault}
use Rattle.comparison_spec.specs.Comparison.{pair_count, work_words, compare_fault}

-- the refusal of a comparison, by the lengths of the two lists
unfoldable pub fault_on : Sheet → Sheet → ℕ → ℕ → ℕ
fault_on P Q words places =
    pair_fault P Q
    (unless (leb (work_words P Q) words) 12
    (unless (leb (pair_count P Q - 1) places) 13 0))

-- the refusal by the lengths of two lists is the definition's
pub fault_is : (P Q : Sheet) (work trace : List ℕ) → fault_on P Q (length work) (length trace) ≡ compare_fault P Q work trace
unfolding fault_on compare_fault
fault_is P Q work trace = refl
