-- Nothing to believe: laws. Codes play no part in a probe list but by the sheet's own refusal: sheets that are alike but
-- for codes get the same answer and leave the same list, wherever neither is refused.
use Rattle.std.specs.Prelude.{◌≡◌, List, ℕ}
use Rattle.sheet_spec.specs.declared.Sheet.{Sheet}
use Rattle.sheet_spec.specs.Kept.{recoded}
use Rattle.sheet_spec.specs.Refusals.{sheet_fault}
use Rattle.probes_spec.specs.Listing.{node_probes, list_fault, listed_of, list_after}

-- neither refused, two sheets alike but for codes get one answer and one list
pub recoded_list : (s : Sheet) (c : List ℕ) → sheet_fault s ≡ 0 → sheet_fault (recoded s c) ≡ 0 → (v : ℕ) (out : List ℕ)
    → (listed_of (recoded s c) v out ≡ listed_of s v out) × (list_after (recoded s c) v out ≡ list_after s v out)
unfolding listed_of list_after list_fault node_probes
recoded_list s c z y v out = (rw (z, y), rw (z, y))
