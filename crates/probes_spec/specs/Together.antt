-- Nothing to believe: words for laws alone. What a probe for several nodes is (02, K10), in words of the nodes and their
-- acceptances, with no list in them.
use Rattle.std.specs.Prelude.{◌≡◌, ℕ, ◌≤◌, ◌<◌}
use Rattle.events.specs.Bit.{bit, Within, Apart}
use Rattle.sheet_spec.specs.declared.Sheet.{Sheet}
use Rattle.sheet_spec.specs.Kept.{row, acceptance}

-- node v is one of the set X, and on the sheet
abbrev pub Named : Sheet → ℕ → ℕ → Type 0
Named s X v = (v < s.n) × (bit X v ≡ 1)

-- some node of X may refuse Y: one of its acceptances has no event in Y
abbrev pub SomeRefuses : Sheet → ℕ → ℕ → Type 0
SomeRefuses s X Y = (v : ℕ) × Named s X v × ((j : ℕ) × (j < (row s v).c) × Apart (acceptance (row s v) j) Y)

-- Y is a probe for the nodes of X: none of them may refuse it, and of the sets inside it Y alone is such
pub record Together (s : Sheet) (X Y : ℕ) : Type 0 where
  pub met : ¬ SomeRefuses s X Y
  pub minimal : (Z : ℕ) → Within Z Y → ¬ SomeRefuses s X Z → Z ≡ Y

-- what 29 is given for: no node is named, or one that is not on the sheet
abbrev pub NoneNamed : ℕ → Type 0
NoneNamed X = (v : ℕ) → ¬ (bit X v ≡ 1)

abbrev pub Foreign : Sheet → ℕ → Type 0
Foreign s X = (v : ℕ) × (s.n ≤ v) × (bit X v ≡ 1)
