-- Nothing to believe: words for laws alone. What 02, K11, says of the two sheets, of a node's events and of its sets.
-- MeaningLaws says that the two sheets are so, and that no other accepted sheet is.
use Rattle.std.specs.Prelude.{◌≡◌, [], ◌∷◌, ℕ, ◌+◌, ◌<◌}
use Rattle.sheet_spec.specs.declared.Sheet.{Sheet}
use Rattle.sheet_spec.specs.Kept.{row, successor, acceptances}
use Rattle.sheet_spec.specs.Encoding.{HasFirstCodes}

-- the reference of p nodes
pub record IsReference (p : ℕ) (s : Sheet) : Type 0 where
  -- two events, p nodes, the codes of version 1
  pub events : s.e ≡ 2
  pub nodes : s.n ≡ p
  pub codes : HasFirstCodes s
  -- it stays on 0, climbs on 1, and at its last node knows only 0
  pub stays : (v : ℕ) → v < p → successor (row s v) 0 ≡ v
  pub climbs : (v : ℕ) → v + 1 < p → successor (row s v) 1 ≡ v + 1
  pub ends : (v : ℕ) → v + 1 ≡ p → successor (row s v) 1 ≡ 255
  -- it may insist on either alone, and at its last node has that event as its one set
  pub either : (v : ℕ) → v + 1 < p → acceptances (row s v) ≡ 1 ∷ (2 ∷ [])
  pub one : (v : ℕ) → v + 1 ≡ p → acceptances (row s v) ≡ 1 ∷ []

-- the device of q nodes
pub record IsDevice (q : ℕ) (s : Sheet) : Type 0 where
  -- two events, q nodes, the codes of version 1
  pub events : s.e ≡ 2
  pub nodes : s.n ≡ q
  pub codes : HasFirstCodes s
  -- it does only 0 to climb its nodes, and only 1 at the last, back to its first
  pub climbs : (v : ℕ) → v + 1 < q → successor (row s v) 0 ≡ v + 1
  pub not_one : (v : ℕ) → v + 1 < q → successor (row s v) 1 ≡ 255
  pub not_zero : (v : ℕ) → v + 1 ≡ q → successor (row s v) 0 ≡ 255
  pub returns : (v : ℕ) → v + 1 ≡ q → successor (row s v) 1 ≡ 0
  -- a node has its one event as its one set
  pub zero : (v : ℕ) → v + 1 < q → acceptances (row s v) ≡ 1 ∷ []
  pub one : (v : ℕ) → v + 1 ≡ q → acceptances (row s v) ≡ 2 ∷ []
