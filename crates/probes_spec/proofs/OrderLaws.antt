-- Nothing to believe: laws. The order of the probe list is strict and total, and goes by how many events a set has.
use Rattle.std.specs.Prelude.{◌≡◌, ◌⊎◌, ◌↔◌, ◌≢◌, ℕ, ◌≤◌, ◌<◌}
use Rattle.std.proofs.Common.{sym, ◌∙◌, inl, inr, eq-or-lt_of_le, arith}
use Rattle.base.proofs.Truth.{lt_or_ge}
use Rattle.base.specs.Counted.{Counted}
use Rattle.events.specs.Bit.{bit}
use Rattle.events.specs.Size.{size}
use Rattle.events.proofs.SizeLaws.{size_only}
use Rattle.probes_spec.specs.Probes.{Before}

-- no set comes before itself
pub before_never : (X : ℕ) → ¬ Before X X
before_never X (inl l) = omega arith
before_never X (inr w) = omega (arith, w.1)

-- what comes before one that comes before a third comes before that
pub before_through : (X Y Z : ℕ) → Before X Y → Before Y Z → Before X Z
before_through X Y Z (inl a) (inl b) = inl (omega arith)
before_through X Y Z (inl a) (inr b) = inl (omega (arith, b.0))
before_through X Y Z (inr a) (inl b) = inl (omega (arith, a.0))
before_through X Y Z (inr a) (inr b) = inr (a.0 ∙ b.0, omega (arith, a.1, b.1))

-- of two different sets one comes before the other
pub before_either : (X Y : ℕ) → X ≢ Y → Before X Y ⊎ Before Y X
before_either X Y n = go (lt_or_ge (size X) (size Y)) (lt_or_ge X Y)
  where
    go : (size X < size Y) ⊎ (size Y ≤ size X) → (X < Y) ⊎ (Y ≤ X) → Before X Y ⊎ Before Y X
    go (inl l) k = inl (inl l)
    go (inr l) k = pick (eq-or-lt_of_le l) k
      where
        pick : (size Y ≡ size X) ⊎ (size Y < size X) → (X < Y) ⊎ (Y ≤ X) → Before X Y ⊎ Before Y X
        pick (inr h) k = inr (inl h)
        pick (inl e) (inl k) = inl (inr (sym e, k))
        pick (inl e) (inr k) = inr (inr (e, omega (arith, n)))

-- one set comes before another exactly if a list of its events is shorter, or as long and its number is lower
pub before_means : (X Y a b : ℕ) → X < 65536 → Y < 65536 → Counted (λ i. bit X i ≡ 1) a → Counted (λ i. bit Y i ≡ 1) b
    → Before X Y ↔ ((a < b) ⊎ ((a ≡ b) × (X < Y)))
before_means X Y a b k l c d = rw (size_only X a k c, size_only Y b l d) ((λ h. h), λ h. h)
