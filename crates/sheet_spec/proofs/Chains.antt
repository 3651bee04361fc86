-- Nothing to believe: steps of proofs, here and in crates above: along a chain of refusals, what is known of the
-- numbers before a number.
use Rattle.std.specs.Prelude.{◌≡◌, ◌⊎◌, ◌≢◌, ◌↔◌, ℕ, ◌≤◌, ◌<◌}
use Rattle.std.proofs.Common.{inl, inr, arith}
use Rattle.std.proofs.Math.Decide.{ℕ_discrete}

-- one rule more is kept, and the last part is another fact
pub further : {X A B C D : Type 0} → X ↔ (A × B) → (A → B ↔ (C × D)) → X ↔ ((A × C) × D)
further p q =
    ((λ x. let a = p.0 x in let c = (q a.0).0 a.1 in ((a.0, c.0), c.1)), λ y. p.1 (y.0.0, (q y.0.0).1 (y.0.1, y.1)))

pub finally : {X A B C : Type 0} → X ↔ (A × B) → (A → B ↔ C) → X ↔ (A × C)
finally p q = ((λ x. let a = p.0 x in (a.0, (q a.0).0 a.1)), λ y. p.1 (y.0, (q y.0).1 y.1))

-- a number above k, or none
abbrev pub Above : ℕ → ℕ → Type 0
Above k m = (k < m) ⊎ (m ≡ 0)

pub less : {j k m : ℕ} → j ≤ k → Above k m → Above j m
less l (inl h) = inl (omega arith)
less l (inr h) = inr h

pub above : {j k m : ℕ} → 0 < j → j ≤ k → Above k m → j ≢ m
above z l (inl h) p = omega arith
above z l (inr h) p = omega arith

-- a number that is not found to differ is the one
pub settled : (a b : ℕ) → ¬ (a ≢ b) → a ≡ b
settled a b f = go (ℕ_discrete a b)
  where
    go : Dec (a ≡ b) → a ≡ b
    go (yes e) = e
    go (no n) = absurd (f n)
