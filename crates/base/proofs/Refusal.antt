-- Nothing to believe: laws of what specs/Refusal.antt defines.
use Rattle.std.specs.Prelude.{◌≡◌, refl, Bool, true, false, ◌⊎◌, ◌≢◌, ◌↔◌, ℕ, zero, suc, ◌<◌}
use Rattle.std.proofs.Common.{sym, inl, inr, arith}
use Rattle.base.proofs.Finds.{Finds}
use Rattle.base.specs.Refusal.{or_else, unless}

-- no refusal: the rule holds, and what follows refuses nothing
pub unless→ : (t : Bool) (k r : ℕ) → unless t (suc k) r ≡ 0 → (t ≡ true) × (r ≡ 0)
unless→ true k r p = (refl, p)
unless→ false k r p = absurd (omega arith)

pub unless← : {t : Bool} (k : ℕ) {r : ℕ} → t ≡ true → r ≡ 0 → unless t k r ≡ 0
unless← k p q = rw (p, q)

pub or_else→ : (k r : ℕ) → or_else k r ≡ 0 → (k ≡ 0) × (r ≡ 0)
or_else→ zero r p = (refl, p)
or_else→ (suc k) r p = absurd (omega arith)

pub or_else_some : (k r : ℕ) → 0 < k → or_else k r ≡ k
or_else_some zero r h = absurd (omega arith)
or_else_some (suc k) r h = refl

-- three parts in turn, taken together as one likes
pub or_else_assoc : (k l r : ℕ) → or_else k (or_else l r) ≡ or_else (or_else k l) r
or_else_assoc zero l r = refl
or_else_assoc (suc k) l r = refl

-- a refusal's number comes from its own rule, if none after it gives the same
pub unless_hit : {ok : Bool} {F : Type 0} (k r : ℕ) → Finds ok F → r ≢ k → (unless ok k r ≡ k) ↔ F
unless_hit {ok} {F} k r h n = (go ok refl, back ok refl)
  where
    go : (b : Bool) → ok ≡ b → unless b k r ≡ k → F
    go true t p = absurd (n p)
    go false t p = h.fault t

    back : (b : Bool) → ok ≡ b → F → unless b k r ≡ k
    back true t x = absurd (h.clear t x)
    back false t x = refl

-- of a rule and what follows, another number than the rule's comes from what follows, if the rule is kept
pub unless_pass : {ok : Bool} {F : Type 0} (k r m : ℕ) → Finds ok F → k ≢ m → (unless ok k r ≡ m) ↔ ((¬ F) × (r ≡ m))
unless_pass {ok} {F} k r m h n = (go ok refl, back ok refl)
  where
    go : (b : Bool) → ok ≡ b → unless b k r ≡ m → (¬ F) × (r ≡ m)
    go true t p = (h.clear t, p)
    go false t p = absurd (n p)

    back : (b : Bool) → ok ≡ b → (¬ F) × (r ≡ m) → unless b k r ≡ m
    back true t x = x.1
    back false t x = absurd (x.0 (h.fault t))

-- the last rule gives no refusal exactly if it is kept
pub unless_none : {ok : Bool} {F : Type 0} (k : ℕ) → Finds ok F → k ≢ 0 → (unless ok k 0 ≡ 0) ↔ (¬ F)
unless_none k h n = let w = unless_pass k 0 0 h n in ((λ x. (w.0 x).0), λ y. w.1 (y, refl))

-- a number that neither a rule nor what follows gives
pub unless_other : {k r m : ℕ} (ok : Bool) → k ≢ m → r ≢ m → unless ok k r ≢ m
unless_other true p q = q
unless_other false p q = p

-- of two parts in turn, a number that only the first gives, and one that only the second gives
pub or_else_first : (k r m : ℕ) → m ≢ 0 → r ≢ m → (or_else k r ≡ m) ↔ (k ≡ m)
or_else_first k r m z n = (go k, back k)
  where
    go : (k : ℕ) → or_else k r ≡ m → k ≡ m
    go zero p = absurd (n p)
    go (suc k) p = p

    back : (k : ℕ) → k ≡ m → or_else k r ≡ m
    back zero p = absurd (z (sym p))
    back (suc k) p = p

pub or_else_then : (k r m : ℕ) → k ≢ m ⊎ (m ≡ 0) → (or_else k r ≡ m) ↔ ((k ≡ 0) × (r ≡ m))
or_else_then k r m n = (go k n, back k)
  where
    go : (k : ℕ) → k ≢ m ⊎ (m ≡ 0) → or_else k r ≡ m → (k ≡ 0) × (r ≡ m)
    go zero n p = (refl, p)
    go (suc k) (inl n) p = absurd (n p)
    go (suc k) (inr n) p = absurd (omega arith)

    back : (k : ℕ) → (k ≡ 0) × (r ≡ m) → or_else k r ≡ m
    back zero p = p.1
    back (suc k) p = absurd (omega (arith, p.0))

-- of two parts in turn, a number that both can give
pub or_else_either : (k r m : ℕ) → m ≢ 0 → (or_else k r ≡ m) ↔ ((k ≡ m) ⊎ ((k ≡ 0) × (r ≡ m)))
or_else_either k r m z = (go k, back k)
  where
    go : (k : ℕ) → or_else k r ≡ m → (k ≡ m) ⊎ ((k ≡ 0) × (r ≡ m))
    go zero p = inr (refl, p)
    go (suc k) p = inl p

    back : (k : ℕ) → (k ≡ m) ⊎ ((k ≡ 0) × (r ≡ m)) → or_else k r ≡ m
    back zero (inl p) = absurd (z (sym p))
    back zero (inr p) = p.1
    back (suc k) (inl p) = p
    back (suc k) (inr p) = absurd (omega (arith, p.0))

pub or_else_other : {m : ℕ} (k r : ℕ) → k ≢ m → r ≢ m → or_else k r ≢ m
or_else_other zero r p q = q
or_else_other (suc k) r p q = p
