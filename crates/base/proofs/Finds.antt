-- Nothing to believe: laws of a test and the fault that it looks for. The fault is said with "there is" and "for
-- every", the test can be run; it passes exactly if there is no such fault.
use Rattle.std.specs.Prelude.{◌≡◌, ◌⊎◌, ◌≢◌, Bool, true, false, not, ◌&&◌, ◌||◌, ℕ, ◌≤◌, ◌<◌, eqb, ltb, leb}
use Rattle.std.proofs.Common.{inl, inr, arith, ltb-true, ltb-false, leb-true, leb-false, eqb-true}
use Rattle.std.proofs.lemmas.Bool.{eqb-false, not-true, not-false}
use Rattle.base.proofs.Truth.{dec, clash, and_l, and_r, and_i, or_e, or_l, or_r, not_i}
use Rattle.base.specs.Range.{all}
use Rattle.base.proofs.Range.{all→, not_all}

-- the test `ok` passes exactly if there is no fault F
pub record Finds (ok : Bool) (F : Type 0) : Type 0 where
  pub clear : ok ≡ true → ¬ F
  pub fault : ok ≡ false → F

-- a test that finds a fault finds the same fault in other words
pub finds_as : {ok : Bool} {F G : Type 0} → Finds ok F → (F → G) → (G → F) → Finds ok G
finds_as h f g = record { clear = λ t x. h.clear t (g x); fault = λ t. f (h.fault t) }

-- where there is no fault the test passes
pub finds_none : {ok : Bool} {F : Type 0} → Finds ok F → ¬ F → ok ≡ true
finds_none {ok} {F} h n = go (dec ok)
  where
    go : (ok ≡ true) ⊎ (ok ≡ false) → ok ≡ true
    go (inl t) = t
    go (inr t) = absurd (n (h.fault t))

-- tests that find a number that is too great, too small, or not the one
pub finds_le : (a b : ℕ) → Finds (leb a b) (b < a)
finds_le a b = record { clear = λ t x. omega (arith, leb-true a b t); fault = leb-false a b }

pub finds_lt : (a b : ℕ) → Finds (ltb a b) (b ≤ a)
finds_lt a b = record { clear = λ t x. omega (arith, ltb-true a b t); fault = ltb-false a b }

pub finds_eq : (a b : ℕ) → Finds (eqb a b) (a ≢ b)
finds_eq a b = record { clear = λ t x. x (eqb-true a b t); fault = eqb-false a b }

-- two tests in turn find a fault of either
pub finds_and : {a b : Bool} {F G : Type 0} → Finds a F → Finds b G → Finds (a && b) (F ⊎ G)
finds_and {a} {b} {F} {G} h k = record { clear = none; fault = λ t. pick t (dec a) }
  where
    none : (a && b) ≡ true → ¬ (F ⊎ G)
    none t (inl x) = h.clear (and_l a b t) x
    none t (inr x) = k.clear (and_r a b t) x

    pick : (a && b) ≡ false → (a ≡ true) ⊎ (a ≡ false) → F ⊎ G
    pick t (inl p) = inr (k.fault (not_i (λ q. clash (and_i p q) t)))
    pick t (inr p) = inl (h.fault p)

-- two tests of which one is enough find a fault of both
pub finds_or : {a b : Bool} {F G : Type 0} → Finds a F → Finds b G → Finds (a || b) (F × G)
finds_or {a} {b} {F} {G} h k = record { clear = λ t. none (or_e a b t); fault = both }
  where
    none : (a ≡ true) ⊎ (b ≡ true) → ¬ (F × G)
    none (inl p) x = h.clear p x.0
    none (inr p) x = k.clear p x.1

    both : (a || b) ≡ false → F × G
    both t = (h.fault (not_i (λ p. clash (or_l b p) t)), k.fault (not_i (λ p. clash (or_r a p) t)))

-- a test of every number below a bound finds a fault at one of them
pub finds_all : {f : ℕ → Bool} {F : ℕ → Type 0} (n : ℕ) → ((i : ℕ) → i < n → Finds (f i) (F i)) → Finds (all f n) ((i : ℕ) × (i < n) × F i)
finds_all {f} {F} n h = record { clear = none; fault = some }
  where
    none : all f n ≡ true → ¬ ((i : ℕ) × (i < n) × F i)
    none t (i, l, x) = (h i l).clear (all→ f n i t l) x

    some : all f n ≡ false → (i : ℕ) × (i < n) × F i
    some t = let w = not_all f n t in (w.0, w.1, (h w.0 w.1).fault w.2)

-- a test that must fail finds what makes it pass
pub finds_not : {ok : Bool} {F : Type 0} → (ok ≡ true → F) → (ok ≡ false → ¬ F) → Finds (not ok) F
finds_not {ok} h k = record { clear = λ t. k (not-true ok t); fault = λ t. h (not-false ok t) }
