-- Nothing to believe: laws. In a strict order the same numbers make one list.
use Rattle.std.specs.Prelude.{◌≡◌, refl, ◌↔◌, List, [], ◌∷◌, ℕ, zero, suc, ◌<◌, length, get_or}
use Rattle.std.proofs.Common.{sym, ap₂, ◌∙◌, arith}
use Rattle.base.specs.Sorted.{In, Sorted}

-- a list in an order in which nothing comes before itself has nothing twice
pub sorted_once : (before : ℕ → ℕ → Type 0) → ((a : ℕ) → ¬ before a a) → (l : List ℕ) → Sorted before l → (x y : ℕ) → x < y → y < length l → ¬ (get_or l x 0 ≡ get_or l y 0)
sorted_once before never l s x y k h e = never (get_or l y 0) (rw e at (s x y k h))

module _ (before : ℕ → ℕ → Type 0) (never : (a : ℕ) → ¬ before a a) (through : (a b c : ℕ) → before a b → before b c → before a c) where
  -- the rest of a list in an order is in that order
  rest : (a : ℕ) (l : List ℕ) → Sorted before (a ∷ l) → Sorted before l
  rest a l s x y k h = s (suc x) (suc y) (omega arith) (omega arith)

  -- what stands behind the first comes after it
  behind : (a c : ℕ) (l : List ℕ) → Sorted before (a ∷ l) → In l c → before a c
  behind a c l s (x, h, e) = rw e at (s 0 (suc x) (omega arith) (omega arith))

  -- two lists in a strict order in which the same numbers stand are one
  pub sorted_one : (l m : List ℕ) → Sorted before l → Sorted before m → ((a : ℕ) → In l a ↔ In m a) → l ≡ m
  sorted_one [] [] s t h = refl
  sorted_one [] (b ∷ m) s t h = let w = (h b).1 (0, omega arith, refl) in absurd (omega (arith, w.1))
  sorted_one (a ∷ l) [] s t h = let w = (h a).0 (0, omega arith, refl) in absurd (omega (arith, w.1))
  sorted_one (a ∷ l) (b ∷ m) s t h = ap₂ ◌∷◌ first (sorted_one l m (rest a l s) (rest b m t) (λ c. (later a b l m c s (sym first) (λ i. (h c).0 i), later b a m l c t first (λ i. (h c).1 i))))
    where
      first : a ≡ b
      first = go ((h a).0 (0, omega arith, refl)) ((h b).1 (0, omega arith, refl))
        where
          go : In (b ∷ m) a → In (a ∷ l) b → a ≡ b
          go (zero, i, e) j = sym e
          go (suc x, i, e) (zero, j, q) = q
          go (suc x, i, e) (suc y, j, q) = absurd (never a (through a b a (behind a b l s (y, omega arith, q)) (behind b a m t (x, omega arith, e))))

      later : (a b : ℕ) (l m : List ℕ) (c : ℕ) → Sorted before (a ∷ l) → b ≡ a → (In (a ∷ l) c → In (b ∷ m) c) → In l c → In m c
      later a b l m c s e k i = go (k (suc i.0, omega (arith, i.1), i.2))
        where
          go : In (b ∷ m) c → In m c
          go (zero, j, q) = absurd (never a (rw (sym q ∙ e) at (behind a c l s i)))
          go (suc x, j, q) = (x, omega arith, q)
