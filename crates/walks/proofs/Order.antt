-- Nothing to believe: laws of what specs/Order.antt defines.
use Rattle.std.specs.Prelude.{◌≡◌, ◌⊎◌, ℕ, ◌+◌, ◌*◌, ◌≤◌, ◌<◌}
use Rattle.std.proofs.Math.Path.{refl}
use Rattle.std.proofs.Common.{sym, ◌∙◌, arith, mul-le-mul_right}
use Rattle.std.proofs.Math.Logic.{inl, inr}
use mathlib.Core.List.{List, [], ◌∷◌, ◌++◌}
use Rattle.std.proofs.Math.Nat.{mul-le-mul_left}
use Rattle.std.proofs.Math.ListN.{length}
use Rattle.base.proofs.Truth.{lt_or_ge}
use Rattle.walks.specs.Graph.{Below}
use Rattle.walks.specs.Order.{Lex, rank, rank_from}

pub lex_refl : (t : List ℕ) → Lex t t
lex_refl [] = tt
lex_refl (a ∷ t) = inr (refl, lex_refl t)

pub lex_antisym : (s t : List ℕ) → length s ≡ length t → Lex s t → Lex t s → s ≡ t
lex_antisym [] [] e x y = refl
lex_antisym [] (b ∷ t) e x y = absurd (omega arith)
lex_antisym (a ∷ s) [] e x y = absurd (omega arith)
lex_antisym (a ∷ s) (b ∷ t) e (inl x) (inl y) = absurd (omega arith)
lex_antisym (a ∷ s) (b ∷ t) e (inl x) (inr y) = absurd (omega (arith, y.0))
lex_antisym (a ∷ s) (b ∷ t) e (inr x) (inl y) = absurd (omega (arith, x.0))
lex_antisym (a ∷ s) (b ∷ t) e (inr x) (inr y) = let p = x.0 in let q = lex_antisym s t (omega arith) x.1 y.1 in cc

-- of three lists in event order the first and the last are in order
pub lex_trans : (s t u : List ℕ) → Lex s t → Lex t u → Lex s u
lex_trans [] t u x y = tt
lex_trans (a ∷ s) [] u x y = absurd x
lex_trans (a ∷ s) (b ∷ t) [] x y = absurd y
lex_trans (a ∷ s) (b ∷ t) (c ∷ u) (inl x) (inl y) = inl (omega arith)
lex_trans (a ∷ s) (b ∷ t) (c ∷ u) (inl x) (inr y) = inl (omega (arith, y.0))
lex_trans (a ∷ s) (b ∷ t) (c ∷ u) (inr x) (inl y) = inl (omega (arith, x.0))
lex_trans (a ∷ s) (b ∷ t) (c ∷ u) (inr x) (inr y) = inr (x.0 ∙ y.0, lex_trans s t u x.1 y.1)

pub lex_total : (s t : List ℕ) → length s ≡ length t → (Lex s t) ⊎ (Lex t s)
lex_total [] t e = inl tt
lex_total (a ∷ s) [] e = absurd (omega arith)
lex_total (a ∷ s) (b ∷ t) e = go (lt_or_ge a b) (lt_or_ge b a) (lex_total s t (omega arith))
  where
    go : (a < b) ⊎ (b ≤ a) → (b < a) ⊎ (a ≤ b) → (Lex s t) ⊎ (Lex t s) → (Lex (a ∷ s) (b ∷ t)) ⊎ (Lex (b ∷ t) (a ∷ s))
    go (inl l) k ih = inl (inl l)
    go (inr l) (inl k) ih = inr (inl k)
    go (inr l) (inr k) (inl x) = inl (inr (omega arith, x))
    go (inr l) (inr k) (inr x) = inr (inr (omega arith, x))

module _ (E : ℕ) where
  pub rank_from_append : (a : ℕ) (s t : List ℕ) → rank_from E a (s ++ t) ≡ rank_from E (rank_from E a s) t
  unfolding rank_from
  rank_from_append a [] t = refl
  rank_from_append a (i ∷ s) t = rank_from_append (a * E + i + 1) s t

  pub rank_snoc : (t : List ℕ) (i : ℕ) → rank E (t ++ (i ∷ [])) ≡ rank E t * E + i + 1
  unfolding rank rank_from
  rank_snoc t i = rank_from_append 0 t (i ∷ [])

  pub digit_lt : (a b i j : ℕ) → a < b → i < E → a * E + i + 1 < b * E + j + 1
  digit_lt a b i j h l = omega (arith, mul-le-mul_right E h)

  pub digit_le : (a b i : ℕ) → a ≤ b → a * E + i + 1 ≤ b * E + i + 1
  digit_le a b i h = omega (arith, mul-le-mul_right E h)

  pub rank_lt : (a b : ℕ) (s t : List ℕ) → a < b → length s ≡ length t → Below E s → rank_from E a s < rank_from E b t
  unfolding rank_from
  rank_lt a b [] [] h e l = h
  rank_lt a b [] (j ∷ t) h e l = absurd (omega arith)
  rank_lt a b (i ∷ s) [] h e l = absurd (omega arith)
  rank_lt a b (i ∷ s) (j ∷ t) h e l = rank_lt (a * E + i + 1) (b * E + j + 1) s t (digit_lt a b i j h l.0) (omega arith) l.1

  -- among lists of one length the number `rank_from` grows with the event order
  pub rank_lex : (a : ℕ) (s t : List ℕ) → Lex s t → length s ≡ length t → Below E s → (s ≡ t) ⊎ (rank_from E a s < rank_from E a t)
  unfolding rank_from
  rank_lex a [] [] x e l = inl refl
  rank_lex a [] (j ∷ t) x e l = absurd (omega arith)
  rank_lex a (i ∷ s) [] x e l = absurd x
  rank_lex a (i ∷ s) (j ∷ t) (inl h) e l = inr (rank_lt (a * E + i + 1) (a * E + j + 1) s t (omega arith) (omega arith) l.1)
  rank_lex a (i ∷ s) (j ∷ t) (inr h) e l = go (rank_lex (a * E + i + 1) s t h.1 (omega arith) l.1)
    where
      go : (s ≡ t) ⊎ (rank_from E (a * E + i + 1) s < rank_from E (a * E + i + 1) t) → (i ∷ s ≡ j ∷ t) ⊎ (rank_from E (a * E + i + 1) s < rank_from E (a * E + j + 1) t)
      go (inl q) = inl (let p = h.0 in cc)
      go (inr q) = inr (rw (← h.0) q)

  rank_le : (a b : ℕ) (t : List ℕ) → a ≤ b → rank_from E a t ≤ rank_from E b t
  unfolding rank_from
  rank_le a b [] h = h
  rank_le a b (i ∷ t) h = rank_le (a * E + i + 1) (b * E + i + 1) t (digit_le a b i h)

  -- a shorter list has the smaller number
  pub rank_short : (a : ℕ) (s t : List ℕ) → 0 < E → length s < length t → Below E s → rank_from E a s < rank_from E a t
  unfolding rank_from
  rank_short a s [] p h l = absurd (omega arith)
  rank_short a s (j ∷ t) p h l = go (lt_or_ge (length s) (length t)) (λ (k : length s < length t). rank_short a s t p k l)
    where
      grows : a < a * E + j + 1
      grows = omega (arith, mul-le-mul_left a p)

      go : (length s < length t) ⊎ (length t ≤ length s) → (length s < length t → rank_from E a s < rank_from E a t) → rank_from E a s < rank_from E (a * E + j + 1) t
      go (inl k) ih = omega (arith, ih k, rank_le a (a * E + j + 1) t (omega (arith, grows)))
      go (inr k) ih = rank_lt a (a * E + j + 1) s t grows (omega arith) l

  -- a list whose number is no greater is no longer
  pub rank_length : (s t : List ℕ) → 0 < E → Below E t → rank E s ≤ rank E t → length s ≤ length t
  unfolding rank
  rank_length s t p l h = go (lt_or_ge (length t) (length s))
    where
      go : (length t < length s) ⊎ (length s ≤ length t) → length s ≤ length t
      go (inl k) = absurd (omega (arith, rank_short 0 t s p k l))
      go (inr k) = k

  -- of two lists of one length, the one with the number that is no greater is no later in event order
  pub rank_lex← : (s t : List ℕ) → length s ≡ length t → Below E t → rank E s ≤ rank E t → Lex s t
  unfolding rank
  rank_lex← s t e l h = go (lex_total s t e)
    where
      go : (Lex s t) ⊎ (Lex t s) → Lex s t
      go (inl x) = x
      go (inr x) = pick (rank_lex 0 t s x (sym e) l)
        where
          pick : (t ≡ s) ⊎ (rank_from E 0 t < rank_from E 0 s) → Lex s t
          pick (inl q) = rw q (lex_refl s)
          pick (inr q) = absurd (omega arith)
