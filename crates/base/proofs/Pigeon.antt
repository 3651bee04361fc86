-- Nothing to believe: laws of what specs/Pigeon.antt defines.
use Rattle.std.specs.Prelude.{◌≡◌, ◌≢◌, ◌⊎◌, true, false, cond, ℕ, zero, suc, ◌≤◌, ◌<◌, eqb}
use Rattle.std.proofs.Common.{sym, ◌∙◌, inl, inr, arith, eqb-true, eq-eqb, ne_eqb}
use Rattle.std.proofs.Math.Decide.{ℕ_discrete}
use Rattle.std.proofs.lemmas.Bool.{eqb-false}
use Rattle.base.proofs.Truth.{dec}
use Rattle.base.specs.Range.{any}
use Rattle.base.proofs.Range.{any→, not_any}
use Rattle.base.specs.Pigeon.{Twice}

pub pigeonhole : (n : ℕ) (f : ℕ → ℕ) → ((i : ℕ) → i ≤ n → f i < n) → Twice f n
pigeonhole zero f h = absurd (omega (arith, h 0 (omega arith)))
pigeonhole (suc n) f h = go (dec (any (λ i. eqb (f i) (f (suc n))) (suc n))) (pigeonhole n)
  where
    -- the value n is given away for the last value
    g : ℕ → ℕ
    g i = cond (eqb (f i) n) (f (suc n)) (f i)

    g_n : (i : ℕ) → f i ≡ n → g i ≡ f (suc n)
    g_n i e = rw (eq-eqb (f i) n e)

    g_o : (i : ℕ) → f i ≢ n → g i ≡ f i
    g_o i e = rw (ne_eqb (f i) n e)

    go : (any (λ i. eqb (f i) (f (suc n))) (suc n) ≡ true) ⊎ (any (λ i. eqb (f i) (f (suc n))) (suc n) ≡ false)
        → ((f : ℕ → ℕ) → ((i : ℕ) → i ≤ n → f i < n) → Twice f n) → Twice f (suc n)
    go (inl t) ih = let w = any→ _ (suc n) t in (w.0, suc n, w.1, omega arith, eqb-true _ _ w.2)
    go (inr t) ih = back (ih g small)
      where
        differ : (i : ℕ) → i ≤ n → f i ≢ f (suc n)
        differ i l = eqb-false _ _ (not_any (λ i. eqb (f i) (f (suc n))) (suc n) i t (omega arith))

        small : (i : ℕ) → i ≤ n → g i < n
        small i l = pick (ℕ_discrete (f i) n)
          where
            pick : Dec (f i ≡ n) → g i < n
            pick (yes e) = omega (arith, g_n i e, h (suc n) (omega arith), differ i l)
            pick (no e) = omega (arith, g_o i e, h i (omega arith))

        back : Twice g n → Twice f (suc n)
        back w = (w.0, w.1, w.2, omega (arith, w.3), pick (ℕ_discrete (f w.0) n) (ℕ_discrete (f w.1) n))
          where
            pick : Dec (f w.0 ≡ n) → Dec (f w.1 ≡ n) → f w.0 ≡ f w.1
            pick (yes p) (yes q) = p ∙ sym q
            pick (yes p) (no q) = absurd (differ w.1 w.3 (sym (g_o w.1 q) ∙ sym w.4 ∙ g_n w.0 p))
            pick (no p) (yes q) = absurd (differ w.0 (omega (arith, w.2, w.3)) (sym (g_o w.0 p) ∙ w.4 ∙ g_n w.1 q))
            pick (no p) (no q) = sym (g_o w.0 p) ∙ w.4 ∙ g_o w.1 q
