-- Nothing to believe: laws. The test of two texts passes exactly for the same text.
use Rattle.std.specs.Prelude.{◌≡◌, ◌≢◌, true, false, List, ℕ, eqb, length, get_or}
use Rattle.std.proofs.Common.{ap, ext_get_or, eqb-true, eq-eqb}
use Rattle.base.proofs.Truth.{and_l, and_r, and_i, not_i}
use Rattle.base.proofs.Range.{all→, all←}
use Rattle.words_spec.specs.Same.{agree_at, same_text}

pub same→ : (a b : List ℕ) → same_text a b ≡ true → a ≡ b
unfolding same_text agree_at
same→ a b h =
    ext_get_or 0 a b (eqb-true (length a) (length b) (and_l (eqb (length a) (length b)) _ h))
    (λ i l. eqb-true (get_or a i 0) (get_or b i 0) (all→ (agree_at a b) (length a) i (and_r (eqb (length a) (length b)) _ h) l))

pub same← : (a b : List ℕ) → a ≡ b → same_text a b ≡ true
unfolding same_text agree_at
same← a b e =
    and_i (eq-eqb (length a) (length b) (ap length e)) (all← (agree_at a b) (length a) (λ i l. eq-eqb (get_or a i 0) (get_or b i 0) (ap (λ (t : List ℕ). get_or t i 0) e)))

pub same_not : (a b : List ℕ) → a ≢ b → same_text a b ≡ false
same_not a b n = not_i (λ t. n (same→ a b t))
