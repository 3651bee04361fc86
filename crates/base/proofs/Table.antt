-- Nothing to believe: laws of what specs/Table.antt defines.
use Rattle.std.specs.Prelude.{◌≡◌, ◌⊎◌, length, set, replicate}
use Rattle.std.proofs.Math.Path.{refl}
use Rattle.std.proofs.Common.{sym, ◌∙◌, inl, inr, eq-or-lt_of_le, ext_get_or}
use mathlib.Core.List.{List, [], ◌∷◌, ◌++◌, append_assoc}
use Prim.Native.Nat.{ℕ, zero, suc, ◌+◌, ◌-◌, ◌<◌}
use Rattle.std.proofs.Math.Numerals.{add-one}
use native.Mathlib.Omega.{arith}
use Rattle.std.proofs.Math.ListN.{get_or, length-append, get_or-append}
use Rattle.std.proofs.Math.Seq.{set_at}
use Rattle.std.proofs.lemmas.List.{get_or_at}
use Rattle.base.specs.Table.{up_to}

module _ {A : Type 0} where
  pub length_up_to : (f : ℕ → A) (n : ℕ) → length (up_to f n) ≡ n
  unfolding up_to
  length_up_to f zero = refl
  length_up_to f (suc n) = length-append (up_to f n) (f n ∷ []) ∙ omega (arith, length_up_to f n)

  pub get_or_up_to : (f : ℕ → A) (n i : ℕ) (d : A) → i < n → get_or (up_to f n) i d ≡ f i
  unfolding up_to
  get_or_up_to f zero i d l = absurd (omega arith)
  get_or_up_to f (suc n) i d l = go (eq-or-lt_of_le l) (λ h. get_or_up_to f n i d h)
    where
      go : (suc i ≡ suc n) ⊎ (suc i < suc n) → (i < n → get_or (up_to f n) i d ≡ f i) → get_or (up_to f n ++ (f n ∷ [])) i d ≡ f i
      go (inl e) ih = let q : i ≡ n = omega arith in rw q (get_or_at (up_to f n) (f n) [] d n (length_up_to f n))
      go (inr h) ih = get_or-append (up_to f n) (f n ∷ []) d i (omega (arith, length_up_to f n)) ∙ ih (omega arith)

  -- a loop that stores f i at i, over a list that held z
  pub fill_next : (f : ℕ → A) (z : A) (i n : ℕ) → i < n → set (up_to f i ++ replicate (n - i) z) i (f i) ≡ up_to f (i + 1) ++ replicate (n - (i + 1)) z
  unfolding up_to
  fill_next f z i n h =
      let k : n - i ≡ suc (n - (i + 1)) = omega arith in
      rw (k, set_at (up_to f i) z (replicate (n - (i + 1)) z) (f i) i (length_up_to f i), add-one i, append_assoc (up_to f i) (f i ∷ []) (replicate (n - suc i) z))

  pub up_to_ext : (f g : ℕ → A) (n : ℕ) → ((i : ℕ) → i < n → f i ≡ g i) → up_to f n ≡ up_to g n
  unfolding up_to
  up_to_ext f g zero h = refl
  up_to_ext f g (suc n) h = rw (up_to_ext f g n (λ i l. h i (omega arith)), h n (omega arith))

  -- a list of n elements is what its places hold
  pub up_to_all : (l : List A) (n : ℕ) (d : A) → length l ≡ n → up_to (λ i. get_or l i d) n ≡ l
  up_to_all l n d e = ext_get_or d (up_to (λ i. get_or l i d) n) l (length_up_to (λ i. get_or l i d) n ∙ sym e) (λ i h. get_or_up_to (λ i. get_or l i d) n i d (omega (arith, length_up_to (λ i. get_or l i d) n)))
