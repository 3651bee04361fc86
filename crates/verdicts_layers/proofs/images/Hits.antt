-- What it means that a layer has a pair among the words.
use mathlib.Core.Path.{◌≡◌, sym, ◌∙◌}
use mathlib.Core.Logic.{◌⊎◌, inl, inr}
use mathlib.Core.Bool.{Bool, true, ◌&&◌}
use mathlib.Core.List.{List}
use Prim.Native.Nat.{ℕ, ◌≤◌, ◌<◌}
use native.Mathlib.Omega.{arith}
use lib.ListN.{get_or}
use Rattle.base.proofs.Truth.{lt_or_ge, and_l, and_r, and_i, same}
use Rattle.base.specs.Range.{any}
use Rattle.base.proofs.Range.{any→, any←, any_ext}
use Rattle.events.specs.Bit.{bit, set_of}
use Rattle.events.proofs.Bit.{bit_high, set_of_lt}
use Rattle.events.specs.Sets.{has, meets}
use Rattle.events.proofs.Sets.{has→, has←, meets→, meets←}
use Rattle.events.proofs.Gathered.{has_set_of}
use Rattle.verdicts_layers.specs.ImageShapes.{layer_hits}

-- a set meets a gathered one exactly if some node is in it and passes the test
meets_set_of : (x q : ℕ) (f : ℕ → Bool) → meets x (set_of f q) ≡ any (λ m. has x m && f m) q
meets_set_of x q f = same (meets x (set_of f q)) (any (λ m. has x m && f m) q) forth back
  where
    go : (m : ℕ) → bit x m ≡ 1 → bit (set_of f q) m ≡ 1 → (m < q) ⊎ (q ≤ m) → any (λ m. has x m && f m) q ≡ true
    go m a b (inl l) = any← (λ m. has x m && f m) q m l (and_i (has← x m a) (sym (has_set_of f q m l) ∙ has← (set_of f q) m b))
    go m a b (inr l) = absurd (omega (arith, bit_high q m (set_of f q) (set_of_lt f q) l))

    forth : meets x (set_of f q) ≡ true → any (λ m. has x m && f m) q ≡ true
    forth t = let w = meets→ x (set_of f q) t in go w.0 w.1 w.2 (lt_or_ge w.0 q)

    back : any (λ m. has x m && f m) q ≡ true → meets x (set_of f q) ≡ true
    back t =
        let w = any→ (λ m. has x m && f m) q t in
        meets← x (set_of f q) w.0 (has→ x w.0 (and_l (has x w.0) (f w.0) w.2))
        (has→ (set_of f q) w.0 (has_set_of f q w.0 w.1 ∙ and_r (has x w.0) (f w.0) w.2))

-- some pair of a layer is among the words exactly if some pair of it passes the test
pub hits_is : (p q : ℕ) → p ≤ 32 → (l ws : List ℕ) (f : ℕ → ℕ → Bool) → ((n : ℕ) → n < 32 → get_or ws n 0 ≡ set_of (f n) q)
    → layer_hits l ws p ≡ any (λ n. any (λ m. has (get_or l n 0) m && f n m) q) p
unfolding layer_hits
hits_is p q small l ws f h =
    any_ext (λ n. meets (get_or l n 0) (get_or ws n 0)) (λ n. any (λ m. has (get_or l n 0) m && f n m) q) p
    (λ n k. rw (h n (omega arith)) (meets_set_of (get_or l n 0) q (f n)))
