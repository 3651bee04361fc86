-- The loop over the acceptances of a row: what is left of the initials after each round.
use mathlib.Core.Path.{◌≡◌, refl, ap, ◌∙◌}
use mathlib.Core.Logic.{◌⊎◌, inl, inr}
use mathlib.Core.Bool.{Bool, true, false, not, ◌&&◌, ◌||◌, cond}
use Prim.Native.Nat.{ℕ, zero, suc, ◌+◌, ◌-◌, ◌/◌, ◌≤◌, ◌<◌}
use native.Mathlib.Numerals.{add-one}
use native.Mathlib.Omega.{arith}
use lib.Bits.{bit_and, and_step, and_le_l}
use lib.Dec.{eqb, ltb}
use Rattle.base.proofs.Truth.{lt_or_ge}
use Rattle.base.specs.Range.{any}
use Rattle.events.specs.Bit.{bit, set_of}
use Rattle.events.proofs.Bit.{bit·zero, bit·suc, bits_ext, bit_high, set_of_lt, bit_set_of}
use Rattle.events.specs.Sets.{has}
use Rattle.events.proofs.Sets.{has→, has_not}
use Rattle.events.proofs.Gathered.{has_set_of, set_of_ext}
use Rattle.sheet_spec.specs.declared.Row.{Row}
use Rattle.sheet_spec.specs.Kept.{successor, acceptance, initials}
use Rattle.text_sheet_spec.specs.Node.{optional}
use Rattle.probe_list_lines.specs.Shapes.{without, unaccepted}

-- an event stays in x if it is not in y
pub bit_without : (i x y : ℕ) → bit (without x y) i ≡ bit x i - bit y i
unfolding without
bit_without zero x y = rw (bit·zero (x - bit_and x y), bit·zero x, bit·zero y) (omega (arith, and_step x y, and_le_l x y))
bit_without (suc i) x y =
    bit·suc (x - bit_and x y) i ∙ ap (λ (z : ℕ). bit z i) half ∙ bit_without i (x / 2) (y / 2) ∙ rw (bit·suc x i, bit·suc y i)
  where
    half : (x - bit_and x y) / 2 ≡ x / 2 - bit_and (x / 2) (y / 2)
    half = omega (arith, and_step x y, and_le_l x y, and_le_l (x / 2) (y / 2))

module _ (e : ℕ) (r : Row) where
  -- before the first round all initials are left
  pub rest_none : initials e r ≡ unaccepted e r 0
  unfolding initials unaccepted any
  rest_none = set_of_ext f (λ i. has (set_of f 12) i && true) 12 (λ i l. rw (has_set_of f 12 i l) (and_true (f i)))
    where
      f : ℕ → Bool
      f i = ltb i e && not (eqb (successor r i) 255)

      and_true : (b : Bool) → b ≡ (b && true)
      and_true true = refl
      and_true false = refl

  -- a round takes the events of one acceptance more
  pub rest_more : {x y : ℕ} (j : ℕ) → x ≡ unaccepted e r j → y ≡ acceptance r j → without x y ≡ unaccepted e r (j + 1)
  unfolding unaccepted any
  rest_more {x} {y} j p q = rw (p, q, add-one j) (bits_ext (without (set_of f 12) (acceptance r j)) (set_of g 12) (λ i. bit_without i (set_of f 12) (acceptance r j) ∙ at i (lt_or_ge i 12)))
    where
      held : ℕ → ℕ → Bool
      held k i = any (λ j. has (acceptance r j) i) k

      f : ℕ → Bool
      f i = has (initials e r) i && not (held j i)

      g : ℕ → Bool
      g i = has (initials e r) i && not (held j i || has (acceptance r j) i)

      digit : (a b t : Bool) (d : ℕ) → (t ≡ true → d ≡ 1) → (t ≡ false → d ≡ 0) → cond (a && not b) 1 0 - d ≡ cond (a && not (b || t)) 1 0
      digit true true t d m n = omega arith
      digit true false true d m n = omega (arith, m refl)
      digit true false false d m n = omega (arith, n refl)
      digit false b t d m n = omega arith

      at : (i : ℕ) → (i < 12) ⊎ (12 ≤ i) → bit (set_of f 12) i - bit (acceptance r j) i ≡ bit (set_of g 12) i
      at i (inl l) =
          rw (bit_set_of f 12 i l, bit_set_of g 12 i l)
          (digit (has (initials e r) i) (held j i) (has (acceptance r j) i) (bit (acceptance r j) i) (has→ (acceptance r j) i) (has_not (acceptance r j) i))
      at i (inr l) = omega (arith, bit_high 12 i (set_of f 12) (set_of_lt f 12) l, bit_high 12 i (set_of g 12) (set_of_lt g 12) l)

  -- after all rounds the optional events are left
  pub rest_all : (k : ℕ) → k ≤ r.c → r.c ≤ k → unaccepted e r k ≡ optional e r
  unfolding unaccepted optional
  rest_all k a b = let q : k ≡ r.c = omega arith in rw q
