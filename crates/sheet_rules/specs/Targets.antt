-- Nothing to believe: for the proofs of this crate. The nodes to which a row leads, as a set: what is in it, node by
-- node.
use Rattle.std.specs.Prelude.{◌≡◌, refl, ◌⊎◌, Bool, true, false, ◌||◌, cond, ℕ, zero, suc, ◌^◌, ◌≤◌, ◌<◌, max, eqb, ltb}
use Rattle.std.proofs.Common.{sym, ap, ◌∙◌, inl, inr, arith, lt-ltb, le-ltb, eq-eqb, ne_eqb}
use Rattle.std.proofs.Math.Decide.{ℕ_discrete}
use Rattle.std.specs.Int.Bits.{bit_or}
use Rattle.base.proofs.Truth.{lt_or_ge}
use Rattle.base.specs.Range.{any}
use Rattle.events.specs.Bit.{bit, set_of}
use Rattle.events.proofs.Bit.{bits_ext, bits_zero, bit_or_lem, bit_one, bit_other, bit_high, set_of_lt, bit_set_of}
use Rattle.sheet_spec.specs.declared.Row.{Row}
use Rattle.sheet_spec.specs.Kept.{successor}
use Rattle.sheet_rules.specs.RowShapes.{node_added, targets}

-- a digit of a set of nodes with one added
added : (x u v : ℕ) → v < 32 → bit (node_added x u) v ≡ max (bit x v) (cond (eqb u v) 1 0)
unfolding node_added
added x u v l = go (lt_or_ge u 32) (ℕ_discrete u v)
  where
    go : (u < 32) ⊎ (32 ≤ u) → Dec (u ≡ v) → bit (cond (ltb u 32) (bit_or x (2 ^ u)) x) v ≡ max (bit x v) (cond (eqb u v) 1 0)
    go (inl h) (yes e) = rw (lt-ltb u 32 h, eq-eqb u v e, ← e) (bit_or_lem u x (2 ^ u) ∙ ap (max (bit x u)) (bit_one u))
    go (inl h) (no n) = rw (lt-ltb u 32 h, ne_eqb u v n) (bit_or_lem v x (2 ^ u) ∙ ap (max (bit x v)) (bit_other u v n))
    go (inr h) (yes e) = absurd (omega arith)
    go (inr h) (no n) = rw (le-ltb u 32 h, ne_eqb u v n) (omega arith)

-- a node from 32 on is never added
added_high : (x u v : ℕ) → 32 ≤ v → bit (node_added x u) v ≡ bit x v
unfolding node_added
added_high x u v l = go (lt_or_ge u 32)
  where
    go : (u < 32) ⊎ (32 ≤ u) → bit (cond (ltb u 32) (bit_or x (2 ^ u)) x) v ≡ bit x v
    go (inl h) = rw (lt-ltb u 32 h) (omega (arith, bit_or_lem v x (2 ^ u), bit_other u v (λ e. omega arith)))
    go (inr h) = rw (le-ltb u 32 h)

or_digit : (a b : Bool) → max (cond a 1 0) (cond b 1 0) ≡ cond (a || b) 1 0
or_digit true true = refl
or_digit true false = refl
or_digit false true = refl
or_digit false false = refl

-- node v is in the set if some event below e leads to it
pub bit_targets : (e : ℕ) (r : Row) (v : ℕ) → v < 32 → bit (targets e r) v ≡ cond (any (λ i. eqb (successor r i) v) e) 1 0
unfolding targets any
bit_targets zero r v l = bits_zero v
bit_targets (suc e) r v l =
    added (targets e r) (successor r e) v l ∙ ap (λ (x : ℕ). max x (cond (eqb (successor r e) v) 1 0)) (bit_targets e r v l)
    ∙ or_digit (any (λ i. eqb (successor r i) v) e) (eqb (successor r e) v)

pub bit_targets_high : (e : ℕ) (r : Row) (v : ℕ) → 32 ≤ v → bit (targets e r) v ≡ 0
unfolding targets
bit_targets_high zero r v l = bits_zero v
bit_targets_high (suc e) r v l = added_high (targets e r) (successor r e) v l ∙ bit_targets_high e r v l

pub targets_is : (e : ℕ) (r : Row) → targets e r ≡ set_of (λ v. any (λ i. eqb (successor r i) v) e) 32
targets_is e r = bits_ext (targets e r) (set_of f 32) (λ v. go v (lt_or_ge v 32))
  where
    f : ℕ → Bool
    f v = any (λ i. eqb (successor r i) v) e

    go : (v : ℕ) → (v < 32) ⊎ (32 ≤ v) → bit (targets e r) v ≡ bit (set_of f 32) v
    go v (inl l) = bit_targets e r v l ∙ sym (bit_set_of f 32 v l)
    go v (inr l) = bit_targets_high e r v l ∙ sym (bit_high 32 v (set_of f 32) (set_of_lt f 32) l)
