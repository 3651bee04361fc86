-- A text over 4,096 zeros is kept as it should be.
use mathlib.Core.Path.{◌≡◌, ap, ◌∙◌}
use mathlib.Core.List.{List, ◌++◌}
use Prim.Native.Nat.{ℕ, zero, suc, ◌-◌, ◌≤◌}
use native.Mathlib.Omega.{arith}
use lib.ListN.{length, drop, replicate, length-replicate}
use Rattle.text_spec.specs.Adds.{Holds}
use Rattle.text_spec.proofs.AddsLaws.{over_fits}
use Rattle.compare_lines_spec.specs.declared.Text.{Text}
use Rattle.compare_lines_spec.specs.Program.{kept_text}

drop_zeros : (k n : ℕ) → drop {A = ℕ} k (replicate n 0) ≡ replicate (n - k) 0
drop_zeros zero n = rw (minus n)
  where
    minus : (n : ℕ) → n - 0 ≡ n
    minus n = omega arith
drop_zeros (suc k) zero = rw (minus k)
  where
    minus : (k : ℕ) → 0 - suc k ≡ 0
    minus k = omega arith
drop_zeros (suc k) (suc n) = drop_zeros k n ∙ rw (minus k n)
  where
    minus : (k n : ℕ) → suc n - suc k ≡ n - k
    minus k n = omega arith

-- a text that fits over 4,096 zeros is kept as it should be
pub kept_is : (text : List ℕ) {out' : List ℕ} {r : ℕ} (out : List ℕ) → out ≡ replicate 4096 0 → length text ≤ 4096 → Holds out text out' r
    → ◌≡◌ {A = Text} (record { bytes = out'; len = r }) (kept_text text)
unfolding kept_text
kept_is text {out'} {r} out z h p =
    let l : length out ≡ 4096 = ap length z ∙ length-replicate {A = ℕ} 4096 0 in
    let e : r ≡ length text = omega (arith, p.1) in
    let f : out' ≡ text ++ replicate (4096 - length text) 0 = p.0 ∙ over_fits text out (omega arith) ∙ ap (λ (o : List ℕ). text ++ o) (ap (drop (length text)) z ∙ drop_zeros (length text) 4096) in
    rw (e, f)
