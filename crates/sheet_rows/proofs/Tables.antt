-- The table of successors, filled row by row.
use mathlib.Core.Path.{◌≡◌, sym, ap, ◌∙◌}
use mathlib.Core.List.{List, [], ◌∷◌, ◌++◌, append_assoc}
use Rattle.std.proofs.Common.{append-nil}
use native.Mathlib.Nat.{add-zero}
use Prim.Native.Nat.{ℕ, zero, suc, ◌+◌, ◌-◌, ◌*◌, ◌<◌}
use native.Mathlib.Omega.{arith}
use lib.Arith.{digits_div, digits_mod}
use lib.ListN.{get_or, length, take, drop, replicate, length-append, length-replicate}
use Rattle.std.proofs.lemmas.List.{take_at, drop-replicate}
use Rattle.std.proofs.Math.Seq.{drop-append-add}
use Rattle.base.specs.Table.{up_to}
use Rattle.base.proofs.Table.{length_up_to, up_to_all, up_to_ext}
use Rattle.base.proofs.Loops.{Filling}
use Rattle.sheet_spec.specs.declared.Row.{Row}
use Rattle.sheet_spec.specs.Kept.{no_row, successor}
use Rattle.sheet_rows.specs.Tables.{flat_at}

-- a table of so many places, and of the places after them
more : {A : Type 0} (f : ℕ → A) (m n : ℕ) → up_to f m ++ up_to (λ i. f (m + i)) n ≡ up_to f (m + n)
unfolding up_to
more f m zero = rw (append-nil, add-zero)
more f m (suc n) =
    let e : m + suc n ≡ suc (m + n) = omega arith in
    rw e (sym (append_assoc (up_to f m) (up_to (λ i. f (m + i)) n) (f (m + n) ∷ [])) ∙ ap (λ l. l ++ (f (m + n) ∷ [])) (more f m n))

-- the successors of node v are what the table has at its places
row_is : (rows : List Row) (v : ℕ) → length (get_or rows v no_row).succ ≡ 12 → (get_or rows v no_row).succ ≡ up_to (λ i. flat_at rows (v * 12 + i)) 12
unfolding flat_at successor
row_is rows v q = sym (up_to_all _ 12 255 q) ∙ up_to_ext _ _ 12 (λ i l. rw (digits_div v {m = 12} l, digits_mod v {m = 12} l))

-- the places of one node more are filled
pub row_stored : (rows : List Row) {v : ℕ} {t out : List ℕ} → Filling (flat_at rows) 255 384 (v * 12) t → v < 32 → length out ≡ 384
    → out ≡ take (v * 12) t ++ (get_or rows v no_row).succ ++ drop (v * 12 + 12) t → Filling (flat_at rows) 255 384 ((v + 1) * 12) out
row_stored rows {v} {t} {out} h l n p =
    let f : ℕ → ℕ = flat_at rows in
    let b : List ℕ = replicate (384 - v * 12) 255 in
    let s : List ℕ = (get_or rows v no_row).succ in
    let front : take (v * 12) t ≡ up_to f (v * 12) = rw h.holds (take_at (up_to f (v * 12)) b (v * 12) (length_up_to f (v * 12))) in
    let rest : drop (v * 12 + 12) t ≡ replicate (384 - v * 12 - 12) 255 =
    rw h.holds (ap (λ k. drop (k + 12) (up_to f (v * 12) ++ b)) (sym (length_up_to f (v * 12))) ∙ drop-append-add (up_to f (v * 12)) b 12 ∙ drop-replicate 12 (384 - v * 12) 255) in
    let whole : out ≡ up_to f (v * 12) ++ s ++ replicate (384 - v * 12 - 12) 255 = p ∙ rw (front, rest) in
    let sizes : length out ≡ v * 12 + length s + (384 - v * 12 - 12) =
    ap length whole ∙ length-append (up_to f (v * 12) ++ s) (replicate (384 - v * 12 - 12) 255) ∙ rw (length-append (up_to f (v * 12)) s, length_up_to f (v * 12), length-replicate) in
    let e : (v + 1) * 12 ≡ v * 12 + 12 = omega arith in
    let d : 384 - v * 12 - 12 ≡ 384 - (v * 12 + 12) = omega arith in
    let same : s ≡ up_to (λ i. f (v * 12 + i)) 12 = row_is rows v (omega (arith, sizes, n)) in
    rw e (record {
      below = omega arith;
      holds = whole ∙ rw (same, d) (ap (λ k. k ++ replicate (384 - (v * 12 + 12)) 255) (more f (v * 12) 12));
    })
