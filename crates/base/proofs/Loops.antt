-- Nothing to believe: laws of loops that count up: one that fills a table place by place, and one that leaves at the
-- first place where a test fails.
use Rattle.std.specs.Prelude.{◌≡◌, Bool, true, false, not, List, ◌++◌, ℕ, ◌+◌, ◌-◌, ◌≤◌, ◌<◌, set, replicate}
use Rattle.std.proofs.Math.Path.{refl}
use Rattle.std.proofs.Common.{sym, ◌∙◌, append-nil, arith}
use Rattle.std.proofs.Math.Nat.{sub-zero}
use Rattle.std.proofs.lemmas.Bool.{not-true, not-false}
use Rattle.base.specs.Range.{all}
use Rattle.base.proofs.Range.{all_more, all_stop, all_done}
use Rattle.base.specs.Table.{up_to}
use Rattle.base.proofs.Table.{fill_next}

-- of the n places of a list the first i hold f, the others z
pub record Filling {A : Type 0} (f : ℕ → A) (z : A) (n i : ℕ) (o : List A) : Type 0 where
  pub below : i ≤ n
  pub holds : o ≡ up_to f i ++ replicate (n - i) z

module _ {A : Type 0} {f : ℕ → A} {z : A} {n : ℕ} where
  pub empty : Filling f z n 0 (replicate n z)
  unfolding up_to
  empty = record { below = omega arith; holds = rw sub-zero }

  pub stored : {i : ℕ} {o : List A} {x : A} → Filling f z n i o → i < n → x ≡ f i → Filling f z n (i + 1) (set o i x)
  stored {i} h l p = record { below = omega arith; holds = rw (h.holds, p) (fill_next f z i n l) }

  pub filled : {i : ℕ} {o : List A} → Filling f z n i o → n ≤ i → o ≡ up_to f n
  filled {i} h l = let e : i ≡ n = omega arith in let w : n - i ≡ 0 = omega arith in h.holds ∙ rw (w, append-nil, e)

-- of the n places that a test is to pass at, it does at the first j
pub record Passing (f : ℕ → Bool) (n j : ℕ) : Type 0 where
  pub below : j ≤ n
  pub passed : all f j ≡ true

module _ {f : ℕ → Bool} {n : ℕ} where
  pub starts : Passing f n 0
  unfolding all
  starts = record { below = omega arith; passed = refl }

  pub stops : {j : ℕ} {t : Bool} → Passing f n j → j < n → t ≡ f j → not t ≡ true → false ≡ all f n
  stops {j} {t} h l p q = sym (all_stop f n j l (sym p ∙ not-true t q))

  pub goes_on : {j : ℕ} {t : Bool} → Passing f n j → j < n → t ≡ f j → not t ≡ false → Passing f n (j + 1)
  goes_on {j} {t} h l p q = record { below = omega arith; passed = all_more f j h.passed (sym p ∙ not-false t q) }

  pub ends : {j : ℕ} → Passing f n j → n ≤ j → true ≡ all f n
  ends {j} h l = sym (all_done f n j l h.below h.passed)
