-- Nothing to believe: laws of iterator chains over the numbers below a bound, and of arrays made place by place.
use Rattle.std.specs.Prelude.{◌≡◌, Bool, true, false, ◌&&◌, ◌||◌, List, ℕ, zero, suc, ◌+◌, ◌<◌, Option}
use Rattle.std.proofs.Math.Path.{refl}
use Rattle.std.proofs.Math.ListN.{get_or}
use Rattle.std.proofs.Common.{sym, ◌∙◌, ap, arith}
use Rattle.std.specs.List.{range_with_len, list_all, list_any, FoldsTo}
use Rattle.std.specs.Option.{MatchOption}
use Rattle.std.specs.Fn.{Called}
use Rattle.std.specs.declared.ops.Range.{Range}
use Rattle.std.specs.Iterator.{YieldsThen}
use Rattle.std.proofs.iter.Yields.{nat_range_steps}
use Rattle.std.proofs.lemmas.Iterator.{YieldsList-from_range}
use Rattle.std.proofs.lemmas.Iterator.Search.{all_from_yields_List, any_from_yields_List}
use denote.Param.Members.{Mut}
use Rattle.std.specs.Array.{IsFromFnResult, IsFromFnResultFrom}
use Rattle.base.specs.Range.{all, any}
use Rattle.base.specs.Table.{up_to}
use Rattle.base.proofs.Table.{up_to_all, up_to_ext}
use Rattle.base.proofs.Range.{all_ext, any_ext}

-- a test of all numbers below a bound, the first apart
all_front : (f : ℕ → Bool) (n : ℕ) → all f (suc n) ≡ f 0 && all (λ i. f (suc i)) n
unfolding all
all_front f zero = grind arith
all_front f (suc n) = rw (all_front f n) (grind arith)

any_front : (f : ℕ → Bool) (n : ℕ) → any f (suc n) ≡ f 0 || any (λ i. f (suc i)) n
unfolding any
any_front f zero = grind arith
any_front f (suc n) = rw (any_front f n) (grind arith)

-- a test at every number of a range, from its first on
all_from : (f : ℕ → Bool) (a n : ℕ) → list_all f (range_with_len a n) ≡ all (λ i. f (a + i)) n
unfolding all
all_from f a zero = refl
all_from f a (suc n) = ap (λ b. f a && b) (all_from f (a + 1) n ∙ all_ext (λ i. f (a + 1 + i)) (λ i. f (a + suc i)) n (λ i l. ap f (omega arith))) ∙ ap (λ k. f k && all (λ i. f (a + suc i)) n) (omega arith) ∙ sym (all_front (λ i. f (a + i)) n)

any_from : (f : ℕ → Bool) (a n : ℕ) → list_any f (range_with_len a n) ≡ any (λ i. f (a + i)) n
unfolding any
any_from f a zero = refl
any_from f a (suc n) = ap (λ b. f a || b) (any_from f (a + 1) n ∙ any_ext (λ i. f (a + 1 + i)) (λ i. f (a + suc i)) n (λ i l. ap f (omega arith))) ∙ ap (λ k. f k || any (λ i. f (a + suc i)) n) (omega arith) ∙ sym (any_front (λ i. f (a + i)) n)

-- `(0..n).all(test)` and `(0..n).any(test)`, by the closure's test
module _ {F : Type 0} {g : Mut F (ℕ × Unit {0}) Bool} {s : Range ℕ} (test : ℕ → Bool) (n : ℕ) (e : s ≡ record { start = 0; end = n }) where
  pub all_below : {u : Range ℕ} {f : F} {r : Bool} → (xs : List ℕ) × (o : Option ℕ) × (j : F) × YieldsThen nat_range_steps s xs o u × FoldsTo (λ p x q. Called g p (x, tt) true q) f xs j × MatchOption o (r ≡ true) (λ x. (r ≡ false) × ((h : F) × Called g j (x, tt) false h)) → ((x : ℕ) (b : Bool) (q : F) → Called g f (x, tt) b q → (q ≡ f) × (b ≡ test x)) → r ≡ all test n
  all_below ran law = all_from_yields_List test _ _ _ ran (YieldsList-from_range 0 n n e (omega arith)) law ∙ all_from test 0 n ∙ all_ext (λ i. test (0 + i)) test n (λ i l. ap test (omega arith))

  pub any_below : {u : Range ℕ} {f : F} {r : Bool} → (xs : List ℕ) × (o : Option ℕ) × (j : F) × YieldsThen nat_range_steps s xs o u × FoldsTo (λ p x q. Called g p (x, tt) false q) f xs j × MatchOption o (r ≡ false) (λ x. (r ≡ true) × ((h : F) × Called g j (x, tt) true h)) → ((x : ℕ) (b : Bool) (q : F) → Called g f (x, tt) b q → (q ≡ f) × (b ≡ test x)) → r ≡ any test n
  any_below ran law = any_from_yields_List test _ _ _ ran (YieldsList-from_range 0 n n e (omega arith)) law ∙ any_from test 0 n ∙ any_ext (λ i. test (0 + i)) test n (λ i l. ap test (omega arith))

-- `from_fn`, by the closure's answer at each place
module _ {F B : Type 0} {g : Mut F (ℕ × Unit {0}) B} {c : F} (ys : List B) (f : ℕ → B) (law : (x : ℕ) (y : B) (q : F) → Called g c (x, tt) y q → (q ≡ c) × (y ≡ f x)) where
  made_from : (i n : ℕ) → IsFromFnResultFrom g c ys i n → (k : ℕ) (d : B) → k < n → get_or ys (i + k) d ≡ f (i + k)
  made_from i zero w k d l = absurd (omega arith)
  made_from i (suc n) w zero d l = let e : i + 0 ≡ i = omega arith in rw e (w.2.1 d ∙ (law i w.1 w.0 w.3).1)
  made_from i (suc n) w (suc k) d l =
      let e : i + suc k ≡ i + 1 + k = omega arith in
      rw e (made_from (i + 1) n (rw (law i w.1 w.0 w.3).0 at w.4) k d (omega arith))

  pub made_by : (n : ℕ) → IsFromFnResult g c ys n → ys ≡ up_to f n
  made_by n made =
      sym (up_to_all ys n (f 0) made.long) ∙ up_to_ext (λ i. get_or ys i (f 0)) f n (λ i l. ap (λ k. get_or ys k (f 0)) (omega arith) ∙ made_from 0 n made.each i (f 0) l ∙ ap f (omega arith))
