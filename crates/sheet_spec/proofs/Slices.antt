-- Nothing to believe: steps of proofs. Lists read from a place on: what `drop` leaves there says what each later place
-- holds.
use Rattle.std.specs.Prelude.{◌≡◌, refl, List, [], ◌∷◌, ◌++◌, ℕ, zero, suc, ◌+◌, ◌≤◌, ◌<◌, length, get_or, drop}
use Rattle.std.proofs.Common.{sym, ap, ◌∙◌, add-one, add-zero, arith, length-drop, drop-cons, drop-drop, drop_at, get_or-drop}
use Rattle.base.specs.Table.{up_to}
use Rattle.base.proofs.Table.{up_to_ext, up_to_all}

module _ {A : Type 0} where
  -- at a place inside a list the default is not read
  pub get_d_inside : (l : List A) (i : ℕ) (d d' : A) → i < length l → get_or l i d ≡ get_or l i d'
  get_d_inside [] i d d' h = absurd (omega arith)
  get_d_inside (x ∷ l) zero d d' h = refl
  get_d_inside (x ∷ l) (suc i) d d' h = get_d_inside l i d d' (omega arith)

  -- a list of n elements is the table of what its places hold
  pub up_to_is : (f : ℕ → A) (l : List A) (n : ℕ) (d : A) → length l ≡ n → ((i : ℕ) → i < n → f i ≡ get_or l i d) → up_to f n ≡ l
  up_to_is f l n d e h = up_to_ext f (λ i. get_or l i d) n h ∙ up_to_all l n d e

  -- what the places from a place on hold, where what is left there is known
  pub get_d_tail : (b x : List A) (at i : ℕ) (d : A) → drop at b ≡ x → get_or b (at + i) d ≡ get_or x i d
  get_d_tail b x at i d h = sym (get_or-drop at b i d) ∙ ap (λ (l : List A). get_or l i d) h

  -- what is left after a part that stands at a place
  pub drop_tail : (b x y : List A) (at n : ℕ) → drop at b ≡ x ++ y → length x ≡ n → drop (at + n) b ≡ y
  drop_tail b x y at n h e = sym (drop-drop n at b) ∙ ap (λ (l : List A). drop n l) h ∙ drop_at x y n e

  -- a list is as long as the places before and from a place on
  pub length_tail : (b x : List A) (at : ℕ) → drop at b ≡ x → at ≤ length b → length b ≡ at + length x
  length_tail b x at h l = omega (arith, length-drop at b, ap length h)

  -- what is left at a place is two elements and what is left after them
  pub drop_two : (b : List A) (at : ℕ) (d : A) → at + 1 < length b → drop at b ≡ get_or b at d ∷ (get_or b (at + 1) d ∷ drop (at + 2) b)
  drop_two b at d h =
      let e : at + 2 ≡ suc (at + 1) = omega arith in
      drop-cons b at d (omega arith) ∙ ap (λ (l : List A). get_or b at d ∷ l) (rw (← add-one at, e) (drop-cons b (at + 1) d h))

  -- a list that holds the places of b from a place on, before what is left after them, is what is left there
  pub part_tail : (b x : List A) (at : ℕ) (d : A) → at + length x ≤ length b → ((i : ℕ) → i < length x → get_or x i d ≡ get_or b (at + i) d)
      → x ++ drop (at + length x) b ≡ drop at b
  part_tail b [] at d h f = rw add-zero
  part_tail b (a ∷ x) at d h f =
      let e : at + suc (length x) ≡ suc at + length x = omega arith in
      let p : a ≡ get_or b at d = rw add-zero at (f 0 (omega arith)) in
      let r = part_tail b x (suc at) d (omega arith) (λ i k. f (suc i) (omega arith) ∙ rw (next i)) in
      rw (p, e) (ap (λ (l : List A). get_or b at d ∷ l) r ∙ sym (drop-cons b at d (omega arith)))
    where
      next : (i : ℕ) → at + suc i ≡ suc at + i
      next i = omega arith
