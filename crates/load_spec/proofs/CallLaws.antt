-- Nothing to believe: laws. The call: when each refusal is given, what is answered, and what stands in the list; and
-- that it depends on nothing else.
use Rattle.std.specs.Prelude.{◌≡◌, ◌⊎◌, ◌↔◌, ◌≢◌, Bool, List, Ok, Err, eqb, length, get_or, take}
use Rattle.std.proofs.Math.Path.{refl}
use Rattle.std.proofs.Common.{sym, ap, ◌∙◌, length-take, get_or-take}
use Rattle.std.proofs.Math.Logic.{inl, inr}
use Rattle.std.proofs.Math.Bool.{true, false}
use Prim.Native.Nat.{ℕ, zero, suc, min, ◌≤◌, ◌<◌}
use native.Mathlib.Omega.{arith}
use borrow.Author.Tests.{eqb-true, eqb-false, eq-eqb, ne_eqb}
use Rattle.base.proofs.Truth.{dec, lt_or_ge}
use Rattle.base.proofs.Finds.{Finds, finds_le, finds_and, finds_not}
use Rattle.base.specs.Refusal.{unless, or_else}
use Rattle.base.proofs.Refusal.{unless_hit, unless_pass, unless_none, unless_other, or_else_first, or_else_then}
use Rattle.base.specs.Front.{at_front}
use Rattle.base.proofs.Front.{at_front_length, at_front_before, at_front_behind, at_front_taken}
use Rattle.sheet_spec.specs.declared.Sheet.{Sheet}
use Rattle.sheet_spec.specs.Kept.{recoded}
use Rattle.sheet_spec.specs.Refusals.{sheet_fault, Own, NotOwn}
use Rattle.sheet_spec.proofs.Chains.{further, finally}
use Rattle.sheet_spec.proofs.CheckLaws.{check_other, check_own, own_other}
use Rattle.load_spec.specs.Walks.{walk_of}
use Rattle.load_spec.specs.Calls.{seed_ok, wish_ok, walk_fault, walked_numbers, walk_length, walked_of, walk_after}
use Rattle.load_spec.proofs.WalkLaws.{walk_short, walk_front, recoded_walk}

-- the numbers of each case of an answer, for crates that may not unfold them
pub walked_numbers_length : (l : ℕ) → walked_numbers (Ok l) ≡ (0, l)
unfolding walked_numbers
walked_numbers_length l = refl

pub walked_numbers_denied : (k : ℕ) → walked_numbers (Err k) ≡ (k, 0)
unfolding walked_numbers
walked_numbers_denied k = refl

-- ---- the refusals

-- the test of the seed finds 0
seed_finds : (seed : ℕ) → Finds (seed_ok seed) (seed ≡ 0)
unfolding seed_ok
seed_finds seed = finds_not (λ t. eqb-true seed 0 t) (λ t. eqb-false seed 0 t)

-- the test of the wish finds a list that is shorter, or a wish that is too long
wish_finds : (wish : ℕ) (out : List ℕ) → Finds (wish_ok wish out) ((length out < wish) ⊎ (4096 < wish))
unfolding wish_ok
wish_finds wish out = finds_and (finds_le wish (length out)) (finds_le wish 4096)

module _ (s : Sheet) (seed wish : ℕ) (out : List ℕ) where
  -- what is tested after the seed, and after the sheet
  abbrev after27 : ℕ
  after27 = unless (wish_ok wish out) 28 0

  abbrev after_own : ℕ
  after_own = unless (seed_ok seed) 27 after27

  -- the sheet's own number is given exactly if the sheet has it, whatever else is handed over
  pub walk_own : (m : ℕ) → Own m → (walk_fault s seed wish out ≡ m) ↔ (sheet_fault s ≡ m)
  unfolding walk_fault
  walk_own m o =
      or_else_first (sheet_fault s) after_own m (λ z. omega (arith, o.0, z))
      (unless_other (seed_ok seed) (own_other o (omega arith, λ p. omega arith))
      (unless_other (wish_ok wish out) (own_other o (omega arith, λ p. omega arith)) (λ p. omega (arith, o.0))))

  sheet_passed : (m : ℕ) → NotOwn m ⊎ (m ≡ 0) → (walk_fault s seed wish out ≡ m) ↔ ((sheet_fault s ≡ 0) × (after_own ≡ m))
  unfolding walk_fault
  sheet_passed m (inl n) = or_else_then (sheet_fault s) after_own m (inl (check_other s m n))
  sheet_passed m (inr z) = or_else_then (sheet_fault s) after_own m (inr z)

  seed_passed : (m : ℕ) → NotOwn m ⊎ (m ≡ 0) → 27 ≢ m → (walk_fault s seed wish out ≡ m) ↔ (((sheet_fault s ≡ 0) × (seed ≢ 0)) × (after27 ≡ m))
  seed_passed m o n = further (sheet_passed m o) (λ f. unless_pass 27 after27 m (seed_finds seed) n)

  -- 27: of a sheet that is not refused, the seed is 0, whatever the wish and the list
  pub walk_27 : (walk_fault s seed wish out ≡ 27) ↔ ((sheet_fault s ≡ 0) × (seed ≡ 0))
  walk_27 =
      finally (sheet_passed 27 (inl (omega arith, λ p. omega arith)))
      (λ f. unless_hit 27 after27 (seed_finds seed) (unless_other (wish_ok wish out) (λ p. omega arith) (λ p. omega arith)))

  -- 28: a seed that is not 0, and a list shorter than the wish, however short the walk is, or a wish over 4,096
  pub walk_28 : (walk_fault s seed wish out ≡ 28) ↔ (((sheet_fault s ≡ 0) × (seed ≢ 0)) × ((length out < wish) ⊎ (4096 < wish)))
  walk_28 =
      finally (seed_passed 28 (inl (omega arith, λ p. omega arith)) (λ p. omega arith))
      (λ f. unless_hit 28 0 (wish_finds wish out) (λ p. omega arith))

  -- no refusal: none of these
  pub walk_0 : (walk_fault s seed wish out ≡ 0) ↔ (((sheet_fault s ≡ 0) × (seed ≢ 0)) × ((wish ≤ length out) × (wish ≤ 4096)))
  walk_0 =
      finally (seed_passed 0 (inr refl) (λ p. omega arith)) (λ f. room)
    where
      room : (after27 ≡ 0) ↔ ((wish ≤ length out) × (wish ≤ 4096))
      room =
          let w = unless_none 28 (wish_finds wish out) (λ p. omega arith) in
          ((λ e. let n = w.0 e in fits (lt_or_ge (length out) wish) (lt_or_ge 4096 wish) n), λ y. w.1 (λ d. over y d))
        where
          fits : (length out < wish) ⊎ (wish ≤ length out) → (4096 < wish) ⊎ (wish ≤ 4096) → ¬ ((length out < wish) ⊎ (4096 < wish)) → (wish ≤ length out) × (wish ≤ 4096)
          fits (inl l) b n = absurd (n (inl l))
          fits (inr l) (inl k) n = absurd (n (inr k))
          fits (inr l) (inr k) n = (l, k)

          over : (wish ≤ length out) × (wish ≤ 4096) → (length out < wish) ⊎ (4096 < wish) → ⊥
          over y (inl l) = omega (arith, y.0)
          over y (inr l) = omega (arith, y.1)

  -- no other number is given: 0, the sheet's own, 27 or 28
  pub walk_numbers_lem : (walk_fault s seed wish out ≡ 0) ⊎ (Own (walk_fault s seed wish out) ⊎ ((walk_fault s seed wish out ≡ 27) ⊎ (walk_fault s seed wish out ≡ 28)))
  unfolding walk_fault
  walk_numbers_lem = go (sheet_fault s) refl (seed_ok seed) (wish_ok wish out)
    where
      go : (k : ℕ) → sheet_fault s ≡ k → (x y : Bool)
          → (or_else k (unless x 27 (unless y 28 0)) ≡ 0) ⊎ (Own (or_else k (unless x 27 (unless y 28 0))) ⊎ ((or_else k (unless x 27 (unless y 28 0)) ≡ 27) ⊎ (or_else k (unless x 27 (unless y 28 0)) ≡ 28)))
      go (suc k) e x y = inr (inl (rw e at (check_own s (λ q. omega (arith, e, q)))))
      go zero e false y = inr (inr (inl refl))
      go zero e true false = inr (inr (inr refl))
      go zero e true true = inl refl

  -- ---- the answer and the list

  module _ (n : walk_fault s seed wish out ≢ 0) where
    -- a refusal answers its number, and alters nothing
    pub walked_denied : walked_of s seed wish out ≡ Err (walk_fault s seed wish out)
    unfolding walked_of
    walked_denied = rw (ne_eqb (walk_fault s seed wish out) 0 n)

    pub after_denied : walk_after s seed wish out ≡ out
    unfolding walk_after
    after_denied = rw (ne_eqb (walk_fault s seed wish out) 0 n)

    -- a refusal has no length beside its number
    pub length_denied : walk_length s seed wish out ≡ 0
    unfolding walk_length
    length_denied = rw (ne_eqb (walk_fault s seed wish out) 0 n)

  module _ (z : walk_fault s seed wish out ≡ 0) where
    -- without a refusal the walk's length is answered
    pub walked_length : walked_of s seed wish out ≡ Ok (length (walk_of s seed wish))
    unfolding walked_of
    walked_length = rw (eq-eqb (walk_fault s seed wish out) 0 z)

    pub length_given : walk_length s seed wish out ≡ length (walk_of s seed wish)
    unfolding walk_length
    length_given = rw (eq-eqb (walk_fault s seed wish out) 0 z)

    -- without a refusal the walk stands at the front of the list, the rest is untouched
    pub after_front : walk_after s seed wish out ≡ at_front out (walk_of s seed wish)
    unfolding walk_after
    after_front = rw (eq-eqb (walk_fault s seed wish out) 0 z)

    -- the walk has room in the list
    walk_fits : length (walk_of s seed wish) ≤ length out
    walk_fits = omega (arith, walk_short s seed wish, (walk_0.0 z).1.0)

    -- each place of the list below the walk's length holds its event, and each place from there on, also below the
    -- wish, is as it was
    pub after_event : (x : ℕ) → x < length (walk_of s seed wish) → get_or (walk_after s seed wish out) x 0 ≡ get_or (walk_of s seed wish) x 0
    after_event x l = rw after_front (at_front_before out (walk_of s seed wish) x 0 l)

    pub after_rest : (x : ℕ) → length (walk_of s seed wish) ≤ x → get_or (walk_after s seed wish out) x 0 ≡ get_or out x 0
    after_rest x l = rw after_front (at_front_behind out (walk_of s seed wish) x 0 l)

    -- the front of the list, as long as the answer says, is the walk
    pub front_walk : take (length (walk_of s seed wish)) (walk_after s seed wish out) ≡ walk_of s seed wish
    front_walk = rw after_front (at_front_taken out (walk_of s seed wish) refl)

  -- in every call the two numbers of the answer are its refusal and its length
  pub walked_numbers_lem : walked_numbers (walked_of s seed wish out) ≡ (walk_fault s seed wish out, walk_length s seed wish out)
  unfolding walked_numbers
  walked_numbers_lem = go (dec (eqb (walk_fault s seed wish out) 0))
    where
      go : (eqb (walk_fault s seed wish out) 0 ≡ true) ⊎ (eqb (walk_fault s seed wish out) 0 ≡ false)
          → walked_numbers (walked_of s seed wish out) ≡ (walk_fault s seed wish out, walk_length s seed wish out)
      go (inl t) = let z = eqb-true (walk_fault s seed wish out) 0 t in rw (walked_length z, length_given z, z)
      go (inr t) = let n = eqb-false (walk_fault s seed wish out) 0 t in rw (walked_denied n, length_denied n)

  -- the list keeps its length in every call
  pub after_length : length (walk_after s seed wish out) ≡ length out
  after_length = go (dec (eqb (walk_fault s seed wish out) 0))
    where
      go : (eqb (walk_fault s seed wish out) 0 ≡ true) ⊎ (eqb (walk_fault s seed wish out) 0 ≡ false) → length (walk_after s seed wish out) ≡ length out
      go (inl t) = let z = eqb-true (walk_fault s seed wish out) 0 t in rw (after_front z) (at_front_length out (walk_of s seed wish) (walk_fits z))
      go (inr t) = ap length (after_denied (eqb-false (walk_fault s seed wish out) 0 t))

-- ---- two sites

-- where nothing is refused, the length that is answered and the events at the front depend on sheet, seed and wish
-- alone
module _ (s : Sheet) (seed wish : ℕ) (out other : List ℕ) (z : walk_fault s seed wish out ≡ 0) (y : walk_fault s seed wish other ≡ 0) where
  pub same_answer : walked_of s seed wish out ≡ walked_of s seed wish other
  same_answer = walked_length s seed wish out z ∙ sym (walked_length s seed wish other y)

  pub same_front : (x : ℕ) → x < walk_length s seed wish out → get_or (walk_after s seed wish out) x 0 ≡ get_or (walk_after s seed wish other) x 0
  same_front x l =
      let k : x < length (walk_of s seed wish) = omega (arith, length_given s seed wish out z) in
      after_event s seed wish out z x k ∙ sym (after_event s seed wish other y x k)

-- and of the sheet not on its codes
module _ (s : Sheet) (codes : List ℕ) (seed wish : ℕ) (out : List ℕ) (z : walk_fault s seed wish out ≡ 0) (y : walk_fault (recoded s codes) seed wish out ≡ 0) where
  pub recoded_answer : walked_of (recoded s codes) seed wish out ≡ walked_of s seed wish out
  recoded_answer =
      walked_length (recoded s codes) seed wish out y ∙ ap (λ (t : List ℕ). Ok (length t)) (recoded_walk s codes seed wish) ∙ sym (walked_length s seed wish out z)

  pub recoded_after : walk_after (recoded s codes) seed wish out ≡ walk_after s seed wish out
  recoded_after = after_front (recoded s codes) seed wish out y ∙ ap (at_front out) (recoded_walk s codes seed wish) ∙ sym (after_front s seed wish out z)

-- and a call with a longer wish answers a walk that begins with the shorter one
pub longer_begins : (s : Sheet) (seed wish more : ℕ) (out other : List ℕ) → wish ≤ more → walk_fault s seed wish out ≡ 0 → walk_fault s seed more other ≡ 0
    → (x : ℕ) → x < walk_length s seed wish out → get_or (walk_after s seed wish out) x 0 ≡ get_or (walk_after s seed more other) x 0
longer_begins s seed wish more out other h z y x l =
    let k : x < length (walk_of s seed wish) = omega (arith, length_given s seed wish out z) in
    let e = walk_front s seed wish more h in
    let b : x < length (walk_of s seed more) = omega (arith, k, ap length e, length-take wish (walk_of s seed more)) in
    after_event s seed wish out z x k
    ∙ ap (λ (t : List ℕ). get_or t x 0) e
    ∙ get_or-take wish (walk_of s seed more) x 0 (omega (arith, k, walk_short s seed wish))
    ∙ sym (after_event s seed more other y x b)

-- of a length that is the lesser of the shorter wish and the longer walk's
pub longer_length : (s : Sheet) (seed wish more : ℕ) (out other : List ℕ) → wish ≤ more → walk_fault s seed wish out ≡ 0 → walk_fault s seed more other ≡ 0
    → walk_length s seed wish out ≡ min wish (walk_length s seed more other)
longer_length s seed wish more out other h z y =
    rw (length_given s seed wish out z, length_given s seed more other y) (ap length (walk_front s seed wish more h) ∙ length-take wish (walk_of s seed more))
