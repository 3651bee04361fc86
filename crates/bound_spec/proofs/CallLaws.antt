-- Nothing to believe: laws. The call: when each refusal is given, what is answered, and what stands in the two lists.
use Rattle.std.specs.Prelude.{◌≡◌, ◌⊎◌, ◌↔◌, ◌≢◌, Bool, List, ℕ, ◌+◌, ◌*◌, ◌≤◌, ◌<◌, Ok, Err, eqb, length, get_or, take}
use Rattle.std.proofs.Math.Path.{refl}
use Rattle.std.proofs.Common.{ap, arith}
use Rattle.std.proofs.Math.Logic.{inl, inr}
use Rattle.std.proofs.Math.Logic.Iff as Iff
use Rattle.std.proofs.Math.Bool.{true, false}
use borrow.Author.Tests.{eqb-true, eqb-false, eq-eqb, ne_eqb}
use Rattle.base.proofs.Truth.{dec, lt_or_ge}
use Rattle.base.proofs.Finds.{Finds, finds_le, finds_and}
use Rattle.base.specs.Refusal.{unless}
use Rattle.base.proofs.Refusal.{unless_hit, unless_pass, unless_none, unless_other}
use Rattle.base.specs.Front.{at_front}
use Rattle.base.proofs.Front.{at_front_length, at_front_before, at_front_behind, at_front_taken}
use Rattle.sheet_spec.specs.Rules.{between}
use Rattle.sheet_spec.proofs.Chains.{finally}
use Rattle.bound_spec.specs.Sheets.{reference_bytes, device_bytes}
use Rattle.bound_spec.specs.Calls.{sizes_ok, room_ok, bound_fault, bound_numbers, reference_length, device_length, bound_of, reference_after, device_after}
use Rattle.bound_spec.proofs.ByteLaws.{reference_length_lem, device_length_lem}

-- the numbers of each case of an answer, for crates that may not unfold them
pub bound_numbers_lengths : (r d : ℕ) → bound_numbers (Ok (record { reference = r; device = d })) ≡ (0, r, d)
unfolding bound_numbers
bound_numbers_lengths r d = refl

pub bound_numbers_denied : (k : ℕ) → bound_numbers (Err k) ≡ (k, 0, 0)
unfolding bound_numbers
bound_numbers_denied k = refl

-- ---- the refusals

-- a number of nodes is 1 to 32, or not
abbrev pub InRange : ℕ → Type 0
InRange n = (1 ≤ n) × (n ≤ 32)

abbrev pub OutOfRange : ℕ → Type 0
OutOfRange n = (n < 1) ⊎ (32 < n)

-- the test of one number finds it out of range
range_finds : (n : ℕ) → Finds (between 1 32 n) (OutOfRange n)
range_finds n = finds_and (finds_le 1 n) (finds_le n 32)

-- and that of the two numbers one of them
sizes_find : (p q : ℕ) → Finds (sizes_ok p q) (OutOfRange p ⊎ OutOfRange q)
unfolding sizes_ok
sizes_find p q = finds_and (range_finds p) (range_finds q)

in_range : (n : ℕ) → ¬ OutOfRange n → InRange n
in_range n f = (low (lt_or_ge n 1), high (lt_or_ge 32 n))
  where
    low : (n < 1) ⊎ (1 ≤ n) → 1 ≤ n
    low (inl l) = absurd (f (inl l))
    low (inr l) = l

    high : (32 < n) ⊎ (n ≤ 32) → n ≤ 32
    high (inl l) = absurd (f (inr l))
    high (inr l) = l

not_out : (n : ℕ) → InRange n → ¬ OutOfRange n
not_out n (l, h) (inl x) = omega arith
not_out n (l, h) (inr x) = omega arith

-- what the test of one number says, of each of its answers
pub range_out : (n : ℕ) → between 1 32 n ≡ false → OutOfRange n
range_out n t = (range_finds n).fault t

pub range_in : (n : ℕ) → between 1 32 n ≡ true → InRange n
range_in n t = in_range n ((range_finds n).clear t)

-- both are in range exactly if none is out of it
both_in : (p q : ℕ) → (¬ (OutOfRange p ⊎ OutOfRange q)) ↔ (InRange p × InRange q)
both_in p q = (λ f. (in_range p (λ x. f (inl x)), in_range q (λ x. f (inr x))), to)
  where
    to : InRange p × InRange q → ¬ (OutOfRange p ⊎ OutOfRange q)
    to (a, b) (inl x) = not_out p a x
    to (a, b) (inr x) = not_out q b x

module _ (p q : ℕ) (reference device : List ℕ) where
  -- the test of the two lists finds one that is too short
  room_finds : InRange p × InRange q → Finds (room_ok p q reference device) ((length reference < 7 * p + 5) ⊎ (length device < 5 * q + 7))
  unfolding room_ok
  room_finds (a, b) =
      rw (reference_length_lem p a.0 a.1, device_length_lem q b.0 b.1) (finds_and (finds_le (7 * p + 5) (length reference)) (finds_le (5 * q + 7) (length device)))

  -- 30: p or q is not 1 to 32, whatever the lists
  pub bound_30 : (bound_fault p q reference device ≡ 30) ↔ (((p < 1) ⊎ (32 < p)) ⊎ ((q < 1) ⊎ (32 < q)))
  unfolding bound_fault
  bound_30 = unless_hit 30 _ (sizes_find p q) (unless_other (room_ok p q reference device) (λ e. omega arith) (λ e. omega arith))

  sizes_passed : (m : ℕ) → 30 ≢ m → (bound_fault p q reference device ≡ m) ↔ ((InRange p × InRange q) × (unless (room_ok p q reference device) 31 0 ≡ m))
  unfolding bound_fault
  sizes_passed m n =
      let w = unless_pass 30 (unless (room_ok p q reference device) 31 0) m (sizes_find p q) n in
      (λ e. let x = w.0 e in ((both_in p q).0 x.0, x.1), λ x. w.1 ((both_in p q).1 x.0, x.1))

  -- 31: both are, and a list is too short for its sheet, either one
  pub bound_31 : (bound_fault p q reference device ≡ 31)
      ↔ ((((1 ≤ p) × (p ≤ 32)) × ((1 ≤ q) × (q ≤ 32))) × ((length reference < 7 * p + 5) ⊎ (length device < 5 * q + 7)))
  bound_31 = finally (sizes_passed 31 (λ e. omega arith)) (λ f. unless_hit 31 0 (room_finds f) (λ e. omega arith))

  -- no refusal: none of these
  pub bound_0 : (bound_fault p q reference device ≡ 0)
      ↔ ((((1 ≤ p) × (p ≤ 32)) × ((1 ≤ q) × (q ≤ 32))) × ((7 * p + 5 ≤ length reference) × (5 * q + 7 ≤ length device)))
  bound_0 = finally (sizes_passed 0 (λ e. omega arith)) (λ f. Iff.trans (unless_none 31 (room_finds f) (λ e. omega arith)) (fits, over))
    where
      fits : ¬ ((length reference < 7 * p + 5) ⊎ (length device < 5 * q + 7)) → (7 * p + 5 ≤ length reference) × (5 * q + 7 ≤ length device)
      fits n = (first (lt_or_ge (length reference) (7 * p + 5)), second (lt_or_ge (length device) (5 * q + 7)))
        where
          first : (length reference < 7 * p + 5) ⊎ (7 * p + 5 ≤ length reference) → 7 * p + 5 ≤ length reference
          first (inl l) = absurd (n (inl l))
          first (inr l) = l

          second : (length device < 5 * q + 7) ⊎ (5 * q + 7 ≤ length device) → 5 * q + 7 ≤ length device
          second (inl l) = absurd (n (inr l))
          second (inr l) = l

      over : (7 * p + 5 ≤ length reference) × (5 * q + 7 ≤ length device) → ¬ ((length reference < 7 * p + 5) ⊎ (length device < 5 * q + 7))
      over (a, b) (inl l) = omega arith
      over (a, b) (inr l) = omega arith

  -- no other number is given
  pub bound_numbers_lem : (bound_fault p q reference device ≡ 0) ⊎ ((bound_fault p q reference device ≡ 30) ⊎ (bound_fault p q reference device ≡ 31))
  unfolding bound_fault
  bound_numbers_lem = go (sizes_ok p q) (room_ok p q reference device)
    where
      go : (x y : Bool) → (unless x 30 (unless y 31 0) ≡ 0) ⊎ ((unless x 30 (unless y 31 0) ≡ 30) ⊎ (unless x 30 (unless y 31 0) ≡ 31))
      go false y = inr (inl refl)
      go true false = inr (inr refl)
      go true true = inl refl

  -- ---- the answer and the lists

  module _ (n : bound_fault p q reference device ≢ 0) where
    -- a refusal answers its number and no length, and alters neither list
    pub bound_denied : bound_of p q reference device ≡ Err (bound_fault p q reference device)
    unfolding bound_of
    bound_denied = rw (ne_eqb (bound_fault p q reference device) 0 n)

    pub lengths_denied : (reference_length p q reference device ≡ 0) × (device_length p q reference device ≡ 0)
    unfolding reference_length device_length
    lengths_denied = (rw (ne_eqb (bound_fault p q reference device) 0 n), rw (ne_eqb (bound_fault p q reference device) 0 n))

    pub reference_denied : reference_after p q reference device ≡ reference
    unfolding reference_after
    reference_denied = rw (ne_eqb (bound_fault p q reference device) 0 n)

    pub device_denied : device_after p q reference device ≡ device
    unfolding device_after
    device_denied = rw (ne_eqb (bound_fault p q reference device) 0 n)

  module _ (z : bound_fault p q reference device ≡ 0) where
    sizes : InRange p × InRange q
    sizes = (bound_0.0 z).0

    reference_bytes_lem : length (reference_bytes p) ≡ 7 * p + 5
    reference_bytes_lem = reference_length_lem p sizes.0.0 sizes.0.1

    device_bytes_lem : length (device_bytes q) ≡ 5 * q + 7
    device_bytes_lem = device_length_lem q sizes.1.0 sizes.1.1

    -- without a refusal the two lengths are answered, the reference's first
    pub bound_given : bound_of p q reference device ≡ Ok (record { reference = 7 * p + 5; device = 5 * q + 7 })
    unfolding bound_of
    bound_given = rw (eq-eqb (bound_fault p q reference device) 0 z, reference_bytes_lem, device_bytes_lem)

    pub lengths_given : (reference_length p q reference device ≡ 7 * p + 5) × (device_length p q reference device ≡ 5 * q + 7)
    unfolding reference_length device_length
    lengths_given = (
      rw (eq-eqb (bound_fault p q reference device) 0 z) reference_bytes_lem,
      rw (eq-eqb (bound_fault p q reference device) 0 z) device_bytes_lem,
    )

    -- each sheet fills the front of its own list
    pub reference_given : reference_after p q reference device ≡ at_front reference (reference_bytes p)
    unfolding reference_after
    reference_given = rw (eq-eqb (bound_fault p q reference device) 0 z)

    pub device_given : device_after p q reference device ≡ at_front device (device_bytes q)
    unfolding device_after
    device_given = rw (eq-eqb (bound_fault p q reference device) 0 z)

    pub reference_front : take (7 * p + 5) (reference_after p q reference device) ≡ reference_bytes p
    reference_front = rw reference_given (at_front_taken reference (reference_bytes p) reference_bytes_lem)

    pub device_front : take (5 * q + 7) (device_after p q reference device) ≡ device_bytes q
    device_front = rw device_given (at_front_taken device (device_bytes q) device_bytes_lem)

    -- place by place: below the sheet's length its byte, and from there on the list is as it was
    pub reference_byte : (x : ℕ) → x < 7 * p + 5 → get_or (reference_after p q reference device) x 0 ≡ get_or (reference_bytes p) x 0
    reference_byte x l = rw reference_given (at_front_before reference (reference_bytes p) x 0 (omega (arith, l, reference_bytes_lem)))

    pub reference_rest : (x : ℕ) → 7 * p + 5 ≤ x → get_or (reference_after p q reference device) x 0 ≡ get_or reference x 0
    reference_rest x l = rw reference_given (at_front_behind reference (reference_bytes p) x 0 (omega (arith, l, reference_bytes_lem)))

    pub device_byte : (x : ℕ) → x < 5 * q + 7 → get_or (device_after p q reference device) x 0 ≡ get_or (device_bytes q) x 0
    device_byte x l = rw device_given (at_front_before device (device_bytes q) x 0 (omega (arith, l, device_bytes_lem)))

    pub device_rest : (x : ℕ) → 5 * q + 7 ≤ x → get_or (device_after p q reference device) x 0 ≡ get_or device x 0
    device_rest x l = rw device_given (at_front_behind device (device_bytes q) x 0 (omega (arith, l, device_bytes_lem)))

    -- the lists keep their lengths
    kept : (length (reference_after p q reference device) ≡ length reference) × (length (device_after p q reference device) ≡ length device)
    kept =
        let r = (bound_0.0 z).1 in (
          rw reference_given (at_front_length reference (reference_bytes p) (omega (arith, r.0, reference_bytes_lem))),
          rw device_given (at_front_length device (device_bytes q) (omega (arith, r.1, device_bytes_lem))),
        )

  -- in every call the three numbers of the answer are its refusal and its lengths
  pub bounded_numbers : bound_numbers (bound_of p q reference device) ≡ (bound_fault p q reference device, reference_length p q reference device, device_length p q reference device)
  unfolding bound_numbers
  bounded_numbers = go (dec (eqb (bound_fault p q reference device) 0))
    where
      go : (eqb (bound_fault p q reference device) 0 ≡ true) ⊎ (eqb (bound_fault p q reference device) 0 ≡ false)
          → bound_numbers (bound_of p q reference device) ≡ (bound_fault p q reference device, reference_length p q reference device, device_length p q reference device)
      go (inl t) = let z = eqb-true (bound_fault p q reference device) 0 t in let l = lengths_given z in rw (bound_given z, l.0, l.1, z)
      go (inr t) = let n = eqb-false (bound_fault p q reference device) 0 t in let l = lengths_denied n in rw (bound_denied n, l.0, l.1)

  -- in every call the lists keep their lengths
  pub after_length : (length (reference_after p q reference device) ≡ length reference) × (length (device_after p q reference device) ≡ length device)
  after_length = go (dec (eqb (bound_fault p q reference device) 0))
    where
      go : (eqb (bound_fault p q reference device) 0 ≡ true) ⊎ (eqb (bound_fault p q reference device) 0 ≡ false)
          → (length (reference_after p q reference device) ≡ length reference) × (length (device_after p q reference device) ≡ length device)
      go (inl t) = kept (eqb-true (bound_fault p q reference device) 0 t)
      go (inr t) = let n = eqb-false (bound_fault p q reference device) 0 t in (ap length (reference_denied n), ap length (device_denied n))
