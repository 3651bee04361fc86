-- Nothing to believe: laws. The single pass over the acceptances is the literal test; what is found, size by size, is
-- the list of probes, and as long.
use Rattle.std.specs.Prelude.{◌≡◌, ◌⊎◌, ◌≢◌, Bool, true, false, ◌&&◌, cond, List, [], ◌∷◌, ◌++◌, ℕ, zero, suc, ◌+◌, ◌-◌, ◌*◌, ◌/◌, ◌%◌, ◌^◌, ◌≤◌, ◌<◌, eqb, length, get_or}
use Rattle.std.proofs.Math.Path.{refl}
use Rattle.std.proofs.Common.{sym, ap, ◌∙◌, inl, inr, append-nil, eq-or-lt_of_le, arith, length-append, pow_pos, eqb-true, eq-eqb, ne_eqb}
use Rattle.std.proofs.lemmas.Bool.{false≢true, eqb-false}
use Rattle.std.proofs.Math.Decide.{ℕ_discrete}
use Rattle.std.specs.Int.Bits.{bit_and, bit_or, and_step, and_self}
use Rattle.base.proofs.Truth.{same, lt_or_ge}
use Rattle.base.specs.Gather.{gather, select}
use Rattle.base.proofs.Gather.{gather_from}
use Rattle.base.specs.Joined.{joined}
use Rattle.base.proofs.JoinedLaws.{joined_same, joined_more}
use Rattle.events.specs.Bit.{bit, Within}
use Rattle.events.proofs.Bit.{bit·zero, bit·suc, bit≤1, bit_and_lem, bit_or_lem, bit_one, bit_other, bit_high, bits_zero, bits_ext, apart_and, common, meet}
use Rattle.events.specs.Size.{size}
use Rattle.events.proofs.SizeLaws.{size_few}
use Rattle.probes_spec.specs.Probes.{is_probe, probes_of, probes, Hits, Probe}
use Rattle.probes_spec.proofs.HitLaws.{is_probe→, is_probe←, alone→probe, probe→alone}
use Rattle.probes_spec.specs.Shapes.{Alone, lone, one_pass, probes_by_number, of_size}

-- ---- a set and its predecessor have no event in common exactly if the set has at most one event

and_odd : (y : ℕ) → y % 2 ≡ 1 → bit_and y (y - 1) ≡ y / 2 * 2
and_odd y h =
    let e : bit_and (y / 2) ((y - 1) / 2) ≡ y / 2 = ap (bit_and (y / 2)) (omega arith) ∙ and_self (y / 2) in
    omega (arith, and_step y (y - 1))

and_even : (y : ℕ) → y % 2 ≢ 1 → bit_and y (y - 1) ≡ bit_and (y / 2) (y / 2 - 1) * 2
and_even y h =
    let e : bit_and (y / 2) ((y - 1) / 2) ≡ bit_and (y / 2) (y / 2 - 1) = ap (bit_and (y / 2)) (omega arith) in
    omega (arith, and_step y (y - 1))

power : (i y : ℕ) → bit y i ≡ 1 → bit_and y (y - 1) ≡ 0 → y ≡ 2 ^ i
power zero y b z = omega (arith, and_odd y (sym (bit·zero y) ∙ b), bit·zero y)
power (suc i) y b z = go (ℕ_discrete (y % 2) 1) (λ h. power i (y / 2) (sym (bit·suc y i) ∙ b) h)
  where
    go : Dec (y % 2 ≡ 1) → (bit_and (y / 2) (y / 2 - 1) ≡ 0 → y / 2 ≡ 2 ^ i) → y ≡ 2 ^ suc i
    go (yes h) ih =
        let q : y / 2 ≡ 0 = omega (arith, and_odd y h) in
        absurd (omega (arith, b, bit·suc y i, ap (λ (x : ℕ). bit x i) q, bits_zero i))
    go (no h) ih = omega (arith, ih (omega (arith, and_even y h)))

-- an event of `lone y` is all of y
lone→ : (y i : ℕ) → bit (lone y) i ≡ 1 → y ≡ 2 ^ i
unfolding lone
lone→ y i = go (eqb (bit_and y (y - 1)) 0) refl
  where
    go : (b : Bool) → eqb (bit_and y (y - 1)) 0 ≡ b → bit (cond b y 0) i ≡ 1 → y ≡ 2 ^ i
    go true e m = power i y m (eqb-true (bit_and y (y - 1)) 0 e)
    go false e m = absurd (omega (arith, m, bits_zero i))

lone← : (i : ℕ) → lone (2 ^ i) ≡ 2 ^ i
unfolding lone
lone← i = rw (eq-eqb (bit_and (2 ^ i) (2 ^ i - 1)) 0 (apart_and (2 ^ i) (2 ^ i - 1) (λ j. at j (ℕ_discrete i j))))
  where
    at : (j : ℕ) → Dec (i ≡ j) → bit (2 ^ i) j + bit (2 ^ i - 1) j ≤ 1
    at j (yes e) = omega (arith, bit_high i i (2 ^ i - 1) (omega (arith, pow_pos i)) (omega arith), ap (bit (2 ^ i - 1)) e, bit≤1 (2 ^ i) j)
    at j (no n) = omega (arith, bit_other i j n, bit≤1 (2 ^ i - 1) j)

-- ---- the pass

-- what the pass finds: x meets every acceptance, and each event of x was alone before, or is alone in a meeting
record Passed (accs : List ℕ) (x own : ℕ) : Type 0 where
  met : Hits accs x
  whole : (i : ℕ) → bit x i ≡ 1 → (bit own i ≡ 1) ⊎ Alone accs x i

later : (a : ℕ) (accs : List ℕ) (x i : ℕ) → Alone accs x i → Alone (a ∷ accs) x i
later a accs x i (j, l, e) = (suc j, omega arith, e)

one_pass→ : (accs : List ℕ) (x own : ℕ) → one_pass accs x own ≡ true → Passed accs x own
unfolding one_pass
one_pass→ [] x own t = record { met = λ j l. absurd (omega arith); whole = λ i b. inl (rw (eqb-true own x t) b) }
one_pass→ (a ∷ accs) x own t = go (eqb (bit_and a x) 0) refl t (one_pass→ accs x (bit_or own (lone (bit_and a x))))
  where
    own' : ℕ
    own' = bit_or own (lone (bit_and a x))

    met : bit_and a x ≢ 0 → Hits accs x → Hits (a ∷ accs) x
    met h g zero l = common a x h
    met h g (suc j) l = g j (omega arith)

    whole : (i : ℕ) → (bit own' i ≡ 1) ⊎ Alone accs x i → (bit own i ≡ 1) ⊎ Alone (a ∷ accs) x i
    whole i (inr w) = inr (later a accs x i w)
    whole i (inl b) = pick (ℕ_discrete (bit own i) 1)
      where
        pick : Dec (bit own i ≡ 1) → (bit own i ≡ 1) ⊎ Alone (a ∷ accs) x i
        pick (yes y) = inl y
        pick (no n) = inr (0, omega arith, lone→ (bit_and a x) i (omega (arith, bit_or_lem i own (lone (bit_and a x)), b, bit≤1 own i)))

    go : (b : Bool) → eqb (bit_and a x) 0 ≡ b → cond b false (one_pass accs x own') ≡ true → (one_pass accs x own' ≡ true → Passed accs x own') → Passed (a ∷ accs) x own
    go true e t ih = absurd (false≢true t)
    go false e t ih = let r = ih t in record { met = met (eqb-false (bit_and a x) 0 e) r.met; whole = λ i b. whole i (r.whole i b) }

one_pass← : (accs : List ℕ) (x own : ℕ) → Within own x → Passed accs x own → one_pass accs x own ≡ true
unfolding one_pass
one_pass← [] x own w r = eq-eqb own x (bits_ext own x (λ i. at i (ℕ_discrete (bit x i) 1)))
  where
    at : (i : ℕ) → Dec (bit x i ≡ 1) → bit own i ≡ bit x i
    at i (no n) = omega (arith, w i, bit≤1 x i)
    at i (yes b) = pick (r.whole i b)
      where
        pick : (bit own i ≡ 1) ⊎ Alone [] x i → bit own i ≡ bit x i
        pick (inl y) = omega arith
        pick (inr (j, l, e)) = absurd (omega arith)
one_pass← (a ∷ accs) x own w r =
    let m = r.met 0 (omega arith) in
    rw (ne_eqb (bit_and a x) 0 (meet a x m.0 m.1 m.2)) (one_pass← accs x own' within (record { met = λ j l. r.met (suc j) (omega arith); whole = λ i b. whole i (r.whole i b) }))
  where
    own' : ℕ
    own' = bit_or own (lone (bit_and a x))

    within : Within own' x
    within i = pick (ℕ_discrete (bit (lone (bit_and a x)) i) 1)
      where
        pick : Dec (bit (lone (bit_and a x)) i ≡ 1) → bit own' i ≤ bit x i
        pick (yes b) = omega (arith, bit_or_lem i own (lone (bit_and a x)), w i, b, bit_and_lem i a x, ap (λ (y : ℕ). bit y i) (lone→ (bit_and a x) i b), bit_one i)
        pick (no n) = omega (arith, bit_or_lem i own (lone (bit_and a x)), w i, bit≤1 (lone (bit_and a x)) i)

    whole : (i : ℕ) → (bit own i ≡ 1) ⊎ Alone (a ∷ accs) x i → (bit own' i ≡ 1) ⊎ Alone accs x i
    whole i (inl b) = inl (omega (arith, bit_or_lem i own (lone (bit_and a x)), b, bit≤1 (lone (bit_and a x)) i))
    whole i (inr (zero, l, e)) =
        let q : bit (lone (bit_and a x)) i ≡ 1 = rw (e, lone← i) (bit_one i) in inl (omega (arith, bit_or_lem i own (lone (bit_and a x)), q, bit≤1 own i))
    whole i (inr (suc j, l, e)) = inr (j, omega arith, e)

-- the single pass is the literal test
pub one_pass_is_probe : (accs : List ℕ) (x : ℕ) → one_pass accs x 0 ≡ is_probe accs x
one_pass_is_probe accs x = same (one_pass accs x 0) (is_probe accs x) (λ t. is_probe← accs x (to (one_pass→ accs x 0 t))) (λ t. one_pass← accs x 0 (λ i. omega (arith, bits_zero i)) (back (is_probe→ accs x t)))
  where
    to : Passed accs x 0 → Probe accs x
    to r = alone→probe accs x r.met (λ i b. pick i (r.whole i b))
      where
        pick : (i : ℕ) → (bit 0 i ≡ 1) ⊎ Alone accs x i → Alone accs x i
        pick i (inl z) = absurd (omega (arith, z, bits_zero i))
        pick i (inr w) = w

    back : Probe accs x → Passed accs x 0
    back p = record { met = p.hits; whole = λ i b. inr (probe→alone accs x p i b) }

-- ---- the probes of each size

pub of_size_append : (l m : List ℕ) (j : ℕ) → of_size (l ++ m) j ≡ of_size l j ++ of_size m j
unfolding of_size
of_size_append [] m j = refl
of_size_append (x ∷ l) m j = go (eqb (size x) j) (of_size_append l m j)
  where
    go : (b : Bool) → of_size (l ++ m) j ≡ of_size l j ++ of_size m j
        → cond b (x ∷ of_size (l ++ m) j) (of_size (l ++ m) j) ≡ cond b (x ∷ of_size l j) (of_size l j) ++ of_size m j
    go true ih = ap (λ (r : List ℕ). x ∷ r) ih
    go false ih = ih

-- one set more at the end of the list
pub of_size_yes : (l : List ℕ) (x j : ℕ) → size x ≡ j → of_size (l ++ (x ∷ [])) j ≡ of_size l j ++ (x ∷ [])
unfolding of_size
of_size_yes l x j e = rw (of_size_append l (x ∷ []) j, eq-eqb (size x) j e)

pub of_size_no : (l : List ℕ) (x j : ℕ) → size x ≢ j → of_size (l ++ (x ∷ [])) j ≡ of_size l j
unfolding of_size
of_size_no l x j n = rw (of_size_append l (x ∷ []) j, ne_eqb (size x) j n) (append-nil (of_size l j))

-- of the numbers that pass a test, those that have j events
of_size_select : (p : ℕ → Bool) (j n : ℕ) → of_size (select p n) j ≡ select (λ x. eqb (size x) j && p x) n
unfolding select gather
of_size_select p j zero = unfold of_size in refl
of_size_select p j (suc n) = go (p n) (eqb (size n) j) refl (of_size_select p j n)
  where
    both : ℕ → Bool
    both x = eqb (size x) j && p x

    go : (b c : Bool) → eqb (size n) j ≡ c → of_size (gather p (λ x. x) n) j ≡ gather both (λ x. x) n
        → of_size (gather p (λ x. x) n ++ cond b (n ∷ []) []) j ≡ gather both (λ x. x) n ++ cond (c && b) (n ∷ []) []
    go true true e ih = of_size_yes (gather p (λ x. x) n) n j (eqb-true (size n) j e) ∙ ap (λ (r : List ℕ). r ++ (n ∷ [])) ih
    go true false e ih = of_size_no (gather p (λ x. x) n) n j (eqb-false (size n) j e) ∙ ih ∙ sym (append-nil (gather both (λ x. x) n))
    go false true e ih = ap (λ (l : List ℕ). of_size l j) (append-nil (gather p (λ x. x) n)) ∙ ih ∙ sym (append-nil (gather both (λ x. x) n))
    go false false e ih = ap (λ (l : List ℕ). of_size l j) (append-nil (gather p (λ x. x) n)) ∙ ih ∙ sym (append-nil (gather both (λ x. x) n))

-- what is found, size by size, is the list of probes
pub sized_probes : (accs : List ℕ) (e : ℕ) → joined (of_size (probes_by_number accs e)) (suc e) ≡ probes accs e
unfolding probes probes_of probes_by_number
sized_probes accs e = joined_same (of_size (probes_by_number accs e)) (probes_of accs e) (suc e) (λ j l. of_size_select (is_probe accs) j (2 ^ e))

-- a set stands in the list of its own size alone
module _ (x : ℕ) (l : List ℕ) where
  own_yes : (n : ℕ) → size x ≡ n → length (of_size (x ∷ l) n) ≡ length (of_size l n) + 1
  unfolding of_size
  own_yes n e = rw (eq-eqb (size x) n e) (omega arith)

  own_no : (n : ℕ) → size x ≢ n → length (of_size (x ∷ l) n) ≡ length (of_size l n)
  unfolding of_size
  own_no n e = rw (ne_eqb (size x) n e)

  below : (n : ℕ) → n ≤ size x → length (joined (of_size (x ∷ l)) n) ≡ length (joined (of_size l) n)
  below zero h = unfold joined in refl
  below (suc n) h = omega (arith, below n (omega arith), joined_more (of_size (x ∷ l)) n, joined_more (of_size l) n, own_no n (omega arith))

  above : (n : ℕ) → size x < n → length (joined (of_size (x ∷ l)) n) ≡ length (joined (of_size l) n) + 1
  above zero h = absurd (omega arith)
  above (suc n) h = go (eq-or-lt_of_le h) (above n)
    where
      go : (suc (size x) ≡ suc n) ⊎ (suc (size x) < suc n) → (size x < n → length (joined (of_size (x ∷ l)) n) ≡ length (joined (of_size l) n) + 1)
          → length (joined (of_size (x ∷ l)) (suc n)) ≡ length (joined (of_size l) (suc n)) + 1
      go (inl e) ih = omega (arith, below n (omega arith), joined_more (of_size (x ∷ l)) n, joined_more (of_size l) n, own_yes n (omega arith))
      go (inr k) ih = omega (arith, ih (omega arith), joined_more (of_size (x ∷ l)) n, joined_more (of_size l) n, own_no n (omega arith))

sized_none : (n : ℕ) → length (joined (of_size []) n) ≡ 0
unfolding joined of_size
sized_none zero = refl
sized_none (suc n) = length-append (joined (of_size []) n) [] ∙ omega (arith, sized_none n)

-- the sets of the sizes below n are no more than all
pub sized_short : (l : List ℕ) (n : ℕ) → length (joined (of_size l) n) ≤ length l
sized_short [] n = omega (arith, sized_none n)
sized_short (x ∷ l) n = go (lt_or_ge (size x) n) (sized_short l n)
  where
    go : (size x < n) ⊎ (n ≤ size x) → length (joined (of_size l) n) ≤ length l → length (joined (of_size (x ∷ l)) n) ≤ suc (length l)
    go (inl h) ih = omega (arith, above x l n h)
    go (inr h) ih = omega (arith, below x l n h)

-- where every set has fewer than n events, they are all
sized_all : (l : List ℕ) (n : ℕ) → ((x : ℕ) → x < length l → size (get_or l x 0) < n) → length l ≤ length (joined (of_size l) n)
sized_all [] n h = omega arith
sized_all (x ∷ l) n h = omega (arith, above x l n (h 0 (omega arith)), sized_all l n (λ y k. h (suc y) (omega arith)))

-- there are as many probes as are found
pub found_count : (accs : List ℕ) (e : ℕ) → length (probes_by_number accs e) ≡ length (probes accs e)
unfolding probes_by_number select
found_count accs e =
    let p : length (probes_by_number accs e) ≤ length (joined (of_size (probes_by_number accs e)) (suc e)) = sized_all (probes_by_number accs e) (suc e) small in
    omega (arith, p, sized_short (probes_by_number accs e) (suc e), ap length (sized_probes accs e))
  where
    small : (x : ℕ) → x < length (probes_by_number accs e) → size (get_or (probes_by_number accs e) x 0) < suc e
    small x l = let w = gather_from (is_probe accs) (λ y. y) (2 ^ e) x l in rw w.4 (omega (arith, size_few e w.0 w.1))
