-- The sets of a size that are written: one more, the room for them, and one size after another.
use Rattle.std.proofs.Common.{◌≡◌, ℕ, ◌+◌, ◌<◌, ◌≤◌, ◌≢◌, List, [], ◌∷◌, ◌++◌, length, get_or, take, drop, set, sym, refl, ap, ◌∙◌, append_assoc, append-nil, add-one, arith, length-append, take-append-drop, length-take-le, take_all, take-suc, drop-drop}
use lib.Seq.{drop-append-add}
use Rattle.base.specs.Front.{at_front}
use Rattle.base.proofs.Front.{at_front_taken}
use Rattle.base.specs.Joined.{joined}
use Rattle.base.proofs.JoinedLaws.{joined_more}
use Rattle.events.specs.Size.{size}
use Rattle.probes_spec.specs.Shapes.{of_size}
use Rattle.probes_spec.proofs.ShapeLaws.{of_size_append, of_size_yes, of_size_no, sized_short}
use Rattle.probes.proofs.Seen.{front_put}

-- the sets of j events among the first i
abbrev pub part : List ℕ → ℕ → ℕ → List ℕ
part found j i = of_size (take i found) j

pub part_none : (found : List ℕ) (j at : ℕ) → at ≡ at + length (part found j 0)
unfolding of_size
part_none found j at = omega arith

pub part_all : (found : List ℕ) (j i : ℕ) → length found ≤ i → part found j i ≡ of_size found j
part_all found j i h = ap (λ (r : List ℕ). of_size r j) (take_all i found h)

module _ (found : List ℕ) (j i : ℕ) (l : i < length found) where
  pub part_yes : size (get_or found i 0) ≡ j → part found j (i + 1) ≡ part found j i ++ (get_or found i 0 ∷ [])
  part_yes e = rw (add-one i, take-suc found i 0 l) (of_size_yes (take i found) (get_or found i 0) j e)

  pub part_no : size (get_or found i 0) ≢ j → part found j (i + 1) ≡ part found j i
  part_no n = rw (add-one i, take-suc found i 0 l) (of_size_no (take i found) (get_or found i 0) j n)

  -- the first sets of a size are no more than all of that size
  part_short : (n : ℕ) → length (part found j n) ≤ length (of_size found j)
  part_short n =
      omega (arith, ap (λ (r : List ℕ). length (of_size r j)) (take-append-drop n found), ap length (of_size_append (take n found) (drop n found) j), length-append (part found j n) (of_size (drop n found) j))

  -- there is room for one more of the size
  pub part_room : size (get_or found i 0) ≡ j → length (part found j i) + 1 ≤ length (of_size found j)
  part_room e = omega (arith, part_short (i + 1), ap length (part_yes e), length-append (part found j i) (get_or found i 0 ∷ []))

  pub part_count : size (get_or found i 0) ≡ j → length (part found j (i + 1)) ≡ length (part found j i) + 1
  part_count e = rw (part_yes e) (length-append (part found j i) (get_or found i 0 ∷ []))

  -- one set more of the size is written
  pub put_more : size (get_or found i 0) ≡ j → (out now : List ℕ) (at next : ℕ) → at + length (of_size found j) ≤ length out → next ≡ at + length (part found j i)
      → now ≡ at_front out (take at out ++ part found j i) → set now next (get_or found i 0) ≡ at_front out (take at out ++ part found j (i + 1))
  put_more e out now at next room p q =
      let t : length (take at out) ≡ at = length-take-le at out (omega arith) in
      let n : next ≡ length (take at out ++ part found j i) = omega (arith, length-append (take at out) (part found j i)) in
      rw (q, n, part_yes e)
      (front_put out (take at out ++ part found j i) (get_or found i 0) (omega (arith, part_room e))
      ∙ ap (at_front out) (append_assoc (take at out) (part found j i) (get_or found i 0 ∷ [])))

-- nothing is written yet
pub put_none : (out found : List ℕ) (j at : ℕ) → at ≤ length out → out ≡ at_front out (take at out ++ part found j 0)
unfolding of_size
put_none out found j at h =
    let t : length (take at out) ≡ at = length-take-le at out h in
    sym (rw (append-nil (take at out), t) (take-append-drop at out))

-- a front that is written again, with more after it
pub front_again : (out ps qs : List ℕ) → at_front (at_front out ps) (ps ++ qs) ≡ at_front out (ps ++ qs)
front_again out ps qs =
    ap (λ (r : List ℕ). (ps ++ qs) ++ r)
    (ap (λ (n : ℕ). drop n (ps ++ drop (length ps) out)) (length-append ps qs) ∙ drop-append-add ps (drop (length ps) out) (length qs)
    ∙ drop-drop (length qs) (length ps) out ∙ ap (λ (n : ℕ). drop n out) (sym (length-append ps qs)))

-- no size is written yet
pub size_none : (found : List ℕ) → (0 ≡ length (joined (of_size found) 0)) × ((out : List ℕ) → out ≡ at_front out (joined (of_size found) 0))
unfolding joined
size_none found = (refl, λ out. refl)

-- one size more is written
pub size_more : (out found now after : List ℕ) (j at : ℕ) → now ≡ at_front out (joined (of_size found) j) → at ≡ length (joined (of_size found) j)
    → after ≡ at_front now (take at now ++ of_size found j) → after ≡ at_front out (joined (of_size found) (j + 1))
unfolding joined
size_more out found now after j at p q r =
    r ∙ (rw (p, at_front_taken out (joined (of_size found) j) (sym q), add-one j) (front_again out (joined (of_size found) j) (of_size found j)))

pub size_count : (found : List ℕ) (j : ℕ) → length (joined (of_size found) (j + 1)) ≡ length (joined (of_size found) j) + length (of_size found j)
size_count found j = rw (add-one j) (joined_more (of_size found) j)

pub size_room : (found : List ℕ) (j : ℕ) → length (joined (of_size found) j) + length (of_size found j) ≤ length found
size_room found j = omega (arith, size_count found j, sized_short found (j + 1))
