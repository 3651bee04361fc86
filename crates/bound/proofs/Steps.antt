-- The refusals as tests of the numbers alone; and what a run of copies leaves in a list: one piece more behind the front
-- that is written, until the whole sheet stands there.
use mathlib.Core.Path.{◌≡◌, refl, sym, ap, ◌∙◌}
use mathlib.Core.Logic.{◌⊎◌, inl, inr}
use mathlib.Core.Bool.{true, false, ◌&&◌}
use mathlib.Core.List.{List, [], ◌++◌, append_assoc, append-nil}
use Prim.Native.Nat.{ℕ, suc, ◌+◌, ◌*◌, ◌≤◌}
use native.Mathlib.Numerals.{add-one}
use native.Mathlib.Omega.{arith}
use lib.Dec.{leb}
use lib.ListN.{length, drop, length-append, length-drop}
use lib.Seq.{sets, sets-eq, take_at, length-sets, drop-append-add, drop-drop}
use borrow.Author.Tests.{leb-true}
use Rattle.base.proofs.Truth.{dec, and_l, and_r}
use Rattle.base.specs.Front.{at_front}
use Rattle.base.specs.Joined.{joined}
use Rattle.base.specs.Refusal.{unless}
use Rattle.std.specs.Prelude.{Result, Ok, Err, ◌≢◌}
use Rattle.refusals.specs.declared.Refusal.{Refusal}
use Rattle.refusals.specs.Numbers.{number, refusal_in, numbered}
use Rattle.refusals.proofs.NumberLaws.{number_some}
use Rattle.bound_spec.specs.declared.Lengths.{Lengths}
use Rattle.bound_spec.specs.Sheets.{reference_bytes, device_bytes}
use Rattle.bound_spec.specs.Calls.{sizes_ok, room_ok, bound_fault, bound_numbers, reference_length, device_length, bound_of, reference_after, device_after}
use Rattle.bound_spec.proofs.ByteLaws.{joined_even, reference_length_lem, device_length_lem}
use Rattle.bound_spec.proofs.CallLaws.{bound_0, bound_denied, reference_denied, device_denied, bound_given, reference_given, device_given, bounded_numbers}

-- ---- the refusals

-- the lengths of the two sheets in numbers: where p and q are in range they are these, and else they do not count
pub fault_is : (p q : ℕ) (reference device : List ℕ) → bound_fault p q reference device
    ≡ unless ((leb 1 p && leb p 32) && (leb 1 q && leb q 32)) 30 (unless (leb (7 * p + 5) (length reference) && leb (5 * q + 7) (length device)) 31 0)
unfolding bound_fault sizes_ok room_ok
fault_is p q reference device = go (dec ((leb 1 p && leb p 32) && (leb 1 q && leb q 32)))
  where
    go : (((leb 1 p && leb p 32) && (leb 1 q && leb q 32)) ≡ true) ⊎ (((leb 1 p && leb p 32) && (leb 1 q && leb q 32)) ≡ false)
        → bound_fault p q reference device
        ≡ unless ((leb 1 p && leb p 32) && (leb 1 q && leb q 32)) 30 (unless (leb (7 * p + 5) (length reference) && leb (5 * q + 7) (length device)) 31 0)
    go (inr f) = rw f
    go (inl t) =
        let a = and_l (leb 1 p && leb p 32) _ t in
        let b = and_r (leb 1 p && leb p 32) _ t in
        rw (
          reference_length_lem p (leb-true 1 p (and_l _ _ a)) (leb-true p 32 (and_r (leb 1 p) _ a)),
          device_length_lem q (leb-true 1 q (and_l _ _ b)) (leb-true q 32 (and_r (leb 1 q) _ b)),
        )

-- ---- copies

-- a piece that is copied behind the front that is written: the front is longer by it
pub stored : (out front more : List ℕ) (at : ℕ) → at ≡ length front → at + length more ≤ length out → sets (at_front out front) at more ≡ at_front out (front ++ more)
stored out front more at e h =
    rw e (sets-eq more (at_front out front) (length front) room ∙ rw (take_at front (drop (length front) out) (length front) refl, behind))
  where
    room : length front + length more ≤ length (at_front out front)
    room = omega (arith, e, h, length-append front (drop (length front) out), length-drop (length front) out)

    behind : drop (length front + length more) (at_front out front) ≡ drop (length (front ++ more)) out
    behind = drop-append-add front (drop (length front) out) (length more) ∙ drop-drop (length more) (length front) out ∙ ap (λ (k : ℕ). drop k out) (sym (length-append front more))

-- ---- the loop over the nodes before the last

-- after v nodes, each of k bytes, of a list that was `begun` when the loop began: the head and these nodes are what is
-- written
pub record Climbing (head : List ℕ) (node : ℕ → List ℕ) (k : ℕ) (begun out : List ℕ) (v : ℕ) : Type 0 where
  pub same : length out ≡ length begun
  pub front : (o : List ℕ) → begun ≡ at_front o head → out ≡ at_front o (head ++ joined node v)

module _ (head : List ℕ) (node : ℕ → List ℕ) (k : ℕ) (some : 1 ≤ k) (even : (i : ℕ) → length (node i) ≡ k) where
  -- as many bytes are written as the next place says
  written_length : (v : ℕ) → length (head ++ joined node v) ≡ length head + v * k
  written_length v = length-append head (joined node v) ∙ ap (λ (x : ℕ). length head + x) (joined_even node k v even)

  -- a list that holds the head, and is so long that a node has room behind v others, was so long before
  room : (o begun more : List ℕ) (v : ℕ) → begun ≡ at_front o head → 1 ≤ length more → length head + v * k + length more ≤ length begun → length head + v * k + length more ≤ length o
  room o begun more v e s h = omega (arith, h, s, ap length e, length-append head (drop (length head) o), length-drop (length head) o)

  pub starts : (begun : List ℕ) → Climbing head node k begun begun 0
  unfolding joined
  starts begun = record { same = refl; front = λ o p. rw (append-nil head) p }

  module _ {begun out : List ℕ} {at v : ℕ} (c : Climbing head node k begun out v) (place : at ≡ length head + v * k) where
    -- a piece behind the nodes so far
    behind_front : (more : List ℕ) → 1 ≤ length more → at + length more ≤ length out
        → (o : List ℕ) → begun ≡ at_front o head → sets out at more ≡ at_front o ((head ++ joined node v) ++ more)
    behind_front more s h o p =
        rw (c.front o p)
        (stored o (head ++ joined node v) more at (place ∙ sym (written_length v))
        (fits (room o begun more v p s (omega (arith, h, place, c.same)))))
      where
        fits : length head + v * k + length more ≤ length o → at + length more ≤ length o
        fits l = omega (arith, l, place)

    pub goes_on : {next : List ℕ} → at + k ≤ length out → next ≡ sets out at (node v) → Climbing head node k begun next (v + 1)
    unfolding joined
    goes_on {next} h e =
        let one : v + 1 ≡ suc v = add-one v in
        record {
          same = ap length e ∙ length-sets out at (node v) ∙ c.same;
          front = λ o p. e ∙ behind_front (node v) (omega (arith, some, even v)) (omega (arith, h, even v)) o p ∙ rw (one, append_assoc head (joined node v) (node v));
        }

    pub ends : {next : List ℕ} (last o : List ℕ) → 1 ≤ length last → at + length last ≤ length out
        → begun ≡ at_front o head → next ≡ sets out at last → next ≡ at_front o (head ++ (joined node v ++ last))
    ends {next} last o s h p e = e ∙ behind_front last s h o p ∙ ap (λ (x : List ℕ). at_front o x) (append_assoc head (joined node v) last)

-- the head, copied over the front of a list, is what is written
pub from_head : (o head : List ℕ) → length head ≤ length o → sets o 0 head ≡ at_front o head
from_head o head h = stored o [] head 0 refl (omega (arith, h))

-- ---- the answer

module _ (p q : ℕ) (reference device : List ℕ) where
  -- what a call ensures of its answer and of the two lists after it
  abbrev pub Answers : Result Lengths Refusal → List ℕ → List ℕ → Type 0
  Answers r written other =
      (numbered r ≡ bound_of p q reference device)
      × (bound_numbers (numbered r) ≡ (bound_fault p q reference device, reference_length p q reference device, device_length p q reference device))
      × (written ≡ reference_after p q reference device)
      × (other ≡ device_after p q reference device)

module _ (p q : ℕ) (reference device : List ℕ) {f : Result Unit Refusal} (e : refusal_in f ≡ bound_fault p q reference device) where
  -- a refusal
  pub refused : {cause : Refusal} {r : Result Lengths Refusal} → f ≡ Err cause → r ≡ Err cause → Answers p q reference device r reference device
  refused {cause} {r} a b =
      let k : number cause ≡ bound_fault p q reference device = ap refusal_in (sym a) ∙ e in
      let m : bound_fault p q reference device ≢ 0 = λ z. omega (arith, number_some cause, k, z) in
      let s : numbered r ≡ bound_of p q reference device = ap numbered b ∙ ap Err k ∙ sym (bound_denied p q reference device m) in
      (s, ap bound_numbers s ∙ bounded_numbers p q reference device, sym (reference_denied p q reference device m), sym (device_denied p q reference device m))

  module _ {u : Unit} (a : f ≡ Ok u) where
    none : bound_fault p q reference device ≡ 0
    none = sym e ∙ ap refusal_in a

    -- a call that is not refused has its numbers in range, and room for both sheets
    pub reference_fits : (1 ≤ p) × (p ≤ 32) × (7 * p + 5 ≤ length reference)
    reference_fits = let w = (bound_0 p q reference device).0 none in (w.0.0.0, w.0.0.1, w.1.0)

    pub device_fits : (1 ≤ q) × (q ≤ 32) × (5 * q + 7 ≤ length device)
    device_fits = let w = (bound_0 p q reference device).0 none in (w.0.1.0, w.0.1.1, w.1.1)

    -- no refusal
    pub given : {written other : List ℕ} {m n : ℕ} → written ≡ at_front reference (reference_bytes p) → other ≡ at_front device (device_bytes q) → m ≡ p → n ≡ q
        → Answers p q reference device (Ok (record { reference = 7 * m + 5; device = 5 * n + 7 })) written other
    given {written} {other} {m} {n} x y i j =
        let s : numbered (Ok (record { reference = 7 * m + 5; device = 5 * n + 7 })) ≡ bound_of p q reference device = rw (i, j) (sym (bound_given p q reference device none)) in
        (s, ap bound_numbers s ∙ bounded_numbers p q reference device, x ∙ sym (reference_given p q reference device none), y ∙ sym (device_given p q reference device none))
