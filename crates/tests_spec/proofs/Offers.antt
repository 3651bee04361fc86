-- Nothing to believe: laws. What a run offers, event by event (01, "Test k and a live run").
use Rattle.std.specs.Prelude.{◌≡◌, ◌⊎◌, ◌↔◌, false, ◌||◌, List, ℕ, ◌-◌, ◌%◌, ◌^◌, ◌≤◌, ◌<◌, length, get_or}
use Rattle.std.proofs.Common.{sym, ap, inl, inr, arith, pow_pos}
use Rattle.std.proofs.Math.Bool.{true}
use Rattle.std.proofs.Math.Nat.{sub-zero}
use Rattle.std.proofs.Math.Decide.{ℕ_discrete}
use Rattle.std.specs.Int.Bits.{bit_or}
use Rattle.std.proofs.Math.Dec.{ltb}
use borrow.Author.Tests.{lt-ltb, le-ltb, eq-eqb, ne_eqb}
use Rattle.base.proofs.Truth.{dec, lt_or_ge, or_r}
use Rattle.events.specs.Bit.{bit}
use Rattle.events.proofs.Bit.{bit≤1, bit_or_lem, bits_zero, bit_rest, bit_high, narrow}
use Rattle.sheet_spec.specs.declared.Row.{Row}
use Rattle.sheet_spec.specs.declared.Sheet.{Sheet}
use Rattle.sheet_spec.specs.Kept.{row, initials, Initial}
use Rattle.sheet_spec.proofs.RuleLaws.{initials→, initials←}
use Rattle.probes_spec.specs.Listing.{node_probes}
use Rattle.probes_spec.proofs.ListingLaws.{node_list}
use Rattle.tests_spec.specs.declared.Run.{Run}
use Rattle.tests_spec.specs.Flags.{flag}
use Rattle.tests_spec.specs.Runs.{all_events, outside, probes_at, chosen, offer_of}

-- all e events: an event is among them exactly if it is below e
pub all_means : (e i : ℕ) → (bit (all_events e) i ≡ 1) ↔ (i < e)
unfolding all_events
all_means e i = (forth, λ l. omega (arith, bit_rest e i 0 (pow_pos e) l, bits_zero i, ap (λ (x : ℕ). bit x i) (sub-zero (2 ^ e - 1))))
  where
    forth : bit (2 ^ e - 1) i ≡ 1 → i < e
    forth b = go (lt_or_ge i e)
      where
        go : (i < e) ⊎ (e ≤ i) → i < e
        go (inl l) = l
        go (inr l) = absurd (omega (arith, b, bit_high e i (2 ^ e - 1) (omega (arith, pow_pos e)) l))

-- the initials are events below e
pub initials_small : (e : ℕ) (r : Row) → e ≤ 12 → initials e r < 2 ^ e
initials_small e r small = narrow e (initials e r) (λ i b. (initials→ e r small i b).0)

-- an event is outside the initials exactly if it is one of the sheet's and no initial
pub outside_means : (s : Sheet) (v i : ℕ) → s.e ≤ 12 → (bit (outside s v) i ≡ 1) ↔ ((i < s.e) × (¬ Initial s.e (row s v) i))
unfolding outside all_events
outside_means s v i small = (forth, back)
  where
    X : ℕ
    X = initials s.e (row s v)

    digit : i < s.e → bit (2 ^ s.e - 1 - X) i ≡ 1 - bit X i
    digit l = bit_rest s.e i X (initials_small s.e (row s v) small) l

    forth : bit (2 ^ s.e - 1 - X) i ≡ 1 → (i < s.e) × (¬ Initial s.e (row s v) i)
    forth b = go (lt_or_ge i s.e)
      where
        go : (i < s.e) ⊎ (s.e ≤ i) → (i < s.e) × (¬ Initial s.e (row s v) i)
        go (inl l) = (l, λ (h : Initial s.e (row s v) i). omega (arith, b, digit l, initials← s.e (row s v) small i h))
        go (inr l) = absurd (omega (arith, b, bit_high s.e i (2 ^ s.e - 1 - X) (omega (arith, pow_pos s.e)) l))

    back : (i < s.e) × (¬ Initial s.e (row s v) i) → bit (2 ^ s.e - 1 - X) i ≡ 1
    back (l, n) = go (ℕ_discrete (bit X i) 1)
      where
        go : Dec (bit X i ≡ 1) → bit (2 ^ s.e - 1 - X) i ≡ 1
        go (yes b) = absurd (n (initials→ s.e (row s v) small i b))
        go (no b) = omega (arith, digit l, bit≤1 X i, b)

-- the probes that a run counts are those that a probe call lists for the node, in that order
pub counted_list : (s : Sheet) (v : ℕ) → probes_at s v ≡ node_probes s v
unfolding probes_at
counted_list s v = sym (node_list s v)

-- with no probe nothing is chosen
pub chosen_none : (ps : List ℕ) (h : ℕ) → length ps ≡ 0 → chosen ps h ≡ 0
unfolding chosen
chosen_none ps h e = rw (eq-eqb (length ps) 0 e)

-- with m probes, number (h remainder m) is chosen
pub chosen_some : (ps : List ℕ) (h : ℕ) → 0 < length ps → chosen ps h ≡ get_or ps (h % length ps) 0
unfolding chosen
chosen_some ps h l = rw (ne_eqb (length ps) 0 (λ e. omega arith))

module _ (s : Sheet) (r : Run) where
  -- below depth k, and in a trace-only run, all events are offered
  pub offer_all : (flag r.trace_only ≡ true) ⊎ (r.depth < r.k) → offer_of s r ≡ all_events s.e
  unfolding offer_of
  offer_all (inl t) = rw t
  offer_all (inr l) = let q : (flag r.trace_only || ltb r.depth r.k) ≡ true = or_r (flag r.trace_only) (lt-ltb _ _ l) in rw q

  -- below depth k, and in a trace-only run, an event is offered exactly if it is one of the sheet's
  pub offer_below : (flag r.trace_only ≡ true) ⊎ (r.depth < r.k) → (i : ℕ) → (bit (offer_of s r) i ≡ 1) ↔ (i < s.e)
  offer_below c i = rw (offer_all c) (all_means s.e i)

  -- at depth k the chosen probe and the events outside the initials are offered
  offer_last : flag r.trace_only ≡ false → r.k ≤ r.depth → offer_of s r ≡ bit_or (chosen (probes_at s r.node) r.h) (outside s r.node)
  unfolding offer_of
  offer_last t l = rw (t, le-ltb r.depth r.k l)

  -- at depth k an event is offered exactly if it is of the chosen probe, or one of the sheet's and no initial
  pub offer_at_lem : s.e ≤ 12 → flag r.trace_only ≡ false → r.k ≤ r.depth → (i : ℕ)
      → (bit (offer_of s r) i ≡ 1) ↔ ((bit (chosen (probes_at s r.node) r.h) i ≡ 1) ⊎ ((i < s.e) × (¬ Initial s.e (row s r.node) i)))
  offer_at_lem small t l i = rw (offer_last t l) (forth, back)
    where
      X : ℕ
      X = chosen (probes_at s r.node) r.h

      Y : ℕ
      Y = outside s r.node

      forth : bit (bit_or X Y) i ≡ 1 → (bit X i ≡ 1) ⊎ ((i < s.e) × (¬ Initial s.e (row s r.node) i))
      forth b = go (ℕ_discrete (bit X i) 1)
        where
          go : Dec (bit X i ≡ 1) → (bit X i ≡ 1) ⊎ ((i < s.e) × (¬ Initial s.e (row s r.node) i))
          go (yes x) = inl x
          go (no x) = inr ((outside_means s r.node i small).0 (omega (arith, b, bit_or_lem i X Y, bit≤1 X i, x)))

      back : (bit X i ≡ 1) ⊎ ((i < s.e) × (¬ Initial s.e (row s r.node) i)) → bit (bit_or X Y) i ≡ 1
      back (inl x) = omega (arith, bit_or_lem i X Y, x, bit≤1 Y i)
      back (inr y) = omega (arith, bit_or_lem i X Y, (outside_means s r.node i small).1 y, bit≤1 X i)

  -- at depth k, with m probes in the node's list, number (h remainder m) of that list is offered whole
  pub offer_probe : s.e ≤ 12 → flag r.trace_only ≡ false → r.k ≤ r.depth → 0 < length (node_probes s r.node)
      → (i : ℕ) → bit (get_or (node_probes s r.node) (r.h % length (node_probes s r.node)) 0) i ≡ 1 → bit (offer_of s r) i ≡ 1
  offer_probe small t l n i b =
      let q = counted_list s r.node in
      let c : chosen (probes_at s r.node) r.h ≡ get_or (node_probes s r.node) (r.h % length (node_probes s r.node)) 0 = rw q (chosen_some (node_probes s r.node) r.h n) in
      (offer_at_lem small t l i).1 (inl (rw c b))

  -- an event of the sheet that is no initial is always offered
  pub offer_outside : s.e ≤ 12 → (i : ℕ) → i < s.e → ¬ Initial s.e (row s r.node) i → bit (offer_of s r) i ≡ 1
  offer_outside small i l n = go (dec (flag r.trace_only)) (lt_or_ge r.depth r.k)
    where
      go : (flag r.trace_only ≡ true) ⊎ (flag r.trace_only ≡ false) → (r.depth < r.k) ⊎ (r.k ≤ r.depth) → bit (offer_of s r) i ≡ 1
      go (inl t) d = (offer_below (inl t) i).1 l
      go (inr t) (inl d) = (offer_below (inr d) i).1 l
      go (inr t) (inr d) = (offer_at_lem small t d i).1 (inr (l, n))
