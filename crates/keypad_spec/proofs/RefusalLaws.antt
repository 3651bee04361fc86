-- Nothing to believe: laws. The refusals of both calls: each number is given exactly if its fault is there and no
-- earlier one is (02, K6: "with 21, then .. with 22, then .. with 23").
use Rattle.std.specs.Prelude.{◌≡◌, ◌⊎◌, ◌≢◌, ◌↔◌, Bool, List, length}
use Rattle.std.proofs.Math.Path.{refl}
use Rattle.std.proofs.Math.Logic.{inl, inr}
use Rattle.std.proofs.Math.Bool.{true, false}
use Prim.Native.Nat.{ℕ, zero, suc, ◌+◌, ◌*◌, ◌/◌, ◌%◌, ◌≤◌, ◌<◌}
use native.Mathlib.Omega.{arith}
use Rattle.base.proofs.Finds.{Finds, finds_as, finds_eq, finds_le, finds_lt, finds_and, finds_all}
use Rattle.base.specs.Refusal.{unless, or_else}
use Rattle.base.proofs.Refusal.{unless_hit, unless_pass, unless_none, unless_other, or_else_first, or_else_then}
use Rattle.events.specs.Bit.{bit}
use Rattle.events.proofs.Sets.{inside→, inside_missing}
use Rattle.sheet_spec.specs.declared.Sheet.{Sheet}
use Rattle.sheet_spec.specs.Refusals.{sheet_fault, Own, NotOwn}
use Rattle.sheet_spec.proofs.Chains.{further, finally, settled}
use Rattle.sheet_spec.proofs.CheckLaws.{check_other, check_own, own_other}
use Rattle.keypad_spec.specs.Tables.{rule_count, mask, value, event_of}
use Rattle.keypad_spec.specs.Calls.{size_ok, values_ok, events_ok, table_fault, keypad_fault}
use Rattle.keypad_spec.specs.Meaning.{PartRule, SizeFault, ValueFault, EventFault, Clear21, Clear22}

-- ---- the faults of a table

module _ (b : List ℕ) where
  -- the bytes of every rule stand before the end
  pub rule_inside : (i : ℕ) → i < rule_count b → 3 * i + 2 < length b
  rule_inside i l = omega arith

  -- bytes are left over exactly if the length is no multiple of 3
  part_means : (length b % 3 ≢ 0) ↔ PartRule b
  part_means = (to, from)
    where
      to : length b % 3 ≢ 0 → PartRule b
      to n = (length b / 3, go (length b % 3) refl (omega arith) n)
        where
          go : (r : ℕ) → length b % 3 ≡ r → r < 3 → r ≢ 0 → (length b ≡ 3 * (length b / 3) + 1) ⊎ (length b ≡ 3 * (length b / 3) + 2)
          go zero e l n = absurd (n refl)
          go (suc zero) e l n = inl (omega arith)
          go (suc (suc r)) e l n = inr (omega arith)

      from : PartRule b → length b % 3 ≢ 0
      from (n, inl e) z = omega (arith, e, z)
      from (n, inr e) z = omega (arith, e, z)

  size_finds : Finds (size_ok b) (SizeFault b)
  unfolding size_ok
  size_finds =
      finds_as (finds_and (finds_eq (length b % 3) 0) (finds_and (finds_le 1 (rule_count b)) (finds_le (rule_count b) 64))) to from
    where
      to : (length b % 3 ≢ 0) ⊎ ((rule_count b < 1) ⊎ (64 < rule_count b)) → SizeFault b
      to (inl n) = inr (inr (part_means.0 n))
      to (inr (inl l)) = inl (omega arith)
      to (inr (inr l)) = inr (inl l)

      from : SizeFault b → (length b % 3 ≢ 0) ⊎ ((rule_count b < 1) ⊎ (64 < rule_count b))
      from (inl e) = inr (inl (omega arith))
      from (inr (inl l)) = inr (inr l)
      from (inr (inr p)) = inl (part_means.1 p)

  values_find : Finds (values_ok b) (ValueFault b)
  unfolding values_ok
  values_find =
      finds_all (rule_count b)
      (λ i l. record { clear = λ t x. let w = inside→ (value b i) (mask b i) t x.0 in omega (arith, w, x.1, x.2); fault = λ t. inside_missing (value b i) (mask b i) t })

  events_find : (e : ℕ) → Finds (events_ok e b) (EventFault e b)
  unfolding events_ok
  events_find e = finds_all (rule_count b) (λ i l. finds_lt (event_of b i) e)

  -- bytes that have no fault of 21 are three for each of 1 to 64 rules, and no other bytes are
  pub whole_rules : (¬ SizeFault b) ↔ ((1 ≤ rule_count b) × (rule_count b ≤ 64) × (length b ≡ 3 * rule_count b))
  whole_rules = (to, from)
    where
      to : (¬ SizeFault b) → (1 ≤ rule_count b) × (rule_count b ≤ 64) × (length b ≡ 3 * rule_count b)
      to n =
          let z : length b % 3 ≡ 0 = settled (length b % 3) 0 (λ p. n (inr (inr (part_means.0 p)))) in
          let some : rule_count b ≢ 0 = λ e. n (inl e) in
          let few : ¬ (64 < rule_count b) = λ l. n (inr (inl l)) in
          (omega (arith, some), omega (arith, few), omega (arith, z))

      from : (1 ≤ rule_count b) × (rule_count b ≤ 64) × (length b ≡ 3 * rule_count b) → ¬ SizeFault b
      from w (inl e) = omega (arith, w.0, e)
      from w (inr (inl l)) = omega (arith, w.1, l)
      from w (inr (inr p)) = part_means.1 p (omega (arith, w.2))

-- ---- the numbers of the calls

module _ (s : Sheet) (b : List ℕ) where
  -- what is tested of a table after 22, and after 21
  abbrev after22 : ℕ
  after22 = unless (events_ok s.e b) 23 0

  abbrev after21 : ℕ
  after21 = unless (values_ok b) 22 after22

  -- a table gets no number of a sheet's own
  table_other : (m : ℕ) → Own m → table_fault s.e b ≢ m
  unfolding table_fault
  table_other m o = none (size_ok b) (values_ok b) (events_ok s.e b)
    where
      none : (x y z : Bool) → unless x 21 (unless y 22 (unless z 23 0)) ≢ m
      none x y z =
          unless_other x (own_other o (omega arith, λ p. omega arith))
          (unless_other y (own_other o (omega arith, λ p. omega arith))
          (unless_other z (own_other o (omega arith, λ p. omega arith)) (λ p. omega (arith, o.0))))

  -- a sheet's own number is given exactly if the sheet has it, whatever the table
  pub keypad_sheet : (m : ℕ) → Own m → (keypad_fault s b ≡ m) ↔ (sheet_fault s ≡ m)
  unfolding keypad_fault
  keypad_sheet m o = or_else_first (sheet_fault s) (table_fault s.e b) m (λ z. omega (arith, o.0, z)) (table_other m o)

  -- another number comes from the table, once the sheet is accepted
  sheet_passed : (m : ℕ) → NotOwn m ⊎ (m ≡ 0) → (keypad_fault s b ≡ m) ↔ ((sheet_fault s ≡ 0) × (table_fault s.e b ≡ m))
  unfolding keypad_fault
  sheet_passed m (inl n) = or_else_then (sheet_fault s) (table_fault s.e b) m (inl (check_other s m n))
  sheet_passed m (inr z) = or_else_then (sheet_fault s) (table_fault s.e b) m (inr z)

  size_passed : (m : ℕ) → NotOwn m ⊎ (m ≡ 0) → 21 ≢ m → (keypad_fault s b ≡ m) ↔ (Clear21 s b × (after21 ≡ m))
  unfolding table_fault
  size_passed m o n = further (sheet_passed m o) (λ f. unless_pass 21 after21 m (size_finds b) n)

  values_passed : (m : ℕ) → NotOwn m ⊎ (m ≡ 0) → 21 ≢ m → 22 ≢ m → (keypad_fault s b ≡ m) ↔ (Clear22 s b × (after22 ≡ m))
  values_passed m o n k = further (size_passed m o n) (λ f. unless_pass 22 after22 m (values_find b) k)

  -- 21: of an accepted sheet, the table has no rule, over 64, or a part of one
  pub keypad_21 : (keypad_fault s b ≡ 21) ↔ ((sheet_fault s ≡ 0) × SizeFault b)
  unfolding table_fault
  keypad_21 =
      finally (sheet_passed 21 (inl (omega arith, λ p. omega arith)))
      (λ f. unless_hit 21 after21 (size_finds b) (unless_other (values_ok b) (λ p. omega arith) (unless_other (events_ok s.e b) (λ p. omega arith) (λ p. omega arith))))

  -- 22: of whole rules, some value has a bit outside its mask, whatever the events are
  pub keypad_22 : (keypad_fault s b ≡ 22)
      ↔ (((sheet_fault s ≡ 0) × (¬ SizeFault b)) × ((i : ℕ) × (i < rule_count b) × ((j : ℕ) × (bit (value b i) j ≡ 1) × (bit (mask b i) j ≡ 0))))
  keypad_22 =
      finally (size_passed 22 (inl (omega arith, λ p. omega arith)) (λ p. omega arith))
      (λ f. unless_hit 22 after22 (values_find b) (unless_other (events_ok s.e b) (λ p. omega arith) (λ p. omega arith)))

  -- 23: no value has such a bit, and some event is not below E
  pub keypad_23 : (keypad_fault s b ≡ 23)
      ↔ ((((sheet_fault s ≡ 0) × (¬ SizeFault b)) × (¬ ValueFault b)) × ((i : ℕ) × (i < rule_count b) × (s.e ≤ event_of b i)))
  keypad_23 =
      finally (values_passed 23 (inl (omega arith, λ p. omega arith)) (λ p. omega arith) (λ p. omega arith))
      (λ f. unless_hit 23 0 (events_find b s.e) (λ p. omega arith))

  -- no refusal: none of these
  pub keypad_0 : (keypad_fault s b ≡ 0) ↔ (Clear22 s b × (¬ EventFault s.e b))
  keypad_0 =
      finally (values_passed 0 (inr refl) (λ p. omega arith) (λ p. omega arith)) (λ f. unless_none 23 (events_find b s.e) (λ p. omega arith))

  -- no other number is given: 0, the sheet's own, 21, 22 or 23
  pub keypad_numbers : (keypad_fault s b ≡ 0) ⊎ (Own (keypad_fault s b) ⊎ ((keypad_fault s b ≡ 21) ⊎ ((keypad_fault s b ≡ 22) ⊎ (keypad_fault s b ≡ 23))))
  unfolding keypad_fault table_fault
  keypad_numbers = go (sheet_fault s) refl (size_ok b) (values_ok b) (events_ok s.e b)
    where
      go : (k : ℕ) → sheet_fault s ≡ k → (x y z : Bool)
          → (or_else k (unless x 21 (unless y 22 (unless z 23 0))) ≡ 0) ⊎ (Own (or_else k (unless x 21 (unless y 22 (unless z 23 0)))) ⊎ ((or_else k (unless x 21 (unless y 22 (unless z 23 0))) ≡ 21) ⊎ ((or_else k (unless x 21 (unless y 22 (unless z 23 0))) ≡ 22) ⊎ (or_else k (unless x 21 (unless y 22 (unless z 23 0))) ≡ 23))))
      go (suc k) e x y z = inr (inl (rw e at (check_own s (λ q. omega (arith, e, q)))))
      go zero e false y z = inr (inr (inl refl))
      go zero e true false z = inr (inr (inr (inl refl)))
      go zero e true true false = inr (inr (inr (inr refl)))
      go zero e true true true = inl refl
