-- One round of each loop over the rules, and how the answers are picked: one law for each way out.
use mathlib.Core.Path.{◌≡◌, refl, sym, ap, ◌∙◌}
use mathlib.Core.Logic.{◌⊎◌, inl, inr, ◌≢◌}
use mathlib.Core.Bool.{Bool, true, false, not, ◌&&◌}
use mathlib.Core.List.{List}
use Prim.Native.Nat.{ℕ, ◌+◌, ◌≤◌, ◌<◌}
use native.Mathlib.Omega.{arith}
use lib.Bits.{bit_and}
use lib.Dec.{eqb, ltb, leb}
use Rattle.std.specs.Prelude.{Option, Some, None, is_some, Result, Ok, Err}
use borrow.Author.Tests.{eqb-true, eqb-false, eq-eqb, ne_eqb, lt-ltb, le-ltb, le-leb, leb-true, not-true, not-false}
use Rattle.refusals.specs.declared.Refusal.{Refusal}
use Rattle.refusals.specs.Numbers.{number, refusal_in, numbered}
use Rattle.refusals.proofs.NumberLaws.{number_some}
use Rattle.base.proofs.Truth.{clash, lt_or_ge, and_l, and_r, and_i, not_i, t_not}
use Rattle.base.proofs.Range.{all→, first_is, first_none, first_at}
use Rattle.base.proofs.Refusal.{or_else_some}
use Rattle.base.proofs.Loops.{Passing}
use Rattle.events.specs.Sets.{inside}
use Rattle.sheet_spec.specs.declared.Sheet.{Sheet}
use Rattle.sheet_spec.specs.Refusals.{sheet_fault}
use Rattle.keypad_spec.specs.declared.Keypad.{Keypad}
use Rattle.keypad_spec.specs.declared.Keypad.TheVariants.{Good, Gap, Overlap}
use Rattle.keypad_spec.specs.declared.Found.{Found}
use Rattle.keypad_spec.specs.declared.Found.TheVariants.{Event, Gap as GapFound, Overlap as OverlapFound}
use Rattle.keypad_spec.specs.Tables.{rule_count, mask, value, event_of, matches, match_count, bad_code, match_from, lowest, if_below, bad_answer, table_answer}
use Rattle.keypad_spec.specs.Calls.{table_fault, keypad_fault, keypad_of, found_from, found_of}
use Rattle.keypad_spec.specs.Numbers.{keyed, looked}
use Rattle.keypad_spec.proofs.MatchLaws.{no_lowest, has_lowest, no_second, has_second}
use Rattle.keypad_spec.proofs.RefusalLaws.{whole_rules, keypad_0}
use Rattle.keypad_spec.proofs.TellLaws.{told_good, told_bad, told_gap, told_overlap}
use Rattle.keypad_spec.proofs.CallLaws.{keypad_denied, keypad_given, find_gap, find_overlap, find_denied, found_inside}
use Rattle.keypad_spec.proofs.NumberLaws.{keypad_refusal, found_refusal}

-- ---- the refusals

-- 22: the value of a rule has no bit outside its mask
abbrev pub value_ok : List ℕ → ℕ → Bool
value_ok b i = inside (value b i) (mask b i)

-- 23: the event of a rule is below e
abbrev pub event_ok : List ℕ → ℕ → ℕ → Bool
event_ok b e i = ltb (event_of b i) e

-- ---- places below a bound

module _ {n i : ℕ} where
  pub below_some : {x : ℕ} → x < n → x ≡ i → Some x ≡ if_below n i
  below_some {x} l e = rw (← e, lt-ltb x n l)

  pub below_none : n ≤ i → None ≡ if_below n i
  below_none l = rw (le-ltb i n l)

  pub some_below : {x : ℕ} → Some x ≡ if_below n i → (x ≡ i) × (i < n)
  some_below {x} e = go (lt_or_ge i n)
    where
      go : (i < n) ⊎ (n ≤ i) → (x ≡ i) × (i < n)
      go (inl l) = (cc (rw (lt-ltb i n l) at e), l)
      go (inr l) = absurd (cc (rw (le-ltb i n l) at e))

  pub none_below : None ≡ if_below n i → n ≤ i
  none_below e = go (lt_or_ge i n)
    where
      go : (i < n) ⊎ (n ≤ i) → n ≤ i
      go (inl l) = absurd (cc (rw (lt-ltb i n l) at e))
      go (inr l) = l

-- ---- the rules that match a code

-- of the rules from rule `from` on, none before rule i matches the code
pub record Seeking (b : List ℕ) (c from i : ℕ) : Type 0 where
  pub reached : from ≤ i
  pub none : (k : ℕ) → from ≤ k → k < i → matches b c k ≡ false

module _ (b : List ℕ) (c from : ℕ) where
  pub seek_start : Seeking b c from from
  seek_start = record { reached = omega arith; none = λ k l h. absurd (omega (arith, l, h)) }

  module _ {i : ℕ} (w : Seeking b c from i) where
    pub seek_more : bit_and c (mask b i) ≢ value b i → Seeking b c from (i + 1)
    unfolding matches
    seek_more n = record { reached = omega (arith, w.reached); none = λ k l h. go k l (lt_or_ge k i) h }
      where
        go : (k : ℕ) → from ≤ k → (k < i) ⊎ (i ≤ k) → k < i + 1 → matches b c k ≡ false
        go k l (inl x) h = w.none k l x
        go k l (inr x) h = let e : k ≡ i = omega (arith, x, h) in rw e (ne_eqb _ _ n)

    -- no rule below i passes the test of `match_from`
    skipped : (k : ℕ) → k < i → (leb from k && matches b c k) ≡ false
    skipped k h = not_i (λ t. clash (and_r (leb from k) _ t) (w.none k (leb-true from k (and_l _ _ t)) h))

    pub seek_found : i < rule_count b → bit_and c (mask b i) ≡ value b i → Some i ≡ if_below (rule_count b) (match_from b c from)
    unfolding match_from matches
    seek_found l e = below_some l (sym (first_is (λ k. leb from k && matches b c k) (rule_count b) i l skipped (and_i (le-leb from i w.reached) (eq-eqb _ _ e))))

    pub seek_none : rule_count b ≤ i → None ≡ if_below (rule_count b) (match_from b c from)
    unfolding match_from
    seek_none l =
        let e = first_none (λ k. leb from k && matches b c k) (rule_count b) (λ k h. skipped k (omega (arith, h, l))) in
        below_none (omega (arith, e))

-- ---- the codes

-- whether just one rule matches a code
abbrev pub one_rule : List ℕ → ℕ → Bool
one_rule b c = eqb (match_count b c) 1

module _ (b : List ℕ) (c : ℕ) where
  module _ (e : None ≡ if_below (rule_count b) (lowest b c)) where
    -- no rule matches
    pub no_rule_matches : false ≡ one_rule b c
    no_rule_matches = let z = no_lowest b c (none_below e) in sym (ne_eqb (match_count b c) 1 (λ q. omega (arith, z, q)))

    pub puts_gap : Gap c ≡ bad_answer b c
    puts_gap = sym (told_gap b c (no_lowest b c (none_below e)))

  module _ {i : ℕ} (e : Some i ≡ if_below (rule_count b) (lowest b c)) where
    -- a rule matches, and no other does
    pub one_rule_matches : None ≡ if_below (rule_count b) (match_from b c (i + 1)) → true ≡ one_rule b c
    one_rule_matches f =
        let w = some_below e in
        let l = none_below f in
        sym (eq-eqb (match_count b c) 1 (no_second b c w.1 (rw w.0 at l)))

    module _ {k : ℕ} (f : Some k ≡ if_below (rule_count b) (match_from b c (i + 1))) where
      -- another does
      pub more_match : false ≡ one_rule b c
      more_match =
          let w = some_below e in
          let l = (some_below f).1 in
          sym (ne_eqb (match_count b c) 1 (has_second b c (rw w.0 at l)))

      pub puts_overlap : Overlap c i k ≡ bad_answer b c
      puts_overlap =
          let w = some_below e in
          let v = (some_below f).0 in
          rw (v, w.0) (sym (told_overlap b c (has_lowest b c w.1)))

    module _ {o : Option ℕ} (f : o ≡ if_below (rule_count b) (match_from b c (i + 1))) where
      -- where not just one does, another does
      pub some_more : match_count b c ≢ 1 → is_some o ≡ true
      some_more n = go o refl
        where
          go : (r : Option ℕ) → o ≡ r → is_some r ≡ true
          go None p = absurd (n (eqb-true (match_count b c) 1 (sym (one_rule_matches (sym p ∙ f)))))
          go (Some k) p = refl

      pub one_or_more : {t : Bool} → is_some o ≡ not t → t ≡ one_rule b c
      one_or_more {t} h = go o refl h
        where
          go : (r : Option ℕ) → o ≡ r → is_some r ≡ not t → t ≡ one_rule b c
          go None p q = not-false t (sym q) ∙ one_rule_matches (sym p ∙ f)
          go (Some k) p q = not-true t (sym q) ∙ more_match (sym p ∙ f)

module _ (b : List ℕ) {c : ℕ} (w : Passing (one_rule b) 256 c) where
  -- the loop over the codes leaves at the smallest bad one, or there is none
  pub bad_found : {t : Bool} → c < 256 → t ≡ one_rule b c → t ≡ false → Some c ≡ if_below 256 (bad_code b)
  unfolding bad_code
  bad_found {t} l p q =
      below_some l (sym (first_is (λ c. not (one_rule b c)) 256 c l (λ k h. t_not (all→ (one_rule b) c k w.passed h)) (rw (← p, q))))

  pub bad_none : 256 ≤ c → None ≡ if_below 256 (bad_code b)
  unfolding bad_code
  bad_none l =
      let e = first_none (λ c. not (one_rule b c)) 256 (λ k h. t_not (all→ (one_rule b) c k w.passed (omega (arith, h, l)))) in
      below_none (omega (arith, e))

module _ (b : List ℕ) where
  -- the smallest bad code is bad
  pub bad_is : {c : ℕ} → Some c ≡ if_below 256 (bad_code b) → match_count b c ≢ 1
  unfolding bad_code
  bad_is {c} e =
      let w = some_below e in
      rw w.0 (eqb-false (match_count b (bad_code b)) 1 (not-true _ (first_at (λ c. not (one_rule b c)) 256 w.1)))

  -- the answer on a table, by its smallest bad code
  pub puts_bad : {c : ℕ} {a : Keypad} → Some c ≡ if_below 256 (bad_code b) → a ≡ bad_answer b c → a ≡ table_answer b
  puts_bad e p = let w = some_below e in p ∙ rw w.0 (sym (told_bad b w.1))

  pub puts_good : None ≡ if_below 256 (bad_code b) → Good ≡ table_answer b
  puts_good e = sym (told_good b (none_below e))

-- ---- the calls

-- an answer that is the definition's tells the refusal of the call
told : (s : Sheet) (b : List ℕ) {a : Result Keypad ℕ} → a ≡ keypad_of s b → (a ≡ keypad_of s b) × ((keyed a).refusal ≡ keypad_fault s b)
told s b e = (e, ap (λ (x : Result Keypad ℕ). (keyed x).refusal) e ∙ keypad_refusal s b)

told_found : (s : Sheet) (b : List ℕ) (c : ℕ) {f : Result Found ℕ} → f ≡ found_of s b c → (f ≡ found_of s b c) × ((looked f).refusal ≡ keypad_fault s b)
told_found s b c e = (e, ap (λ (x : Result Found ℕ). (looked x).refusal) e ∙ found_refusal s b c)

-- a check, r being the sheet's refusal and f the table's
module _ (s : Sheet) (b : List ℕ) {r : Result Unit Refusal} (p : refusal_in r ≡ sheet_fault s) where
  pub denies_sheet : {cause : Refusal} {a : Result Keypad Refusal} → r ≡ Err cause → a ≡ Err cause
      → (numbered a ≡ keypad_of s b) × ((keyed (numbered a)).refusal ≡ keypad_fault s b)
  unfolding keypad_fault
  denies_sheet {cause} e q =
      let m : number cause ≡ sheet_fault s = ap refusal_in (sym e) ∙ p in
      let o : keypad_fault s b ≡ number cause = or_else_some (sheet_fault s) _ (omega (arith, number_some cause, m)) ∙ sym m in
      told s b (ap numbered q ∙ sym (keypad_denied s b (λ z. omega (arith, number_some cause, o, z)) ∙ rw o))

  module _ (f : Result Unit Refusal) (q : refusal_in f ≡ table_fault s.e b) {u : Unit} (z : r ≡ Ok u) where
    fault_is : keypad_fault s b ≡ refusal_in f
    unfolding keypad_fault
    fault_is = let m : sheet_fault s ≡ 0 = sym p ∙ ap refusal_in z in rw m (sym q)

    pub denies_table : {cause : Refusal} {a : Result Keypad Refusal} → f ≡ Err cause → a ≡ Err cause
        → (numbered a ≡ keypad_of s b) × ((keyed (numbered a)).refusal ≡ keypad_fault s b)
    denies_table {cause} e w =
        let o : keypad_fault s b ≡ number cause = fault_is ∙ ap refusal_in e in
        told s b (ap numbered w ∙ sym (keypad_denied s b (λ z. omega (arith, number_some cause, o, z)) ∙ rw o))

    module _ {v : Unit} (y : f ≡ Ok v) where
      pub at_most_64 : rule_count b ≤ 64
      at_most_64 = ((whole_rules b).0 ((keypad_0 s b).0 (fault_is ∙ ap refusal_in y)).0.0.1).1

      pub tells_table : {a : Keypad} → a ≡ table_answer b → (numbered (Ok a) ≡ keypad_of s b) × ((keyed (numbered (Ok a))).refusal ≡ keypad_fault s b)
      tells_table {a} w = told s b (ap Ok w ∙ sym (keypad_given s b (fault_is ∙ ap refusal_in y)))

-- a lookup, by what the check answers
module _ (s : Sheet) (b : List ℕ) (c : ℕ) {r : Result Keypad Refusal} (p : numbered r ≡ keypad_of s b) where
  pub finds_denied : {cause : Refusal} {f : Result Found Refusal} → r ≡ Err cause → f ≡ Err cause
      → (numbered f ≡ found_of s b c) × ((looked (numbered f)).refusal ≡ keypad_fault s b)
  finds_denied {cause} {f} z w = told_found s b c (ap numbered w ∙ sym ((find_denied s b c _).1 (sym p ∙ ap numbered z)))

  module _ {k : Keypad} (z : r ≡ Ok k) where
    pub finds_inside : k ≡ Good → c < 256 → lowest b c < rule_count b
    finds_inside w h = found_inside s b c (sym p ∙ ap numbered z ∙ ap Ok w) h

    pub finds_event : {e : ℕ} → k ≡ Good → e ≡ event_of b (lowest b c)
        → (Ok (Event e) ≡ found_of s b c) × ((looked (Ok (Event e))).refusal ≡ keypad_fault s b)
    unfolding found_of found_from
    finds_event {e} w q = told_found s b c (rw (← p, z, w, q))

    pub finds_gap : {d : ℕ} → k ≡ Gap d → (Ok (GapFound d) ≡ found_of s b c) × ((looked (Ok (GapFound d))).refusal ≡ keypad_fault s b)
    finds_gap {d} w = told_found s b c (sym ((find_gap s b c _).1 (sym p ∙ ap numbered z ∙ ap Ok w)))

    pub finds_overlap : {d i j : ℕ} → k ≡ Overlap d i j
        → (Ok (OverlapFound d i j) ≡ found_of s b c) × ((looked (Ok (OverlapFound d i j))).refusal ≡ keypad_fault s b)
    finds_overlap {d} {i} {j} w = told_found s b c (sym ((find_overlap s b c _ _ _).1 (sym p ∙ ap numbered z ∙ ap Ok w)))
