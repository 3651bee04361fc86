-- Nothing to believe: laws. What the two calls answer, exactly when: a check one of its four cases, a lookup the event
-- of the rule that matches if the table is good, else what the check answers, whatever code is asked. Of the sheet only
-- E counts.
use Rattle.std.specs.Prelude.{◌≡◌, ◌⊎◌, ◌≢◌, ◌↔◌, List, true, ℕ, Result, Ok, Err, ◌≤◌, ◌<◌}
use Rattle.std.proofs.Math.Path.{refl, ap}
use Rattle.std.proofs.Common.{sym, ◌∙◌, inl, inr, arith, eq-eqb, ne_eqb}
use Rattle.std.proofs.Math.Decide.{ℕ_discrete}
use Rattle.base.proofs.Truth.{lt_or_ge}
use Rattle.sheet_spec.specs.declared.Sheet.{Sheet}
use Rattle.sheet_spec.specs.Refusals.{sheet_fault}
use Rattle.keypad_spec.specs.declared.Keypad.{Keypad}
use Rattle.keypad_spec.specs.declared.Keypad.TheVariants.{Good, Gap, Overlap}
use Rattle.keypad_spec.specs.declared.Found.{Found}
use Rattle.keypad_spec.specs.declared.Found.TheVariants.{Event, Gap as GapFound, Overlap as OverlapFound}
use Rattle.keypad_spec.specs.Tables.{rule_count, event_of, matches, match_count, lowest, table_answer}
use Rattle.keypad_spec.specs.Calls.{keypad_fault, keypad_of, found_from, found_of}
use Rattle.keypad_spec.specs.Numbers.{keyed, looked}
use Rattle.keypad_spec.specs.Meaning.{Matches, GoodTable, GapAt, OverlapAt, Tells, ValueFault, EventFault}
use Rattle.keypad_spec.proofs.MatchLaws.{rule_matches, one_means, none_means, from_at, from_le}
use Rattle.keypad_spec.proofs.RefusalLaws.{keypad_0}
use Rattle.keypad_spec.proofs.TellLaws.{table_tells, tells_only}

-- ---- a check

module _ (s : Sheet) (b : List ℕ) where
  -- a refused check answers its number, every other what is told of the table
  pub keypad_denied : keypad_fault s b ≢ 0 → keypad_of s b ≡ Err (keypad_fault s b)
  unfolding keypad_of
  keypad_denied n = rw (ne_eqb (keypad_fault s b) 0 n)

  pub keypad_given : keypad_fault s b ≡ 0 → keypad_of s b ≡ Ok (table_answer b)
  unfolding keypad_of
  keypad_given z = rw (eq-eqb (keypad_fault s b) 0 z)

  -- what is answered where nothing is refused is so
  pub keypad_tells : keypad_fault s b ≡ 0 → Tells b (keypad_of s b)
  keypad_tells z = rw (keypad_given z) (table_tells b ((keypad_0 s b).0 z).0.1)

  -- the check answers a, which is no refusal, exactly if nothing is refused and a tells what is so
  pub keypad_means : (a : Result Keypad ℕ) → ((m : ℕ) → a ≢ Err m) → (keypad_of s b ≡ a) ↔ ((keypad_fault s b ≡ 0) × Tells b a)
  keypad_means a n = (λ e. to e (ℕ_discrete (keypad_fault s b) 0), λ w. tells_only b (keypad_of s b) a (keypad_tells w.0) w.1)
    where
      to : keypad_of s b ≡ a → Dec (keypad_fault s b ≡ 0) → (keypad_fault s b ≡ 0) × Tells b a
      to e (yes z) = (z, rw e at (keypad_tells z))
      to e (no k) = absurd (n (keypad_fault s b) (sym e ∙ keypad_denied k))

  -- good exactly if just one rule matches each code
  pub check_good : (keypad_of s b ≡ Ok Good) ↔ ((keypad_fault s b ≡ 0) × GoodTable b)
  unfolding keyed
  check_good = keypad_means (Ok Good) (λ m e. omega (arith, ap (λ (a : Result Keypad ℕ). (keyed a).kind) e))

  -- a gap exactly if no rule matches the smallest bad code
  pub check_gap : (c : ℕ) → (keypad_of s b ≡ Ok (Gap c)) ↔ ((keypad_fault s b ≡ 0) × GapAt b c)
  unfolding keyed
  check_gap c = keypad_means (Ok (Gap c)) (λ m e. omega (arith, ap (λ (a : Result Keypad ℕ). (keyed a).kind) e))

  -- an overlap exactly if more than one rule matches the smallest bad code, with the two lowest of them
  pub check_overlap : (c i k : ℕ) → (keypad_of s b ≡ Ok (Overlap c i k)) ↔ ((keypad_fault s b ≡ 0) × OverlapAt b c i k)
  unfolding keyed
  check_overlap c i k = keypad_means (Ok (Overlap c i k)) (λ m e. omega (arith, ap (λ (a : Result Keypad ℕ). (keyed a).kind) e))

  -- a refusal exactly with its number
  pub check_denied : (m : ℕ) → (keypad_of s b ≡ Err m) ↔ ((m ≢ 0) × (keypad_fault s b ≡ m))
  unfolding keyed
  check_denied m = (λ e. to e (ℕ_discrete (keypad_fault s b) 0), λ w. keypad_denied (λ z. w.0 (sym w.1 ∙ z)) ∙ ap Err w.1)
    where
      to : keypad_of s b ≡ Err m → Dec (keypad_fault s b ≡ 0) → (m ≢ 0) × (keypad_fault s b ≡ m)
      to e (yes z) = absurd (rw e at (keypad_tells z))
      to e (no n) =
          let q : keypad_fault s b ≡ m = ap (λ (a : Result Keypad ℕ). (keyed a).refusal) (sym (keypad_denied n) ∙ e) in
          ((λ z. n (q ∙ z)), q)

-- ---- the same by counting

module _ (s : Sheet) (b : List ℕ) where
  -- good exactly if the count is 1 for each code
  pub good_counted : (keypad_of s b ≡ Ok Good) ↔ ((keypad_fault s b ≡ 0) × ((c : ℕ) → c < 256 → match_count b c ≡ 1))
  good_counted = (
    λ e. let w = (check_good s b).0 e in (w.0, λ c l. (one_means b ((keypad_0 s b).0 w.0).0.1 c).1 (w.1 c l)),
    λ w. (check_good s b).1 (w.0, λ c l. (one_means b ((keypad_0 s b).0 w.0).0.1 c).0 (w.1 c l)),
  )

  -- a gap exactly if the count is 0 for the code and 1 for each smaller one
  pub gap_counted : (c : ℕ) → (keypad_of s b ≡ Ok (Gap c)) ↔ ((keypad_fault s b ≡ 0) × (c < 256) × (match_count b c ≡ 0) × ((d : ℕ) → d < c → match_count b d ≡ 1))
  gap_counted c = (
    λ e. let w = (check_gap s b c).0 e in
        let ok = ((keypad_0 s b).0 w.0).0.1 in
        (w.0, w.1.is_code, (none_means b ok c).1 w.1.none, λ d l. (one_means b ok d).1 (w.1.smallest d l)),
    λ w. let ok = ((keypad_0 s b).0 w.0).0.1 in
        (check_gap s b c).1 (w.0, record { is_code = w.1; none = (none_means b ok c).0 w.2; smallest = λ d l. (one_means b ok d).0 (w.3 d l) }),
  )

  -- an overlap exactly if i and k are the two lowest rules whose test passes, and the count is 1 for each smaller code
  pub overlap_counted : (c i k : ℕ)
      → (keypad_of s b ≡ Ok (Overlap c i k))
      ↔ ((keypad_fault s b ≡ 0) × (c < 256) × (i < k) × (k < rule_count b) × (matches b c i ≡ true) × (matches b c k ≡ true)
      × ((m : ℕ) → m < k → matches b c m ≡ true → m ≡ i) × ((d : ℕ) → d < c → match_count b d ≡ 1))
  overlap_counted c i k = (to, from)
    where
      Told : Type 0
      Told = (keypad_fault s b ≡ 0) × (c < 256) × (i < k) × (k < rule_count b) × (matches b c i ≡ true) × (matches b c k ≡ true)
          × ((m : ℕ) → m < k → matches b c m ≡ true → m ≡ i) × ((d : ℕ) → d < c → match_count b d ≡ 1)

      to : keypad_of s b ≡ Ok (Overlap c i k) → Told
      to e =
          let w = (check_overlap s b c i k).0 e in
          let o = w.1 in
          let ok = ((keypad_0 s b).0 w.0).0.1 in (
            w.0,
            o.is_code,
            o.lower,
            o.is_rule,
            (rule_matches b ok c i (omega (arith, o.lower, o.is_rule))).1 o.one,
            (rule_matches b ok c k o.is_rule).1 o.other,
            λ m l t. o.lowest_two m l ((rule_matches b ok c m (omega (arith, l, o.is_rule))).0 t),
            λ d l. (one_means b ok d).1 (o.smallest d l),
          )

      from : Told → keypad_of s b ≡ Ok (Overlap c i k)
      from (z, h, l, r, x, y, u, v) =
          let ok = ((keypad_0 s b).0 z).0.1 in
          (check_overlap s b c i k).1 (
            z,
            record {
              is_code = h;
              lower = l;
              is_rule = r;
              one = (rule_matches b ok c i (omega (arith, l, r))).0 x;
              other = (rule_matches b ok c k r).0 y;
              lowest_two = λ m j t. u m j ((rule_matches b ok c m (omega (arith, j, r))).1 t);
              smallest = λ d j. (one_means b ok d).0 (v d j);
            },
          )

-- ---- a lookup

module _ (s : Sheet) (b : List ℕ) (c : ℕ) where
  -- the lowest rule that matches a code is the one that does, where just one does
  lowest_is : (ok : ¬ ValueFault b) (i : ℕ) → i < rule_count b → Matches b c i → ((k : ℕ) → k < rule_count b → Matches b c k → k ≡ i) → lowest b c ≡ i
  lowest_is ok i l m u =
      let h = from_le b c 0 i (omega arith) ((rule_matches b ok c i l).1 m) in
      let r : lowest b c < rule_count b = omega (arith, h, l) in
      u (lowest b c) r ((rule_matches b ok c (lowest b c) r).0 (from_at b c 0 r).1)

  -- what a lookup answers, by what the check answers
  pub found_from_lem : {a : Result Keypad ℕ} → keypad_of s b ≡ a → found_of s b c ≡ found_from a (event_of b (lowest b c))
  unfolding found_of
  found_from_lem e = rw e

  -- in a good table some rule matches the code, and it is the lowest that does
  pub found_good : keypad_of s b ≡ Ok Good → c < 256 → (i : ℕ) × (i < rule_count b) × Matches b c i × (lowest b c ≡ i)
  found_good e h =
      let w = (check_good s b).0 e in
      let ok = ((keypad_0 s b).0 w.0).0.1 in
      let j = w.1 c h in
      (j.0, j.1, j.2, lowest_is ok j.0 j.1 j.2 j.3)

  -- so `find` may read the lowest rule's event: it stands before the end
  pub found_inside : keypad_of s b ≡ Ok Good → c < 256 → lowest b c < rule_count b
  found_inside e h = let w = found_good e h in omega (arith, w.1, w.3)

  -- an event is answered exactly if nothing is refused, the table is good, and the rule that matches the code has it
  pub find_event : c < 256 → (e : ℕ)
      → (found_of s b c ≡ Ok (Event e)) ↔ ((keypad_fault s b ≡ 0) × GoodTable b × ((i : ℕ) × (i < rule_count b) × Matches b c i × (event_of b i ≡ e)))
  unfolding found_of found_from looked
  find_event h e = (λ p. to (keypad_of s b) refl p, from)
    where
      Given : Type 0
      Given = (keypad_fault s b ≡ 0) × GoodTable b × ((i : ℕ) × (i < rule_count b) × Matches b c i × (event_of b i ≡ e))

      to : (a : Result Keypad ℕ) → keypad_of s b ≡ a → found_from a (event_of b (lowest b c)) ≡ Ok (Event e) → Given
      to (Ok Good) q p =
          let w = (check_good s b).0 q in
          let g = found_good q h in
          let x : event_of b (lowest b c) ≡ e = ap (λ (f : Result Found ℕ). (looked f).event) p in
          (w.0, w.1, (g.0, g.1, g.2, ap (event_of b) (sym g.3) ∙ x))
      to (Ok (Gap d)) q p = absurd (omega (arith, ap (λ (f : Result Found ℕ). (looked f).kind) p))
      to (Ok (Overlap d i k)) q p = absurd (omega (arith, ap (λ (f : Result Found ℕ). (looked f).kind) p))
      to (Err m) q p = absurd (omega (arith, ap (λ (f : Result Found ℕ). (looked f).kind) p))

      from : Given → found_of s b c ≡ Ok (Event e)
      from (z, g, (i, l, m, x)) =
          let q = (check_good s b).1 (z, g) in
          let w = found_good q h in
          let j = g c h in
          let y : w.0 ≡ i = j.3 w.0 w.1 w.2 ∙ sym (j.3 i l m) in
          found_from_lem q ∙ ap (λ (x : ℕ). Ok (Event x)) (ap (event_of b) (w.3 ∙ y) ∙ x)

  -- in a good table each code has an event, which is below E
  pub find_some : keypad_of s b ≡ Ok Good → c < 256 → (e : ℕ) × (e < s.e) × (found_of s b c ≡ Ok (Event e))
  unfolding found_from
  find_some q h =
      let w = found_good q h in
      let ok = ((keypad_0 s b).0 ((check_good s b).0 q).0).1 in
      (event_of b (lowest b c), below ok w.0 w.1 w.3 (lt_or_ge (event_of b w.0) s.e), found_from_lem q)
    where
      below : (¬ EventFault s.e b) → (i : ℕ) → i < rule_count b → lowest b c ≡ i → (event_of b i < s.e) ⊎ (s.e ≤ event_of b i) → event_of b (lowest b c) < s.e
      below ok i l e (inl r) = rw e r
      below ok i l e (inr r) = absurd (ok (i, l, r))

  -- an event that is answered is below E
  pub event_below : c < 256 → (e : ℕ) → found_of s b c ≡ Ok (Event e) → e < s.e
  unfolding looked
  event_below h e p =
      let w = (find_event h e).0 p in
      let g = find_some ((check_good s b).1 (w.0, w.1)) h in
      let x : g.0 ≡ e = ap (λ (f : Result Found ℕ). (looked f).event) (sym g.2 ∙ p) in
      rw x at g.1

  -- a gap, an overlap and a refusal are answered exactly if the check answers them, whatever code is asked
  pub find_gap : (d : ℕ) → (found_of s b c ≡ Ok (GapFound d)) ↔ (keypad_of s b ≡ Ok (Gap d))
  unfolding found_of found_from looked
  find_gap d = (λ p. to (keypad_of s b) refl p, found_from_lem)
    where
      to : (a : Result Keypad ℕ) → keypad_of s b ≡ a → found_from a (event_of b (lowest b c)) ≡ Ok (GapFound d) → keypad_of s b ≡ Ok (Gap d)
      to (Ok Good) q p = absurd (omega (arith, ap (λ (f : Result Found ℕ). (looked f).kind) p))
      to (Ok (Gap x)) q p = q ∙ ap (λ (x : ℕ). Ok (Gap x)) (ap (λ (f : Result Found ℕ). (looked f).code) p)
      to (Ok (Overlap x i k)) q p = absurd (omega (arith, ap (λ (f : Result Found ℕ). (looked f).kind) p))
      to (Err m) q p = absurd (omega (arith, ap (λ (f : Result Found ℕ). (looked f).kind) p))

  pub find_overlap : (d i k : ℕ) → (found_of s b c ≡ Ok (OverlapFound d i k)) ↔ (keypad_of s b ≡ Ok (Overlap d i k))
  unfolding found_of found_from looked
  find_overlap d i k = (λ p. to (keypad_of s b) refl p, found_from_lem)
    where
      to : (a : Result Keypad ℕ) → keypad_of s b ≡ a → found_from a (event_of b (lowest b c)) ≡ Ok (OverlapFound d i k) → keypad_of s b ≡ Ok (Overlap d i k)
      to (Ok Good) q p = absurd (omega (arith, ap (λ (f : Result Found ℕ). (looked f).kind) p))
      to (Ok (Gap x)) q p = absurd (omega (arith, ap (λ (f : Result Found ℕ). (looked f).kind) p))
      to (Ok (Overlap x y z)) q p =
          let u : x ≡ d = ap (λ (f : Result Found ℕ). (looked f).code) p in
          let v : y ≡ i = ap (λ (f : Result Found ℕ). (looked f).first) p in
          let w : z ≡ k = ap (λ (f : Result Found ℕ). (looked f).second) p in
          q ∙ rw (u, v, w)
      to (Err m) q p = absurd (omega (arith, ap (λ (f : Result Found ℕ). (looked f).kind) p))

  pub find_denied : (m : ℕ) → (found_of s b c ≡ Err m) ↔ (keypad_of s b ≡ Err m)
  unfolding found_of found_from looked
  find_denied m = (λ p. to (keypad_of s b) refl p, found_from_lem)
    where
      to : (a : Result Keypad ℕ) → keypad_of s b ≡ a → found_from a (event_of b (lowest b c)) ≡ Err m → keypad_of s b ≡ Err m
      to (Ok Good) q p = absurd (omega (arith, ap (λ (f : Result Found ℕ). (looked f).kind) p))
      to (Ok (Gap x)) q p = absurd (omega (arith, ap (λ (f : Result Found ℕ). (looked f).kind) p))
      to (Ok (Overlap x i k)) q p = absurd (omega (arith, ap (λ (f : Result Found ℕ). (looked f).kind) p))
      to (Err x) q p = q ∙ ap Err (ap (λ (f : Result Found ℕ). (looked f).refusal) p)

-- ---- the sheet

-- of two accepted sheets with one E, a check and a lookup answer the same: nodes, acceptances and catalogue codes play
-- no part
module _ (s t : Sheet) (b : List ℕ) (p : sheet_fault s ≡ 0) (q : sheet_fault t ≡ 0) (e : s.e ≡ t.e) where
  pub same_keypad : keypad_of s b ≡ keypad_of t b
  unfolding keypad_of keypad_fault
  same_keypad = rw (p, q, e)

  pub same_found : (c : ℕ) → found_of s b c ≡ found_of t b c
  unfolding found_of
  same_found c = rw same_keypad
