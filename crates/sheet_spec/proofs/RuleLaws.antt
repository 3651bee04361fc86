-- Nothing to believe: laws. Each test of Rules looks for its fault of Faults.
use Rattle.std.specs.Prelude.{◌≡◌, ◌⊎◌, ◌≢◌, ◌&&◌, List, [], ◌∷◌, eqb, leb}
use Rattle.std.proofs.Math.Path.{refl}
use Rattle.std.proofs.Common.{sym, ◌∙◌, arith, eq-or-lt_of_le}
use Rattle.std.proofs.Math.Logic.{inl, inr}
use Rattle.std.proofs.Math.Bool.{Bool, true, false, not, cond}
use Prim.Native.Nat.{ℕ, zero, suc, ◌+◌, ◌-◌, ◌≤◌, ◌<◌}
use Rattle.std.proofs.Math.Dec.{ltb}
use borrow.Author.Tests.{leb-true, ltb-true, lt-ltb, le-ltb, eqb-true, eqb-false, ne_eqb, not-true}
use Rattle.base.proofs.Truth.{dec, clash, and_l, and_r, lt_or_ge}
use Rattle.base.specs.Range.{all}
use Rattle.base.proofs.Range.{all→}
use Rattle.base.proofs.Finds.{Finds, finds_as, finds_none, finds_le, finds_lt, finds_eq, finds_and, finds_or, finds_all, finds_not}
use Rattle.events.specs.Bit.{bit, set_of, Within}
use Rattle.events.proofs.Bit.{bit≤1, bits_zero, bit_high, set_of_lt, bit_set_of, within_le}
use Rattle.events.specs.Sets.{inside}
use Rattle.events.proofs.Sets.{inside→, inside_not, inside_missing}
use Rattle.walks.specs.Graph.{WellFormed, walk}
use Rattle.walks.proofs.Graph.{walk_none}
use Rattle.walks.specs.Reach.{nearer}
use Rattle.walks.proofs.Reach.{nearer_all}
use Rattle.sheet_spec.specs.declared.Row.{Row}
use Rattle.sheet_spec.specs.declared.Sheet.{Sheet}
use Rattle.sheet_spec.specs.Kept.{code_at, code, row, successor, acceptance, initials, Initial, step, graph, Walk}
use Rattle.sheet_spec.specs.Rules.{between, ranges_ok, code_new, codes_ok, count_ok, counts_ok, successor_ok, row_successors_ok, successors_ok, ascends, none_inside, set_ok, row_sets_ok, sets_ok, blank, unused_ok, blanks_ok, codes_blank, reached_ok, codes_agree, first_codes_ok}
use Rattle.sheet_spec.specs.Faults.{RangeFault, CodeTwice, BadCount, CountFault, SuccessorFault, RowSetFault, descends, outside, includes, stops, SetFault, UnusedFault, event, place, node_successor, node_set, node_count_lem, event_code, ReachFault}
use Rattle.sheet_spec.specs.Sound.{Ranges}

-- a number that passes the test lies between the two
pub between→ : (low high x : ℕ) → between low high x ≡ true → (low ≤ x) × (x ≤ high)
between→ low high x t = (leb-true low x (and_l (leb low x) (leb x high) t), leb-true x high (and_r (leb low x) (leb x high) t))

-- the test of the ranges passes only if E is 1 to 12 and N is 1 to 32
pub ranges→ : (e n : ℕ) → ranges_ok e n ≡ true → Ranges e n
unfolding ranges_ok
ranges→ e n t =
    let x = between→ 1 12 e (and_l (between 1 12 e) (between 1 32 n) t) in
    let y = between→ 1 32 n (and_r (between 1 12 e) (between 1 32 n) t) in
    record { e_low = x.0; e_high = x.1; n_low = y.0; n_high = y.1 }

-- 3: the test of the ranges finds its fault
pub ranges_find : (e n : ℕ) → Finds (ranges_ok e n) (RangeFault e n)
unfolding ranges_ok
ranges_find e n = finds_and (finds_and (finds_le 1 e) (finds_le e 12)) (finds_and (finds_le 1 n) (finds_le n 32))

-- E and N are in range: what the later tests rely on
pub in_range : (e n : ℕ) → ¬ RangeFault e n → Ranges e n
in_range e n f = ranges→ e n (finds_none (ranges_find e n) f)

-- 18: the test of the codes finds its fault
pub codes_find : (e : ℕ) (codes : List ℕ) → Finds (codes_ok e codes) (CodeTwice e codes)
unfolding codes_ok code_new
codes_find e codes = finds_as (finds_all e (λ j h. finds_all j (λ i k. finds_not (eqb-true (code_at codes i) (code_at codes j)) (eqb-false (code_at codes i) (code_at codes j))))) forth back
  where
    forth : (j : ℕ) × (j < e) × ((i : ℕ) × (i < j) × (code_at codes i ≡ code_at codes j)) → CodeTwice e codes
    forth (j, l, (i, h, p)) = (i, j, omega arith, l, (λ q. omega arith), p)

    back : CodeTwice e codes → (j : ℕ) × (j < e) × ((i : ℕ) × (i < j) × (code_at codes i ≡ code_at codes j))
    back (i, j, k, l, n, p) = go (lt_or_ge i j)
      where
        go : (i < j) ⊎ (j ≤ i) → (j : ℕ) × (j < e) × ((i : ℕ) × (i < j) × (code_at codes i ≡ code_at codes j))
        go (inl h) = (j, l, (i, h, p))
        go (inr h) = (i, k, (j, omega (arith, n), sym p))

-- 19: the test that two lists of codes agree finds an event with another code
pub agree_finds : (e : ℕ) (codes others : List ℕ) → Finds (codes_agree e codes others) ((i : ℕ) × (i < e) × (code_at codes i ≢ code_at others i))
unfolding codes_agree
agree_finds e codes others = finds_all e (λ i h. finds_eq (code_at codes i) (code_at others i))

-- the test of version 1's codes finds an event with another code
pub first_finds : (e : ℕ) (codes : List ℕ) → Finds (first_codes_ok e codes) ((i : ℕ) × (i < e) × (code_at codes i ≢ i + 1))
unfolding first_codes_ok
first_finds e codes = finds_all e (λ i h. finds_eq (code_at codes i) (i + 1))

-- 5: the test of a C, and that of all nodes, find their faults
pub count_finds : (c : ℕ) → Finds (count_ok c) (BadCount c)
unfolding count_ok
count_finds c = finds_and (finds_le 1 c) (finds_le c 16)

pub counts_find : (s : Sheet) → Finds (counts_ok s) (CountFault s)
unfolding counts_ok
counts_find s = finds_all s.n (λ v h. count_finds (row s v).c)

-- 6: the test of the successors finds its fault
pub successors_find : (s : Sheet) → Finds (successors_ok s) (SuccessorFault s)
unfolding successors_ok row_successors_ok successor_ok
successors_find s =
    finds_all s.n (λ v h. finds_all s.e (λ i k. finds_or (finds_eq (successor (row s v) i) 255) (finds_lt (successor (row s v) i) s.n)))

-- 7: an event of the initials is one below e with a successor
module _ (e : ℕ) (r : Row) (small : e ≤ 12) where
  pub initials→ : (i : ℕ) → bit (initials e r) i ≡ 1 → Initial e r i
  unfolding initials
  initials→ i b = go (lt_or_ge i 12)
    where
      f : ℕ → Bool
      f i = ltb i e && not (eqb (successor r i) 255)

      at : (t : Bool) → f i ≡ t → bit (set_of f 12) i ≡ cond t 1 0 → Initial e r i
      at true t q = (ltb-true i e (and_l (ltb i e) (not (eqb (successor r i) 255)) t), eqb-false (successor r i) 255 (not-true _ (and_r (ltb i e) _ t)))
      at false t q = absurd (omega arith)

      go : (i < 12) ⊎ (12 ≤ i) → Initial e r i
      go (inl l) = at (f i) refl (bit_set_of f 12 i l)
      go (inr l) = absurd (omega (arith, bit_high 12 i (set_of f 12) (set_of_lt f 12) l))

  pub initials← : (i : ℕ) → Initial e r i → bit (initials e r) i ≡ 1
  unfolding initials
  initials← i (l, n) =
      bit_set_of (λ i. ltb i e && not (eqb (successor r i) 255)) 12 i (omega arith) ∙ rw (lt-ltb i e l, ne_eqb (successor r i) 255 n)

  -- an event of X that is no initial, if X is not inside them
  not_initial : (X : ℕ) → inside X (initials e r) ≡ false → (i : ℕ) × (bit X i ≡ 1) × (¬ Initial e r i)
  not_initial X t =
      let w = inside_missing X (initials e r) t in
      (w.0, w.1, λ (h : Initial e r w.0). omega (arith, initials← w.0 h, w.2))

  -- the three rules that the test of a set has
  abbrev SetBreaks : ℕ → Type 0
  SetBreaks j =
      ((j ≢ 0) × (acceptance r j ≤ acceptance r (j - 1)))
      ⊎ (((i : ℕ) × (bit (acceptance r j) i ≡ 1) × (¬ Initial e r i))
      ⊎ ((k : ℕ) × (k < j) × Within (acceptance r k) (acceptance r j)))

  set_finds : (j : ℕ) → Finds (set_ok (initials e r) r j) (SetBreaks j)
  unfolding set_ok ascends none_inside
  set_finds j =
      finds_and (finds_or (finds_eq j 0) (finds_lt (acceptance r (j - 1)) (acceptance r j)))
      (finds_and inner (finds_all j (λ k h. finds_not (inside→ (acceptance r k) (acceptance r j)) (inside_not (acceptance r k) (acceptance r j)))))
    where
      inner : Finds (inside (acceptance r j) (initials e r)) ((i : ℕ) × (bit (acceptance r j) i ≡ 1) × (¬ Initial e r i))
      inner = record {
        clear = λ t w. w.2 (initials→ w.0 (omega (arith, w.1, inside→ (acceptance r j) (initials e r) t w.0, bit≤1 (initials e r) w.0)));
        fault = not_initial (acceptance r j);
      }

  -- sets that ascend at every place ascend
  rising : (c : ℕ) → ((j : ℕ) → j < c → ¬ SetBreaks j) → (j k : ℕ) → j < k → k < c → acceptance r j < acceptance r k
  rising c ok j zero l h = absurd (omega arith)
  rising c ok j (suc k) l h = go (lt_or_ge (acceptance r k) (acceptance r (suc k))) (eq-or-lt_of_le l) (λ (p : j < k). rising c ok j k p (omega arith))
    where
      go : (acceptance r k < acceptance r (suc k)) ⊎ (acceptance r (suc k) ≤ acceptance r k) → (suc j ≡ suc k) ⊎ (suc j < suc k) → (j < k → acceptance r j < acceptance r k)
          → acceptance r j < acceptance r (suc k)
      go (inr p) q ih = let e : suc k - 1 ≡ k = omega arith in absurd (ok (suc k) h (inl (λ z. omega arith, rw e p)))
      go (inl p) (inl q) ih = let e : j ≡ k = omega arith in rw e p
      go (inl p) (inr q) ih = omega (arith, ih (omega arith))

  pub row_sets_find : Finds (row_sets_ok e r) (RowSetFault e r)
  unfolding row_sets_ok
  row_sets_find = finds_as (finds_all r.c (λ j h. set_finds j)) forth (λ f. back f (dec (all (set_ok (initials e r) r) r.c)))
    where
      forth : (j : ℕ) × (j < r.c) × SetBreaks j → RowSetFault e r
      forth (j, l, inl (z, h)) = descends (j - 1) j (omega (arith, z)) l h
      forth (j, l, inr (inl (i, b, n))) = outside j i l b n
      forth (j, l, inr (inr (k, h, w))) = includes k j (omega arith) l (omega arith) w

      back : RowSetFault e r → (all (set_ok (initials e r) r) r.c ≡ true) ⊎ (all (set_ok (initials e r) r) r.c ≡ false) → (j : ℕ) × (j < r.c) × SetBreaks j
      back f (inr t) = (finds_all r.c (λ j h. set_finds j)).fault t
      back f (inl t) = absurd (never f)
        where
          ok : (j : ℕ) → j < r.c → ¬ SetBreaks j
          ok j h b = (finds_all r.c (λ j h. set_finds j)).clear t (j, h, b)

          pair : (j k : ℕ) → j < k → k < r.c → Within (acceptance r k) (acceptance r j) → ⊥
          pair j k l h w = omega (arith, rising r.c ok j k l h, within_le (acceptance r k) (acceptance r j) w)

          never : RowSetFault e r → ⊥
          never (descends j k l h d) = omega (arith, rising r.c ok j k l h)
          never (outside j i h b n) = ok j h (inr (inl (i, b, n)))
          never (includes j k h l n w) = go (lt_or_ge j k)
            where
              go : (j < k) ⊎ (k ≤ j) → ⊥
              go (inl p) = ok k l (inr (inr (j, p, w)))
              go (inr p) = pair k j (omega (arith, n)) h w
          never (stops zero h z n) = ok 1 (omega (arith, n)) (inr (inr (0, omega arith, rw z (λ i. omega (arith, bits_zero i)))))
          never (stops (suc j) h z n) = omega (arith, rising r.c ok j (suc j) (omega arith) h)

pub sets_find : (s : Sheet) → s.e ≤ 12 → Finds (sets_ok s) (SetFault s)
unfolding sets_ok
sets_find s h = finds_all s.n (λ v l. row_sets_find s.e (row s v) h)

-- 7, of a kept sheet: the test of the unused places of one row finds its fault
blank_finds : (e c : ℕ) (r : Row)
    → Finds (blank e c r) (((i : ℕ) × (i < 12) × ((e ≤ i) × (successor r i ≢ 255))) ⊎ ((j : ℕ) × (j < 16) × ((c ≤ j) × (acceptance r j ≢ 0))))
unfolding blank
blank_finds e c r =
    finds_and (finds_all 12 (λ i h. finds_or (finds_lt i e) (finds_eq (successor r i) 255)))
    (finds_all 16 (λ j h. finds_or (finds_lt j c) (finds_eq (acceptance r j) 0)))

-- 7, of a kept sheet: the test of the unused codes finds its fault
pub blank_code_finds : (e : ℕ) (codes : List ℕ) → Finds (codes_blank e codes) ((i : ℕ) × (i < 12) × ((e ≤ i) × (code_at codes i ≢ 0)))
unfolding codes_blank
blank_code_finds e codes = finds_all 12 (λ i h. finds_or (finds_lt i e) (finds_eq (code_at codes i) 0))

-- 7, of a kept sheet: the tests of all unused places find their fault
pub blanks_find : (s : Sheet) → s.n ≤ 32 → Finds (blanks_ok s && codes_blank s.e s.codes) (UnusedFault s)
unfolding blanks_ok
blanks_find s small = record { clear = cleared; fault = λ t. found ((finds_and rows_find (blank_code_finds s.e s.codes)).fault t) }
  where
    rows_find : Finds (all (λ v. unused_ok s.e s.n v (row s v)) 32) ((v : ℕ) × (v < 32) × (unused_ok s.e s.n v (row s v) ≡ false))
    rows_find = finds_all 32 (λ v h. record { clear = λ t f. clash t f; fault = λ t. t })

    used : (v : ℕ) → v < s.n → unused_ok s.e s.n v (row s v) ≡ blank s.e (row s v).c (row s v)
    used v h = unfold unused_ok in rw (lt-ltb v s.n h)

    free : (v : ℕ) → s.n ≤ v → unused_ok s.e s.n v (row s v) ≡ (eqb (row s v).c 0 && blank 0 0 (row s v))
    free v h = unfold unused_ok in rw (le-ltb v s.n h)

    clear : UnusedFault s → ((v : ℕ) → v < 32 → unused_ok s.e s.n v (row s v) ≡ true) → codes_blank s.e s.codes ≡ true → ⊥
    clear (event v i h l k n) ok t = (blank_finds s.e (row s v).c (row s v)).clear (sym (used v h) ∙ ok v (omega arith)) (inl (i, k, (l, n)))
    clear (place v j h l k n) ok t = (blank_finds s.e (row s v).c (row s v)).clear (sym (used v h) ∙ ok v (omega arith)) (inr (j, k, (l, n)))
    clear (node_successor v i h l k n) ok t = (blank_finds 0 0 (row s v)).clear (and_r (eqb (row s v).c 0) _ (sym (free v h) ∙ ok v l)) (inl (i, k, (omega arith, n)))
    clear (node_set v j h l k n) ok t = (blank_finds 0 0 (row s v)).clear (and_r (eqb (row s v).c 0) _ (sym (free v h) ∙ ok v l)) (inr (j, k, (omega arith, n)))
    clear (node_count_lem v h l n) ok t = n (eqb-true (row s v).c 0 (and_l (eqb (row s v).c 0) (blank 0 0 (row s v)) (sym (free v h) ∙ ok v l)))
    clear (event_code i h l n) ok t = (blank_code_finds s.e s.codes).clear t (i, l, (h, n))

    cleared : (all (λ v. unused_ok s.e s.n v (row s v)) 32 && codes_blank s.e s.codes) ≡ true → ¬ UnusedFault s
    cleared t f =
        clear f (λ v h. all→ (λ v. unused_ok s.e s.n v (row s v)) 32 v (and_l (all (λ v. unused_ok s.e s.n v (row s v)) 32) _ t) h)
        (and_r (all (λ v. unused_ok s.e s.n v (row s v)) 32) _ t)

    found : ((v : ℕ) × (v < 32) × (unused_ok s.e s.n v (row s v) ≡ false)) ⊎ ((i : ℕ) × (i < 12) × ((s.e ≤ i) × (code s i ≢ 0))) → UnusedFault s
    found (inr (i, l, x)) = event_code i x.0 l x.1
    found (inl (v, l, t)) = go (lt_or_ge v s.n)
      where
        in_used : v < s.n → ((i : ℕ) × (i < 12) × ((s.e ≤ i) × (successor (row s v) i ≢ 255))) ⊎ ((j : ℕ) × (j < 16) × (((row s v).c ≤ j) × (acceptance (row s v) j ≢ 0))) → UnusedFault s
        in_used h (inl (i, k, x)) = event v i h x.0 k x.1
        in_used h (inr (j, k, x)) = place v j h x.0 k x.1

        in_free : s.n ≤ v → ((row s v).c ≢ 0) ⊎ (((i : ℕ) × (i < 12) × ((0 ≤ i) × (successor (row s v) i ≢ 255))) ⊎ ((j : ℕ) × (j < 16) × ((0 ≤ j) × (acceptance (row s v) j ≢ 0)))) → UnusedFault s
        in_free h (inl n) = node_count_lem v h l n
        in_free h (inr (inl (i, k, x))) = node_successor v i h l k x.1
        in_free h (inr (inr (j, k, x))) = node_set v j h l k x.1

        go : (v < s.n) ⊎ (s.n ≤ v) → UnusedFault s
        go (inl h) = in_used h ((blank_finds s.e (row s v).c (row s v)).fault (sym (used v h) ∙ t))
        go (inr h) = in_free h ((finds_and (finds_eq (row s v).c 0) (blank_finds 0 0 (row s v))).fault (sym (free v h) ∙ t))

-- the graph of a sheet with a node is well formed
pub graph_well_formed : (s : Sheet) → 0 < s.n → WellFormed (graph s)
graph_well_formed s h = record { start = h; none = λ n i l. none n i l; labels = λ n i l. labels n i l }
  where
    none : (n i : ℕ) → s.n ≤ n → s.n ≤ step s n i
    none n i l = unfold step in rw (le-ltb n s.n l) (omega arith)

    labels : (n i : ℕ) → step s n i < s.n → i < s.e
    labels n i l = go (lt_or_ge i s.e)
      where
        far : s.e ≤ i → step s n i ≡ s.n
        far k = unfold step in rw (le-ltb i s.e k) (none_of (ltb n s.n))
          where
            none_of : (b : Bool) → cond (b && false) (successor (row s n) i) s.n ≡ s.n
            none_of true = refl
            none_of false = refl

        go : (i < s.e) ⊎ (s.e ≤ i) → i < s.e
        go (inl k) = k
        go (inr k) = absurd (omega (arith, far k))

-- a list leads to a node in the sheet exactly if it does in the graph
pub Walk→ : (s : Sheet) (u : ℕ) (t : List ℕ) (v : ℕ) → Walk s u t v → walk (graph s) u t ≡ v
unfolding Walk walk step
Walk→ s u [] v w = w
Walk→ s u (i ∷ t) v w = rw (lt-ltb u s.n w.0, lt-ltb i s.e w.1) (Walk→ s (successor (row s u) i) t v w.2)

pub Walk← : (s : Sheet) → 0 < s.n → (u : ℕ) (t : List ℕ) (v : ℕ) → v < s.n → walk (graph s) u t ≡ v → Walk s u t v
unfolding Walk walk step
Walk← s z u [] v l e = e
Walk← s z u (i ∷ t) v l e = go (lt_or_ge u s.n) (lt_or_ge i s.e) (λ (x : ℕ). Walk← s z x t v l)
  where
    off : (b : Bool) → cond (b && false) (successor (row s u) i) s.n ≡ s.n
    off true = refl
    off false = refl

    go : (u < s.n) ⊎ (s.n ≤ u) → (i < s.e) ⊎ (s.e ≤ i) → ((x : ℕ) → walk (graph s) x t ≡ v → Walk s x t v)
        → (u < s.n) × (i < s.e) × Walk s (successor (row s u) i) t v
    go (inl a) (inl b) ih = (a, b, ih (successor (row s u) i) (rw (lt-ltb u s.n a, lt-ltb i s.e b) at e))
    go (inr a) b ih = absurd (omega (arith, walk_none (graph_well_formed s z) s.n t (omega arith), rw (le-ltb u s.n a) at e))
    go (inl a) (inr b) ih = absurd (omega (arith, walk_none (graph_well_formed s z) s.n t (omega arith), rw (le-ltb i s.e b, off (ltb u s.n)) at e))

-- 8: the test of reached nodes finds its fault
pub reached_finds : (s : Sheet) → 0 < s.n → Finds (reached_ok s) (ReachFault s)
unfolding reached_ok
reached_finds s z = finds_all s.n node
  where
    node : (v : ℕ) → v < s.n → Finds (nearer (graph s) s.n v) ((t : List ℕ) → ¬ Walk s 0 t v)
    node v l = record {
      clear = λ t f. let w = (nearer_all (graph_well_formed s z) s.n v (omega arith) l).0 t in f w.0 (Walk← s z 0 w.0 v l w.1);
      fault = λ t p w. clash ((nearer_all (graph_well_formed s z) s.n v (omega arith) l).1 (p, Walk→ s 0 p v w)) t;
    }
