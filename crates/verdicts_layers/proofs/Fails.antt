-- A test that goes layer by layer finds what fails_from finds pair by pair.
use mathlib.Core.Path.{◌≡◌, refl, sym, ap, ◌∙◌}
use mathlib.Core.Logic.{◌⊎◌, inl, inr}
use mathlib.Core.Bool.{Bool, true, not, ◌&&◌, ◌||◌}
use mathlib.Core.List.{List, ◌++◌}
use Prim.Native.Nat.{ℕ, zero, suc, ◌≤◌, ◌<◌}
use native.Mathlib.Omega.{arith}
use lib.Dec.{eqb, ltb}
use lib.ListN.{get_or, drop}
use borrow.Author.Tests.{lt-ltb, ltb-true, eqb-true, eq-eqb}
use Rattle.base.proofs.Truth.{clash, and_l, and_r, and_i, or_e, or_l, or_r, or_assoc, same}
use Rattle.base.specs.Range.{any}
use Rattle.base.proofs.Range.{any→, any←}
use Rattle.base.specs.Table.{up_to}
use Rattle.base.proofs.Table.{up_to_ext}
use Rattle.events.proofs.Bit.{bit·zero}
use Rattle.events.specs.Sets.{has}
use Rattle.sheet_spec.specs.declared.Row.{Row}
use Rattle.sheet_spec.specs.declared.Sheet.{Sheet}
use Rattle.sheet_spec.specs.Kept.{may_stop, step, sheet_with}
use Rattle.refinement_spec.specs.ViolatingPairs.{has_stray, violating}
use Rattle.verdicts_spec.specs.Verdicts.{fails_from}
use Rattle.sheet_rows.specs.Tables.{flat_at, flat_holds, row_in}
use Rattle.verdicts_tables.specs.declared.Tables.{Tables}
use Rattle.verdicts_tables.specs.Shapes.{leads_to, bit_at, leads_into, early_table, late_table, tables_of}
use Rattle.verdicts_tables.proofs.Words.{has_zero, has_one, into_is}
use Rattle.verdicts_tables.proofs.Faults.{early, late, early_is, late_is}
use Rattle.verdicts_layers.specs.ImageShapes.{image, next, layer_hits, start}
use Rattle.verdicts_layers.proofs.images.Images.{image_has}
use Rattle.verdicts_layers.proofs.images.Moves.{zeros, moves, next_has}
use Rattle.verdicts_layers.proofs.images.Hits.{hits_is}
use Rattle.verdicts_layers.specs.LayerShapes.{fails_on, kind_of}

module _ (trace_only : Bool) (mine theirs : List Row) (p q e : ℕ) (np : p ≤ 32) (nq : q ≤ 32) (ne : e ≤ 12) where
  abbrev P : Sheet
  P = sheet_with mine e p

  abbrev Q : Sheet
  Q = sheet_with theirs e q

  abbrev M : List ℕ
  M = up_to (flat_at mine) 384

  abbrev D : List ℕ
  D = up_to (flat_at theirs) 384

  abbrev T : List ℕ
  T = up_to (bit_at D q) 384

  -- the pair (n, m) is in a layer
  abbrev at : List ℕ → ℕ → ℕ → Bool
  at l n m = has (get_or l n 0) m

  -- some pair of a layer passes a test
  abbrev some : List ℕ → (ℕ → ℕ → Bool) → Bool
  some l f = any (λ n. any (λ m. at l n m && f n m) q) p

  some→ : (l : List ℕ) (f : ℕ → ℕ → Bool) → some l f ≡ true → (n : ℕ) × (m : ℕ) × (n < p) × (m < q) × (at l n m ≡ true) × (f n m ≡ true)
  some→ l f t =
      let n = any→ (λ n. any (λ m. at l n m && f n m) q) p t in
      let m = any→ (λ m. at l n.0 m && f n.0 m) q n.2 in
      (n.0, m.0, n.1, m.1, and_l (at l n.0 m.0) (f n.0 m.0) m.2, and_r (at l n.0 m.0) (f n.0 m.0) m.2)

  some← : (l : List ℕ) (f : ℕ → ℕ → Bool) (n m : ℕ) → n < p → m < q → at l n m ≡ true → f n m ≡ true → some l f ≡ true
  some← l f n m a b c d = any← (λ n. any (λ m. at l n m && f n m) q) p n a (any← (λ m. at l n m && f n m) q m b (and_i c d))

  -- where an event leads by the table is where it leads on the sheet
  mine_step : (n i : ℕ) → n < p → i < e → leads_to M n i ≡ step P n i
  unfolding step
  mine_step n i l k = flat_holds mine n i (omega arith) (omega arith) ∙ rw (lt-ltb n p l, lt-ltb i e k)

  theirs_step : (m i : ℕ) → m < q → i < e → leads_to D m i ≡ step Q m i
  unfolding step
  theirs_step m i l k = flat_holds theirs m i (omega arith) (omega arith) ∙ rw (lt-ltb m q l, lt-ltb i e k)

  -- event i leads from the pair (n, m) of a layer to the pair (x, y)
  record LeadsToBad (l : List ℕ) (x y : ℕ) : Type 0 where
    pub n : ℕ
    pub m : ℕ
    pub i : ℕ
    pub in_p : n < p
    pub in_q : m < q
    pub event : i < e
    pub there : at l n m ≡ true
    pub to_x : step P n i ≡ x
    pub to_y : step Q m i ≡ y

  -- a node of a set from which event i leads to the device's node y
  comes : ℕ → ℕ → ℕ → ℕ → Bool
  comes from y i u = has from u && has (leads_into T u i) y

  image→ : (from y i : ℕ) → i < e → has (image T i from 32) y ≡ true → (m : ℕ) × (m < q) × (has from m ≡ true) × (step Q m i ≡ y)
  unfolding comes
  image→ from y i c t = let w = any→ (comes from y i) 32 (sym (image_has T i from 32 y) ∙ t) in go w.0 w.1 w.2
    where
      go : (m : ℕ) → m < 32 → comes from y i m ≡ true → (m : ℕ) × (m < q) × (has from m ≡ true) × (step Q m i ≡ y)
      go m l s =
          let k = leads_to D m i in
          let d : ((ltb m q && ltb k q) && eqb k y) ≡ true = sym (into_is D q m i y l (omega arith)) ∙ and_r (has from m) (has (leads_into T m i) y) s in
          let b : m < q = ltb-true m q (and_l (ltb m q) (ltb k q) (and_l (ltb m q && ltb k q) (eqb k y) d)) in
          (m, b, and_l (has from m) (has (leads_into T m i) y) s, sym (theirs_step m i b c) ∙ eqb-true k y (and_r (ltb m q && ltb k q) (eqb k y) d))

  image← : (from m i : ℕ) → m < q → i < e → has from m ≡ true → step Q m i < q → has (image T i from 32) (step Q m i) ≡ true
  unfolding comes
  image← from m i b c t v = image_has T i from 32 (step Q m i) ∙ any← (comes from (step Q m i) i) 32 m (omega arith) (and_i t there)
    where
      inside : ltb (leads_to D m i) q ≡ true
      inside = lt-ltb (leads_to D m i) q (omega (arith, theirs_step m i b c))

      there : has (leads_into T m i) (step Q m i) ≡ true
      there = into_is D q m i (step Q m i) (omega arith) (omega arith) ∙ and_i (and_i (lt-ltb m q b) inside) (eq-eqb (leads_to D m i) (step Q m i) (theirs_step m i b c))

  next→ : (l : List ℕ) (x y : ℕ) → at (next M T p e l p) x y ≡ true → LeadsToBad l x y
  next→ l x y t =
      let n = any→ (λ u. any (moves M T p np u (get_or l u 0) x y) e) p (sym (next_has M T p np e l p x y) ∙ t) in
      let i = any→ (moves M T p np n.0 (get_or l n.0 0) x y) e n.2 in
      go n.0 i.0 n.1 i.1 i.2
    where
      go : (n i : ℕ) → n < p → i < e → moves M T p np n (get_or l n 0) x y i ≡ true → LeadsToBad l x y
      go n i a b s =
          let j = leads_to M n i in
          let c : (ltb j p && eqb j x) ≡ true = and_l (ltb j p && eqb j x) (has (image T i (get_or l n 0) 32) y) s in
          let m = image→ (get_or l n 0) y i b (and_r (ltb j p && eqb j x) (has (image T i (get_or l n 0) 32) y) s) in
          record {
            n = n;
            m = m.0;
            i = i;
            in_p = a;
            in_q = m.1;
            event = b;
            there = m.2;
            to_x = sym (mine_step n i a b) ∙ eqb-true j x (and_r (ltb j p) (eqb j x) c);
            to_y = m.3;
          }

  next← : (l : List ℕ) (n m i : ℕ) → n < p → m < q → i < e → at l n m ≡ true → step P n i < p → step Q m i < q
      → at (next M T p e l p) (step P n i) (step Q m i) ≡ true
  next← l n m i a b c t u v =
      next_has M T p np e l p (step P n i) (step Q m i)
      ∙ any← (λ w. any (moves M T p np w (get_or l w 0) (step P n i) (step Q m i)) e) p n a
      (any← (moves M T p np n (get_or l n 0) (step P n i) (step Q m i)) e i c (and_i (and_i x_in x_eq) (image← (get_or l n 0) m i b c t v)))
    where
      x_in : ltb (leads_to M n i) p ≡ true
      x_in = lt-ltb (leads_to M n i) p (omega (arith, mine_step n i a c))

      x_eq : eqb (leads_to M n i) (step P n i) ≡ true
      x_eq = eq-eqb (leads_to M n i) (step P n i) (mine_step n i a c)

  -- the test with k events to go, layer by layer
  abbrev found : ℕ → List ℕ → Bool
  found k l = fails_on M T (early_table trace_only mine theirs q e) (late_table trace_only mine theirs q e) p e k l

  -- the part of a test that goes on by event i
  abbrev onward : ℕ → ℕ → ℕ → ℕ → Bool
  onward k n m i = (ltb (step P n i) p && ltb (step Q m i) q) && fails_from trace_only P Q k (step P n i) (step Q m i)

  -- a test with one event more fails if it is faulty here, or fails after one event
  split : (k n m : ℕ) → fails_from trace_only P Q (suc k) n m ≡ (early trace_only mine theirs q e n m || any (onward k n m) e)
  unfolding fails_from
  split k n m = sym (or_assoc (has_stray e (row_in mine n) (row_in theirs m)) (not trace_only && (may_stop (row_in theirs m) && not (may_stop (row_in mine n)))) (any (onward k n m) e))

  module _ (k : ℕ) (ih : (l : List ℕ) → found k l ≡ some l (fails_from trace_only P Q k)) (l : List ℕ) where
    hit : layer_hits l (early_table trace_only mine theirs q e) p ≡ some l (early trace_only mine theirs q e)
    hit = hits_is p q np l (early_table trace_only mine theirs q e) (early trace_only mine theirs q e) (early_is trace_only mine theirs q e nq)

    -- a test fails if it is faulty at a pair of the layer, or onward from one
    here→ : (layer_hits l (early_table trace_only mine theirs q e) p ≡ true) ⊎ (found k (next M T p e l p) ≡ true) → some l (fails_from trace_only P Q (suc k)) ≡ true
    here→ (inl t) =
        let w = some→ l (early trace_only mine theirs q e) (sym hit ∙ t) in
        some← l (fails_from trace_only P Q (suc k)) w.0 w.1 w.2 w.3 w.4 (split k w.0 w.1 ∙ or_l (any (onward k w.0 w.1) e) w.5)
    here→ (inr t) =
        let w = some→ (next M T p e l p) (fails_from trace_only P Q k) (sym (ih (next M T p e l p)) ∙ t) in
        let v = next→ l w.0 w.1 w.4 in
        some← l (fails_from trace_only P Q (suc k)) v.n v.m v.in_p v.in_q v.there
        (split k v.n v.m
        ∙ or_r (early trace_only mine theirs q e v.n v.m) (any← (onward k v.n v.m) e v.i v.event (rw (v.to_x, v.to_y) (and_i (and_i (lt-ltb w.0 p w.2) (lt-ltb w.1 q w.3)) w.5))))

    here← : some l (fails_from trace_only P Q (suc k)) ≡ true → (layer_hits l (early_table trace_only mine theirs q e) p || found k (next M T p e l p)) ≡ true
    here← t = let w = some→ l (fails_from trace_only P Q (suc k)) t in go w.0 w.1 w.2 w.3 w.4 (or_e (early trace_only mine theirs q e w.0 w.1) (any (onward k w.0 w.1) e) (sym (split k w.0 w.1) ∙ w.5))
      where
        go : (n m : ℕ) → n < p → m < q → at l n m ≡ true → (early trace_only mine theirs q e n m ≡ true) ⊎ (any (onward k n m) e ≡ true)
            → (layer_hits l (early_table trace_only mine theirs q e) p || found k (next M T p e l p)) ≡ true
        go n m a b c (inl h) = or_l (found k (next M T p e l p)) (hit ∙ some← l (early trace_only mine theirs q e) n m a b c h)
        go n m a b c (inr h) =
            let i = any→ (onward k n m) e h in
            let x = step P n i.0 in
            let y = step Q m i.0 in
            let s = and_l (ltb x p && ltb y q) (fails_from trace_only P Q k x y) i.2 in
            let u = ltb-true x p (and_l (ltb x p) (ltb y q) s) in
            let v = ltb-true y q (and_r (ltb x p) (ltb y q) s) in
            or_r (layer_hits l (early_table trace_only mine theirs q e) p)
            (ih (next M T p e l p)
            ∙ some← (next M T p e l p) (fails_from trace_only P Q k) x y u v (next← l n m i.0 a b i.1 c u v) (and_r (ltb x p && ltb y q) (fails_from trace_only P Q k x y) i.2))

  fails_is : (k : ℕ) (l : List ℕ) → found k l ≡ some l (fails_from trace_only P Q k)
  unfolding fails_on fails_from violating
  fails_is zero l = hits_is p q np l (late_table trace_only mine theirs q e) (late trace_only mine theirs q e) (late_is trace_only mine theirs q e nq)
  fails_is (suc k) l =
      same (layer_hits l (early_table trace_only mine theirs q e) p || found k (next M T p e l p)) (some l (fails_from trace_only P Q (suc k)))
      (λ t. here→ k (fails_is k) l (or_e (layer_hits l (early_table trace_only mine theirs q e) p) (found k (next M T p e l p)) t)) (here← k (fails_is k) l)

  -- the test that goes layer by layer from the pair (0, 0) alone is `fails_from`
  pub failing_is : 0 < p → 0 < q → (k : ℕ) → found k start ≡ fails_from trace_only P Q k 0 0
  failing_is lp lq k = fails_is k start ∙ same (some start (fails_from trace_only P Q k)) (fails_from trace_only P Q k 0 0) forth (λ t. some← start (fails_from trace_only P Q k) 0 0 lp lq (unfold has in rw (bit·zero 1)) t)
    where
      only : (n m : ℕ) → at start n m ≡ true → (n ≡ 0) × (m ≡ 0)
      only zero m t = (refl, sym (eqb-true 0 m (sym (has_one 0 m) ∙ t)))
      only (suc n) m t = absurd (clash (rw (zeros 31 n) at t) (has_zero m))

      forth : some start (fails_from trace_only P Q k) ≡ true → fails_from trace_only P Q k 0 0 ≡ true
      forth t =
          let w = some→ start (fails_from trace_only P Q k) t in
          let z = only w.0 w.1 w.4 in
          rw (z.0, z.1) at w.5

  -- the test over the tables that are filled once is `fails_from`
  pub failing : {t : Tables} {r : Bool} (k : ℕ) → 0 < p → 0 < q → t ≡ tables_of trace_only mine theirs q e
      → r ≡ fails_on t.mine t.theirs t.early t.late p e k start → r ≡ fails_from trace_only P Q k 0 0
  unfolding tables_of
  failing k lp lq a h = h ∙ rw a (failing_is lp lq k)

  -- the verdicts of the first n tests over the tables that are filled once are those of `fails_from`
  pub failing_all : {t : Tables} {out : List ℕ} (o : List ℕ) (n : ℕ) → 0 < p → 0 < q → t ≡ tables_of trace_only mine theirs q e
      → out ≡ up_to (λ k. kind_of (fails_on t.mine t.theirs t.early t.late p e k start)) n ++ drop n o
      → out ≡ up_to (λ k. kind_of (fails_from trace_only P Q k 0 0)) n ++ drop n o
  failing_all {t} {out} o n lp lq a h =
      h ∙ ap (λ (l : List ℕ). l ++ drop n o)
      (up_to_ext (λ k. kind_of (fails_on t.mine t.theirs t.early t.late p e k start)) (λ k. kind_of (fails_from trace_only P Q k 0 0)) n (λ k _. ap kind_of (failing k lp lq a refl)))
