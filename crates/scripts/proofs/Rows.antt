-- The counts over the flat tables of two sheets' successors are those of the sheets.
use mathlib.Core.Path.{◌≡◌, refl, ◌∙◌}
use mathlib.Core.Logic.{◌⊎◌, inl, inr}
use mathlib.Core.List.{List}
use Prim.Native.Nat.{ℕ, zero, suc, ◌+◌, ◌*◌, ◌^◌, ◌≤◌, ◌<◌}
use native.Mathlib.Omega.{arith}
use lib.ListN.{get_or}
use borrow.Author.Tests.{lt-ltb, le-ltb}
use Rattle.base.proofs.Truth.{lt_or_ge}
use Rattle.base.specs.Sum.{sum}
use Rattle.base.specs.Table.{up_to}
use Rattle.sheet_spec.specs.declared.Row.{Row}
use Rattle.sheet_spec.specs.declared.Sheet.{Sheet}
use Rattle.sheet_spec.specs.Kept.{sheet_with, step}
use Rattle.sheet_rows.specs.Tables.{flat_at, flat_holds}
use Rattle.scripts_spec.specs.Scripts.{Fate, Walked, DeviceStops, ReferenceStops, beginning, count_from}
use Rattle.scripts_spec.specs.declared.Counts.{Counts}
use Rattle.scripts.specs.Shapes.{counts_from, plus, event_counts, sums, table_counts}
use Rattle.scripts.proofs.tables.Sums.{event_both, event_reference, event_device}

-- the flat table has the step of each node on each event
flat_step : (rows : List Row) (e p v i : ℕ) → p ≤ 32 → e ≤ 12 → v < p → i < e → get_or (up_to (flat_at rows) 384) (v * 12 + i) 0 ≡ step (sheet_with rows e p) v i
unfolding step
flat_step rows e p v i h k l m = flat_holds rows v i (omega arith) (omega arith) ∙ rw (lt-ltb v p l, lt-ltb i e m)

-- the counts of the scripts that begin with event i, as the definition has them
abbrev begins : Sheet → Sheet → ℕ → ℕ → ℕ → ℕ → Fate → ℕ
begins P Q l n m i f = beginning P Q l n m i (count_from P Q l (step P n i) (step Q m i) f) f

-- the sums of these over the first i events
abbrev sums_to : Sheet → Sheet → ℕ → ℕ → ℕ → ℕ → Counts
sums_to P Q l n m i = record {
  walked = sum (λ j. begins P Q l n m j Walked) i;
  device = sum (λ j. begins P Q l n m j DeviceStops) i;
  reference = sum (λ j. begins P Q l n m j ReferenceStops) i;
}

-- what one event adds is what the definition says of it
event_is : (P Q : Sheet) (l n m i : ℕ) (c : Counts) → (step P n i < P.n → step Q m i < Q.n → c ≡ counts_from P Q l (step P n i) (step Q m i))
    → event_counts (P.e ^ l) P.n Q.n (step P n i) (step Q m i) c
    ≡ record { walked = begins P Q l n m i Walked; device = begins P Q l n m i DeviceStops; reference = begins P Q l n m i ReferenceStops }
unfolding beginning
event_is P Q l n m i c h = go (lt_or_ge (step Q m i) Q.n) (lt_or_ge (step P n i) P.n)
  where
    go : (step Q m i < Q.n) ⊎ (Q.n ≤ step Q m i) → (step P n i < P.n) ⊎ (P.n ≤ step P n i)
        → event_counts (P.e ^ l) P.n Q.n (step P n i) (step Q m i) c
        ≡ record { walked = begins P Q l n m i Walked; device = begins P Q l n m i DeviceStops; reference = begins P Q l n m i ReferenceStops }
    go (inl y) (inl x) = event_both _ _ _ _ _ c y x ∙ rw (lt-ltb (step Q m i) Q.n y, lt-ltb (step P n i) P.n x) (h x y)
    go (inl y) (inr x) = event_reference _ _ _ _ _ c y x ∙ rw (lt-ltb (step Q m i) Q.n y, le-ltb (step P n i) P.n x)
    go (inr y) x = event_device _ _ _ _ _ c y ∙ rw (le-ltb (step Q m i) Q.n y)

module _ (mine theirs : List Row) (p q e : ℕ) (hp : p ≤ 32) (hq : q ≤ 32) (he : e ≤ 12) where
  abbrev P : Sheet
  P = sheet_with mine e p

  abbrev Q : Sheet
  Q = sheet_with theirs e q

  abbrev a : List ℕ
  a = up_to (flat_at mine) 384

  abbrev b : List ℕ
  b = up_to (flat_at theirs) 384

  -- the sums over the first i events, where those that go on are counted
  sums_is : (l n m : ℕ) → n < p → m < q → ((x y : ℕ) → x < p → y < q → table_counts a b p q e l x y ≡ counts_from P Q l x y)
      → (i : ℕ) → i ≤ e → sums a b (e ^ l) p q n m (table_counts a b p q e l) i ≡ sums_to P Q l n m i
  unfolding sums sum plus
  sums_is l n m c d h zero k = refl
  sums_is l n m c d h (suc i) k =
      rw (
        sums_is l n m c d h i (omega arith),
        flat_step mine e p n i hp he c (omega arith),
        flat_step theirs e q m i hq he d (omega arith),
        event_is P Q l n m i (table_counts a b p q e l (step P n i) (step Q m i)) (h (step P n i) (step Q m i)),
      )

  -- the counts over the flat tables are those of the sheets
  pub table_is : (l n m : ℕ) → n < p → m < q → table_counts a b p q e l n m ≡ counts_from P Q l n m
  unfolding table_counts count_from
  table_is zero n m c d = refl
  table_is (suc l) n m c d = sums_is l n m c d (table_is l) e (omega arith)

  -- what is counted over the two flat tables, as they were made
  pub rows_counted : (L : ℕ) (x y : List ℕ) (r : Counts) → 0 < p → 0 < q → x ≡ a → y ≡ b → r ≡ table_counts x y p q e L 0 0 → r ≡ counts_from P Q L 0 0
  rows_counted L x y r c d u v h = h ∙ rw (u, v) (table_is L 0 0 c d)
