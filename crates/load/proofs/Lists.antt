-- The tables as they are filled: event by event in the places of a node, and node by node; what tables of an accepted
-- sheet are; and that the walk by them is the sheet's.
use mathlib.Core.Path.{◌≡◌, refl, sym, ap, ◌∙◌}
use mathlib.Core.Logic.{◌⊎◌, inl, inr, ◌≢◌}
use mathlib.Core.Bool.{true, false}
use mathlib.Core.List.{List, [], ◌∷◌, ◌++◌}
use Prim.Native.Nat.{ℕ, zero, suc, ◌+◌, ◌*◌, ◌%◌, ◌≤◌, ◌<◌}
use native.Mathlib.Nat.{mod-lt}
use native.Mathlib.Numerals.{add-one}
use native.Mathlib.Omega.{arith}
use lib.ListN.{length, get_or, set, length-set, length-append, get_or-append}
use lib.Seq.{get_or-set_same, get_or-set_other, get_or_at}
use borrow.Author.Tests.{eq-eqb, ne_eqb}
use Rattle.base.proofs.Truth.{dec, lt_or_ge}
use Rattle.base.specs.Gather.{gather, select}
use Rattle.base.specs.Table.{up_to}
use Rattle.events.specs.Sets.{has}
use Rattle.events.specs.Lists.{events_in}
use Rattle.events.proofs.ListLaws.{events_more, events_same, events_few}
use Rattle.sheet_spec.specs.declared.Row.{Row}
use Rattle.sheet_spec.specs.declared.Sheet.{Sheet}
use Rattle.sheet_spec.specs.Kept.{row, successor, Initial, step}
use Rattle.sheet_spec.specs.Sound.{Sound}
use Rattle.sheet_rows.specs.Tables.{initials_in, flat_at, flat_holds}
use Rattle.load_spec.specs.Xorshift.{next_state}
use Rattle.load_spec.specs.Walks.{initials_at, drawn, walk_from, walk_of}
use Rattle.load_spec.proofs.DrawLaws.{at_initial, drawn_initial}
use Rattle.load_spec.proofs.WalkLaws.{none_or_some, from_ends, from_goes, step_is, drawn_leads}
use Rattle.load.specs.Shapes.{count_with, Listed, Tabled, Leads, table_drawn, table_walk}

-- ---- the events of a set, one by one

-- before the first event nothing is listed
pub none_listed : (set v : ℕ) (t : List ℕ) → Listed set v 0 t t
unfolding events_in
none_listed set v t = record { long = refl; there = λ k l. absurd (unfold select gather in (omega arith)); before = λ k l. refl }

module _ {bits v i count x : ℕ} {t₀ t : List ℕ} (h : Listed bits v i t₀ t) (n : count ≡ length (events_in bits i)) (room : v * 12 + count < length t) (p : x ≡ i) where
  abbrev stored : List ℕ
  stored = set t (v * 12 + count) x

  stored_there : (k : ℕ) → k < length (events_in bits i) → get_or stored (v * 12 + k) 0 ≡ get_or (events_in bits i) k 0
  stored_there k l = get_or-set_other t (v * 12 + count) (v * 12 + k) x 0 (λ e. omega (arith, e, n, l)) ∙ h.there k l

  stored_before : (k : ℕ) → k < v * 12 → get_or stored k 0 ≡ get_or t₀ k 0
  stored_before k l = get_or-set_other t (v * 12 + count) k x 0 (λ e. omega (arith, e, l)) ∙ h.before k l

  stored_long : length stored ≡ length t₀
  stored_long = length-set t (v * 12 + count) x ∙ h.long

  -- an event of the set stays where it was written, and the next goes after it
  listed_yes : has bits i ≡ true → Listed bits v (i + 1) t₀ stored × (count + 1 ≡ length (events_in bits (i + 1)))
  listed_yes b =
      rw (add-one i) (
        record { long = stored_long; there = λ k l. rw (events_more bits i b) (there k (rw (events_more bits i b) at l)); before = stored_before },
        rw (events_more bits i b) (sym (length-append (events_in bits i) (i ∷ []) ∙ omega (arith, n))),
      )
    where
      there : (k : ℕ) → k < length (events_in bits i ++ (i ∷ [])) → get_or stored (v * 12 + k) 0 ≡ get_or (events_in bits i ++ (i ∷ [])) k 0
      there k l = go (lt_or_ge k (length (events_in bits i)))
        where
          go : (k < length (events_in bits i)) ⊎ (length (events_in bits i) ≤ k) → get_or stored (v * 12 + k) 0 ≡ get_or (events_in bits i ++ (i ∷ [])) k 0
          go (inl d) = stored_there k d ∙ sym (get_or-append (events_in bits i) (i ∷ []) 0 k d)
          go (inr d) =
              let e : k ≡ count = omega (arith, n, d, l, length-append (events_in bits i) (i ∷ [])) in
              rw e (get_or-set_same t (v * 12 + count) x 0 room ∙ p ∙ sym (get_or_at (events_in bits i) i [] 0 count (sym n)))

  -- another is written over by the next
  listed_no : has bits i ≡ false → Listed bits v (i + 1) t₀ stored × (count ≡ length (events_in bits (i + 1)))
  listed_no b =
      rw (add-one i) (
        record { long = stored_long; there = λ k l. rw (events_same bits i b) (stored_there k (rw (events_same bits i b) at l)); before = stored_before },
        rw (events_same bits i b) n,
      )

  -- so, after each, those below the next are listed and counted
  pub listed_next : (c : ℕ) → c ≡ count_with count bits i → Listed bits v (i + 1) t₀ stored × (c ≡ length (events_in bits (i + 1)))
  unfolding count_with
  listed_next c q = go (dec (has bits i))
    where
      go : (has bits i ≡ true) ⊎ (has bits i ≡ false) → Listed bits v (i + 1) t₀ stored × (c ≡ length (events_in bits (i + 1)))
      go (inl b) = let w = listed_yes b in (w.0, q ∙ rw b w.1)
      go (inr b) = let w = listed_no b in (w.0, q ∙ rw b w.1)

-- ---- the nodes, one by one

pub none_tabled : (rows : List Row) (e : ℕ) (lists counts : List ℕ) → length lists ≡ 384 → length counts ≡ 32 → Tabled rows e 0 lists counts
none_tabled rows e lists counts p q = record { lists_long = p; counts_long = q; counted = λ v l. absurd (omega arith); listed = λ v k l. absurd (omega arith) }

pub node_tabled : {rows : List Row} {e v bits c : ℕ} {lists lists' counts : List ℕ} → Tabled rows e v lists counts → v < 32 → bits ≡ initials_in e rows v
    → Listed bits v 12 lists lists' → c ≡ length (events_in bits 12) → Tabled rows e (v + 1) lists' (set counts v c)
node_tabled {rows} {e} {v} {bits} {c} {lists} {lists'} {counts} h l p q n = record {
  lists_long = q.long ∙ h.lists_long;
  counts_long = length-set counts v c ∙ h.counts_long;
  counted = λ u d. count u d (lt_or_ge u v);
  listed = λ u k d a. list u k d a (lt_or_ge u v);
}
  where
    count : (u : ℕ) → u < v + 1 → (u < v) ⊎ (v ≤ u) → get_or (set counts v c) u 0 ≡ length (events_in (initials_in e rows u) 12)
    count u d (inl a) = get_or-set_other counts v u c 0 (λ z. omega arith) ∙ h.counted u a
    count u d (inr a) =
        let z : u ≡ v = omega arith in
        rw (z, ← p) (get_or-set_same counts v c 0 (omega (arith, h.counts_long)) ∙ n)

    list : (u k : ℕ) → u < v + 1 → k < length (events_in (initials_in e rows u) 12) → (u < v) ⊎ (v ≤ u) → get_or lists' (u * 12 + k) 0 ≡ get_or (events_in (initials_in e rows u) 12) k 0
    list u k d a (inl b) = q.before (u * 12 + k) (omega (arith, events_few (initials_in e rows u) 12)) ∙ h.listed u k b a
    list u k d a (inr b) =
        let z : u ≡ v = omega arith in
        rw (z, ← p) (q.there k (rw (z, ← p) at a))

-- ---- the tables of an accepted sheet

-- E and N as the code widens them
pub sheet_tabled : (s : Sheet) {e n : ℕ} {lists counts : List ℕ} → Tabled s.rows e n lists counts → e ≡ s.e → n ≡ s.n → Tabled s.rows s.e s.n lists counts
sheet_tabled s h p q = rw (← p, ← q) h

module _ (s : Sheet) (o : Sound s) {lists counts next : List ℕ} (h : Tabled s.rows s.e s.n lists counts) (f : next ≡ up_to (flat_at s.rows) 384) where
  few : s.e ≤ 12
  few = o.ranges.e_high

  -- how many initials a node has, and which
  count_is : (v : ℕ) → v < s.n → get_or counts v 0 ≡ length (initials_at s v)
  unfolding initials_at initials_in
  count_is v l = h.counted v l

  list_is : (v k : ℕ) → v < s.n → k < length (initials_at s v) → get_or lists (v * 12 + k) 0 ≡ get_or (initials_at s v) k 0
  unfolding initials_at initials_in
  list_is v k l d = h.listed v k l d

  -- where an initial leads
  next_is : (v i : ℕ) → v < s.n → i < s.e → get_or next (v * 12 + i) 0 ≡ step s v i
  next_is v i l d = rw f (flat_holds s.rows v i (omega (arith, o.ranges.n_high)) (omega (arith, few))) ∙ sym (step_is s o v i l d)

  leads_to_lem : (v i : ℕ) → v < s.n → Initial s.e (row s v) i → step s v i < s.n
  leads_to_lem v i l (d, n) = rw (step_is s o v i l d) (go (o.successors v i l d))
    where
      go : (successor (row s v) i ≡ 255) ⊎ (successor (row s v) i < s.n) → successor (row s v) i < s.n
      go (inl e) = absurd (n e)
      go (inr k) = k

  -- no walk leaves the nodes
  pub sheet_leads : Leads lists counts next
  unfolding initials_at
  sheet_leads = record {
    nodes = s.n;
    some = o.ranges.n_low;
    nodes_few = o.ranges.n_high;
    counts_few = λ v l. omega (arith, count_is v l, short v);
    events_low = λ v k l d. let i = initial v k l (omega (arith, count_is v l)) in omega (arith, list_is v k l (omega (arith, count_is v l)), i.0, few);
    inside = λ v k l d.
        let r : k < length (initials_at s v) = omega (arith, count_is v l) in
        let i = initial v k l r in
        rw (list_is v k l r, next_is v (get_or (initials_at s v) k 0) l i.0) (leads_to_lem v (get_or (initials_at s v) k 0) l i);
  }
    where
      short : (v : ℕ) → length (initials_at s v) ≤ 12
      short v = events_few _ 12

      initial : (v k : ℕ) → v < s.n → k < length (initials_at s v) → Initial s.e (row s v) (get_or (initials_at s v) k 0)
      initial v k l d = at_initial s few v k d

  table_drawn_is : (v x : ℕ) → v < s.n → length (initials_at s v) ≢ 0 → table_drawn lists counts v x ≡ drawn s v x
  unfolding table_drawn drawn
  table_drawn_is v x l n = rw (count_is v l) (list_is v (x % length (initials_at s v)) l (mod-lt x (omega (arith, n))))

  -- the walk by the tables is the sheet's
  tables_from : (l v x : ℕ) → v < s.n → table_walk lists counts next l v x ≡ walk_from s l v x
  unfolding table_walk walk_from
  tables_from zero v x d = refl
  tables_from (suc l) v x d = go (none_or_some (length (initials_at s v))) (tables_from l (step s v (drawn s v (next_state x))) (next_state x))
    where
      go : (length (initials_at s v) ≡ 0) ⊎ (length (initials_at s v) ≢ 0)
          → (step s v (drawn s v (next_state x)) < s.n → table_walk lists counts next l (step s v (drawn s v (next_state x))) (next_state x) ≡ walk_from s l (step s v (drawn s v (next_state x))) (next_state x))
          → table_walk lists counts next (suc l) v x ≡ walk_from s (suc l) v x
      go (inl z) ih = rw (from_ends s l v x z, count_is v d, eq-eqb (length (initials_at s v)) 0 z)
      go (inr n) ih =
          let i = drawn_initial s few v (next_state x) (omega (arith, n)) in
          rw (
            from_goes s l v x n,
            count_is v d,
            ne_eqb (length (initials_at s v)) 0 n,
            table_drawn_is v (next_state x) d n,
            next_is v (drawn s v (next_state x)) d i.0,
          )
          (ap (λ (t : List ℕ). drawn s v (next_state x) ∷ t) (ih (drawn_leads s o v (next_state x) d n)))

  pub tables_walk : (seed wish : ℕ) → table_walk lists counts next wish 0 seed ≡ walk_of s seed wish
  unfolding walk_of
  tables_walk seed wish = tables_from wish 0 seed o.ranges.n_low
