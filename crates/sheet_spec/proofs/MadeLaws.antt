-- Nothing to believe: laws. A sheet that is made is accepted exactly if its rows, its codes and its nodes are what 01
-- and 02 ask (`made_accepted`, `accepted_made`): the converse of `check_sound`, which is said too (`sound_accepted`).
-- Its E, its N, its codes, and the successors and acceptances of its nodes settle it (`made_once`).
use Rattle.std.specs.Prelude.{◌≡◌, refl, ◌⊎◌, ◌≢◌, List, ℕ, zero, suc, ◌≤◌, ◌<◌, length, get_or}
use Rattle.std.proofs.Common.{sym, ap, ◌∙◌, inl, inr, arith, ext_get_or}
use Rattle.std.proofs.lemmas.List.{get_or-replicate}
use Rattle.base.proofs.Truth.{lt_or_ge}
use Rattle.base.proofs.Table.{length_up_to, get_or_up_to}
use Rattle.events.specs.Bit.{bit, Within}
use Rattle.events.proofs.Bit.{bits_zero, within_le}
use Rattle.sheet_spec.specs.declared.Row.{Row}
use Rattle.sheet_spec.specs.declared.Sheet.{Sheet}
use Rattle.sheet_spec.specs.Kept.{no_row, code, row, successor, acceptance, acceptances}
use Rattle.sheet_spec.specs.Form.{RowForm, SheetForm}
use Rattle.sheet_spec.specs.Spelling.{unused_row}
use Rattle.sheet_spec.specs.Refusals.{sheet_fault}
use Rattle.sheet_spec.specs.Faults.{RangeFault, CountFault, SuccessorFault, RowSetFault, descends, outside, includes, stops, SetFault, UnusedFault, event, place, node_successor, node_set, node_count_lem, event_code, ReachFault}
use Rattle.sheet_spec.proofs.CheckLaws.{check_0}
use Rattle.sheet_spec.proofs.Written.{row_path, sheet_path}
use Rattle.sheet_spec.specs.Sound.{Sound}
use Rattle.sheet_spec.proofs.SoundLaws.{check_sound}
use Rattle.sheet_spec.specs.Made.{RowSound, RowBlank, Made}

-- the row that reading keeps for an unused node is one
pub unused_blank : RowBlank unused_row
unfolding successor acceptance
unused_blank = record {
  successors = λ i l. get_or-replicate {A = ℕ} 12 i 255 255 l;
  sets = λ j l. get_or-replicate {A = ℕ} 16 j 0 0 l;
  count = refl;
}

-- ---- a row in use

module _ {e n : ℕ} {r : Row} (o : RowSound e n r) where
  -- none of two sets includes the other, whichever comes first: a later one is a greater number
  antichain : (j k : ℕ) → j < r.c → k < r.c → j ≢ k → ¬ Within (acceptance r j) (acceptance r k)
  antichain j k a b q w = go (lt_or_ge j k) (lt_or_ge k j)
    where
      go : (j < k) ⊎ (k ≤ j) → (k < j) ⊎ (j ≤ k) → ⊥
      go (inl l) m = o.apart j k l b w
      go (inr l) (inl m) = omega (arith, o.ascending k j m a, within_le (acceptance r j) (acceptance r k) w)
      go (inr l) (inr m) = q (omega arith)

  no_set_fault : ¬ RowSetFault e r
  no_set_fault (descends j k l m d) = omega (arith, o.ascending j k l m)
  no_set_fault (outside j i l b f) = f (o.inside j i l b)
  no_set_fault (includes j k a b q w) = antichain j k a b q w
  no_set_fault (stops j l z q) = alone (lt_or_ge 1 r.c) j l z
    where
      empty : (j k : ℕ) → acceptance r j ≡ 0 → Within (acceptance r j) (acceptance r k)
      empty j k z i = omega (arith, ap (λ (x : ℕ). bit x i) z, bits_zero i)

      alone : (1 < r.c) ⊎ (r.c ≤ 1) → (j : ℕ) → j < r.c → acceptance r j ≡ 0 → ⊥
      alone (inr m) j l z = q (omega (arith, o.c_low))
      alone (inl m) zero l z = antichain 0 1 l m (λ p. omega arith) (empty 0 1 z)
      alone (inl m) (suc j) l z = antichain (suc j) 0 l (omega arith) (λ p. omega arith) (empty (suc j) 0 z)

-- ---- a sheet

module _ (s : Sheet) (m : Made s) where
  no_range : ¬ RangeFault s.e s.n
  no_range (inl (inl x)) = omega (arith, m.ranges.e_low)
  no_range (inl (inr x)) = omega (arith, m.ranges.e_high)
  no_range (inr (inl x)) = omega (arith, m.ranges.n_low)
  no_range (inr (inr x)) = omega (arith, m.ranges.n_high)

  no_count : ¬ CountFault s
  no_count (v, l, inl x) = omega (arith, (m.used v l).c_low)
  no_count (v, l, inr x) = omega (arith, (m.used v l).c_high)

  no_successor : ¬ SuccessorFault s
  no_successor (v, l, (i, k, (a, b))) = go ((m.used v l).successors i k)
    where
      go : (successor (row s v) i ≡ 255) ⊎ (successor (row s v) i < s.n) → ⊥
      go (inl e) = a e
      go (inr d) = omega arith

  no_unused : ¬ UnusedFault s
  no_unused (event v i l a b q) = q ((m.used v l).unused_event i a b)
  no_unused (place v j l a b q) = q ((m.used v l).unused_place j a b)
  no_unused (node_successor v i l a b q) = q ((m.unused v l a).successors i b)
  no_unused (node_set v j l a b q) = q ((m.unused v l a).sets j b)
  no_unused (node_count_lem v l a q) = q (m.unused v l a).count
  no_unused (event_code i a b q) = q (m.codes.1 i a b)

  no_sets : ¬ (SetFault s ⊎ UnusedFault s)
  no_sets (inl (v, l, f)) = no_set_fault (m.used v l) f
  no_sets (inr f) = no_unused f

  no_reach : ¬ ReachFault s
  no_reach (v, l, f) = let w = m.reached v l in f w.0 w.1

  -- a sheet that is made so is accepted
  pub made_accepted : sheet_fault s ≡ 0
  made_accepted = (check_0 s).1 (((((no_range, m.codes.0), no_count), no_successor), no_sets), no_reach)

-- ---- the converse of `check_sound`

-- a sound sheet is so made
pub sound_made : (s : Sheet) → Sound s → Made s
sound_made s o = record {
  ranges = o.ranges;
  codes = ((λ w. o.codes_differ w.0 w.1 w.2 w.3 w.4 w.5), o.unused_code);
  used = λ v l. record {
    c_low = (o.counts v l).0;
    c_high = (o.counts v l).1;
    successors = λ i k. o.successors v i l k;
    unused_event = λ i. o.unused_event v i l;
    unused_place = λ j. o.unused_place v j l;
    ascending = λ j k. o.ascending v j k l;
    inside = λ j i k b. let w = o.inside v j i l k b in (w.0, λ p. omega (arith, w.1, p, o.ranges.n_high));
    apart = λ j k p q. o.antichain v j k l (omega arith) q (λ z. omega arith);
  };
  unused = λ v l k. record {
    successors = λ i. o.unused_successor v i l k;
    sets = λ j. o.unused_set v j l k;
    count = o.unused_count v l k;
  };
  reached = o.reached;
}

-- so it is accepted
pub sound_accepted : (s : Sheet) → Sound s → sheet_fault s ≡ 0
sound_accepted s o = made_accepted s (sound_made s o)

-- and every accepted sheet is so made
pub accepted_made : (s : Sheet) → sheet_fault s ≡ 0 → Made s
accepted_made s h = sound_made s (check_sound s h)

-- ---- what settles a sheet

-- a row of the machine's form is settled by its C, its twelve successors and its sixteen sets
row_once : (r t : Row) → RowForm r → RowForm t → r.c ≡ t.c → ((i : ℕ) → i < 12 → successor r i ≡ successor t i) → ((j : ℕ) → j < 16 → acceptance r j ≡ acceptance t j) → r ≡ t
unfolding successor acceptance
row_once r t o p c f g =
    row_path r t (ext_get_or 255 r.succ t.succ (o.succs ∙ sym p.succs) (λ i l. f i (omega (arith, l, o.succs))))
    (ext_get_or 0 r.sets t.sets (o.sets ∙ sym p.sets) (λ j l. g j (omega (arith, l, o.sets)))) c

-- rows with the same acceptances have the same C, and the same set at each place in use
acceptances_once : (r t : Row) → acceptances r ≡ acceptances t → (r.c ≡ t.c) × ((j : ℕ) → j < r.c → acceptance r j ≡ acceptance t j)
unfolding acceptances
acceptances_once r t e =
    let c : r.c ≡ t.c = sym (length_up_to (acceptance r) r.c) ∙ ap length e ∙ length_up_to (acceptance t) t.c in (
      c,
      λ j l. sym (get_or_up_to (acceptance r) r.c j 0 l) ∙ ap (λ (x : List ℕ). get_or x j 0) e ∙ get_or_up_to (acceptance t) t.c j 0 (omega (arith, l, c)),
    )

-- accepted sheets with one E, one N, the same codes and, at each node, the same successors and the same acceptances are
-- one sheet
module _ (s t : Sheet) (o : SheetForm s) (p : SheetForm t) (m : Made s) (k : Made t) (e : s.e ≡ t.e) (n : s.n ≡ t.n) where
  used_once : (v : ℕ) → v < s.n → ((i : ℕ) → i < s.e → successor (row s v) i ≡ successor (row t v) i) → acceptances (row s v) ≡ acceptances (row t v) → row s v ≡ row t v
  used_once v l f a = row_once (row s v) (row t v) (o.each v (omega (arith, l, m.ranges.n_high))) (p.each v (omega (arith, l, m.ranges.n_high))) c.0 (λ i h. succs i h (lt_or_ge i s.e)) (λ j h. sets j h (lt_or_ge j (row s v).c))
    where
      in_t : v < t.n
      in_t = omega (arith, l, n)

      c : ((row s v).c ≡ (row t v).c) × ((j : ℕ) → j < (row s v).c → acceptance (row s v) j ≡ acceptance (row t v) j)
      c = acceptances_once (row s v) (row t v) a

      succs : (i : ℕ) → i < 12 → (i < s.e) ⊎ (s.e ≤ i) → successor (row s v) i ≡ successor (row t v) i
      succs i h (inl x) = f i x
      succs i h (inr x) = (m.used v l).unused_event i x h ∙ sym ((k.used v in_t).unused_event i (omega (arith, x, e)) h)

      sets : (j : ℕ) → j < 16 → (j < (row s v).c) ⊎ ((row s v).c ≤ j) → acceptance (row s v) j ≡ acceptance (row t v) j
      sets j h (inl x) = c.1 j x
      sets j h (inr x) = (m.used v l).unused_place j x h ∙ sym ((k.used v in_t).unused_place j (omega (arith, x, c.0)) h)

  unused_once : (v : ℕ) → s.n ≤ v → v < 32 → row s v ≡ row t v
  unused_once v l h =
      let x = m.unused v l h in
      let y = k.unused v (omega (arith, l, n)) h in
      row_once (row s v) (row t v) (o.each v h) (p.each v h) (x.count ∙ sym y.count) (λ i q. x.successors i q ∙ sym (y.successors i q)) (λ j q. x.sets j q ∙ sym (y.sets j q))

  pub made_once : ((i : ℕ) → i < s.e → code s i ≡ code t i) → ((v i : ℕ) → v < s.n → i < s.e → successor (row s v) i ≡ successor (row t v) i)
      → ((v : ℕ) → v < s.n → acceptances (row s v) ≡ acceptances (row t v)) → s ≡ t
  made_once c f a =
      sheet_path s t (ext_get_or no_row s.rows t.rows (o.rows ∙ sym p.rows) (λ v l. rows v (omega (arith, l, o.rows)) (lt_or_ge v s.n))) e n
      (ext_get_or 0 s.codes t.codes (o.codes ∙ sym p.codes) (λ i l. codes i (omega (arith, l, o.codes)) (lt_or_ge i s.e)))
    where
      rows : (v : ℕ) → v < 32 → (v < s.n) ⊎ (s.n ≤ v) → row s v ≡ row t v
      rows v h (inl l) = used_once v l (λ i k. f v i l k) (a v l)
      rows v h (inr l) = unused_once v l h

      codes : (i : ℕ) → i < 12 → (i < s.e) ⊎ (s.e ≤ i) → code s i ≡ code t i
      codes i h (inl l) = c i l
      codes i h (inr l) = m.codes.1 i l h ∙ sym (k.codes.1 i (omega (arith, l, e)) h)
