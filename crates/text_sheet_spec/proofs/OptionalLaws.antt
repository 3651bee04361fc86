-- Nothing to believe: laws. Which events are optional at a node, what this means for its probes and for a device, and
-- when `probe_list` prints them.
use Rattle.std.specs.Prelude.{◌≡◌, refl, ◌≢◌, ◌⊎◌, ◌↔◌, true, false, not, ◌&&◌, cond, ◌++◌, length, get_or}
use Rattle.std.proofs.Common.{◌∙◌, inl, inr, append-nil, arith}
use Rattle.std.proofs.Math.Bool.{Bool}
use Prim.Native.Nat.{ℕ, ◌+◌, ◌≤◌, ◌<◌}
use Rattle.std.proofs.Math.Decide.{ℕ_discrete}
use borrow.Author.Tests.{eq-eqb, ne_eqb, not-true}
use Rattle.base.proofs.Truth.{lt_or_ge, and_l, and_r, not_i}
use Rattle.base.specs.Range.{any}
use Rattle.base.proofs.Range.{any→, not_any}
use Rattle.events.specs.Bit.{bit, set_of, Within, Apart}
use Rattle.events.proofs.Bit.{bit≤1, bits_zero, bit_high, some_bit, set_of_lt, bit_set_of}
use Rattle.events.specs.Sets.{has}
use Rattle.events.proofs.Sets.{has→, has←, has_not}
use Rattle.sheet_spec.specs.declared.Row.{Row}
use Rattle.sheet_spec.specs.declared.Sheet.{Sheet}
use Rattle.sheet_spec.specs.Kept.{row, acceptance, acceptances, initials, Initial, may_stop}
use Rattle.sheet_spec.specs.Refusals.{sheet_fault}
use Rattle.sheet_spec.proofs.RuleLaws.{initials→, initials←}
use Rattle.sheet_spec.proofs.RowLaws.{may_stop_means, acceptances_length, acceptances_at}
use Rattle.sheet_spec.proofs.SoundLaws.{check_sound}
use Rattle.probes_spec.proofs.ProbeLaws.{probe_events}
use Rattle.probes_spec.specs.Listing.{node_probes, list_fault}
use Rattle.probes_spec.proofs.ListingLaws.{node_probe}
use Rattle.text_sheet_spec.specs.Node.{probe_space, node_line, optional, optional_line, optional_text, node_text}
use Rattle.text_sheet_spec.proofs.NodeLaws.{node_listed}

module _ (e : ℕ) (r : Row) (small : e ≤ 12) where
  -- an event is optional exactly if the node can do it and none of its acceptances has it
  pub optional_means : (i : ℕ) → (bit (optional e r) i ≡ 1) ↔ (Initial e r i × ((j : ℕ) → j < r.c → bit (acceptance r j) i ≡ 0))
  unfolding optional
  optional_means i = (to, from)
    where
      g : ℕ → ℕ → Bool
      g i j = has (acceptance r j) i

      f : ℕ → Bool
      f i = has (initials e r) i && not (any (g i) r.c)

      at : (t : Bool) → f i ≡ t → bit (set_of f 12) i ≡ cond t 1 0 → bit (set_of f 12) i ≡ 1 → Initial e r i × ((j : ℕ) → j < r.c → bit (acceptance r j) i ≡ 0)
      at false t q b = absurd (omega (arith, q, b))
      at true t q b = (
        initials→ e r small i (has→ (initials e r) i (and_l (has (initials e r) i) (not (any (g i) r.c)) t)),
        λ j l. has_not (acceptance r j) i (not_any (g i) r.c j (not-true (any (g i) r.c) (and_r (has (initials e r) i) (not (any (g i) r.c)) t)) l),
      )

      to : bit (set_of f 12) i ≡ 1 → Initial e r i × ((j : ℕ) → j < r.c → bit (acceptance r j) i ≡ 0)
      to b = go (lt_or_ge i 12)
        where
          go : (i < 12) ⊎ (12 ≤ i) → Initial e r i × ((j : ℕ) → j < r.c → bit (acceptance r j) i ≡ 0)
          go (inl l) = at (f i) refl (bit_set_of f 12 i l) b
          go (inr l) = absurd (omega (arith, b, bit_high 12 i (set_of f 12) (set_of_lt f 12) l))

      none : ((j : ℕ) → j < r.c → bit (acceptance r j) i ≡ 0) → any (g i) r.c ≡ false
      none h = not_i (λ t. let w = any→ (g i) r.c t in omega (arith, has→ (acceptance r w.0) i w.2, h w.0 w.1))

      from : Initial e r i × ((j : ℕ) → j < r.c → bit (acceptance r j) i ≡ 0) → bit (set_of f 12) i ≡ 1
      from (k, h) = bit_set_of f 12 i (omega (arith, k.0)) ∙ rw (has← (initials e r) i (initials← e r small i k), none h)

  -- whichever acceptance a device settles on, it may refuse any set of optional events: it need not do them
  pub optional_refused : (X : ℕ) → Within X (optional e r) → (j : ℕ) → j < r.c → Apart (acceptance r j) X
  optional_refused X h j l i = go (ℕ_discrete (bit X i) 1)
    where
      go : Dec (bit X i ≡ 1) → bit (acceptance r j) i + bit X i ≤ 1
      go (no n) = omega (arith, n, bit≤1 X i, bit≤1 (acceptance r j) i)
      go (yes b) =
          let o : bit (optional e r) i ≡ 1 = omega (arith, b, h i, bit≤1 (optional e r) i) in
          omega (arith, ((optional_means i).0 o).1 j l, bit≤1 X i)

module _ (s : Sheet) (h : sheet_fault s ≡ 0) (v : ℕ) (l : v < s.n) where
  -- no probe of a node has an optional event
  pub optional_unprobed : (j : ℕ) → j < length (node_probes s v) → Apart (get_or (node_probes s v) j 0) (optional s.e (row s v))
  optional_unprobed j k i = go (ℕ_discrete (bit (get_or (node_probes s v) j 0) i) 1) (ℕ_discrete (bit (optional s.e (row s v)) i) 1)
    where
      r : Row
      r = row s v

      clashes : bit (get_or (node_probes s v) j 0) i ≡ 1 → bit (optional s.e r) i ≡ 1 → ⊥
      clashes p o =
          let w = probe_events (acceptances r) (get_or (node_probes s v) j 0) i ((node_probe s h v l (get_or (node_probes s v) j 0)).0 (j, k, refl)) p in
          let m : w.0 < r.c = omega (arith, w.1, acceptances_length r) in
          let z : bit (acceptance r w.0) i ≡ 0 = ((optional_means s.e r (check_sound s h).ranges.e_high i).0 o).1 w.0 m in
          let y : bit (acceptance r w.0) i ≡ 1 = rw (acceptances_at r w.0 m) at w.2 in
          omega arith

      go : Dec (bit (get_or (node_probes s v) j 0) i ≡ 1) → Dec (bit (optional s.e (row s v)) i ≡ 1)
          → bit (get_or (node_probes s v) j 0) i + bit (optional s.e (row s v)) i ≤ 1
      go (yes p) (yes o) = absurd (clashes p o)
      go (yes p) (no o) = omega (arith, o, bit≤1 (get_or (node_probes s v) j 0) i, bit≤1 (optional s.e (row s v)) i)
      go (no p) o = omega (arith, p, bit≤1 (get_or (node_probes s v) j 0) i, bit≤1 (optional s.e (row s v)) i)

  -- at a node that may stop every event that it can do is optional
  pub stop_optional : may_stop (row s v) ≡ true → (i : ℕ) → Initial s.e (row s v) i → bit (optional s.e (row s v)) i ≡ 1
  stop_optional t i k =
      let q = check_sound s h in
      let w = (may_stop_means (row s v) (q.counts v l).1).0 t in
      let c : (row s v).c ≡ 1 = q.stop_alone v w.0 l w.1 w.2 in
      let z : w.0 ≡ 0 = omega (arith, w.1, c) in
      let a : acceptance (row s v) 0 ≡ 0 = rw z at w.2 in
      (optional_means s.e (row s v) q.ranges.e_high i).1 (k, λ j m. empty j (omega (arith, m, c)) a)
    where
      empty : (j : ℕ) → j < 1 → acceptance (row s v) 0 ≡ 0 → bit (acceptance (row s v) j) i ≡ 0
      empty j m a = let z : j ≡ 0 = omega arith in rw (z, a) (bits_zero i)

  -- a node of which every event stands in an acceptance has its one line
  pub text_one : ((i : ℕ) → Initial s.e (row s v) i → (j : ℕ) × (j < (row s v).c) × (bit (acceptance (row s v) j) i ≡ 1)) → node_text s v ≡ node_line s v
  unfolding node_text optional_text
  text_one g = rw (eq-eqb (list_fault s v probe_space) 0 (node_listed s v h l), eq-eqb (optional s.e (row s v)) 0 nothing) (append-nil (node_line s v))
    where
      nothing : optional s.e (row s v) ≡ 0
      nothing = go (ℕ_discrete (optional s.e (row s v)) 0)
        where
          go : Dec (optional s.e (row s v) ≡ 0) → optional s.e (row s v) ≡ 0
          go (yes z) = z
          go (no n) =
              let w = some_bit (optional s.e (row s v)) n in
              let m = (optional_means s.e (row s v) (check_sound s h).ranges.e_high w.0).0 w.1 in
              let a = g w.0 m.0 in
              absurd (omega (arith, a.2, m.1 a.0 a.1))

  -- a node with an event that stands in no acceptance has a second line, with the optional events
  pub text_two : (i : ℕ) → Initial s.e (row s v) i → ((j : ℕ) → j < (row s v).c → bit (acceptance (row s v) j) i ≡ 0)
      → node_text s v ≡ node_line s v ++ optional_line v (optional s.e (row s v))
  unfolding node_text optional_text
  text_two i k g = rw (eq-eqb (list_fault s v probe_space) 0 (node_listed s v h l), ne_eqb (optional s.e (row s v)) 0 some)
    where
      b : bit (optional s.e (row s v)) i ≡ 1
      b = (optional_means s.e (row s v) (check_sound s h).ranges.e_high i).1 (k, g)

      some : optional s.e (row s v) ≢ 0
      some z = let y : bit 0 i ≡ 1 = rw z at b in omega (arith, bits_zero i)

-- a node whose probe call is refused has its one line
pub text_denied : (s : Sheet) (v : ℕ) → list_fault s v probe_space ≢ 0 → node_text s v ≡ node_line s v
unfolding node_text
text_denied s v n = rw (ne_eqb (list_fault s v probe_space) 0 n) (append-nil (node_line s v))

-- what is put after the line of a node that is not refused
pub text_listed : (s : Sheet) (v : ℕ) → list_fault s v probe_space ≡ 0 → node_text s v ≡ node_line s v ++ optional_text v (optional s.e (row s v))
unfolding node_text
text_listed s v z = rw (eq-eqb (list_fault s v probe_space) 0 z)
