-- Nothing to believe: laws. What is named at a refusal: the first missed probe in the list, with the first acceptance
-- that misses it, is the first by place with the lowest acceptance; for nodes of sheets that are not refused, whose
-- acceptances ascend. Of the order of the list of probes nothing is used.
use Rattle.std.specs.Prelude.{◌≡◌, refl, ◌⊎◌, List, ℕ, ◌≤◌, ◌<◌, length, get_or}
use Rattle.std.proofs.Common.{sym, ◌∙◌, inl, inr, arith, eq-or-lt_of_le}
use Rattle.base.proofs.Truth.{lt_or_ge}
use Rattle.events.specs.Bit.{Apart}
use Rattle.sheet_spec.specs.declared.Row.{Row}
use Rattle.sheet_spec.specs.declared.Sheet.{Sheet}
use Rattle.sheet_spec.specs.Kept.{row, acceptance, acceptances}
use Rattle.sheet_spec.proofs.RowLaws.{acceptances_length, acceptances_at}
use Rattle.probes_spec.specs.Probes.{probes}
use Rattle.probes_spec.specs.FirstMissed.{MissedFirst}
use Rattle.probes_spec.specs.Listing.{node_probes}
use Rattle.probes_spec.proofs.ListingLaws.{node_list}
use Rattle.refinement_spec.specs.Refinement.{After}
use Rattle.comparison_spec.specs.Meaning.{Misses, FirstRefusedAt, FirstRefused}

module _ (e : ℕ) (r q : Row) (up : (j k : ℕ) → j < k → k < q.c → acceptance q j < acceptance q k) where
  rising : (j k : ℕ) → j ≤ k → k < q.c → acceptance q j ≤ acceptance q k
  rising j k l h = go (eq-or-lt_of_le l)
    where
      go : (j ≡ k) ⊎ (j < k) → acceptance q j ≤ acceptance q k
      go (inl p) = rw p (omega arith)
      go (inr p) = omega (arith, up j k p h)

  -- what is first in the two lists is first in the words
  pub refused→ : (X A : ℕ) → MissedFirst (probes (acceptances r) e) (acceptances q) X A → FirstRefusedAt e r q X A
  refused→ X A m =
      record { place = m.place; listed = m.place_in; probe = m.probe; misses = (m.spot, spot_in, spot_is, m.misses); first = first; lowest = lowest }
    where
      spot_in : m.spot < q.c
      spot_in = omega (arith, m.spot_in, acceptances_length q)

      spot_is : acceptance q m.spot ≡ A
      spot_is = sym (acceptances_at q m.spot spot_in) ∙ m.acceptance

      first : (x : ℕ) → x < m.place → (B : ℕ) → ¬ Misses q (get_or (probes (acceptances r) e) x 0) B
      first x h B (j, l, p, a) = m.earlier x h j (omega (arith, l, acceptances_length q)) (rw (acceptances_at q j l, p) a)

      lowest : (B : ℕ) → Misses q X B → A ≤ B
      lowest B (j, l, p, a) = go (lt_or_ge j m.spot)
        where
          go : (j < m.spot) ⊎ (m.spot ≤ j) → A ≤ B
          go (inl h) = absurd (m.lower j h (rw (acceptances_at q j l, p) a))
          go (inr h) = omega (arith, rising m.spot j h l, spot_is, p)

  -- what is first in the words is first in the two lists
  pub refused← : (X A : ℕ) → FirstRefusedAt e r q X A → MissedFirst (probes (acceptances r) e) (acceptances q) X A
  refused← X A f = record {
    place = f.place;
    place_in = f.listed;
    probe = f.probe;
    spot = f.misses.0;
    spot_in = omega (arith, f.misses.1, acceptances_length q);
    acceptance = acceptances_at q f.misses.0 f.misses.1 ∙ f.misses.2;
    misses = f.misses.3;
    earlier = earlier;
    lower = lower;
  }
    where
      earlier : (x : ℕ) → x < f.place → (j : ℕ) → j < length (acceptances q) → ¬ Apart (get_or (probes (acceptances r) e) x 0) (get_or (acceptances q) j 0)
      earlier x h j l a =
          let k : j < q.c = omega (arith, l, acceptances_length q) in
          f.first x h (acceptance q j) (j, k, refl, rw (acceptances_at q j k) at a)

      lower : (j : ℕ) → j < f.misses.0 → ¬ Apart X (get_or (acceptances q) j 0)
      lower j h a =
          let k : j < q.c = omega (arith, f.misses.1) in
          omega (arith, f.lowest (acceptance q j) (j, k, refl, rw (acceptances_at q j k) at a), up j f.misses.0 h f.misses.1, f.misses.2)

-- the probe that is named stands in the list that a probe call writes for the reference's node, and no probe before it
-- there is missed
pub named_listed : (P Q : Sheet) (t : List ℕ) (X A : ℕ) → FirstRefused P Q t X A
    → (v : ℕ) × (w : ℕ) × After P t v × After Q t w
    × ((x : ℕ) × (x < length (node_probes P v)) × (get_or (node_probes P v) x 0 ≡ X) × ((y : ℕ) → y < x → (B : ℕ) → ¬ Misses (row Q w) (get_or (node_probes P v) y 0) B))
named_listed P Q t X A (v, w, a, b, f) = (v, w, a, b, rw (node_list P v) (f.place, f.listed, f.probe, f.first))
