-- Nothing to believe: steps of proofs. What a device's node can block, and the refusals of a pair (by the promise of
-- the probe lists alone). r is the reference's row, q the device's.
use Rattle.std.specs.Prelude.{◌≡◌, ◌⊎◌, ◌≢◌, true, false, List, ℕ, ◌^◌, ◌≤◌, ◌<◌, length, get_or}
use Rattle.std.proofs.Common.{sym, ap, ◌∙◌, inl, inr, arith}
use Rattle.base.proofs.Truth.{clash, lt_or_ge, not_i}
use Rattle.events.specs.Bit.{bit, Within, Apart}
use Rattle.events.proofs.Bit.{bit≤1, bits_zero, all_zero, bit_high}
use Rattle.sheet_spec.specs.declared.Row.{Row}
use Rattle.sheet_spec.specs.Kept.{acceptance, acceptances, may_stop}
use Rattle.sheet_spec.proofs.RowLaws.{may_stop_means, acceptances_length, acceptances_at}
use Rattle.probes_spec.specs.Probes.{probes, Probe, Narrow}
use Rattle.probes_spec.proofs.ProbeLaws.{missed→, missed←, probes_some, choice_probe, probe_chosen, probe_listed}
use Rattle.refinement_spec.specs.Refinement.{MayRefuse}
use Rattle.refinement_spec.specs.ViolatingPairs.{has_refusal}
use Rattle.refinement_spec.proofs.PairLaws.{refusal_means}
use Rattle.tests_spec.specs.Runs.{all_events, chosen}
use Rattle.tests_spec.proofs.Offers.{all_means, chosen_some}

module _ (q : Row) (few : q.c ≤ 16) where
  -- a node that may stop can block whatever is offered
  pub stop_blocks : (X : ℕ) → may_stop q ≡ true → MayRefuse q X
  stop_blocks X t =
      let w = (may_stop_means q few).0 t in
      (w.0, w.1, λ i. omega (arith, ap (λ (x : ℕ). bit x i) w.2, bits_zero i, bit≤1 X i))

  -- a node that can block all events may stop
  pub all_blocked : (e : ℕ) → ((j : ℕ) → j < q.c → acceptance q j < 2 ^ e) → MayRefuse q (all_events e) → may_stop q ≡ true
  all_blocked e nq (j, l, a) = (may_stop_means q few).1 (j, l, all_zero (acceptance q j) (λ i. go i (lt_or_ge i e)))
    where
      go : (i : ℕ) → (i < e) ⊎ (e ≤ i) → bit (acceptance q j) i ≡ 0
      go i (inl h) = omega (arith, a i, (all_means e i).1 h)
      go i (inr h) = bit_high e i (acceptance q j) (nq j l) h

  -- a node that may not stop has no empty set
  no_empty : may_stop q ≡ false → (j : ℕ) → j < q.c → acceptance q j ≢ 0
  no_empty t j l z = clash ((may_stop_means q few).1 (j, l, z)) t

module _ (r q : Row) (few : r.c ≤ 16) where
  -- a device that may stop where the reference may not makes a refusal
  pub stop_refusal : q.c ≤ 16 → may_stop q ≡ true → may_stop r ≡ false → has_refusal r q ≡ true
  stop_refusal fewq t f =
      let w = (may_stop_means q fewq).0 t in
      (refusal_means r q).1
      (w.0, w.1, λ l h i. no_empty r few f l h (all_zero (acceptance r l) (λ x. omega (arith, i x, ap (λ (y : ℕ). bit y x) w.2, bits_zero x))))

  -- where there is a refusal the reference may not stop
  refusal_no_stop : has_refusal r q ≡ true → may_stop r ≡ false
  refusal_no_stop t =
      let w = (refusal_means r q).0 t in
      not_i (λ s. let z = (may_stop_means r few).0 s in w.2 z.0 z.1 (λ i. omega (arith, ap (λ (y : ℕ). bit y i) z.2, bits_zero i)))

  module _ (e : ℕ) (nr : (l : ℕ) → l < r.c → acceptance r l < 2 ^ e) where
    narrow : Narrow (acceptances r) e
    narrow j l = let h : j < r.c = omega (arith, l, acceptances_length r) in rw (acceptances_at r j h) (nr j h)

    -- a set with all of the chosen probe, blocked by the device at a node where the reference may not stop, makes a
    -- refusal
    pub block_refusal : (h X : ℕ) → may_stop r ≡ false → Within (chosen (probes (acceptances r) e) h) X → MayRefuse q X → has_refusal r q ≡ true
    block_refusal h X f i (j, l, a) =
        (refusal_means r q).1
        (j, l, λ k m w. missed← (acceptances r) Y (acceptance q j) probe apart k (omega (arith, m, acceptances_length r)) (rw (acceptances_at r k m) w))
      where
        ps : List ℕ
        ps = probes (acceptances r) e

        Y : ℕ
        Y = chosen ps h

        some : 0 < length ps
        some =
            probes_some (acceptances r) e narrow
            (λ j l z. let k : j < r.c = omega (arith, l, acceptances_length r) in no_empty r few f j k (sym (acceptances_at r j k) ∙ z))

        probe : Probe (acceptances r) Y
        probe = rw (chosen_some ps h some) (choice_probe (acceptances r) e h some)

        apart : Apart Y (acceptance q j)
        apart x = omega (arith, i x, a x)

    -- where there is a refusal, the reference may not stop, and for some choice number the device has an acceptance
    -- with no event of the chosen probe
    pub refusal_block : e ≤ 12 → has_refusal r q ≡ true
        → (may_stop r ≡ false) × ((h : ℕ) × (h < 65536) × ((j : ℕ) × (j < q.c) × Apart (chosen (probes (acceptances r) e) h) (acceptance q j)))
    refusal_block small t =
        let w = (refusal_means r q).0 t in
        let m = missed→ (acceptances r) e narrow (acceptance q w.0) (λ l h i. uncovered w.0 w.2 l h i) in
        let c = probe_chosen (acceptances r) e small narrow m.0 m.1 in
        (f, (c.0, c.1, (w.0, w.1, rw (chosen_some ps c.0 (some m.0 m.1), c.2) m.2)))
      where
        f : may_stop r ≡ false
        f = refusal_no_stop t

        uncovered : (j : ℕ) → ((l : ℕ) → l < r.c → ¬ Within (acceptance r l) (acceptance q j)) → (l : ℕ) → l < length (acceptances r)
            → ¬ Within (get_or (acceptances r) l 0) (acceptance q j)
        uncovered j n l h i = let k : l < r.c = omega (arith, h, acceptances_length r) in n l k (rw (acceptances_at r l k) at i)

        ps : List ℕ
        ps = probes (acceptances r) e

        some : (X : ℕ) → Probe (acceptances r) X → 0 < length ps
        some X p = let w = probe_listed (acceptances r) e narrow X p in omega (arith, w.1)
