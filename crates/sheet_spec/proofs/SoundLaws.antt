-- Nothing to believe: laws. A sheet that is not refused is what 01 says of an accepted one, item by item: what upper
-- crates use of it.
use Rattle.std.specs.Prelude.{◌≡◌, ◌⊎◌, true, List, ℕ, ◌*◌, ◌≤◌, ◌<◌}
use Rattle.std.proofs.Common.{sym, ◌∙◌, inl, inr, mul-le-mul, arith}
use Rattle.std.proofs.Math.Decide.{ℕ_discrete}
use Rattle.base.proofs.Truth.{lt_or_ge}
use Rattle.base.proofs.Range.{all→}
use Rattle.events.specs.Bit.{bit}
use Rattle.events.proofs.Bit.{narrow}
use Rattle.walks.specs.Reach.{nearer}
use Rattle.walks.proofs.Reach.{nearer_all}
use Rattle.sheet_spec.specs.declared.Sheet.{Sheet}
use Rattle.sheet_spec.specs.Kept.{code, row, successor, acceptance, Initial, graph, Walk}
use Rattle.sheet_spec.specs.Rules.{reached_ok}
use Rattle.sheet_spec.specs.Refusals.{sheet_fault}
use Rattle.sheet_spec.specs.Faults.{BadCount, RowSetFault, descends, outside, includes, stops, UnusedFault, event, place, node_successor, node_set, node_count_lem, event_code, Clear7}
use Rattle.sheet_spec.proofs.RuleLaws.{in_range, graph_well_formed, Walk←}
use Rattle.sheet_spec.specs.Sound.{Ranges, Sound}
use Rattle.sheet_spec.proofs.CheckLaws.{check_0}
use Rattle.sheet_spec.proofs.Chains.{settled}
use Rattle.sheet_spec.proofs.Accepted.{passes}

-- two sheets have at most 1,024 pairs of nodes
pub nodes_most : {P Q : Sheet} → Sound P → Sound Q → P.n * Q.n ≤ 1024
nodes_most p q = mul-le-mul p.ranges.n_high q.ranges.n_high

in_count : (c : ℕ) → ¬ BadCount c → (1 ≤ c) × (c ≤ 16)
in_count c f = (low (lt_or_ge c 1), high (lt_or_ge 16 c))
  where
    low : (c < 1) ⊎ (1 ≤ c) → 1 ≤ c
    low (inl l) = absurd (f (inl l))
    low (inr l) = l

    high : (16 < c) ⊎ (c ≤ 16) → c ≤ 16
    high (inl l) = absurd (f (inr l))
    high (inr l) = l

module _ (s : Sheet) (h : sheet_fault s ≡ 0) where
  clear : Clear7 s
  clear = ((check_0 s).0 h).0

  good : Ranges s.e s.n
  good = in_range s.e s.n clear.0.0.0.0

  no_set_fault : (v : ℕ) → v < s.n → ¬ RowSetFault s.e (row s v)
  no_set_fault v l f = clear.1 (inl (v, l, f))

  no_unused_fault : ¬ UnusedFault s
  no_unused_fault f = clear.1 (inr f)

  leads_on : (v i : ℕ) → v < s.n → i < s.e → (successor (row s v) i ≡ 255) ⊎ (successor (row s v) i < s.n)
  leads_on v i l k = go (ℕ_discrete (successor (row s v) i) 255) (lt_or_ge (successor (row s v) i) s.n)
    where
      go : Dec (successor (row s v) i ≡ 255) → (successor (row s v) i < s.n) ⊎ (s.n ≤ successor (row s v) i) → (successor (row s v) i ≡ 255) ⊎ (successor (row s v) i < s.n)
      go (yes e) d = inl e
      go (no n) (inl d) = inr d
      go (no n) (inr d) = absurd (clear.0.1 (v, l, (i, k, (n, d))))

  rises : (v j k : ℕ) → v < s.n → j < k → k < (row s v).c → acceptance (row s v) j < acceptance (row s v) k
  rises v j k l p q = go (lt_or_ge (acceptance (row s v) j) (acceptance (row s v) k))
    where
      go : (acceptance (row s v) j < acceptance (row s v) k) ⊎ (acceptance (row s v) k ≤ acceptance (row s v) j) → acceptance (row s v) j < acceptance (row s v) k
      go (inl d) = d
      go (inr d) = absurd (no_set_fault v l (descends j k p q d))

  has_successor : (v j i : ℕ) → v < s.n → j < (row s v).c → bit (acceptance (row s v) j) i ≡ 1 → (i < s.e) × (successor (row s v) i < s.n)
  has_successor v j i l k b = go (lt_or_ge i s.e)
    where
      at : i < s.e → (successor (row s v) i ≡ 255) ⊎ (successor (row s v) i < s.n) → successor (row s v) i < s.n
      at p (inl e) = absurd (no_set_fault v l (outside j i k b (λ (x : Initial s.e (row s v) i). x.1 e)))
      at p (inr d) = d

      go : (i < s.e) ⊎ (s.e ≤ i) → (i < s.e) × (successor (row s v) i < s.n)
      go (inl p) = (p, at p (leads_on v i l p))
      go (inr p) = absurd (no_set_fault v l (outside j i k b (λ (x : Initial s.e (row s v) i). omega (arith, x.0))))

  -- a sheet that is not refused is sound
  pub check_sound : Sound s
  check_sound = record {
    ranges = good;
    codes_differ = λ i j k l n p. clear.0.0.0.1 (i, j, k, l, n, p);
    counts = λ v l. in_count (row s v).c (λ f. clear.0.0.1 (v, l, f));
    successors = leads_on;
    unused_event = λ v i l p q. settled (successor (row s v) i) 255 (λ n. no_unused_fault (event v i l p q n));
    unused_place = λ v j l p q. settled (acceptance (row s v) j) 0 (λ n. no_unused_fault (place v j l p q n));
    unused_successor = λ v i l p q. settled (successor (row s v) i) 255 (λ n. no_unused_fault (node_successor v i l p q n));
    unused_set = λ v j l p q. settled (acceptance (row s v) j) 0 (λ n. no_unused_fault (node_set v j l p q n));
    unused_count = λ v l p. settled (row s v).c 0 (λ n. no_unused_fault (node_count_lem v l p n));
    unused_code = λ i p q. settled (code s i) 0 (λ n. no_unused_fault (event_code i p q n));
    ascending = rises;
    inside = has_successor;
    narrow = λ v j l k. narrow s.e (acceptance (row s v) j) (λ i b. (has_successor v j i l k b).0);
    antichain = λ v j k l p q n w. no_set_fault v l (includes j k p q n w);
    stop_alone = λ v j l k z. settled (row s v).c 1 (λ n. no_set_fault v l (stops j k z n));
    reached = node_reached;
    graphed = graph_well_formed s good.n_low;
  }
    where
      node_reached : (v : ℕ) → v < s.n → (t : List ℕ) × Walk s 0 t v
      node_reached v l =
          let p : nearer (graph s) s.n v ≡ true = unfold reached_ok in all→ (nearer (graph s) s.n) s.n v (passes s h).p8 l in
          let w = (nearer_all (graph_well_formed s good.n_low) s.n v (omega arith) l).0 p in
          (w.0, Walk← s good.n_low 0 w.0 v l w.1)

-- a sheet whose check answered 0 has at most twelve events
pub events_few : (s : Sheet) {f : ℕ} → f ≡ sheet_fault s → f ≡ 0 → s.e ≤ 12
events_few s p z = (check_sound s (sym p ∙ z)).ranges.e_high
