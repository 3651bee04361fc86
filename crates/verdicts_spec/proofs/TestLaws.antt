-- Nothing to believe: laws. The theorem that ties tests to violations (001; the mission's demand 2): which traces make
-- a test fail, and that the tests below p·q together decide refinement, with refusals or with traces alone.
use Rattle.std.specs.Prelude.{◌≡◌, ◌⊎◌, ◌↔◌, Bool, false, List, length, Ok}
use Rattle.std.proofs.Math.Logic.{inl, inr}
use Rattle.std.proofs.Math.Bool.{true}
use Rattle.std.proofs.Common.{true≢false, add-zero}
use Prim.Native.Nat.{ℕ, zero, suc, ◌+◌, ◌-◌, ◌*◌, ◌≤◌, ◌<◌}
use native.Mathlib.Omega.{arith}
use Rattle.base.proofs.Truth.{clash, lt_or_ge, not_i}
use Rattle.walks.specs.Graph.{walk}
use Rattle.walks.specs.Pairs.{PairLeads, pair_distance, pair_trace}
use Rattle.walks.proofs.Pairs.{pair_distance≤, pair_trace_length, pair_trace_leads}
use Rattle.sheet_spec.specs.declared.Sheet.{Sheet}
use Rattle.sheet_spec.specs.Kept.{row, may_stop, graph}
use Rattle.sheet_spec.specs.Refusals.{sheet_fault, Agree}
use Rattle.sheet_spec.proofs.RowLaws.{may_stop_means}
use Rattle.sheet_spec.specs.Sound.{Sound}
use Rattle.sheet_spec.proofs.SoundLaws.{nodes_most, check_sound}
use Rattle.refinement_spec.specs.Refinement.{After, Trace, TraceRefines, RefinesIn}
use Rattle.refinement_spec.specs.ViolatingPairs.{has_stray, has_refusal, violating}
use Rattle.refinement_spec.proofs.PairLaws.{violates_means}
use Rattle.refinement_spec.proofs.RefinementLaws.{walk_after, trace_means, after_unique, strays_at, overrefuses_at, violation_means, refines_means, refines_distance}
use Rattle.verdicts_spec.specs.declared.Verdict.TheVariants.{Passes}
use Rattle.verdicts_spec.specs.Verdicts.{FailsTest, fails_from, verdict_of}
use Rattle.verdicts_spec.proofs.Blocks.{stop_refusal}
use Rattle.verdicts_spec.proofs.FaultyPairs.{StopsAt, faulty, faulty_means, FaultyEnd, fails_end, end_fails}
use Rattle.verdicts_spec.specs.Failures.{Stops, Shows}
use Rattle.verdicts_spec.proofs.VerdictLaws.{fails_means, verdict_passes}

-- after a trace a sheet may stop exactly if the node reached may
stops_at : {s : Sheet} → Sound s → (t : List ℕ) (v : ℕ) → After s t v → Stops s t ↔ (may_stop (row s v) ≡ true)
stops_at {s} o t v a = (forth, λ m. (v, a, (may_stop_means (row s v) (o.counts v a.1).1).0 m))
  where
    forth : Stops s t → may_stop (row s v) ≡ true
    forth (w, b, z) = rw (after_unique o t v w a b) ((may_stop_means (row s w) (o.counts w b.1).1).1 z)

module _ (P Q : Sheet) (acc_p : sheet_fault P ≡ 0) (acc_q : sheet_fault Q ≡ 0) (same : P.e ≡ Q.e) where
  op : Sound P
  op = check_sound P acc_p

  oq : Sound Q
  oq = check_sound Q acc_q

  module _ (trace_only : Bool) where
    -- a stray or a stop is faulty with any number of events to go
    faulty_from : (left n m : ℕ) → n < P.n → m < Q.n → (has_stray P.e (row P n) (row Q m) ≡ true) ⊎ StopsAt trace_only P Q n m → faulty trace_only P Q left n m ≡ true
    faulty_from (suc left) n m a b w = (faulty_means trace_only P Q left n m).1 w
    faulty_from zero n m a b w = unfold faulty violating in (violates_means trace_only P.e (row P n) (row Q m)).1 (pick w)
      where
        pick : (has_stray P.e (row P n) (row Q m) ≡ true) ⊎ StopsAt trace_only P Q n m
            → (has_stray P.e (row P n) (row Q m) ≡ true) ⊎ ((trace_only ≡ false) × (has_refusal (row P n) (row Q m) ≡ true))
        pick (inl s) = inl s
        pick (inr (t, s, r)) = inr (t, stop_refusal (row P n) (row Q m) (op.counts n a).1 (oq.counts m b).1 s r)

    -- a pair that is faulty is violating
    faulty_violating : (left n m : ℕ) → n < P.n → m < Q.n → faulty trace_only P Q left n m ≡ true → violating trace_only P Q n m ≡ true
    faulty_violating zero n m a b f = unfold faulty in f
    faulty_violating (suc left) n m a b f = unfold faulty in faulty_from zero n m a b ((faulty_means trace_only P Q left n m).0 f)

    -- test k fails exactly if some common trace of at most k events shows it
    pub fails_traces : (k : ℕ) → (fails_from trace_only P Q k 0 0 ≡ true) ↔ ((t : List ℕ) × Trace P t × Trace Q t × (length t ≤ k) × Shows trace_only P Q k t)
    fails_traces k = (λ f. forth (fails_end trace_only P Q k 0 0 op.ranges.n_low oq.ranges.n_low f), back)
      where
        forth : FaultyEnd trace_only P Q k 0 0 → (t : List ℕ) × Trace P t × Trace Q t × (length t ≤ k) × Shows trace_only P Q k t
        forth (t, left, e, a, b, f) = (t, (trace_means op t).1 a, (trace_means oq t).1 b, omega arith, shows left e f)
          where
            v : ℕ
            v = walk (graph P) 0 t

            w : ℕ
            w = walk (graph Q) 0 t

            x : After P t v
            x = walk_after op t a

            y : After Q t w
            y = walk_after oq t b

            shows : (left : ℕ) → length t + left ≡ k → faulty trace_only P Q left v w ≡ true → Shows trace_only P Q k t
            shows zero e f = pick ((violates_means trace_only P.e (row P v) (row Q w)).0 (unfold faulty violating in f))
              where
                pick : (has_stray P.e (row P v) (row Q w) ≡ true) ⊎ ((trace_only ≡ false) × (has_refusal (row P v) (row Q w) ≡ true)) → Shows trace_only P Q k t
                pick (inl s) = inl ((strays_at op oq same t v w x y).1 s)
                pick (inr (u, s)) = inr (u, inr (omega arith, (overrefuses_at op oq same t v w x y).1 s))
            shows (suc left) e f = pick ((faulty_means trace_only P Q left v w).0 f)
              where
                pick : (has_stray P.e (row P v) (row Q w) ≡ true) ⊎ StopsAt trace_only P Q v w → Shows trace_only P Q k t
                pick (inl s) = inl ((strays_at op oq same t v w x y).1 s)
                pick (inr (u, s, r)) = inr (u, inl ((stops_at oq t w y).1 s, λ (z : Stops P t). clash ((stops_at op t v x).0 z) r))

        back : (t : List ℕ) × Trace P t × Trace Q t × (length t ≤ k) × Shows trace_only P Q k t → fails_from trace_only P Q k 0 0 ≡ true
        back (t, c, d, l, s) = let q : length t + (k - length t) ≡ k = omega arith in rw q at (end_fails trace_only P Q op oq t (k - length t) 0 0 a b (bad s))
          where
            a : walk (graph P) 0 t < P.n
            a = (trace_means op t).0 c

            b : walk (graph Q) 0 t < Q.n
            b = (trace_means oq t).0 d

            v : ℕ
            v = walk (graph P) 0 t

            w : ℕ
            w = walk (graph Q) 0 t

            x : After P t v
            x = walk_after op t a

            y : After Q t w
            y = walk_after oq t b

            bad : Shows trace_only P Q k t → faulty trace_only P Q (k - length t) v w ≡ true
            bad (inl s) = faulty_from (k - length t) v w a b (inl ((strays_at op oq same t v w x y).0 s))
            bad (inr (u, inl (s, n))) =
                faulty_from (k - length t) v w a b (inr (u, (stops_at oq t w y).0 s, not_i (λ z. n ((stops_at op t v x).1 z))))
            bad (inr (u, inr (e, r))) =
                let z : k - length t ≡ 0 = omega arith in
                rw z (unfold faulty violating in (violates_means trace_only P.e (row P v) (row Q w)).1 (inr (u, (overrefuses_at op oq same t v w x y).0 r)))

    -- a failing test has a violating pair no further away than its number
    fails_leads : (k : ℕ) → fails_from trace_only P Q k 0 0 ≡ true → (t : List ℕ) × (length t ≤ k) × PairLeads (graph P) (graph Q) (violating trace_only P Q) 0 0 t
    fails_leads k f = go (fails_end trace_only P Q k 0 0 op.ranges.n_low oq.ranges.n_low f)
      where
        go : FaultyEnd trace_only P Q k 0 0 → (t : List ℕ) × (length t ≤ k) × PairLeads (graph P) (graph Q) (violating trace_only P Q) 0 0 t
        go (t, left, e, a, b, f) = (t, omega arith, record { in_r = a; in_d = b; ends = faulty_violating left (walk (graph P) 0 t) (walk (graph Q) 0 t) a b f })

    -- the test whose number is a violating pair's distance fails
    leads_fails : (t : List ℕ) → PairLeads (graph P) (graph Q) (violating trace_only P Q) 0 0 t → fails_from trace_only P Q (length t) 0 0 ≡ true
    leads_fails t l = rw (add-zero (length t)) at (end_fails trace_only P Q op oq t 0 0 0 l.in_r l.in_d (unfold faulty in l.ends))

    -- where the device refines the reference, every test passes
    pub refining_false : RefinesIn trace_only P Q → (k : ℕ) → fails_from trace_only P Q k 0 0 ≡ false
    refining_false r k = not_i (λ f. let w = fails_leads k f in (refines_means op oq same trace_only).0 r w.0 ((violation_means op oq same trace_only w.0).1 w.2))

    -- test d, where d is the distance of the nearest violating pair, fails
    distance_fails : pair_distance (graph P) (graph Q) (violating trace_only P Q) < P.n * Q.n
        → fails_from trace_only P Q (pair_distance (graph P) (graph Q) (violating trace_only P Q)) 0 0 ≡ true
    distance_fails l =
        rw (pair_trace_length (graph P) (graph Q) (violating trace_only P Q)) at
        (leads_fails (pair_trace (graph P) (graph Q) (violating trace_only P Q)) (pair_trace_leads op.graphed oq.graphed (violating trace_only P Q) l))

    -- every test below the distance of the nearest violating pair passes
    pub nearer_passes : (k : ℕ) → k < pair_distance (graph P) (graph Q) (violating trace_only P Q) → fails_from trace_only P Q k 0 0 ≡ false
    nearer_passes k l = not_i (λ f. let w = fails_leads k f in omega (arith, w.1, pair_distance≤ op.graphed oq.graphed (violating trace_only P Q) w.0 w.2))

    -- all tests below p·q pass exactly if the device refines the reference
    pub tests_complete : ((k : ℕ) → k < P.n * Q.n → fails_from trace_only P Q k 0 0 ≡ false) ↔ RefinesIn trace_only P Q
    tests_complete = (λ f. (refines_distance op oq same trace_only).1 (go f (lt_or_ge d (P.n * Q.n))), λ r k l. refining_false r k)
      where
        d : ℕ
        d = pair_distance (graph P) (graph Q) (violating trace_only P Q)

        go : ((k : ℕ) → k < P.n * Q.n → fails_from trace_only P Q k 0 0 ≡ false) → (d < P.n * Q.n) ⊎ (P.n * Q.n ≤ d) → P.n * Q.n ≤ d
        go f (inl l) = absurd (clash (distance_fails l) (f d l))
        go f (inr l) = l

    -- where the device does not refine the reference, the first test that fails is that of the nearest violating pair's
    -- distance, which is below p·q
    pub first_failing : ¬ RefinesIn trace_only P Q
        → (pair_distance (graph P) (graph Q) (violating trace_only P Q) < P.n * Q.n)
        × (fails_from trace_only P Q (pair_distance (graph P) (graph Q) (violating trace_only P Q)) 0 0 ≡ true)
        × ((k : ℕ) → k < pair_distance (graph P) (graph Q) (violating trace_only P Q) → fails_from trace_only P Q k 0 0 ≡ false)
    first_failing n = go (lt_or_ge (pair_distance (graph P) (graph Q) (violating trace_only P Q)) (P.n * Q.n))
      where
        d : ℕ
        d = pair_distance (graph P) (graph Q) (violating trace_only P Q)

        go : (d < P.n * Q.n) ⊎ (P.n * Q.n ≤ d) → (d < P.n * Q.n) × (fails_from trace_only P Q d 0 0 ≡ true) × ((k : ℕ) → k < d → fails_from trace_only P Q k 0 0 ≡ false)
        go (inl l) = (l, distance_fails l, nearer_passes)
        go (inr l) = absurd (n ((refines_distance op oq same trace_only).1 l))

    -- where the device refines the reference, no run of any test, k up to 1,023, ends failed; with traces alone its runs
    -- may be inconclusive (02, K4)
    pub refining_unfailed : RefinesIn trace_only P Q → (k : ℕ) → k ≤ 1023 → ¬ FailsTest trace_only P Q k
    refining_unfailed r k l f = clash ((fails_means P Q acc_p acc_q same trace_only k l).1 f) (refining_false r k)

    -- no run of a test below p·q can end failed exactly if the device refines the reference
    pub runs_complete : ((k : ℕ) → k < P.n * Q.n → ¬ FailsTest trace_only P Q k) ↔ RefinesIn trace_only P Q
    runs_complete = (
      λ f. tests_complete.0 (λ k l. not_i (λ t. f k l ((fails_means P Q acc_p acc_q same trace_only k (few k l)).0 t))),
      λ r k l. refining_unfailed r k (few k l),
    )
      where
        few : (k : ℕ) → k < P.n * Q.n → k ≤ 1023
        few k l = omega (arith, nodes_most op oq)

  -- of the trace-only tests, test p·q - 1 decides alone
  pub single_test : (fails_from true P Q (P.n * Q.n - 1) 0 0 ≡ false) ↔ TraceRefines P Q
  single_test = (λ f. (refines_distance op oq same true).1 (go f (lt_or_ge d (P.n * Q.n))), λ r. refining_false true r (P.n * Q.n - 1))
    where
      d : ℕ
      d = pair_distance (graph P) (graph Q) (violating true P Q)

      stray : (n m : ℕ) → violating true P Q n m ≡ true → has_stray P.e (row P n) (row Q m) ≡ true
      stray n m v = pick ((violates_means true P.e (row P n) (row Q m)).0 (unfold violating in v))
        where
          pick : (has_stray P.e (row P n) (row Q m) ≡ true) ⊎ ((true ≡ false) × (has_refusal (row P n) (row Q m) ≡ true))
              → has_stray P.e (row P n) (row Q m) ≡ true
          pick (inl s) = s
          pick (inr s) = absurd (true≢false s.0)

      go : fails_from true P Q (P.n * Q.n - 1) 0 0 ≡ false → (d < P.n * Q.n) ⊎ (P.n * Q.n ≤ d) → P.n * Q.n ≤ d
      go f (inr l) = l
      go f (inl l) = absurd (clash (rw q at failing) f)
        where
          t : List ℕ
          t = pair_trace (graph P) (graph Q) (violating true P Q)

          x : PairLeads (graph P) (graph Q) (violating true P Q) 0 0 t
          x = pair_trace_leads op.graphed oq.graphed (violating true P Q) l

          q : length t + (P.n * Q.n - 1 - length t) ≡ P.n * Q.n - 1
          q = omega (arith, pair_trace_length (graph P) (graph Q) (violating true P Q))

          failing : fails_from true P Q (length t + (P.n * Q.n - 1 - length t)) 0 0 ≡ true
          failing = end_fails true P Q op oq t (P.n * Q.n - 1 - length t) 0 0 x.in_r x.in_d
              (faulty_from true (P.n * Q.n - 1 - length t) (walk (graph P) 0 t) (walk (graph Q) 0 t) x.in_r x.in_d (inl (stray _ _ x.ends)))

-- every verdict of a test below p·q is "passes" exactly if the device refines the reference, of sheets that agree
pub verdicts_complete : (P Q : Sheet) → sheet_fault P ≡ 0 → sheet_fault Q ≡ 0 → Agree P Q → (trace_only : Bool)
    → ((k : ℕ) → k < P.n * Q.n → verdict_of trace_only P Q k ≡ Ok Passes) ↔ RefinesIn trace_only P Q
verdicts_complete P Q acc_p acc_q agree trace_only = (λ f. complete.0 (λ k l. (means k l).0 (f k l)), λ r k l. (means k l).1 (complete.1 r k l))
  where
    complete : ((k : ℕ) → k < P.n * Q.n → ¬ FailsTest trace_only P Q k) ↔ RefinesIn trace_only P Q
    complete = runs_complete P Q acc_p acc_q agree.0 trace_only

    means : (k : ℕ) → k < P.n * Q.n → (verdict_of trace_only P Q k ≡ Ok Passes) ↔ (¬ FailsTest trace_only P Q k)
    means k l = verdict_passes P Q acc_p acc_q agree trace_only k (omega (arith, nodes_most (check_sound P acc_p) (check_sound Q acc_q)))
