-- Nothing to believe: laws. The theorem: the claim holds of every two accepted sheets that agree in codes.
use Rattle.std.specs.Prelude.{◌≡◌, refl, ◌⊎◌, ◌≢◌, ◌↔◌, Bool, true, false, List, ℕ, ◌-◌, ◌*◌, ◌≤◌, ◌<◌, length, take, Result, Ok, Err}
use Rattle.std.proofs.Common.{sym, ◌∙◌, inl, inr, true≢false}
use Rattle.std.proofs.Math.Path.{ap}
use native.Mathlib.Omega.{arith}
use Rattle.base.proofs.Truth.{lt_or_ge, not_i, clash, dec}
use Rattle.base.proofs.Front.{at_front_taken}
use Rattle.events.specs.Bit.{bit, Apart}
use Rattle.sheet_spec.specs.declared.Sheet.{Sheet}
use Rattle.sheet_spec.specs.Kept.{row, acceptance, acceptances}
use Rattle.sheet_spec.specs.Refusals.{sheet_fault, Agree}
use Rattle.sheet_spec.proofs.RowLaws.{acceptances_length, acceptances_at}
use Rattle.sheet_spec.proofs.Accepted.{read_accepted}
use Rattle.sheet_spec.proofs.EncodingLaws.{reads→}
use Rattle.sheet_spec.specs.Sound.{Sound}
use Rattle.sheet_spec.proofs.SoundLaws.{nodes_most, check_sound}
use Rattle.probes_spec.specs.Probes.{Probe}
use Rattle.probes_spec.proofs.ProbeLaws.{probe_at}
use Rattle.refinement_spec.specs.Refinement.{Refuses, Strays, ViolationIn, RefinesIn}
use Rattle.refinement_spec.proofs.RefinementLaws.{after_unique, violation_near, refines_means}
use Rattle.verdicts_spec.specs.declared.Verdict.TheVariants.{Passes, Fails}
use Rattle.verdicts_spec.specs.Verdicts.{fails_from, verdict_of}
use Rattle.verdicts_spec.specs.Suites.{test_count, suite_of, verdicts_after}
use Rattle.verdicts_spec.proofs.SuiteLaws.{suite_fits, given_suite}
use Rattle.verdicts_spec.proofs.Complete.{place_passes, place_means, suite_complete}
use Rattle.verdicts_spec.proofs.VerdictLaws.{fails_means, verdict_means, verdict_passes}
use Rattle.verdicts_spec.proofs.TestLaws.{verdicts_complete, first_failing, single_test}
use Rattle.comparison_spec.specs.declared.Outcome.{Outcome}
use Rattle.comparison_spec.specs.declared.Outcome.TheVariants.{Refines, Stray, Refusal}
use Rattle.comparison_spec.specs.Comparison.{pair_count, nearest, nearest_trace, comparison_of, compare_fault, outcome_of, trace_after, trace_of}
use Rattle.comparison_spec.specs.Meaning.{ReachedBefore, ReachedEver, Number, Nearest, FirstRefused, Describes, refines, stray, refusal}
use Rattle.comparison_spec.proofs.ComparisonLaws.{trace_length, nearest_below, nearest_only, refines_nearest}
use Rattle.comparison_spec.proofs.AnswerLaws.{outcome_describes}
use Rattle.comparison_spec.proofs.CallLaws.{compare_0, compare_fits, given_outcome, given_trace}
use Rattle.claim.specs.Claim.{Accepted, LongEnough, Witness, by_stray, by_refusal, Reports, stray_reports, refusal_reports, Violated, AllJudged, Demand3}

-- accepted as bytes or as kept, a sheet is not refused by a later call
pub accepted_unrefused : (s : Sheet) → Accepted s → sheet_fault s ≡ 0
accepted_unrefused s (inl h) = h
accepted_unrefused s (inr (b, e)) = let r = reads→ b s e in rw r.1 at (read_accepted b r.0)

module _ (P Q : Sheet) (acc_p : sheet_fault P ≡ 0) (acc_q : sheet_fault Q ≡ 0) (agree : Agree P Q) (trace_only : Bool) where
  same : P.e ≡ Q.e
  same = agree.0

  op : Sound P
  op = check_sound P acc_p

  oq : Sound Q
  oq = check_sound Q acc_q

  -- every test below p q has a number that a test may have
  few : P.n * Q.n ≤ 1024
  few = nodes_most op oq

  -- a verdict that is given is one of the two words
  judges : (k : ℕ) → k ≤ 1023 → (verdict_of trace_only P Q k ≡ Ok Passes) ⊎ (verdict_of trace_only P Q k ≡ Ok Fails)
  judges k small = go (dec (fails_from trace_only P Q k 0 0))
    where
      go : (fails_from trace_only P Q k 0 0 ≡ true) ⊎ (fails_from trace_only P Q k 0 0 ≡ false) → (verdict_of trace_only P Q k ≡ Ok Passes) ⊎ (verdict_of trace_only P Q k ≡ Ok Fails)
      go (inl f) = inr ((verdict_means P Q acc_p acc_q agree trace_only k small).1 ((fails_means P Q acc_p acc_q same trace_only k small).0 f))
      go (inr f) = inl ((verdict_passes P Q acc_p acc_q agree trace_only k small).1 (λ x. clash ((fails_means P Q acc_p acc_q same trace_only k small).1 x) f))

  -- with a list that is long enough all tests are judged, and each place says what its verdict says
  suite : (out : List ℕ) → P.n * Q.n ≤ length out → (suite_of P Q out ≡ Ok (P.n * Q.n)) × AllJudged trace_only P Q (verdicts_after trace_only P Q out)
  unfolding test_count
  suite out l = (
    given_suite P Q out (suite_fits P Q out acc_p acc_q agree l),
    record {
      passed = place_passes P Q acc_p acc_q agree out l trace_only;
      failed = place_means P Q acc_p acc_q agree out l trace_only;
      complete = suite_complete P Q acc_p acc_q agree out l trace_only;
    },
  )

  -- with lists that are long enough the comparison answers
  fits : (work trace : List ℕ) → LongEnough P Q work trace → compare_fault P Q work trace ≡ 0
  unfolding pair_count
  fits work trace l = compare_fits P Q work trace acc_p acc_q agree l.0 l.1

  -- two lists are long enough exactly if neither 12 nor 13 applies
  pub long_enough : (work trace : List ℕ) → LongEnough P Q work trace ↔ (compare_fault P Q work trace ≡ 0)
  unfolding pair_count
  long_enough work trace = (fits work trace, λ z. let o = (compare_0 P Q work trace).0 z in (omega (arith, o.0.1), omega (arith, o.1)))

  given : (work trace : List ℕ) → LongEnough P Q work trace → outcome_of trace_only P Q work trace ≡ Ok (comparison_of trace_only P Q)
  given work trace l = given_outcome P Q work trace trace_only (fits work trace l)

  -- an answer that is described is not a refusal, and "refines" only if the device does
  described_given : (o : Result Outcome ℕ) (t : List ℕ) (m : ℕ) → Describes trace_only P Q o t → o ≢ Err m
  described_given o t m (refines c r n) e = cc
  described_given o t m (stray d c i u w n s) e = cc
  described_given o t m (refusal d c X A u w n s f) e = cc

  described_refines : (o : Result Outcome ℕ) (t : List ℕ) (c : ℕ) → Describes trace_only P Q o t → o ≡ Ok (Refines c) → RefinesIn trace_only P Q × Number P Q (ReachedEver P Q) c
  described_refines o t c (refines b r n) e = let z : b ≡ c = cc in (r, rw z at n)
  described_refines o t c (stray d b i u w n s) e = absurd (cc)
  described_refines o t c (refusal d b X A u w n s f) e = absurd (cc)

  -- a probe that an acceptance misses is a set that the reference does not refuse
  refused_witness : (d c X A : ℕ) (t : List ℕ) → FirstRefused P Q t X A → Witness P Q t (Ok (Refusal d c X A))
  refused_witness d c X A t (v, w, a, b, f) =
      by_refusal d c X A (w, b, (f.misses.0, f.misses.1, f.misses.2)) (λ i. omega (arith, f.misses.3 i)) not_refused
    where
      not_refused : ¬ Refuses P t X
      not_refused (u, b', (j, l, p)) = hit u (after_unique op t u v b' a) j l p
        where
          hit : (u : ℕ) → u ≡ v → (j : ℕ) → j < (row P u).c → Apart (acceptance (row P u) j) X → ⊥
          hit u e j l p =
              let l' : j < (row P v).c = rw e at l in
              let p' : Apart (acceptance (row P v) j) X = rw e at p in
              let h : Probe (acceptances (row P v)) X = rw f.probe at (probe_at (acceptances (row P v)) P.e f.place f.listed) in
              let x = h.hits j (omega (arith, l', acceptances_length (row P v))) in
              omega (arith, x.2, p' x.0, ap (λ (y : ℕ). bit y x.0) (acceptances_at (row P v) j l'), x.1)

  -- the first failing test is that of the nearest violation's length
  first : ¬ RefinesIn trace_only P Q → (verdict_of trace_only P Q (nearest trace_only P Q) ≡ Ok Fails) × ((k : ℕ) → k < nearest trace_only P Q → verdict_of trace_only P Q k ≡ Ok Passes)
  unfolding nearest
  first n =
      let f = first_failing P Q acc_p acc_q same trace_only n in (
        (verdict_means P Q acc_p acc_q agree trace_only (nearest trace_only P Q) (omega (arith, few, f.0))).1 ((fails_means P Q acc_p acc_q same trace_only (nearest trace_only P Q) (omega (arith, few, f.0))).0 f.1),
        λ k l. (verdict_passes P Q acc_p acc_q agree trace_only k (omega (arith, few, f.0))).1 (λ x. clash ((fails_means P Q acc_p acc_q same trace_only k (omega (arith, few, f.0))).1 x) (f.2 k l)),
      )

  -- with traces alone a violation is a stray
  strays_only : (t : List ℕ) → ViolationIn trace_only P Q t → trace_only ≡ true → Strays P Q t
  strays_only t v e = go trace_only e v
    where
      go : (b : Bool) → b ≡ true → ViolationIn b P Q t → Strays P Q t
      go true e v = v.2
      go false e v = absurd (true≢false (sym e))

  -- what holds of a nearest violation with its witness
  module _ (n : ¬ RefinesIn trace_only P Q) (after : List ℕ) (q : take (nearest trace_only P Q) after ≡ nearest_trace trace_only P Q) where
    nearest_violated : (o : Result Outcome ℕ) (d c : ℕ) (u : List ℕ) → Reports o d c → Nearest trace_only P Q d u → Number P Q (ReachedBefore P Q d) c → Witness P Q u o
        → (trace_only ≡ true → (i : ℕ) × (o ≡ Ok (Stray d c i))) → Describes trace_only P Q o u → Violated trace_only P Q o after
    nearest_violated o d c u p w k x s z =
        let y = nearest_only op oq same trace_only d u w in
        let f = first n in
        let e : take d after ≡ u = rw y.0 (q ∙ sym y.1) in
        let v = w.violates in
        record {
          d = d;
          cleared = c;
          reports = p;
          below = unfold pair_count in rw y.0 (nearest_below op oq same trace_only u v);
          fails = rw y.0 f.0;
          earlier = λ j l. f.1 j (omega (arith, y.0));
          violates = rw e v;
          exactly = rw e w.long;
          shortest = w.shortest;
          least = λ t s l. rw e (w.least t s l);
          witness = rw e x;
          strays = s;
          counted = k;
          describes = rw e z;
        }

    described_violated : (o : Result Outcome ℕ) (t : List ℕ) → Describes trace_only P Q o t → Violated trace_only P Q o after
    described_violated o t (refines c r k) = absurd (n r)
    described_violated o t (stray d c i u w k m) =
        nearest_violated (Ok (Stray d c i)) d c u (stray_reports d c i) w k (by_stray d c i m.does m.does_not) (λ e. (i, refl)) (stray d c i u w k m)
    described_violated o t (refusal d c X A u w k s f) =
        nearest_violated (Ok (Refusal d c X A)) d c u (refusal_reports d c X A) w k (refused_witness d c X A u f) (λ e. absurd (s (strays_only u w.violates e))) (refusal d c X A u w k s f)

  -- the front of the trace list at exit is the trace
  trace_front : (work trace : List ℕ) → LongEnough P Q work trace → ¬ RefinesIn trace_only P Q → take (nearest trace_only P Q) (trace_after trace_only P Q work trace) ≡ nearest_trace trace_only P Q
  trace_front work trace l n = go (lt_or_ge (nearest trace_only P Q) (pair_count P Q))
    where
      go : (nearest trace_only P Q < pair_count P Q) ⊎ (pair_count P Q ≤ nearest trace_only P Q) → take (nearest trace_only P Q) (trace_after trace_only P Q work trace) ≡ nearest_trace trace_only P Q
      go (inl k) = rw (given_trace P Q work trace trace_only (fits work trace l) k) (at_front_taken trace (nearest_trace trace_only P Q) (trace_length op oq same trace_only))
      go (inr k) = absurd (n ((refines_nearest op oq same trace_only).1 k))

  described : (work trace : List ℕ) → LongEnough P Q work trace → Describes trace_only P Q (outcome_of trace_only P Q work trace) (trace_of trace_only P Q)
  described work trace l = outcome_describes trace_only P Q acc_p acc_q same work trace (fits work trace l)

  -- "refines" is said exactly if the device refines the reference
  says_refines : (work trace : List ℕ) → LongEnough P Q work trace → ((c : ℕ) × (outcome_of trace_only P Q work trace ≡ Ok (Refines c))) ↔ RefinesIn trace_only P Q
  says_refines work trace l = ((λ x. (described_refines (outcome_of trace_only P Q work trace) (trace_of trace_only P Q) x.0 (described work trace l) x.1).0), λ r. back r (outcome_of trace_only P Q work trace) (trace_of trace_only P Q) (described work trace l) refl)
    where
      back : RefinesIn trace_only P Q → (o : Result Outcome ℕ) (t : List ℕ) → Describes trace_only P Q o t → outcome_of trace_only P Q work trace ≡ o → (c : ℕ) × (outcome_of trace_only P Q work trace ≡ Ok (Refines c))
      back r o t (refines c s k) e = (c, e)
      back r o t (stray d c i u w k m) e = absurd ((refines_means op oq same trace_only).0 r u w.violates)
      back r o t (refusal d c X A u w k s f) e = absurd ((refines_means op oq same trace_only).0 r u w.violates)

  -- with traces alone the single test p q - 1 decides
  single : trace_only ≡ true → (verdict_of trace_only P Q (P.n * Q.n - 1) ≡ Ok Passes) ↔ RefinesIn trace_only P Q
  single e = go trace_only e
    where
      small : P.n * Q.n - 1 ≤ 1023
      small = omega (arith, few)

      go : (b : Bool) → b ≡ true → (verdict_of b P Q (P.n * Q.n - 1) ≡ Ok Passes) ↔ RefinesIn b P Q
      go true e = (
        (λ p. (single_test P Q acc_p acc_q same).0 (not_i (λ f. (verdict_passes P Q acc_p acc_q agree true (P.n * Q.n - 1) small).0 p ((fails_means P Q acc_p acc_q same true (P.n * Q.n - 1) small).0 f)))),
        λ r. (verdict_passes P Q acc_p acc_q agree true (P.n * Q.n - 1) small).1 (λ x. clash ((fails_means P Q acc_p acc_q same true (P.n * Q.n - 1) small).1 x) ((single_test P Q acc_p acc_q same).1 r)),
      )
      go false e = absurd (true≢false (sym e))

-- demand 3, whole, and demand 2 beside it
pub claim : Demand3
claim trace_only P Q a b agree =
    let p = accepted_unrefused P a in
    let q = accepted_unrefused Q b in
    record {
      near = violation_near (check_sound P p) (check_sound Q q) agree.0 trace_only;
      judges = judges P Q p q agree trace_only;
      few = few P Q p q agree trace_only;
      complete = verdicts_complete P Q p q agree trace_only;
      suite = suite P Q p q agree trace_only;
      answers = λ work trace l m. described_given P Q p q agree trace_only (outcome_of trace_only P Q work trace) (trace_of trace_only P Q) m (described P Q p q agree trace_only work trace l);
      refined = says_refines P Q p q agree trace_only;
      violated = λ work trace l n. described_violated P Q p q agree trace_only n (trace_after trace_only P Q work trace) (trace_front P Q p q agree trace_only work trace l n) (outcome_of trace_only P Q work trace) (trace_of trace_only P Q) (described P Q p q agree trace_only work trace l);
      fails = λ k l. verdict_means P Q p q agree trace_only k l;
      counted = λ work trace l c e. (described_refines P Q p q agree trace_only (outcome_of trace_only P Q work trace) (trace_of trace_only P Q) c (described P Q p q agree trace_only work trace l) e).1;
      single = single P Q p q agree trace_only;
    }
