-- Nothing to believe: laws. The comparison's answer is what 01 describes, and nothing else is.
use Rattle.std.specs.Prelude.{◌≡◌, ◌⊎◌, ◌↔◌, Bool, cond, List, [], ℕ, ◌≤◌, ◌<◌, ltb, length, Option, Some, None, Result, Ok}
use Rattle.std.proofs.Math.Path.{refl, sym, ap}
use Rattle.std.proofs.Common.{inl, inr, arith, lt-ltb, le-ltb}
use Rattle.std.proofs.Math.Bool.{true, false}
use Rattle.base.proofs.Truth.{dec, clash, lt_or_ge, not_i}
use Rattle.walks.specs.Pairs.{pair_cleared}
use Rattle.sheet_spec.specs.declared.Row.{Row}
use Rattle.sheet_spec.specs.declared.Sheet.{Sheet}
use Rattle.sheet_spec.specs.Kept.{row, acceptances, Initial, graph}
use Rattle.sheet_spec.proofs.RowLaws.{acceptances_length, acceptances_at}
use Rattle.sheet_spec.specs.Sound.{Sound}
use Rattle.probes_spec.specs.declared.Missed.{Missed}
use Rattle.probes_spec.specs.Probes.{probes, Narrow}
use Rattle.probes_spec.specs.FirstMissed.{first_missed, MissedFirst}
use Rattle.probes_spec.proofs.FirstMissedLaws.{missed_found, missed_none}
use Rattle.refinement_spec.specs.Refinement.{After, Trace, Does, Strays, ViolationIn}
use Rattle.refinement_spec.specs.ViolatingPairs.{has_stray, first_stray, has_refusal, violates, violating}
use Rattle.refinement_spec.proofs.PairLaws.{stray_means, first_stray_means, first_stray_unique, refusal_means, violates_means}
use Rattle.refinement_spec.proofs.RefinementLaws.{after_walk, after_unique, strays_at, violation_means, refines_self}
use Rattle.comparison_spec.specs.declared.Outcome.{Outcome}
use Rattle.comparison_spec.specs.declared.Outcome.TheVariants.{Refines, Stray, Refusal}
use Rattle.comparison_spec.specs.Comparison.{pair_count, nearest, nearest_trace, trace_of, cleared_of, last_row, refusal_named, named, comparison_of}
use Rattle.comparison_spec.specs.Meaning.{ReachedBefore, ReachedEver, Number, SmallestStray, FirstRefusedAt, Describes, refines, stray, refusal}
use Rattle.comparison_spec.proofs.RefusedLaws.{refused→, refused←}
use Rattle.comparison_spec.proofs.ComparisonLaws.{cleared_before, cleared_ever, nearest_below, nearest_is, nearest_only, trace_violates, refines_nearest}

-- a violation is a trace of both sheets
pub violation_traces : (trace_only : Bool) (P Q : Sheet) (t : List ℕ) → ViolationIn trace_only P Q t → Trace P t × Trace Q t
violation_traces true P Q t v = (v.0, v.1)
violation_traces false P Q t v = (v.0, v.1)

-- what is named, in each case
named_stray : (d c e i : ℕ) (r q : Row) → has_stray e r q ≡ true → i ≡ first_stray e r q → named d c e r q ≡ Stray d c i
unfolding named
named_stray d c e i r q h f = rw (h, f)

named_refusal : (d c e X A : ℕ) (r q : Row) → has_stray e r q ≡ false → first_missed (acceptances r) e (acceptances q) ≡ Some (record { probe = X; acceptance = A }) → named d c e r q ≡ Refusal d c X A
unfolding named refusal_named
named_refusal d c e X A r q h f = rw (h, f)

-- what is done after a trace is an initial of the node reached
does_at : {s : Sheet} → Sound s → (t : List ℕ) (v : ℕ) → After s t v → (i : ℕ) → Does s t i ↔ Initial s.e (row s v) i
does_at {s} o t v a i = (there, λ h. (v, a, h))
  where
    there : Does s t i → Initial s.e (row s v) i
    there (w, b, h) = let e = after_unique o t w v b a in rw e at h

module _ {P Q : Sheet} (op : Sound P) (oq : Sound Q) (same : P.e ≡ Q.e) where
  -- at the pair (v, w) reached by t, with no stray, a violation is a refusal and names a probe
  module _ (t : List ℕ) (v w : ℕ) (a : After P t v) (b : After Q t w) where
    narrow_at : Narrow (acceptances (row P v)) P.e
    narrow_at j k =
        let l : j < (row P v).c = omega (arith, k, acceptances_length (row P v)) in
        rw (acceptances_at (row P v) j l) (op.narrow v j a.1 l)

    named_some : has_refusal (row P v) (row Q w) ≡ true → first_missed (acceptances (row P v)) P.e (acceptances (row Q w)) ≡ None → ⊥
    named_some r n =
        let x = (refusal_means (row P v) (row Q w)).0 r in
        let c : x.0 < length (acceptances (row Q w)) = omega (arith, x.1, acceptances_length (row Q w)) in
        let y = (missed_none (acceptances (row P v)) P.e narrow_at (acceptances (row Q w))).0 n x.0 c in
        let l : y.0 < (row P v).c = omega (arith, y.1, acceptances_length (row P v)) in
        x.2 y.0 l (rw (acceptances_at (row P v) y.0 l, acceptances_at (row Q w) x.0 x.1) at y.2)

    -- at the pair reached by t, what is named of the list is what the words name
    refused_at_pair : (X A : ℕ) → MissedFirst (probes (acceptances (row P v)) P.e) (acceptances (row Q w)) X A ↔ FirstRefusedAt P.e (row P v) (row Q w) X A
    refused_at_pair X A =
        (refused→ P.e (row P v) (row Q w) (λ j k l h. oq.ascending w j k b.1 l h) X A, refused← P.e (row P v) (row Q w) (λ j k l h. oq.ascending w j k b.1 l h) X A)

    smallest_at : has_stray P.e (row P v) (row Q w) ≡ true → SmallestStray P Q t (first_stray P.e (row P v) (row Q w))
    smallest_at h =
        let f = first_stray_means P.e (row P v) (row Q w) op.ranges.e_high h in
        record {
          does = (does_at oq t w b (first_stray P.e (row P v) (row Q w))).1 (rw (← same) f.0);
          does_not = λ d. f.1 ((does_at op t v a (first_stray P.e (row P v) (row Q w))).0 d);
          smallest = λ k l d. f.2 k l (rw same ((does_at oq t w b k).0 d.0), λ i. d.1 ((does_at op t v a k).1 i));
        }

    smallest_only : (i : ℕ) → SmallestStray P Q t i → (has_stray P.e (row P v) (row Q w) ≡ true) × (i ≡ first_stray P.e (row P v) (row Q w))
    smallest_only i m =
        let d : Initial P.e (row Q w) i = rw same ((does_at oq t w b i).0 m.does) in
        let n : ¬ Initial P.e (row P v) i = λ x. m.does_not ((does_at op t v a i).1 x) in (
          (stray_means P.e (row P v) (row Q w) op.ranges.e_high).1 (i, d, n),
          first_stray_unique P.e (row P v) (row Q w) op.ranges.e_high i d n
              (λ k l x. m.smallest k l ((does_at oq t w b k).1 (rw (← same) x.0), λ y. x.1 ((does_at op t v a k).0 y))),
        )

  module _ (trace_only : Bool) where
    -- the rows at the end of the trace are those of the nodes it reaches
    last_row_lem : (s : Sheet) → Sound s → (v : ℕ) → After s (nearest_trace trace_only P Q) v → last_row trace_only P Q s ≡ row s v
    unfolding last_row
    last_row_lem s o v a = ap (row s) (after_walk o (nearest_trace trace_only P Q) v a)

    -- a violation without a stray is one by refusal, and refusals count
    refused_at : (t : List ℕ) (v w : ℕ) → After P t v → After Q t w → ViolationIn trace_only P Q t → has_stray P.e (row P v) (row Q w) ≡ false → has_refusal (row P v) (row Q w) ≡ true
    unfolding violating
    refused_at t v w a b f n =
        let l = (violation_means op oq same trace_only t).0 f in
        let e : violates trace_only P.e (row P v) (row Q w) ≡ true = rw (after_walk op t v a, after_walk oq t w b) at l.ends in
        go ((violates_means trace_only P.e (row P v) (row Q w)).0 e)
      where
        go : (has_stray P.e (row P v) (row Q w) ≡ true) ⊎ ((trace_only ≡ false) × (has_refusal (row P v) (row Q w) ≡ true)) → has_refusal (row P v) (row Q w) ≡ true
        go (inl s) = absurd (clash s n)
        go (inr s) = s.1

    -- what is named at the end of the nearest violation
    named_describes : (v w : ℕ) → After P (nearest_trace trace_only P Q) v → After Q (nearest_trace trace_only P Q) w → nearest trace_only P Q < pair_count P Q
        → Describes trace_only P Q (Ok (named (nearest trace_only P Q) (cleared_of trace_only P Q) P.e (row P v) (row Q w))) (nearest_trace trace_only P Q)
    unfolding named cleared_of
    named_describes v w a b l = go (dec (has_stray P.e (row P v) (row Q w)))
      where
        number : Number P Q (ReachedBefore P Q (nearest trace_only P Q)) (cleared_of trace_only P Q)
        number = unfold cleared_of in (cleared_before op oq same (nearest trace_only P Q) _).0 refl

        at_refusal : (m : Option Missed) → first_missed (acceptances (row P v)) P.e (acceptances (row Q w)) ≡ m → has_refusal (row P v) (row Q w) ≡ true → ¬ Strays P Q (nearest_trace trace_only P Q)
            → Describes trace_only P Q (Ok (refusal_named (nearest trace_only P Q) (cleared_of trace_only P Q) m)) (nearest_trace trace_only P Q)
        at_refusal None e r n = absurd (named_some (nearest_trace trace_only P Q) v w a b r e)
        at_refusal (Some m) e r n = unfold refusal_named in
            refusal (nearest trace_only P Q) (cleared_of trace_only P Q) m.probe m.acceptance (nearest_trace trace_only P Q) (nearest_is op oq same trace_only l) number n
            (v, w, a, b, (refused_at_pair (nearest_trace trace_only P Q) v w a b m.probe m.acceptance).0 ((missed_found (acceptances (row P v)) P.e (acceptances (row Q w)) m.probe m.acceptance).0 e))

        go : (has_stray P.e (row P v) (row Q w) ≡ true) ⊎ (has_stray P.e (row P v) (row Q w) ≡ false)
            → Describes trace_only P Q (Ok (cond (has_stray P.e (row P v) (row Q w)) (Stray (nearest trace_only P Q) (cleared_of trace_only P Q) (first_stray P.e (row P v) (row Q w)))
            (refusal_named (nearest trace_only P Q) (cleared_of trace_only P Q) (first_missed (acceptances (row P v)) P.e (acceptances (row Q w)))))) (nearest_trace trace_only P Q)
        go (inl s) = rw s (stray (nearest trace_only P Q) (cleared_of trace_only P Q) (first_stray P.e (row P v) (row Q w)) (nearest_trace trace_only P Q) (nearest_is op oq same trace_only l) number
            (smallest_at (nearest_trace trace_only P Q) v w a b s))
        go (inr s) = rw s (at_refusal (first_missed (acceptances (row P v)) P.e (acceptances (row Q w))) refl (refused_at (nearest_trace trace_only P Q) v w a b (trace_violates op oq same trace_only l) s)
            (λ x. clash ((strays_at op oq same (nearest_trace trace_only P Q) v w a b).0 x) s))

    -- the answer of the definition, with its trace, is what 01 describes
    pub comparison_describes : Describes trace_only P Q (Ok (comparison_of trace_only P Q)) (trace_of trace_only P Q)
    unfolding comparison_of trace_of
    comparison_describes = go (lt_or_ge (nearest trace_only P Q) (pair_count P Q))
      where
        go : (nearest trace_only P Q < pair_count P Q) ⊎ (pair_count P Q ≤ nearest trace_only P Q)
            → Describes trace_only P Q (Ok (cond (ltb (nearest trace_only P Q) (pair_count P Q)) (named (nearest trace_only P Q) (cleared_of trace_only P Q) P.e (last_row trace_only P Q P) (last_row trace_only P Q Q)) (Refines (cleared_of trace_only P Q))))
            (cond (ltb (nearest trace_only P Q) (pair_count P Q)) (nearest_trace trace_only P Q) [])
        go (inl l) =
            let x = violation_traces trace_only P Q (nearest_trace trace_only P Q) (trace_violates op oq same trace_only l) in
            rw (lt-ltb (nearest trace_only P Q) (pair_count P Q) l, last_row_lem P op x.0.0 x.0.1, last_row_lem Q oq x.1.0 x.1.1) (named_describes x.0.0 x.1.0 x.0.1 x.1.1 l)
        go (inr l) = rw (le-ltb (nearest trace_only P Q) (pair_count P Q) l) (refines (cleared_of trace_only P Q) ((refines_nearest op oq same trace_only).1 l) (all_reached l))
          where
            all_reached : pair_count P Q ≤ nearest trace_only P Q → Number P Q (ReachedEver P Q) (cleared_of trace_only P Q)
            all_reached l = unfold cleared_of pair_count in (cleared_ever op oq same (nearest trace_only P Q) _ (unfold pair_count in l)).0 refl

    -- an answer that is named at the end of the nearest violation is the definition's
    found : (d c : ℕ) (u : List ℕ) → nearest trace_only P Q < pair_count P Q → (d ≡ nearest trace_only P Q) × (u ≡ nearest_trace trace_only P Q) → pair_cleared (graph P) (graph Q) d ≡ c
        → (v w : ℕ) → After P u v → After Q u w → (o : Outcome) → named d c P.e (row P v) (row Q w) ≡ o → (◌≡◌ {A = Result Outcome ℕ} (Ok o) (Ok (comparison_of trace_only P Q))) × (u ≡ trace_of trace_only P Q)
    unfolding comparison_of trace_of cleared_of
    found d c u l y q v w a b o e =
        let p = last_row_lem P op v (rw y.1 at a) in
        let r = last_row_lem Q oq w (rw y.1 at b) in
        (rw (lt-ltb (nearest trace_only P Q) (pair_count P Q) l, p, r, ← y.0, q) (ap (λ (x : Outcome). Ok x) (sym e)), rw (lt-ltb (nearest trace_only P Q) (pair_count P Q) l) y.1)

    -- whatever 01 describes is the definition's answer, with its trace
    pub describes_only : (o : Result Outcome ℕ) (t : List ℕ) → Describes trace_only P Q o t → (o ≡ Ok (comparison_of trace_only P Q)) × (t ≡ trace_of trace_only P Q)
    unfolding comparison_of trace_of
    describes_only o t (refines c r n) =
        let l = (refines_nearest op oq same trace_only).0 r in
        let e : c ≡ cleared_of trace_only P Q = unfold cleared_of pair_count in sym ((cleared_ever op oq same (nearest trace_only P Q) c (unfold pair_count in l)).1 n) in
        (rw (le-ltb (nearest trace_only P Q) (pair_count P Q) l, e), rw (le-ltb (nearest trace_only P Q) (pair_count P Q) l))
    describes_only o t (stray d c i u w n m) =
        let x = violation_traces trace_only P Q u w.violates in
        let y = nearest_only op oq same trace_only d u w in
        let z = smallest_only u x.0.0 x.1.0 x.0.1 x.1.1 i m in
        let q = (cleared_before op oq same d c).1 n in
        let e : named d c P.e (row P x.0.0) (row Q x.1.0) ≡ Stray d c i = named_stray d c P.e i (row P x.0.0) (row Q x.1.0) z.0 z.1 in
        found d c u (nearest_below op oq same trace_only u w.violates) y q x.0.0 x.1.0 x.0.1 x.1.1 (Stray d c i) e
    describes_only o t (refusal d c X A u w n s f) =
        let x = violation_traces trace_only P Q u w.violates in
        let y = nearest_only op oq same trace_only d u w in
        let q = (cleared_before op oq same d c).1 n in
        let g : MissedFirst (probes (acceptances (row P x.0.0)) P.e) (acceptances (row Q x.1.0)) X A =
        (refused_at_pair u x.0.0 x.1.0 x.0.1 x.1.1 X A).1
        (rw (after_unique op u f.0 x.0.0 f.2 x.0.1, after_unique oq u f.1 x.1.0 f.3 x.1.1) at f.4) in
        let h : has_stray P.e (row P x.0.0) (row Q x.1.0) ≡ false = not_i (λ p. s ((strays_at op oq same u x.0.0 x.1.0 x.0.1 x.1.1).1 p)) in
        let e : named d c P.e (row P x.0.0) (row Q x.1.0) ≡ Refusal d c X A =
        named_refusal d c P.e X A (row P x.0.0) (row Q x.1.0) h ((missed_found (acceptances (row P x.0.0)) P.e (acceptances (row Q x.1.0)) X A).1 g) in
        found d c u (nearest_below op oq same trace_only u w.violates) y q x.0.0 x.1.0 x.0.1 x.1.1 (Refusal d c X A) e

-- a sheet compared with itself refines
pub comparison_self : {s : Sheet} → Sound s → (trace_only : Bool) → comparison_of trace_only s s ≡ Refines (cleared_of trace_only s s)
unfolding comparison_of
comparison_self {s} o trace_only = rw (le-ltb (nearest trace_only s s) (pair_count s s) ((refines_nearest o o refl trace_only).0 (refines_self trace_only s)))
