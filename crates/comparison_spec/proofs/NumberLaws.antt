-- Nothing to believe: laws. The numbers of the answer that a comparison gives: in which case each kind is given, and
-- with what parts.
use Rattle.std.specs.Prelude.{◌≡◌, ◌⊎◌, ◌≢◌, ◌↔◌, Bool, true, false, ℕ, eqb, Result, Ok}
use Rattle.std.proofs.Math.Path.{refl}
use Rattle.std.proofs.Common.{sym, ap, ◌∙◌, arith, eqb-true}
use Rattle.std.proofs.Math.Logic.{inl, inr}
use mathlib.Core.List.{List}
use Rattle.std.proofs.lemmas.Bool.{eqb-false}
use Rattle.base.proofs.Truth.{dec}
use Rattle.sheet_spec.specs.declared.Sheet.{Sheet}
use Rattle.sheet_spec.specs.Sound.{Sound}
use Rattle.sheet_spec.proofs.SoundLaws.{check_sound}
use Rattle.refinement_spec.specs.Refinement.{Strays, ViolationIn, RefinesIn}
use Rattle.comparison_spec.specs.declared.Outcome.{Outcome}
use Rattle.comparison_spec.specs.declared.Outcome.TheVariants.{Refines, Stray, Refusal}
use Rattle.comparison_spec.specs.Comparison.{pair_count, nearest, nearest_trace, cleared_of, compare_fault, outcome_of, trace_of}
use Rattle.comparison_spec.specs.Numbers.{Compared, compared}
use Rattle.comparison_spec.specs.Meaning.{SmallestStray, FirstRefused, Describes, refines, stray, refusal}
use Rattle.comparison_spec.proofs.ComparisonLaws.{cleared_before, cleared_ever, nearest_below, nearest_only, refines_nearest}
use Rattle.comparison_spec.proofs.CallLaws.{compare_0, denied_outcome}
use Rattle.comparison_spec.proofs.AnswerLaws.{outcome_describes}

module _ (trace_only : Bool) (P Q : Sheet) (work trace : List ℕ) where
  -- a call that is refused has the number of its refusal, and 0 in every other part
  pub denied_compared : compare_fault P Q work trace ≢ 0
      → compared (outcome_of trace_only P Q work trace) ≡ record { refusal = compare_fault P Q work trace; kind = 0; d = 0; cleared = 0; event = 0; probe = 0; acceptance = 0 }
  unfolding compared
  denied_compared n = rw (denied_outcome P Q work trace trace_only n)

  module _ (z : compare_fault P Q work trace ≡ 0) where
    op : Sound P
    op = check_sound P ((compare_0 P Q work trace).0 z).0.0.0.0

    oq : Sound Q
    oq = check_sound Q ((compare_0 P Q work trace).0 z).0.0.0.1

    same : P.e ≡ Q.e
    same = ((compare_0 P Q work trace).0 z).0.0.1.0

    -- the answer of a call that is not refused: it refines, or names a stray, or names a refusal
    abbrev Reason : Type 0
    Reason =
        (RefinesIn trace_only P Q × (outcome_of trace_only P Q work trace ≡ Ok (Refines (cleared_of trace_only P Q))))
        ⊎ ((¬ RefinesIn trace_only P Q)
        × (((i : ℕ) × SmallestStray P Q (nearest_trace trace_only P Q) i × (outcome_of trace_only P Q work trace ≡ Ok (Stray (nearest trace_only P Q) (cleared_of trace_only P Q) i)))
        ⊎ ((¬ Strays P Q (nearest_trace trace_only P Q))
        × ((X : ℕ) × (A : ℕ) × FirstRefused P Q (nearest_trace trace_only P Q) X A × (outcome_of trace_only P Q work trace ≡ Ok (Refusal (nearest trace_only P Q) (cleared_of trace_only P Q) X A))))))

    reason : Reason
    unfolding cleared_of
    reason = go (outcome_of trace_only P Q work trace) (trace_of trace_only P Q) (outcome_describes trace_only P Q ((compare_0 P Q work trace).0 z).0.0.0.0 ((compare_0 P Q work trace).0 z).0.0.0.1 same work trace z) refl
      where
        violated : (u : List ℕ) → ViolationIn trace_only P Q u → ¬ RefinesIn trace_only P Q
        violated u v r = omega (arith, nearest_below op oq same trace_only u v, (refines_nearest op oq same trace_only).0 r)

        go : (o : Result Outcome ℕ) (t : List ℕ) → Describes trace_only P Q o t → outcome_of trace_only P Q work trace ≡ o → Reason
        go o t (refines c r n) e =
            let q = (cleared_ever op oq same (nearest trace_only P Q) c (unfold pair_count in (refines_nearest op oq same trace_only).0 r)).1 n in
            inl (r, rw (e, q))
        go o t (stray d c i u w n s) e =
            let y = nearest_only op oq same trace_only d u w in
            let q = (cleared_before op oq same d c).1 n in
            inr (violated u w.violates, inl (i, rw y.1 at s, rw (e, ← y.0, q)))
        go o t (refusal d c X A u w n s f) e =
            let y = nearest_only op oq same trace_only d u w in
            let q = (cleared_before op oq same d c).1 n in
            inr (violated u w.violates, inr (rw y.1 at s, (X, A, rw y.1 at f, rw (e, ← y.0, q))))

    -- without a refusal, a device that refines the reference is of kind 21, with the number of cleared pairs alone
    pub refining_compared : RefinesIn trace_only P Q
        → compared (outcome_of trace_only P Q work trace) ≡ record { refusal = 0; kind = 21; d = 0; cleared = cleared_of trace_only P Q; event = 0; probe = 0; acceptance = 0 }
    unfolding compared
    refining_compared r = go reason
      where
        go : Reason → compared (outcome_of trace_only P Q work trace) ≡ record { refusal = 0; kind = 21; d = 0; cleared = cleared_of trace_only P Q; event = 0; probe = 0; acceptance = 0 }
        go (inl w) = rw w.1
        go (inr w) = absurd (w.0 r)

    -- without a refusal, where the nearest violation ends with a stray, the kind is 22, with d, cleared and the
    -- smallest stray
    pub stray_compared : (¬ RefinesIn trace_only P Q) → Strays P Q (nearest_trace trace_only P Q)
        → (i : ℕ) × SmallestStray P Q (nearest_trace trace_only P Q) i
        × (compared (outcome_of trace_only P Q work trace) ≡ record { refusal = 0; kind = 22; d = nearest trace_only P Q; cleared = cleared_of trace_only P Q; event = i; probe = 0; acceptance = 0 })
    unfolding compared
    stray_compared n s = go reason
      where
        go : Reason → (i : ℕ) × SmallestStray P Q (nearest_trace trace_only P Q) i × (compared (outcome_of trace_only P Q work trace) ≡ record { refusal = 0; kind = 22; d = nearest trace_only P Q; cleared = cleared_of trace_only P Q; event = i; probe = 0; acceptance = 0 })
        go (inl w) = absurd (n w.0)
        go (inr (_, inl (i, w, q))) = (i, w, rw q)
        go (inr (_, inr w)) = absurd (w.0 s)

    -- without a refusal, where the nearest violation ends without a stray, the kind is 23, with d, cleared, the first
    -- probe that the device misses and the lowest acceptance that misses it
    pub refusal_compared : (¬ RefinesIn trace_only P Q) → (¬ Strays P Q (nearest_trace trace_only P Q))
        → (X : ℕ) × (A : ℕ) × FirstRefused P Q (nearest_trace trace_only P Q) X A
        × (compared (outcome_of trace_only P Q work trace) ≡ record { refusal = 0; kind = 23; d = nearest trace_only P Q; cleared = cleared_of trace_only P Q; event = 0; probe = X; acceptance = A })
    unfolding compared
    refusal_compared n s = go reason
      where
        go : Reason → (X : ℕ) × (A : ℕ) × FirstRefused P Q (nearest_trace trace_only P Q) X A × (compared (outcome_of trace_only P Q work trace) ≡ record { refusal = 0; kind = 23; d = nearest trace_only P Q; cleared = cleared_of trace_only P Q; event = 0; probe = X; acceptance = A })
        go (inl w) = absurd (n w.0)
        go (inr (_, inl (i, w, q))) = absurd (s (i, w.does, w.does_not))
        go (inr (_, inr (_, (X, A, f, q)))) = (X, A, f, rw q)

  -- the call is refused; or it refines, or names a stray, or names a refusal
  abbrev Cases : Type 0
  Cases = (compare_fault P Q work trace ≢ 0) ⊎ ((z : compare_fault P Q work trace ≡ 0) × Reason z)

  cases : Cases
  cases = go (dec (eqb (compare_fault P Q work trace) 0))
    where
      go : (eqb (compare_fault P Q work trace) 0 ≡ true) ⊎ (eqb (compare_fault P Q work trace) 0 ≡ false) → Cases
      go (inl t) = let z = eqb-true (compare_fault P Q work trace) 0 t in inr (z, reason z)
      go (inr t) = inl (eqb-false (compare_fault P Q work trace) 0 t)

  -- from the kind of the answer to the reason for it: the reasons of the three other kinds do not hold
  by_kind : {A : Type 0} (m : ℕ) → (compared (outcome_of trace_only P Q work trace)).kind ≡ m
      → (m ≡ 0 → compare_fault P Q work trace ≢ 0 → A)
      → (m ≡ 21 → compare_fault P Q work trace ≡ 0 → RefinesIn trace_only P Q → A)
      → (m ≡ 22 → compare_fault P Q work trace ≡ 0 → (¬ RefinesIn trace_only P Q) → Strays P Q (nearest_trace trace_only P Q) → A)
      → (m ≡ 23 → compare_fault P Q work trace ≡ 0 → (¬ RefinesIn trace_only P Q) → (¬ Strays P Q (nearest_trace trace_only P Q)) → A)
      → A
  by_kind {A} m e f0 f21 f22 f23 = go cases
    where
      is : {n : Compared} → compared (outcome_of trace_only P Q work trace) ≡ n → m ≡ n.kind
      is q = sym e ∙ ap (λ (n : Compared). n.kind) q

      go : Cases → A
      go (inl n) = f0 (is (denied_compared n)) n
      go (inr (z, inl (r, _))) = f21 (is (refining_compared z r)) z r
      go (inr (z, inr (n, inl (i, w, _)))) = let s : Strays P Q (nearest_trace trace_only P Q) = (i, w.does, w.does_not) in f22 (is (stray_compared z n s).2) z n s
      go (inr (z, inr (n, inr (s, _)))) = f23 (is (refusal_compared z n s).3) z n s

  -- the kind is 0 exactly if the call is refused
  pub kind_0 : ((compared (outcome_of trace_only P Q work trace)).kind ≡ 0) ↔ (compare_fault P Q work trace ≢ 0)
  kind_0 = (
    λ e. by_kind 0 e (λ q n. n) (λ q. absurd (omega arith)) (λ q. absurd (omega arith)) (λ q. absurd (omega arith)),
    λ n. ap (λ (m : Compared). m.kind) (denied_compared n),
  )

  -- the kind is 21 exactly if the call is not refused and the device refines the reference
  pub kind_21 : ((compared (outcome_of trace_only P Q work trace)).kind ≡ 21) ↔ ((compare_fault P Q work trace ≡ 0) × RefinesIn trace_only P Q)
  kind_21 = (
    λ e. by_kind 21 e (λ q. absurd (omega arith)) (λ q z r. (z, r)) (λ q. absurd (omega arith)) (λ q. absurd (omega arith)),
    λ w. ap (λ (m : Compared). m.kind) (refining_compared w.0 w.1),
  )

  -- the kind is 22 exactly if the call is not refused, the device does not refine the reference, and the nearest
  -- violation ends with a stray
  pub kind_22 : ((compared (outcome_of trace_only P Q work trace)).kind ≡ 22) ↔ ((compare_fault P Q work trace ≡ 0) × (¬ RefinesIn trace_only P Q) × Strays P Q (nearest_trace trace_only P Q))
  kind_22 = (
    λ e. by_kind 22 e (λ q. absurd (omega arith)) (λ q. absurd (omega arith)) (λ q z n s. (z, n, s)) (λ q. absurd (omega arith)),
    λ (z, n, s). ap (λ (m : Compared). m.kind) (stray_compared z n s).2,
  )

  -- the kind is 23 exactly if the call is not refused, the device does not refine the reference, and the nearest
  -- violation ends without a stray
  pub kind_23 : ((compared (outcome_of trace_only P Q work trace)).kind ≡ 23) ↔ ((compare_fault P Q work trace ≡ 0) × (¬ RefinesIn trace_only P Q) × (¬ Strays P Q (nearest_trace trace_only P Q)))
  kind_23 = (
    λ e. by_kind 23 e (λ q. absurd (omega arith)) (λ q. absurd (omega arith)) (λ q. absurd (omega arith)) (λ q z n s. (z, n, s)),
    λ (z, n, s). ap (λ (m : Compared). m.kind) (refusal_compared z n s).3,
  )

  -- every call, refused or not, says its refusal
  pub compared_refusal : (compared (outcome_of trace_only P Q work trace)).refusal ≡ compare_fault P Q work trace
  compared_refusal = go cases
    where
      is : {n : Compared} → compared (outcome_of trace_only P Q work trace) ≡ n → (compared (outcome_of trace_only P Q work trace)).refusal ≡ n.refusal
      is q = ap (λ (n : Compared). n.refusal) q

      go : Cases → (compared (outcome_of trace_only P Q work trace)).refusal ≡ compare_fault P Q work trace
      go (inl n) = is (denied_compared n)
      go (inr (z, inl (r, _))) = is (refining_compared z r) ∙ sym z
      go (inr (z, inr (n, inl (i, w, _)))) = is (stray_compared z n (i, w.does, w.does_not)).2 ∙ sym z
      go (inr (z, inr (n, inr (s, _)))) = is (refusal_compared z n s).3 ∙ sym z
