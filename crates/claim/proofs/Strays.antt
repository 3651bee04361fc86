-- Nothing to believe: laws. How the counts of scripts (02, K2) and a comparison belong together: where the comparison
-- answers a stray after d events, the first length with a script that the reference stops is d + 1; where a trace-only
-- one answers "refines", there is no such script of any length.
use Rattle.std.specs.Prelude.{◌≡◌, refl, ◌⊎◌, ◌↔◌, Bool, true, false, List, ℕ, ◌+◌, ◌≤◌, ◌<◌, length, take, Result, Ok}
use Rattle.std.proofs.Common.{sym, ◌∙◌, subst, inl, inr, arith}
use Rattle.base.proofs.Truth.{lt_or_ge}
use Rattle.sheet_spec.specs.declared.Sheet.{Sheet}
use Rattle.sheet_spec.specs.Sound.{Sound}
use Rattle.sheet_spec.proofs.SoundLaws.{check_sound}
use Rattle.refinement_spec.specs.Refinement.{RefinesIn, TraceViolation, ViolationIn}
use Rattle.refinement_spec.proofs.RefinementLaws.{refines_means, refines_or_violation}
use Rattle.comparison_spec.specs.declared.Outcome.{Outcome}
use Rattle.comparison_spec.specs.declared.Outcome.TheVariants.{Refines, Stray}
use Rattle.comparison_spec.specs.Comparison.{outcome_of, trace_after}
use Rattle.scripts_spec.specs.Scripts.{ReferenceStops, count_of, scripts_fault, scripts_of}
use Rattle.scripts_spec.proofs.CountLaws.{stray_counted}
use Rattle.scripts_spec.proofs.CallLaws.{scripts_0, given_told}
use Rattle.claim.specs.Claim.{LongEnough, Witness, by_stray, Reports, stray_reports, Violated, Claim}
use Rattle.claim.proofs.Theorem.{claim}

-- a violation with traces alone is one in either reading
stray_violates : (trace_only : Bool) (P Q : Sheet) (t : List ℕ) → TraceViolation P Q t → ViolationIn trace_only P Q t
stray_violates true P Q t x = x
stray_violates false P Q t (x, y, s) = (x, y, inl s)

-- a violation of which a stray is named is one with traces alone
named_violates : (trace_only : Bool) (P Q : Sheet) (t : List ℕ) {d c i : ℕ} → ViolationIn trace_only P Q t → Witness P Q t (Ok (Stray d c i)) → TraceViolation P Q t
named_violates true P Q t x w = x
named_violates false P Q t (x, y, _) (by_stray d c i does not) = (x, y, (i, does, not))

-- a stray reports its own d
reported : {d c i : ℕ} (k e : ℕ) → Reports (Ok (Stray d c i)) k e → k ≡ d
reported k e (stray_reports d c i) = refl

module _ {P Q : Sheet} (op : Sound P) (oq : Sound Q) (same : P.e ≡ Q.e) where
  module _ (trace_only : Bool) (d c i : ℕ) {after : List ℕ} (v : Violated trace_only P Q (Ok (Stray d c i)) after) where
    -- where a stray is named after d events, the reference stops scripts of L events exactly if L is above d
    pub strays_after : (L : ℕ) → (0 < count_of P Q L ReferenceStops) ↔ (d < L)
    strays_after L = (forth, back)
      where
        is : v.d ≡ d
        is = reported v.d v.cleared v.reports

        forth : 0 < count_of P Q L ReferenceStops → d < L
        forth h = let w = (stray_counted op oq same L).0 h in omega (arith, w.1, is, v.shortest w.0 (stray_violates trace_only P Q w.0 w.2))

        back : d < L → 0 < count_of P Q L ReferenceStops
        back h =
            (stray_counted op oq same L).1
            (take v.d after, omega (arith, is, v.exactly), named_violates trace_only P Q (take v.d after) v.violates v.witness)

    -- so the first length with such a script is d + 1
    pub first_stray_lem : (count_of P Q d ReferenceStops ≡ 0) × (0 < count_of P Q (d + 1) ReferenceStops)
    first_stray_lem = (none (lt_or_ge 0 (count_of P Q d ReferenceStops)), (strays_after (d + 1)).1 (omega arith))
      where
        none : (0 < count_of P Q d ReferenceStops) ⊎ (count_of P Q d ReferenceStops ≤ 0) → count_of P Q d ReferenceStops ≡ 0
        none (inl h) = absurd (omega (arith, (strays_after d).0 h))
        none (inr h) = omega arith

  -- the device refines the reference with traces alone exactly if the reference stops no script of any length
  pub strays_never : RefinesIn true P Q ↔ ((L : ℕ) → count_of P Q L ReferenceStops ≡ 0)
  strays_never = (forth, λ f. back f (refines_or_violation op oq same true))
    where
      forth : RefinesIn true P Q → (L : ℕ) → count_of P Q L ReferenceStops ≡ 0
      forth r L = none (lt_or_ge 0 (count_of P Q L ReferenceStops))
        where
          none : (0 < count_of P Q L ReferenceStops) ⊎ (count_of P Q L ReferenceStops ≤ 0) → count_of P Q L ReferenceStops ≡ 0
          none (inl h) = let w = (stray_counted op oq same L).0 h in absurd ((refines_means op oq same true).0 r w.0 w.2)
          none (inr h) = omega arith

      back : ((L : ℕ) → count_of P Q L ReferenceStops ≡ 0) → RefinesIn true P Q ⊎ ((t : List ℕ) × TraceViolation P Q t) → RefinesIn true P Q
      back f (inl r) = r
      back f (inr (t, x)) = absurd (omega (arith, f (length t + 1), (stray_counted op oq same (length t + 1)).1 (t, omega arith, x)))

-- "refines" and a stray are different answers
unlike : (c d e i : ℕ) → ◌≡◌ {A = Result Outcome ℕ} (Ok (Refines c)) (Ok (Stray d e i)) → ⊥
unlike c d e i h = cc

-- the answers of the two calls, on sheets and a length that are not refused and lists that are long enough
module _ (P Q : Sheet) (L : ℕ) (z : scripts_fault P Q L ≡ 0) (work trace : List ℕ) (long : LongEnough P Q work trace) where
  claimed : (trace_only : Bool) → Claim trace_only P Q
  claimed trace_only = let g = ((scripts_0 P Q L).0 z).0 in claim trace_only P Q (inl g.0.0) (inl g.0.1) g.1

  -- where a comparison, trace-only or not, answers a stray after d events, there are scripts that the reference stops
  -- exactly if L is above d
  pub compared_strays : (trace_only : Bool) (d c i : ℕ) → outcome_of trace_only P Q work trace ≡ Ok (Stray d c i) → (0 < (scripts_of P Q L).reference) ↔ (d < L)
  compared_strays trace_only d c i o =
      let g = ((scripts_0 P Q L).0 z).0 in
      let no : ¬ RefinesIn trace_only P Q = λ r. let w = ((claimed trace_only).refined work trace long).1 r in unlike w.0 d c i (sym w.1 ∙ o) in
      let v : Violated trace_only P Q (Ok (Stray d c i)) (trace_after trace_only P Q work trace)
      = subst (λ (x : Result Outcome ℕ). Violated trace_only P Q x (trace_after trace_only P Q work trace)) o ((claimed trace_only).violated work trace long no) in
      rw (given_told P Q L z ReferenceStops) (strays_after (check_sound P g.0.0) (check_sound Q g.0.1) g.1.0 trace_only d c i v L)

  -- where a trace-only comparison answers "refines", the reference stops none
  pub refined_strays : (c : ℕ) → outcome_of true P Q work trace ≡ Ok (Refines c) → (scripts_of P Q L).reference ≡ 0
  refined_strays c o =
      let g = ((scripts_0 P Q L).0 z).0 in
      let r = ((claimed true).refined work trace long).0 (c, o) in
      given_told P Q L z ReferenceStops ∙ (strays_never (check_sound P g.0.0) (check_sound Q g.0.1) g.1.0).0 r L
