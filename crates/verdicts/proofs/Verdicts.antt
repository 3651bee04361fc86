-- The verdict, test by test in the order of the code.
use Rattle.std.specs.Prelude.{◌≡◌, Bool, cond, ℕ, ◌≤◌, ◌<◌, Result, Ok, Err}
use Rattle.std.proofs.Common.{sym, ap, ◌∙◌, arith}
use borrow.Author.Tests.{le-leb, lt-leb}
use Rattle.base.specs.Refusal.{unless}
use Rattle.base.proofs.Refusal.{or_else_some}
use Rattle.sheet_spec.specs.declared.Sheet.{Sheet}
use Rattle.sheet_spec.specs.Kept.{first_codes, sheet_with}
use Rattle.sheet_spec.specs.Refusals.{pair_fault}
use Rattle.verdicts_spec.specs.declared.Verdict.{Verdict}
use Rattle.verdicts_spec.specs.declared.Verdict.TheVariants.{Passes, Fails}
use Rattle.verdicts_spec.specs.Numbers.{judged}
use Rattle.verdicts_spec.specs.Verdicts.{fails_from, verdict_fault, verdict_of}
use Rattle.verdicts_spec.proofs.VerdictLaws.{verdict_denied, verdict_given}
use Rattle.verdicts_spec.proofs.NumberLaws.{verdict_refusal}
use Rattle.verdicts_spec.proofs.Recoded.{recoded_fails}
use Rattle.verdicts.proofs.Pairs.{pair_then, good_pair}

-- the test over the rows of two sheets with one E is the test over the sheets: it looks at no code
pub test_apart : (trace_only : Bool) (P Q : Sheet) (k : ℕ) → P.e ≡ Q.e
    → fails_from trace_only (sheet_with P.rows P.e P.n) (sheet_with Q.rows P.e Q.n) k 0 0 ≡ fails_from trace_only P Q k 0 0
test_apart trace_only P Q k same =
    ap (λ (x : ℕ). fails_from trace_only (sheet_with P.rows P.e P.n) (sheet_with Q.rows x Q.n) k 0 0) same
    ∙ recoded_fails trace_only P Q (first_codes P.e) (first_codes Q.e) k 0 0

module _ (trace_only : Bool) (P Q : Sheet) (k : ℕ) where
  -- what the contract says of an answer in numbers
  abbrev pub Says : Result Verdict ℕ → Type 0
  Says r = (r ≡ verdict_of trace_only P Q k) × ((judged r).refusal ≡ verdict_fault P Q k)

  -- the verdict of the definition says its refusal
  told : {r : Result Verdict ℕ} → verdict_of trace_only P Q k ≡ r → Says r
  told e = (sym e, ap (λ (v : Result Verdict ℕ). (judged v).refusal) (sym e) ∙ verdict_refusal trace_only P Q k)

  -- a refusal of the pair is that of the verdict
  pub pair_refused : {m : ℕ} → m ≡ pair_fault P Q 0 → 0 < m → Says (Err m)
  unfolding verdict_fault
  pair_refused {m} e h =
      let f : verdict_fault P Q k ≡ m = pair_then P Q (unless _ 14 0) ∙ rw (← e) (or_else_some m _ h) in
      told (verdict_denied P Q k trace_only (omega (arith, f)) ∙ ap (λ (x : ℕ). Err x) f)

  module _ (z : 0 ≡ pair_fault P Q 0) where
    -- past the pair a test's number may be too high
    pub number_refused : 1023 < k → Says (Err 14)
    unfolding verdict_fault
    number_refused l =
        let f : verdict_fault P Q k ≡ 14 = pair_then P Q (unless _ 14 0) ∙ rw (← z, lt-leb k 1023 l) in
        told (verdict_denied P Q k trace_only (omega (arith, f)) ∙ ap (λ (x : ℕ). Err x) f)

    -- else nothing is refused, and the verdict is that of the test
    pub test_judged : k ≤ 1023 → {t : Bool} → t ≡ fails_from trace_only (sheet_with P.rows P.e P.n) (sheet_with Q.rows P.e Q.n) k 0 0
        → Says (Ok (cond t Fails Passes))
    unfolding verdict_fault
    test_judged l {t} e =
        let f : verdict_fault P Q k ≡ 0 = pair_then P Q (unless _ 14 0) ∙ rw (← z, le-leb k 1023 l) in
        told (verdict_given P Q k trace_only f ∙ ap (λ (b : Bool). Ok (cond b Fails Passes)) (sym (e ∙ test_apart trace_only P Q k (good_pair P Q z).1.0)))
