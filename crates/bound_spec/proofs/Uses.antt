-- Nothing to believe: laws. What follows from the claim alone, each of its fields used, so that a claim that said less
-- would not give them; and the words of `Serves` spelled out.
use Rattle.std.specs.Prelude.{◌≡◌, ◌↔◌, Bool, List, ℕ, Ok, ◌+◌, ◌-◌, ◌*◌, ◌≤◌, ◌<◌, length, take}
use Rattle.std.proofs.Common.{◌∙◌, sym, arith}
use Rattle.sheet_spec.specs.declared.Sheet.{Sheet}
use Rattle.sheet_spec.specs.Refusals.{Agree}
use Rattle.sheet_spec.specs.Reading.{read_sheet, accepted}
use Rattle.sheet_spec.specs.Encoding.{HasFirstCodes}
use Rattle.sheet_spec.proofs.EncodingLaws.{reads→, version_1_codes}
use Rattle.refinement_spec.specs.Refinement.{ViolationIn, RefinesIn}
use Rattle.verdicts_spec.specs.declared.Verdict.TheVariants.{Passes}
use Rattle.verdicts_spec.specs.Verdicts.{verdict_of}
use Rattle.bound_spec.specs.Sheets.{bound_reference, bound_device}
use Rattle.bound_spec.specs.Calls.{bound_fault, reference_after, device_after}
use Rattle.bound_spec.specs.Bound.{ReachesBound, Serves}
use Rattle.bound_spec.specs.Meaning.{IsReference, IsDevice}
use Rattle.bound_spec.proofs.MeaningLaws.{reference_is, device_is}
use Rattle.bound_spec.proofs.ByteLaws.{reference_read, device_read}
use Rattle.bound_spec.proofs.CallLaws.{bound_0, reference_front, device_front}
use Rattle.bound_spec.proofs.Theorem.{bytes_reach}

module _ {p q : ℕ} {reference device : List ℕ} (b : ReachesBound p q reference device) where
  -- both sheets have two events
  pub reached_events : (b.P.e ≡ 2) × (b.Q.e ≡ 2)
  reached_events = (b.two_events, sym b.agree.0 ∙ b.two_events)

  -- both have the codes of version 1, since they are bytes of version 1
  pub reached_codes : HasFirstCodes b.P × HasFirstCodes b.Q
  reached_codes =
      let r = reads→ reference b.P b.reference_read in
      let d = reads→ device b.Q b.device_read in
      (rw r.1 at (version_1_codes reference r.0 b.reference_version), rw d.1 at (version_1_codes device d.0 b.device_version))

  -- a list of any other length than p q - 1 is no violation
  pub reached_only : (trace_only : Bool) (t : List ℕ) → ¬ (length t ≡ p * q - 1) → ¬ ViolationIn trace_only b.P b.Q t
  reached_only trace_only t n v = n (b.violations trace_only t v)

-- 02's words, of what is read from the fronts of the two lists after a call that is not refused
pub written_means : (p q : ℕ) (reference device : List ℕ) → bound_fault p q reference device ≡ 0
    → ((P : Sheet) × (read_sheet (take (7 * p + 5) (reference_after p q reference device)) ≡ accepted P) × IsReference p P)
    × ((Q : Sheet) × (read_sheet (take (5 * q + 7) (device_after p q reference device)) ≡ accepted Q) × IsDevice q Q)
written_means p q reference device z =
    let r = ((bound_0 p q reference device).0 z).0 in (
      (bound_reference p, rw (reference_front p q reference device z) (reference_read p r.0.0 r.0.1), reference_is p r.0.0 r.0.1),
      (bound_device q, rw (device_front p q reference device z) (device_read q r.1.0 r.1.1), device_is q r.1.0 r.1.1),
    )

-- what it says that a bound serves, spelled out
pub serves_means : (trace_only : Bool) (p q b : ℕ) → Serves trace_only p q b
    ↔ ((reference device : List ℕ) (P Q : Sheet) → read_sheet reference ≡ accepted P → read_sheet device ≡ accepted Q → Agree P Q
    → P.n ≡ p → Q.n ≡ q → ((k : ℕ) → k < b → verdict_of trace_only P Q k ≡ Ok Passes) → RefinesIn trace_only P Q)
serves_means trace_only p q b = (λ f. f, λ f. f)

-- and what it says that a smaller one does not: there are bytes of two sheets of p and q nodes that agree, of which the
-- device passes tests 0 to b - 1 and does not refine the reference
pub unserved : (trace_only : Bool) (p q : ℕ) → 1 ≤ p → p ≤ 32 → 1 ≤ q → q ≤ 32 → (b : ℕ) → b < p * q
    → (reference : List ℕ) × (device : List ℕ) × (P : Sheet) × (Q : Sheet) × (read_sheet reference ≡ accepted P) × (read_sheet device ≡ accepted Q)
    × Agree P Q × (P.n ≡ p) × (Q.n ≡ q) × ((k : ℕ) → k < b → verdict_of trace_only P Q k ≡ Ok Passes) × (¬ RefinesIn trace_only P Q)
unserved trace_only p q pl ph ql qh b l =
    let c = bytes_reach p q (pl, ph) (ql, qh) in
    (_, _, c.P, c.Q, c.reference_read, c.device_read, c.agree, c.reference_nodes, c.device_nodes, (λ k h. c.passes trace_only k (omega arith)), c.unrefined trace_only)
