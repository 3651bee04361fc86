-- Nothing to believe: laws. What the claim says of two sheets that reach the bound (02, K11): a comparison's d is
-- p q - 1 and its trace a violation of so many events; and of all verdicts just the last says "fails".
use Rattle.std.specs.Prelude.{◌≡◌, Bool, List, ℕ, ◌-◌, ◌*◌, ◌≤◌, ◌<◌, length, get_or, take}
use Rattle.std.proofs.Common.{inr, mul-le-mul, arith}
use Rattle.sheet_spec.specs.declared.Sheet.{Sheet}
use Rattle.sheet_spec.specs.Reading.{read_sheet, accepted}
use Rattle.sheet_spec.proofs.Accepted.{read_accepted}
use Rattle.sheet_spec.proofs.EncodingLaws.{reads→}
use Rattle.sheet_spec.proofs.SoundLaws.{check_sound}
use Rattle.refinement_spec.specs.Refinement.{ViolationIn}
use Rattle.verdicts_spec.specs.Numbers.{passes_number, fails_number}
use Rattle.verdicts_spec.specs.Suites.{verdicts_after}
use Rattle.comparison_spec.specs.Comparison.{outcome_of, trace_after}
use Rattle.bound_spec.specs.Bound.{ReachesBound}
use Rattle.claim.specs.Claim.{LongEnough, Reports, Claim, Demand3}
use Rattle.claim.proofs.Uses.{first_only}

module _ {p q : ℕ} {reference device : List ℕ} (b : ReachesBound p q reference device) (demand : Demand3) (trace_only : Bool) where
  claimed : Claim trace_only b.P b.Q
  claimed = demand trace_only b.P b.Q (inr (reference, b.reference_read)) (inr (device, b.device_read)) b.agree

  -- given long enough lists, a comparison reports d = p q - 1, and its trace is a violation of p q - 1 events
  pub reached_compared : (work trace : List ℕ) → LongEnough b.P b.Q work trace
      → ((cleared : ℕ) × Reports (outcome_of trace_only b.P b.Q work trace) (p * q - 1) cleared)
      × ViolationIn trace_only b.P b.Q (take (p * q - 1) (trace_after trace_only b.P b.Q work trace))
  reached_compared work trace l =
      let v = claimed.violated work trace l (b.unrefined trace_only) in
      let d = first_only v (p * q - 1) (b.fails trace_only) (b.passes trace_only) in
      ((v.cleared, rw d v.reports), rw d v.violates)

  -- given a long enough list, the verdicts on all p q tests are 11 but for the last, which is 12
  pub reached_judged : (out : List ℕ) → p * q ≤ length out
      → ((k : ℕ) → k < p * q - 1 → get_or (verdicts_after trace_only b.P b.Q out) k 0 ≡ passes_number)
      × (get_or (verdicts_after trace_only b.P b.Q out) (p * q - 1) 0 ≡ fails_number)
  reached_judged out l =
      let s = (claimed.suite out (omega (arith, size, l))).1 in (
        λ k h. (s.passed k (omega (arith, size, h))).1 (b.passes trace_only k h),
        (s.failed (p * q - 1) (omega (arith, some))).1 ((claimed.fails (p * q - 1) (omega (arith, size, claimed.few))).0 (b.fails trace_only)),
      )
    where
      size : b.P.n * b.Q.n ≡ p * q
      size = rw (b.reference_nodes, b.device_nodes)

      -- an accepted sheet has a node
      node : (s : Sheet) (bytes : List ℕ) → read_sheet bytes ≡ accepted s → 1 ≤ s.n
      node s bytes e = let r = reads→ bytes s e in (check_sound s (rw r.1 at (read_accepted bytes r.0))).ranges.n_low

      some : p * q - 1 < b.P.n * b.Q.n
      some = omega (arith, size, mul-le-mul (node b.P reference b.reference_read) (node b.Q device b.device_read))
