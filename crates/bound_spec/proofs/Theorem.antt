-- Nothing to believe: laws. The bound is reached (02, K11): for every p and q from 1 to 32 the bytes that the call
-- writes are two sheets whose first failing test is number p q - 1 (`bound_reached`), so no smaller bound than p q
-- serves all sheets of those counts (`no_smaller`), and p q does (`serves_exactly`).
use Rattle.std.specs.Prelude.{◌≡◌, ◌⊎◌, ◌↔◌, Bool, cond, List, ℕ, Ok, ◌+◌, ◌-◌, ◌*◌, ◌≤◌, ◌<◌, length, take}
use Rattle.std.proofs.Common.{sym, ◌∙◌, inl, inr, mul-le-mul, arith}
use Rattle.base.proofs.Truth.{lt_or_ge}
use Rattle.walks.specs.Pairs.{pair_distance, pair_trace}
use Rattle.walks.proofs.Pairs.{pair_distance<, pair_trace_leads, pair_trace_length}
use Rattle.sheet_spec.specs.Kept.{graph}
use Rattle.sheet_spec.specs.Refusals.{sheet_fault, Agree}
use Rattle.sheet_spec.proofs.Accepted.{read_accepted}
use Rattle.sheet_spec.proofs.EncodingLaws.{reads→}
use Rattle.refinement_spec.specs.Refinement.{ViolationIn, RefinesIn}
use Rattle.refinement_spec.specs.ViolatingPairs.{violating}
use Rattle.refinement_spec.proofs.RefinementLaws.{violation_means, refines_means}
use Rattle.verdicts_spec.specs.declared.Verdict.TheVariants.{Passes, Fails}
use Rattle.verdicts_spec.specs.Verdicts.{fails_from, verdict_of}
use Rattle.verdicts_spec.proofs.VerdictLaws.{verdict_0, verdict_given}
use Rattle.verdicts_spec.proofs.TestLaws.{first_failing, verdicts_complete}
use Rattle.bound_spec.specs.Sheets.{bound_reference, bound_device, reference_bytes, device_bytes}
use Rattle.bound_spec.specs.Calls.{bound_fault, reference_after, device_after}
use Rattle.bound_spec.specs.Bound.{ReachesBound, Serves}
use Rattle.bound_spec.proofs.SheetLaws.{reference_size, reference_accepted, sound_reference, device_size, device_accepted, sound_device}
use Rattle.bound_spec.proofs.ByteLaws.{reference_codes, reference_read, reference_version, device_codes, device_read, device_version}
use Rattle.bound_spec.proofs.PairLaws.{violation_length, violation}
use Rattle.bound_spec.proofs.CallLaws.{InRange, bound_0, reference_front, device_front}

module _ (p q : ℕ) (in_p : InRange p) (in_q : InRange q) where
  acc_p : sheet_fault (bound_reference p) ≡ 0
  acc_p = reference_accepted p in_p.0 in_p.1

  acc_q : sheet_fault (bound_device q) ≡ 0
  acc_q = device_accepted q in_q.0 in_q.1

  agrees : Agree (bound_reference p) (bound_device q)
  agrees = (same, λ i l. reference_codes p in_p.0 in_p.1 i l ∙ sym (device_codes q in_q.0 in_q.1 i (omega (arith, l, same))))
    where
      same : (bound_reference p).e ≡ (bound_device q).e
      same = (reference_size p).0 ∙ sym (device_size q).0

  module _ (trace_only : Bool) where
    -- the length of the nearest violation
    abbrev distance : ℕ
    distance = pair_distance (graph (bound_reference p)) (graph (bound_device q)) (violating trace_only (bound_reference p) (bound_device q))

    -- every violation has p q - 1 events
    violation_exact : (t : List ℕ) → ViolationIn trace_only (bound_reference p) (bound_device q) t → length t ≡ p * q - 1
    violation_exact t v =
        violation_length p q in_p.0 in_p.1 in_q.0 in_q.1 trace_only t
        ((violation_means (sound_reference p in_p.0 in_p.1) (sound_device q in_q.0 in_q.1) agrees.0 trace_only t).0 v)

    -- there is one
    not_refined : ¬ RefinesIn trace_only (bound_reference p) (bound_device q)
    not_refined r =
        let op = sound_reference p in_p.0 in_p.1 in
        let oq = sound_device q in_q.0 in_q.1 in
        let w = violation p q in_p.0 in_p.1 in_q.0 in_q.1 trace_only in
        (refines_means op oq agrees.0 trace_only).0 r w.0 ((violation_means op oq agrees.0 trace_only w.0).1 w.1)

    -- so the nearest has too
    distance_is : distance ≡ p * q - 1
    distance_is =
        let op = sound_reference p in_p.0 in_p.1 in
        let oq = sound_device q in_q.0 in_q.1 in
        let w = violation p q in_p.0 in_p.1 in_q.0 in_q.1 trace_only in
        let d = pair_distance< op.graphed oq.graphed (violating trace_only (bound_reference p) (bound_device q)) w.0 w.1 in
        let l = pair_trace_leads op.graphed oq.graphed (violating trace_only (bound_reference p) (bound_device q)) d in
        sym (pair_trace_length (graph (bound_reference p)) (graph (bound_device q)) (violating trace_only (bound_reference p) (bound_device q)))
        ∙ violation_length p q in_p.0 in_p.1 in_q.0 in_q.1 trace_only (pair_trace (graph (bound_reference p)) (graph (bound_device q)) (violating trace_only (bound_reference p) (bound_device q))) l

    few : p * q ≤ 1024
    few = mul-le-mul in_p.1 in_q.1

    given : (k : ℕ) → k ≤ 1023 → verdict_of trace_only (bound_reference p) (bound_device q) k ≡ Ok (cond (fails_from trace_only (bound_reference p) (bound_device q) k 0 0) Fails Passes)
    given k l = verdict_given (bound_reference p) (bound_device q) k trace_only ((verdict_0 (bound_reference p) (bound_device q) k).1 (((acc_p, acc_q), agrees), λ h. omega arith))

    -- test p q - 1 fails, and every test before it passes
    last_fails : verdict_of trace_only (bound_reference p) (bound_device q) (p * q - 1) ≡ Ok Fails
    last_fails =
        let f = first_failing (bound_reference p) (bound_device q) acc_p acc_q agrees.0 trace_only not_refined in
        given (p * q - 1) (omega (arith, few)) ∙ rw (rw distance_is at f.1)

    earlier_pass : (k : ℕ) → k < p * q - 1 → verdict_of trace_only (bound_reference p) (bound_device q) k ≡ Ok Passes
    earlier_pass k l =
        let f = first_failing (bound_reference p) (bound_device q) acc_p acc_q agrees.0 trace_only not_refined in
        given k (omega (arith, few)) ∙ rw (f.2 k (omega (arith, distance_is)))

  -- the two sheets reach the bound
  pub bytes_reach : ReachesBound p q (reference_bytes p) (device_bytes q)
  bytes_reach = record {
    P = bound_reference p;
    Q = bound_device q;
    reference_version = reference_version p in_p.0 in_p.1;
    device_version = device_version q in_q.0 in_q.1;
    reference_read = reference_read p in_p.0 in_p.1;
    device_read = device_read q in_q.0 in_q.1;
    reference_nodes = (reference_size p).1;
    device_nodes = (device_size q).1;
    two_events = (reference_size p).0;
    agree = agrees;
    passes = earlier_pass;
    fails = last_fails;
    unrefined = not_refined;
    violations = violation_exact;
  }

-- whatever lists are lent to a call that is not refused, the bytes that it writes reach the bound
pub bound_reached : (p q : ℕ) (reference device : List ℕ) → bound_fault p q reference device ≡ 0
    → ReachesBound p q (take (7 * p + 5) (reference_after p q reference device)) (take (5 * q + 7) (device_after p q reference device))
bound_reached p q reference device z =
    let r = ((bound_0 p q reference device).0 z).0 in
    rw (reference_front p q reference device z, device_front p q reference device z) (bytes_reach p q r.0 r.1)

-- no smaller bound serves all sheets of p and q nodes
pub no_smaller : (trace_only : Bool) (p q : ℕ) → 1 ≤ p → p ≤ 32 → 1 ≤ q → q ≤ 32 → (b : ℕ) → b < p * q → ¬ Serves trace_only p q b
no_smaller trace_only p q pl ph ql qh b l f =
    let c = bytes_reach p q (pl, ph) (ql, qh) in
    c.unrefined trace_only (f (reference_bytes p) (device_bytes q) c.P c.Q c.reference_read c.device_read c.agree c.reference_nodes c.device_nodes (λ k h. c.passes trace_only k (omega arith)))

-- the bound p q does, and so does every greater one
pub bound_serves : (trace_only : Bool) (p q b : ℕ) → p * q ≤ b → Serves trace_only p q b
bound_serves trace_only p q b l reference device P Q x y a n m f =
    let s = reads→ reference P x in
    let t = reads→ device Q y in
    let acc_p : sheet_fault P ≡ 0 = rw s.1 at (read_accepted reference s.0) in
    let acc_q : sheet_fault Q ≡ 0 = rw t.1 at (read_accepted device t.0) in
    (verdicts_complete P Q acc_p acc_q a trace_only).0 (λ k h. f k (within k (rw (n, m) at h)))
  where
    within : (k : ℕ) → k < p * q → k < b
    within k h = omega (arith, h, l)

-- so a bound serves exactly if it is at least p q
pub serves_exactly : (trace_only : Bool) (p q : ℕ) → 1 ≤ p → p ≤ 32 → 1 ≤ q → q ≤ 32 → (b : ℕ) → Serves trace_only p q b ↔ (p * q ≤ b)
serves_exactly trace_only p q pl ph ql qh b = (λ f. go f (lt_or_ge b (p * q)), bound_serves trace_only p q b)
  where
    go : Serves trace_only p q b → (b < p * q) ⊎ (p * q ≤ b) → p * q ≤ b
    go f (inl l) = absurd (no_smaller trace_only p q pl ph ql qh b l f)
    go f (inr l) = l
