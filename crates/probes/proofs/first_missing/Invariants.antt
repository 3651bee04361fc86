-- `probes::first_missing`. The outer loop's invariant: nothing is named yet, and what is left of the list names what all
-- of it names. The inner loop's: what is left of the acceptances names what all of them name.
use Rattle.std.proofs.Common.{◌≡◌, drop, None}
use Rattle.probes_spec.specs.FirstMissed.{missing, first_missing}
use Rattle.probes.proofs.first_missing.Given as goal

abbrev pub invariant-probes : goal.invariant-probes
invariant-probes l = (l.missed ≡ None) × (first_missing (drop l.probe-index l.list) l.device ≡ first_missing l.list l.device)

abbrev pub invariant-loop-acceptance : goal.invariant-loop-acceptance
invariant-loop-acceptance l = (l.missed ≡ None) × (missing l.probe (drop l.acceptance-index l.device) ≡ missing l.probe l.device)
