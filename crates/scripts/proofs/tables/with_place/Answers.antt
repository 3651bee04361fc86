-- No sum leaves 64 bits.
use mathlib.Core.Path.{ap}
use native.Mathlib.Omega.{arith}
use Rattle.scripts_spec.specs.declared.Counts.{Counts}
use Rattle.scripts.specs.Shapes.{plus}
use Rattle.scripts.proofs.tables.with_place.Goals as goal

pub load-more-requires : goal.load-more-requires
load-more-requires c = c.requires.0

pub overflow_add-result : goal.overflow_add-result
overflow_add-result c =
    let s = c.requires in
    omega (arith, ap (λ (x : Counts). x.walked) c.load-more.ensures, s.1.walked, s.2.walked)

pub overflow_add-result-2 : goal.overflow_add-result-2
overflow_add-result-2 c =
    let s = c.requires in
    omega (arith, ap (λ (x : Counts). x.device) c.load-more.ensures, s.1.device, s.2.device)

pub overflow_add-result-3 : goal.overflow_add-result-3
overflow_add-result-3 c =
    let s = c.requires in
    omega (arith, ap (λ (x : Counts). x.reference) c.load-more.ensures, s.1.reference, s.2.reference)

pub returns : goal.returns
unfolding plus
returns c = rw c.load-more.ensures
