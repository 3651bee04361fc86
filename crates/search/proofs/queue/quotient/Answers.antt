-- `queue::quotient`: the product and its quotient.
use native.Mathlib.Omega.{arith}
use Rattle.search.proofs.queue.Reciprocal.{small, quotient_is}
use Rattle.search.proofs.queue.quotient.Goals as goal

pub overflow_add-result : goal.overflow_add-result
overflow_add-result c = omega (arith, (small _ _ c.requires.0 c.requires.1 c.requires.2).0)

pub overflow_mul-result : goal.overflow_mul-result
overflow_mul-result c = omega (arith, (small _ _ c.requires.0 c.requires.1 c.requires.2).1)

pub returns : goal.returns
returns c = quotient_is _ _ c.requires.0 c.requires.1 c.requires.2
