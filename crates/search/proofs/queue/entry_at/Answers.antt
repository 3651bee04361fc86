-- `queue::entry_at`: the word, its quotient by q, and what is left.
use mathlib.Core.Path.{refl, ap, ◌∙◌}
use Prim.Native.Nat.{ℕ, ◌-◌, ◌*◌, ◌/◌, ◌%◌}
use native.Mathlib.Omega.{arith}
use Rattle.search.proofs.queue.Reciprocal.{taken, rest_is}
use Rattle.search.proofs.queue.entry_at.Goals as goal

pub node_at-node-requires : goal.node_at-node-requires
node_at-node-requires c = c.requires.0

pub quotient-reference-requires : goal.quotient-reference-requires
quotient-reference-requires c =
    let s = c.requires in (omega (arith, c.node_at-node.ensures, s.1), s.2, s.3)

pub overflow_mul-result : goal.overflow_mul-result
overflow_mul-result c =
    let s = c in
    let t = taken c.node_at-node.result s.args.q in
    rw c.quotient-reference.ensures (omega (arith, t, c.node_at-node.ensures, s.requires.1))

pub overflow_sub-result : goal.overflow_sub-result
overflow_sub-result c = rw c.quotient-reference.ensures (taken c.node_at-node.result c.args.q)

pub returns : goal.returns
returns c =
    let q = c.args.q in
    let x = c.node_at-node.result in (
      refl,
      c.quotient-reference.ensures ∙ ap (λ (y : ℕ). y / q) c.node_at-node.ensures,
      ap (λ (y : ℕ). x - y * q) c.quotient-reference.ensures ∙ rest_is x q ∙ ap (λ (y : ℕ). y % q) c.node_at-node.ensures,
    )
