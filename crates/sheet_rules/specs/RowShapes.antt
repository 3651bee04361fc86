-- Nothing to believe: the shapes of loops. Inner functions cite them, laws join them to the rules.
use Rattle.std.specs.Prelude.{Bool, ◌||◌, cond, ℕ, zero, suc, eqb, ltb}
use Rattle.base.specs.Range.{all}
use Rattle.nodes.specs.NodeSets.{with_node}
use Rattle.sheet_spec.specs.declared.Row.{Row}
use Rattle.sheet_spec.specs.Kept.{successor, acceptance}

-- the half of `blank` for the successors: from event e on they hold 255
unfoldable pub blank_succs : ℕ → Row → Bool
blank_succs e r = all (λ i. ltb i e || eqb (successor r i) 255) 12

-- the half of `blank` for the sets: from place c on they hold 0
unfoldable pub blank_sets : ℕ → Row → Bool
blank_sets c r = all (λ j. ltb j c || eqb (acceptance r j) 0) 16

-- a set of nodes with node v added, if v is below 32
unfoldable pub node_added : ℕ → ℕ → ℕ
node_added x v = cond (ltb v 32) (with_node x v) x

-- the nodes below 32 that the first e events of a row lead to
unfoldable pub targets : ℕ → Row → ℕ
targets zero r = 0
targets (suc i) r = node_added (targets i r) (successor r i)
