-- One probe for several nodes (02, K10): the minimal sets of events that meet every acceptance of every node of a set,
-- and the call that lists them: what it answers, and what the lent list then holds. A set of nodes is a number in which
-- node v adds 2 ^ v.
use Rattle.std.specs.Prelude.{Bool, not, ◌&&◌, cond, List, [], ℕ, Result, Ok, Err, ◌^◌, eqb, ltb, leb, length}
use Rattle.base.specs.Refusal.{unless, or_else}
use Rattle.base.specs.Front.{at_front}
use Rattle.base.specs.Joined.{joined}
use Rattle.events.specs.Sets.{has}
use Rattle.sheet_spec.specs.declared.Sheet.{Sheet}
use Rattle.sheet_spec.specs.Kept.{row, acceptances}
use Rattle.sheet_spec.specs.Refusals.{sheet_fault}
use Rattle.probes_spec.specs.Probes.{probes}

-- the acceptances of the nodes of the set X, node after node
unfoldable pub set_acceptances : Sheet → ℕ → List ℕ
set_acceptances s X = joined (λ v. cond (has X v) (acceptances (row s v)) []) s.n

-- the probes for the nodes of the set X, in the order of every probe list
unfoldable pub nodes_probes : Sheet → ℕ → List ℕ
nodes_probes s X = probes (set_acceptances s X) s.e

-- 29: the test that the set X is not empty, and has only nodes below n
unfoldable pub node_set_ok : ℕ → ℕ → Bool
node_set_ok n X = not (eqb X 0) && ltb X (2 ^ n)

-- the refusal of the call, 0 for none: the sheet's own; 29: a set that is empty or names a node not on the sheet; 10: a
-- list shorter than the probes
unfoldable pub nodes_fault : Sheet → ℕ → List ℕ → ℕ
nodes_fault s X out =
    or_else (sheet_fault s) (unless (node_set_ok s.n X) 29 (unless (leb (length (nodes_probes s X)) (length out)) 10 0))

-- how many probes the call answers, 0 where it is refused
unfoldable pub nodes_count : Sheet → ℕ → List ℕ → ℕ
nodes_count s X out = cond (eqb (nodes_fault s X out) 0) (length (nodes_probes s X)) 0

-- the answer of the call: the refusal, or how many probes there are
unfoldable pub nodes_listed : Sheet → ℕ → List ℕ → Result ℕ ℕ
nodes_listed s X out = cond (eqb (nodes_fault s X out) 0) (Ok (length (nodes_probes s X))) (Err (nodes_fault s X out))

-- the list after the call: the probes at its front; after a refusal as it was
unfoldable pub nodes_list_after : Sheet → ℕ → List ℕ → List ℕ
nodes_list_after s X out = cond (eqb (nodes_fault s X out) 0) (at_front out (nodes_probes s X)) out
