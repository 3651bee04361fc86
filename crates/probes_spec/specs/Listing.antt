-- The probe call (01, "Probes" and the refusals 9 and 10): what it answers, and what the lent list then holds.
use Rattle.std.specs.Prelude.{cond, List, ℕ, Result, Ok, Err, eqb, ltb, leb, length}
use Rattle.base.specs.Refusal.{unless, or_else}
use Rattle.base.specs.Front.{at_front}
use Rattle.sheet_spec.specs.declared.Sheet.{Sheet}
use Rattle.sheet_spec.specs.Kept.{row, acceptances}
use Rattle.sheet_spec.specs.Refusals.{sheet_fault}
use Rattle.probes_spec.specs.Probes.{probes}

-- the probes of a node of a sheet
unfoldable pub node_probes : Sheet → ℕ → List ℕ
node_probes s v = probes (acceptances (row s v)) s.e

-- the refusal of a probe call, 0 for none: the sheet's own; 9: a node that is not below N; 10: a list shorter than the
-- probes
unfoldable pub list_fault : Sheet → ℕ → List ℕ → ℕ
list_fault s v out = or_else (sheet_fault s) (unless (ltb v s.n) 9 (unless (leb (length (node_probes s v)) (length out)) 10 0))

-- 01's two numbers of each answer: the refusal, 0 for none, and how many probes there are, 0 where it is refused
unfoldable pub listed_numbers : Result ℕ ℕ → ℕ × ℕ
listed_numbers (Ok m) = (0, m)
listed_numbers (Err k) = (k, 0)

-- how many probes a probe call answers: the node's, 0 where it is refused
unfoldable pub list_count : Sheet → ℕ → List ℕ → ℕ
list_count s v out = cond (eqb (list_fault s v out) 0) (length (node_probes s v)) 0

-- the answer of a probe call: the refusal, or how many probes there are
unfoldable pub listed_of : Sheet → ℕ → List ℕ → Result ℕ ℕ
listed_of s v out = cond (eqb (list_fault s v out) 0) (Ok (length (node_probes s v))) (Err (list_fault s v out))

-- the list after a probe call: the probes at its front; after a refusal as it was
unfoldable pub list_after : Sheet → ℕ → List ℕ → List ℕ
list_after s v out = cond (eqb (list_fault s v out) 0) (at_front out (node_probes s v)) out
