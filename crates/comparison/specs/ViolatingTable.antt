-- Nothing to believe: the table of violating pairs. A law says what stands at the place of a pair.
use Rattle.std.specs.Prelude.{◌≡◌, Bool, false, List, ◌++◌, ℕ, ◌+◌, ◌-◌, ◌*◌, ◌/◌, ◌%◌, ◌<◌, get_or, replicate}
use Rattle.std.proofs.Common.{◌∙◌, arith}
use Rattle.std.proofs.Math.Arith.{digits_lt, digits_div, digits_mod}
use Rattle.std.proofs.Math.ListN.{get_or-append}
use Rattle.base.specs.Table.{up_to}
use Rattle.base.proofs.Table.{length_up_to, get_or_up_to}
use Rattle.sheet_spec.specs.declared.Sheet.{Sheet}
use Rattle.refinement_spec.specs.ViolatingPairs.{violating}

-- what stands at place k of the table of violating pairs
unfoldable pub violating_at : Bool → Sheet → Sheet → ℕ → Bool
violating_at trace_only P Q k = violating trace_only P Q (k / Q.n) (k % Q.n)

-- the table of violating pairs: the pairs of nodes in order, and no other place is bad
unfoldable pub violating_table : Bool → Sheet → Sheet → List Bool
violating_table trace_only P Q = up_to (violating_at trace_only P Q) (P.n * Q.n) ++ replicate (1024 - P.n * Q.n) false

-- at the place of a pair of nodes the table tells whether it is violating
pub table_holds : (trace_only : Bool) (P Q : Sheet) (n m : ℕ) → n < P.n → m < Q.n → get_or (violating_table trace_only P Q) (n * Q.n + m) false ≡ violating trace_only P Q n m
unfolding violating_table violating_at
table_holds trace_only P Q n m h k =
    let l : n * Q.n + m < P.n * Q.n = digits_lt h k in
    let f = violating_at trace_only P Q in
    get_or-append (up_to f (P.n * Q.n)) (replicate (1024 - P.n * Q.n) false) false (n * Q.n + m) (omega (arith, length_up_to f (P.n * Q.n)))
    ∙ get_or_up_to f (P.n * Q.n) (n * Q.n + m) false l ∙ rw (digits_div n k, digits_mod n k)
