-- Refused, the answer is its number; else the walk by the tables, which is the sheet's.
use Rattle.std.proofs.Common.{arith, rules}
use Rattle.std.proofs.lemmas.List.{length-replicate}
use Prim.Native.Nat.{ℕ}
use Rattle.load.proofs.Lists.{sheet_tabled, sheet_leads, tables_walk}
use Rattle.load.proofs.Answers.{told_denied, told_walked, sheet_good, wish_fits, length_low, nodes_few}
use Rattle.load.proofs.walk.Goals as goal

pub returns-in_err-fault_on : goal.returns-in_err-fault_on
returns-in_err-fault_on c = told_denied _ _ _ _ c.fault_on.ensures c.in_err-fault_on.was (search rules)

pub list_initials-requires : goal.list_initials-requires
list_initials-requires c =
    (nodes_few _ _ _ _ c.fault_on.ensures c.in_ok-fault_on.was c.from-n.ensures, length-replicate {A = ℕ} 384 0, length-replicate {A = ℕ} 32 0)

-- past the test nothing is refused, the tables are those of the sheet, and so the walk by them is the sheet's
pub walk_tables-length-requires : goal.walk_tables-length-requires
walk_tables-length-requires c =
    let s = c.args.sheet in
    let f = c.fault_on.ensures in
    let p = c.in_ok-fault_on.was in
    let t = sheet_tabled s c.list_initials.ensures c.from-e.ensures c.from-n.ensures in
    (sheet_leads s (sheet_good _ _ _ _ f p) t c.flat-next.ensures, rw c.from.ensures (wish_fits _ _ _ _ f p))

pub overflow_cast-result : goal.overflow_cast-result
overflow_cast-result c =
    let a = c.args in
    let f = c.fault_on.ensures in
    let p = c.in_ok-fault_on.was in
    let t = sheet_tabled a.sheet c.list_initials.ensures c.from-e.ensures c.from-n.ensures in
    let walked = tables_walk a.sheet (sheet_good _ _ _ _ f p) t c.flat-next.ensures a.seed a.wish in
    omega (arith, length_low _ _ _ _ f p _ _ walked (rw c.from.ensures at c.walk_tables-length.ensures.0))

pub returns : goal.returns
returns c =
    let a = c.args in
    let f = c.fault_on.ensures in
    let p = c.in_ok-fault_on.was in
    let t = sheet_tabled a.sheet c.list_initials.ensures c.from-e.ensures c.from-n.ensures in
    let walked = tables_walk a.sheet (sheet_good _ _ _ _ f p) t c.flat-next.ensures a.seed a.wish in
    told_walked _ _ _ _ f p _ _ _ walked (rw c.from.ensures at c.walk_tables-length.ensures.0) (rw c.from.ensures at c.walk_tables-length.ensures.1)
