-- `queue::scan`. The loop's invariant: the first k events of the entry have been tried.
use mathlib.Core.Path.{◌≡◌}
use Prim.Native.Nat.{◌+◌, ◌*◌, ◌≤◌}
use lib.ListN.{length}
use Rattle.search_theory.specs.Tables.{table_pairs}
use Rattle.search_theory.specs.Words.{st, scanned}
use Rattle.search.proofs.queue.scan.Given as goal

abbrev pub invariant-loop-k : goal.invariant-loop-k
invariant-loop-k l =
    (l.k ≤ l.e) × (st l.t l.work ≡ scanned (table_pairs l.a l.b l.p l.q l.e) l.at.place (l.at.reference * l.q + l.at.device) l.k (st l.initial.t l.initial.work)) ×
    (length l.work ≡ length l.initial.work)
