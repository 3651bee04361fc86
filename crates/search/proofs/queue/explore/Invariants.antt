-- `queue::explore`. The loop's invariant: all events of the entries before h have been tried, none of them is bad, and
-- the level is that of entry h.
use Prim.Native.Nat.{◌-◌}
use Rattle.search_theory.specs.Tables.{table_pairs, bad_code}
use Rattle.search_theory.specs.Words.{st}
use Rattle.search_theory.specs.Steps.{Before}
use Rattle.search.proofs.queue.explore.Given as goal

abbrev pub invariant-loop-h : goal.invariant-loop-h
invariant-loop-h l =
    Before (table_pairs l.a l.b l.p l.q l.e) (bad_code l.bad l.q) l.initial.work l.h l.level.distance l.level.start l.level.end (st l.t l.work)

abbrev pub decreases-loop-h : goal.decreases-loop-h
decreases-loop-h l = l.n - l.h
