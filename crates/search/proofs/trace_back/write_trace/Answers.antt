-- `trace_back::write_trace`: the links are put in the entries' places, and the events are read back along them.
use mathlib.Core.Path.{ap, ◌∙◌}
use mathlib.Core.List.{List, ◌++◌}
use Prim.Native.Nat.{ℕ}
use native.Mathlib.Omega.{arith}
use lib.ListN.{drop}
use Rattle.search_theory.proofs.Read.{linked_read, trace_back_ok}
use Rattle.search.proofs.trace_back.write_trace.Goals as goal

pub overflow_add-place : goal.overflow_add-place
overflow_add-place c = omega (arith, c.requires.0.entries)

pub put_links-requires : goal.put_links-requires
put_links-requires c = c.requires.0.entries

pub write_events-requires : goal.write_events-requires
write_events-requires c =
    let s = c.requires in
    let l = c.put_links in
    (trace_back_ok _ _ _ _ _ s.0 l.ensures l.auto.work, s.1)

pub shape_of-work : goal.shape_of-work
shape_of-work c = c.put_links.auto.work

pub shape_of-trace : goal.shape_of-trace
shape_of-trace c = c.write_events.auto.trace

pub returns : goal.returns
returns c =
    let s = c in
    let a = s.args in
    let l = c.put_links in (
      c.write_events.ensures
          ∙ ap (λ (r : List ℕ). r ++ drop a.d a.trace.now) (linked_read _ _ _ _ l.ensures a.d a.place s.requires.0.links),
      l.ensures,
    )
