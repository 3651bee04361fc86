-- `trace_back::write_events`: the events are read back, and they are copied to the trace list.
use mathlib.Core.Path.{refl}
use Rattle.search_theory.proofs.Read.{write_whole}
use Rattle.search.proofs.trace_back.write_events.Goals as goal

pub read_back-requires : goal.read_back-requires
read_back-requires c = (c.requires.0, refl)

pub put_front-requires : goal.put_front-requires
put_front-requires c = let s = c.requires in (s.0.few, s.1)

pub shape_of-trace : goal.shape_of-trace
shape_of-trace c = c.put_front.auto.trace

pub returns : goal.returns
returns c = write_whole _ _ _ _ _ _ _ _ c.read_back.ensures c.put_front.ensures
