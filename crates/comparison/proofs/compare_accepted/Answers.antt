-- `comparison::compare_accepted`: the tables are laid out, searched, and what is found is told.
use Rattle.comparison.specs.Tables.{both_accepted, search_fits, answer_fits, compares_found}
use Rattle.comparison.proofs.compare_accepted.Goals as goal

pub table-bad-requires : goal.table-bad-requires
table-bad-requires c =
    let s = c in
    let a = s.args in
    both_accepted a.reference a.device a.work.now a.trace.now s.requires

pub search-found-requires : goal.search-found-requires
search-found-requires c =
    let w = c in
    let s = w in
    let a = s.args in
    search_fits a.reference a.device a.work.now a.trace.now s.requires w.from-p.ensures w.from-q.ensures w.from-e.ensures

pub tell-requires : goal.tell-requires
tell-requires c =
    let b = c in
    let w = b in
    let s = w in
    let a = s.args in
    let z = both_accepted a.reference a.device a.work.now a.trace.now s.requires in
    (z.0, z.1, answer_fits a.reference a.device a.work.now a.trace.now s.requires w.from-p.ensures w.from-q.ensures w.from-e.ensures a.trace_only b.flat-a.ensures b.flat-b.ensures b.table-bad.ensures c.search-found.ensures)

pub returns : goal.returns
returns c =
    let b = c in
    let w = b in
    let s = w in
    let a = s.args in
    compares_found a.reference a.device a.work.now a.trace.now s.requires w.from-p.ensures w.from-q.ensures w.from-e.ensures a.trace_only b.flat-a.ensures b.flat-b.ensures b.table-bad.ensures c.search-found.ensures _ c.tell.ensures
