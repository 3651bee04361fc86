-- `search::search`: the links are cleared, the queue explored, the answer read off, the work list cleared.
use mathlib.Core.Path.{sym, ◌∙◌}
use native.Mathlib.Omega.{arith}
use lib.Seq.{length-take-le, length_front}
use Prim.Native.Nat.{◌-◌, ◌*◌}
use borrow.Rule.Slice.PartMut.{same_len_mid}
use Rattle.search_theory.specs.Words.{words_for}
use Rattle.search_theory.proofs.Read.{search_small, search_run_ok, search_settle_ok, search_whole}
use Rattle.search.proofs.Cleared.{cleared_part, cleared_front}
use Rattle.search.proofs.search.Goals as goal

pub overflow_mul-n : goal.overflow_mul-n
overflow_mul-n c = omega (arith, search_small _ _ _ _ _ c.requires)

pub overflow_mul-words : goal.overflow_mul-words
overflow_mul-words c = omega (arith, search_small _ _ _ _ _ c.requires)

pub offset_bounds-work-n : goal.offset_bounds-work-n
offset_bounds-work-n c = omega (arith, search_small _ _ _ _ _ c.requires)

pub slice_bounds-clear-end : goal.slice_bounds-clear-end
slice_bounds-clear-end c = c.requires.words

pub explore-stop-requires : goal.explore-stop-requires
explore-stop-requires c =
    let s = c in
    let a = s.args in
    let l = c.clear in
    search_run_ok _ _ _ _ _ s.requires _ (cleared_part (a.p * a.q) _ a.work.now _ (omega arith) s.requires.words l.ensures)
    (same_len_mid (a.p * a.q) (words_for (a.p * a.q) - a.p * a.q) a.work.now l.new.words l.auto.words)

pub settle-found-requires : goal.settle-found-requires
settle-found-requires c =
    let o = c.requires in
    (o.second_some, search_settle_ok _ _ _ _ _ o _ _ _ _ _ _ _ c.explore-stop.ensures.0)

pub slice_bounds-clear-end-2 : goal.slice_bounds-clear-end-2
slice_bounds-clear-end-2 c =
    let s = c in
    let a = s.args in
    let l = c.clear in
    let r = c.explore-stop in
    let f = c.settle-found in
    let m = same_len_mid (a.p * a.q) (words_for (a.p * a.q) - a.p * a.q) a.work.now l.new.words l.auto.words in
    let k = r.auto.work in
    let j = f.auto.work in
    omega (arith, s.requires.words, j, k, m)

pub slice_bounds-clear-end-3 : goal.slice_bounds-clear-end-3
slice_bounds-clear-end-3 c =
    let s = c in
    let a = s.args in
    let l = c.clear in
    let r = c.explore-stop in
    let f = c.settle-found in
    let m = same_len_mid (a.p * a.q) (words_for (a.p * a.q) - a.p * a.q) a.work.now l.new.words l.auto.words in
    let k = r.auto.work in
    let j = f.auto.work in
    sym (length-take-le _ _ (omega (arith, s.requires.words, j, k, m)))

pub shape_of-work : goal.shape_of-work
shape_of-work c =
    let s = c in
    let a = s.args in
    let l = c.clear in
    let r = c.explore-stop in
    let f = c.settle-found in
    let m = same_len_mid (a.p * a.q) (words_for (a.p * a.q) - a.p * a.q) a.work.now l.new.words l.auto.words in
    let k = r.auto.work in
    let j = f.auto.work in
    length_front f.new.work c.clear-2.new.words (words_for (a.p * a.q)) c.clear-2.auto.words ∙ j ∙ k ∙ m

pub shape_of-trace : goal.shape_of-trace
shape_of-trace c = c.settle-found.auto.trace

pub returns : goal.returns
returns c =
    let s = c in
    let a = s.args in
    let l = c.clear in
    let r = c.explore-stop in
    let f = c.settle-found in
    let m = same_len_mid (a.p * a.q) (words_for (a.p * a.q) - a.p * a.q) a.work.now l.new.words l.auto.words in
    let k = r.auto.work in
    let j = f.auto.work in
    search_whole _ _ _ _ _ s.requires _ _ _ _ _ _ _ r.ensures.0 _ _ _ _ _
    (cleared_part (a.p * a.q) _ a.work.now _ (omega arith) s.requires.words l.ensures) r.ensures.1 f.ensures.2 (f.ensures.0, f.ensures.1)
    (cleared_front (words_for (a.p * a.q)) f.new.work _ (omega (arith, s.requires.words, j, k, m)) c.clear-2.ensures)
