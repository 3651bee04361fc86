-- `cases_lists::compare_in` lends the first n words and the first m bytes.
use mathlib.Core.Path.{sym}
use borrow.Author.Rules.{rules}
use lib.Seq.{length-take-le}
use Rattle.cases_lists.proofs.compare_in.Goals as goal

pub slice_bounds-compare-end-2 : goal.slice_bounds-compare-end-2
slice_bounds-compare-end-2 c = sym (length-take-le _ _ (search rules))

pub slice_bounds-compare-end-4 : goal.slice_bounds-compare-end-4
slice_bounds-compare-end-4 c = sym (length-take-le _ _ (search rules))
