-- `cases_bounds::make` lends the first n of 256 places and the first m of 256 others.
use mathlib.Core.Path.{sym}
use borrow.Author.Rules.{rules}
use lib.Seq.{length-take-le}
use Rattle.cases_bounds.proofs.make.Goals as goal

pub slice_bounds-write_pair-end : goal.slice_bounds-write_pair-end
slice_bounds-write_pair-end c = sym (length-take-le _ _ (search rules))

pub slice_bounds-write_pair-end-2 : goal.slice_bounds-write_pair-end-2
slice_bounds-write_pair-end-2 c = sym (length-take-le _ _ (search rules))
