-- `cases_tests::judge_all` lends the first n of 16 places.
use mathlib.Core.Path.{sym}
use borrow.Author.Rules.{rules}
use lib.Seq.{length-take-le}
use Rattle.cases_tests.proofs.judge_all.Goals as goal

pub slice_bounds-judge_all-end : goal.slice_bounds-judge_all-end
slice_bounds-judge_all-end c = sym (length-take-le _ _ (search rules))
