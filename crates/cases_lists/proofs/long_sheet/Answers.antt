use mathlib.Core.Path.{◌≡◌, sym}
use Prim.Native.Nat.{◌-◌, ◌≤◌}
use native.Mathlib.Omega.{arith}
use lib.ListN.{length}
use lib.Seq.{length-take-le}
use borrow.Author.Rules.{rules}
use Rattle.cases_lists.proofs.long_sheet.Goals as goal

pub loop-i-init : goal.loop-i-init
loop-i-init c = (omega arith, search rules)

pub loop-i-preserved : goal.loop-i-preserved
loop-i-preserved c = (omega arith, search rules)

pub slice_bounds-read-end : goal.slice_bounds-read-end
slice_bounds-read-end c = sym (length-take-le _ _ (search rules))
