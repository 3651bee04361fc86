-- What follows where E and N are in range.
use mathlib.Core.Path.{◌≡◌, sym, ◌∙◌}
use mathlib.Core.Bool.{Bool, false, not}
use Prim.Native.Nat.{◌≤◌}
use borrow.Author.Tests.{not-false}
use Rattle.sheet_spec.specs.declared.Sheet.{Sheet}
use Rattle.sheet_spec.specs.Rules.{ranges_ok}
use Rattle.sheet_spec.proofs.RuleLaws.{ranges→}

-- where E and N are in range, there are at most 12 events and 32 nodes
module _ (s : Sheet) {t : Bool} (p : t ≡ ranges_ok s.e s.n) (q : not t ≡ false) where
  pub few_events : s.e ≤ 12
  few_events = (ranges→ s.e s.n (sym p ∙ not-false t q)).e_high

  pub few_nodes : s.n ≤ 32
  few_nodes = (ranges→ s.e s.n (sym p ∙ not-false t q)).n_high
