-- How the refusals 1 to 5 and 18 are put together from the three passes over the bytes: up to N, the codes, the nodes.
use mathlib.Core.Path.{◌≡◌, sym}
use mathlib.Core.List.{List}
use Prim.Native.Nat.{ℕ, ◌≤◌}
use Rattle.base.specs.Refusal.{or_else}
use Rattle.sheet_spec.proofs.RuleLaws.{ranges→}
use Rattle.sheet_spec.specs.Spelling.{byte, nodes_at}
use Rattle.sheet_spec.proofs.Places.{head}
use Rattle.sheet_spec.specs.Refusals.{head_fault, codes_fault, layout_fault}

-- the refusal by the three passes
abbrev pub passes : List ℕ → ℕ
passes b = or_else (head_fault b) (or_else (codes_fault b) (layout_fault b (byte b 5) (byte b 6) (nodes_at b)))

-- where the bytes up to N are not refused, there are at most 12 events
pub few_events : (b : List ℕ) → 0 ≡ head_fault b → byte b 5 ≤ 12
few_events b z = (ranges→ (byte b 5) (byte b 6) (head b (sym z)).ranges).e_high
