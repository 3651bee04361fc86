-- How the answer of `read` is put together from the passes over the bytes and over the graph that they spell.
use mathlib.Core.Path.{◌≡◌, sym, ap, ◌∙◌}
use mathlib.Core.List.{List}
use Prim.Native.Nat.{ℕ, ◌≤◌}
use native.Mathlib.Omega.{arith}
use borrow.Author.Tests.{ne_eqb}
use Rattle.base.specs.Refusal.{or_else}
use Rattle.base.proofs.Refusal.{or_else→, or_else_some, or_else_assoc}
use Rattle.sheet_spec.specs.declared.Sheet.{Sheet}
use Rattle.refusals.specs.declared.Refusal.{Refusal}
use Rattle.refusals.specs.Numbers.{number}
use Rattle.refusals.proofs.NumberLaws.{number_some}
use Rattle.std.specs.Prelude.{Err}
use Rattle.sheet_spec.proofs.SoundLaws.{check_sound}
use Rattle.sheet_spec.specs.Reading.{answer, accepted, kept, read_sheet}
use Rattle.sheet_spec.specs.Spelling.{byte, nodes_at, sheet_of}
use Rattle.sheet_spec.specs.Refusals.{head_fault, codes_fault, layout_fault, graph_fault, bytes_fault, sheet_fault}
use Rattle.sheet_spec.proofs.RuleLaws.{ranges→}
use Rattle.sheet_spec.proofs.Places.{head}
use Rattle.sheet_bytes.proofs.Passes.{passes}

-- the facts of each way out of `read`
module _ (b : List ℕ) where
  -- the refusal of the bytes, by the passes over the bytes together
  whole : bytes_fault b ≡ or_else (passes b) (graph_fault (sheet_of b))
  unfolding bytes_fault
  whole =
      let f = layout_fault b (byte b 5) (byte b 6) (nodes_at b) in
      ap (or_else (head_fault b)) (or_else_assoc (codes_fault b) f (graph_fault (sheet_of b)))
      ∙ or_else_assoc (head_fault b) (or_else (codes_fault b) f) (graph_fault (sheet_of b))

  refused : (cause : Refusal) → number cause ≡ bytes_fault b → kept (Err cause) ≡ read_sheet b
  unfolding read_sheet answer
  refused cause p = rw (← p, ne_eqb (number cause) 0 (omega (arith, number_some cause)))

  pub read_bytes : (cause : Refusal) → number cause ≡ passes b → kept (Err cause) ≡ read_sheet b
  read_bytes cause p = refused cause (p ∙ sym (whole ∙ rw (← p) (or_else_some (number cause) (graph_fault (sheet_of b)) (number_some cause))))

  module _ (z : 0 ≡ passes b) where
    pub read_graph : (cause : Refusal) → number cause ≡ graph_fault (sheet_of b) → kept (Err cause) ≡ read_sheet b
    read_graph cause p = refused cause (p ∙ sym (whole ∙ rw (← z)))

    pub read_whole : 0 ≡ graph_fault (sheet_of b) → accepted (sheet_of b) ≡ read_sheet b
    unfolding read_sheet answer
    read_whole p = rw (whole, ← z, ← p)

    -- the sheet that passed these has at most 32 nodes
    pub few_nodes : (sheet_of b).n ≤ 32
    unfolding sheet_of
    few_nodes = (ranges→ (byte b 5) (byte b 6) (head b (or_else→ (head_fault b) _ (sym z)).0).ranges).n_high

-- a sheet that is not refused has at most 12 events
pub few_events : (s : Sheet) → 0 ≡ sheet_fault s → s.e ≤ 12
few_events s z = (check_sound s (sym z)).ranges.e_high
