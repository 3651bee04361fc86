-- The tables are those of the rows; the counts over them are those of the sheets.
use Prim.Native.Nat.{ℕ}
use lib.ListN.{length-replicate}
use Rattle.scripts.specs.Shapes.{cell}
use Rattle.scripts.proofs.Rows.{rows_counted}
use Rattle.scripts.proofs.tables.Rounds.{rounds_start}
use Rattle.scripts.proofs.count_rows.Goals as goal

pub start-requires : goal.start-requires
start-requires c = let s = c.requires in (s.1, s.3, length-replicate {A = ℕ} 3078 0)

pub advance-requires : goal.advance-requires
advance-requires c = (
  rounds_start _ _ _ _ _ _ _ _ c.requires c.start.ensures (length-replicate {A = ℕ} 3078 0),
  length-replicate {A = ℕ} 3 0,
)

pub returns : goal.returns
unfolding cell
returns c =
    let s = c.requires in
    rows_counted _ _ _ _ _ s.1 s.3 s.4 _ _ _ _ s.0 s.2 c.flat-a.ensures
    c.flat-b.ensures c.advance.ensures
