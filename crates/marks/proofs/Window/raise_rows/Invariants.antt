use mathlib.Core.Bool.{◌||◌}
use Prim.Native.Nat.{◌+◌}
use lib.ListN.{get_or}
use Rattle.grids.specs.Grid.{solid}
use Rattle.marks.specs.Rows.{Shows, in_rows}
use Rattle.marks.proofs.Window.raise_rows.Given as goal

abbrev pub invariant-loop-x : goal.invariant-loop-x
invariant-loop-x l = Shows (λ i. solid (get_or l.initial.bytes (i + 1) 0) || in_rows l.cells l.rows i) l.x l.initial.bytes l.bytes
