use Prim.Native.Nat.{◌*◌}
use Rattle.grids.specs.Marks.{marked_byte}
use Rattle.cells.specs.Fills.{Filled}
use Rattle.marks.proofs.mark_rows.Given as goal

abbrev pub invariant-loop-r : goal.invariant-loop-r
invariant-loop-r l = Filled (marked_byte 3 l.n l.initial.cells) 0 (l.n.nx * l.r) l.initial.cells l.cells
