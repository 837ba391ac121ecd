use Prim.Native.Nat.{◌+◌}
use Rattle.cells.specs.Fills.{Filled}
use Rattle.marks.specs.Rows.{put_byte}
use Rattle.marks.proofs.Window.put.Given as goal

abbrev pub invariant-loop-x : goal.invariant-loop-x
invariant-loop-x l = Filled (put_byte l.self.bytes l.initial.cells l.from) l.from (l.from + l.x) l.initial.cells l.cells
