use mathlib.Core.Path.{◌≡◌}
use Rattle.grids.specs.Grid.{solid}
use Rattle.marks.specs.Rows.{gap_by}
use Rattle.marks.proofs.Window.gap_by.Given as goal

abbrev pub invariant-loop-x : goal.invariant-loop-x
invariant-loop-x l = solid l.most ≡ gap_by l.self.bytes l.cells l.from l.x
