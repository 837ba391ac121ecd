use Rattle.marks.specs.Rows.{Shows, in_rows}
use Rattle.marks.proofs.Window.set_rows.Given as goal

abbrev pub invariant-loop-at : goal.invariant-loop-at
invariant-loop-at l = Shows (in_rows l.cells l.rows) l.at l.initial.bytes l.bytes
