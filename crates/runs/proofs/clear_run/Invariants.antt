use Rattle.runs.proofs.Along.{Follows}
use Rattle.runs.proofs.clear_run.Given as goal

abbrev pub invariant-loop-left : goal.invariant-loop-left
invariant-loop-left l = Follows l.cells l.k l.initial.s l.from l.left l.s
