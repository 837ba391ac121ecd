use Rattle.hits.proofs.Walking.{Following}
use Rattle.hits.proofs.walk_faces.Given as goal

abbrev pub invariant-loop-j : goal.invariant-loop-j
invariant-loop-j l = Following l.lane.cells.now l.lane.route l.initial.s l.reads l.past l.faces l.j l.s
