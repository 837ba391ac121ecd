use Rattle.refills.specs.Rows.{BoxFilled}
use Rattle.refills.proofs.fill_box.Given as goal

abbrev pub invariant-loop-r : goal.invariant-loop-r
invariant-loop-r l = BoxFilled l.n l.c.lo l.c.hi (λ _. l.byte) l.r l.initial.cells l.cells
