use Prim.Native.Nat.{◌*◌}
use Rattle.lines.specs.Lines.{cell_26}
use Rattle.lists.proofs.Filling.{Filling}
use Rattle.lists.proofs.Moving.{Paced}
use Rattle.lists.proofs.twenty_six.fill26.Given as goal

abbrev pub invariant-loop-m : goal.invariant-loop-m
invariant-loop-m l = Filling (cell_26 l.segment.p l.segment.q) l.last l.initial.out l.out l.m (3 * l.m) × Paced l.segment.p l.segment.q l.m l.c
