use Prim.Native.Nat.{◌-◌}
use Rattle.lines.specs.Lines.{differences}
use Rattle.touching.proofs.Counting.{Counting}
use Rattle.touching.proofs.list.count_cells.Given as goal

abbrev pub invariant-loop-m : goal.invariant-loop-m
invariant-loop-m l = Counting (differences l.fn.segment.p l.fn.segment.q) l.e l.m l.count

abbrev pub decreases-loop-m : goal.decreases-loop-m
decreases-loop-m l = l.crossings - l.m
