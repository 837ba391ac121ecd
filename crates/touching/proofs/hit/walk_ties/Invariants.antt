use Prim.Native.Nat.{◌+◌, ◌-◌}
use Rattle.touching.proofs.Finding.{Walking}
use Rattle.touching.proofs.hit.walk_ties.Given as goal

abbrev pub invariant-loop-m : goal.invariant-loop-m
invariant-loop-m l = Walking l.lane.cells.now l.lane.route l.lane.planned l.s l.m (l.m + l.more)

abbrev pub decreases-loop-m : goal.decreases-loop-m
decreases-loop-m l = l.faces - l.m
