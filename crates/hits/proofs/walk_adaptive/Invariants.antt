use mathlib.Core.Path.{◌≡◌}
use mathlib.Core.Bool.{false}
use Rattle.cells.specs.declared.Start.{Start}
use Rattle.hits.specs.Found.{Came}
use Rattle.hits.proofs.walk_adaptive.Given as goal

abbrev pub invariant-loop-t : goal.invariant-loop-t
invariant-loop-t l =
    (l.t.hit ≡ false) ×
    ((from : Start) → Came from l.lane.cells.now l.lane.route l.initial.t → Came from l.lane.cells.now l.lane.route l.t)

abbrev pub decreases-loop-t : goal.decreases-loop-t
decreases-loop-t l = l.t.left
