use mathlib.Core.Path.{◌≡◌}
use mathlib.Core.List.{map}
use Prim.Native.Nat.{◌+◌, ◌-◌, ◌*◌}
use Rattle.lines.specs.Steps.{at, total}
use Rattle.lines.specs.Lines.{differences}
use Rattle.lines.specs.Touching.{visits_from, visit_cell, crossings}
use Rattle.lists.specs.Kept.{SixWayOf}
use Rattle.touching.specs.Listing.{put_cells}
use Rattle.touching.proofs.Filling.{Filling}
use Rattle.touching.proofs.list.fill.Given as goal

abbrev pub invariant-loop-m : goal.invariant-loop-m
invariant-loop-m l =
    let p = l.fn.segment.p in
    let q = l.fn.segment.q in
    let rest = visits_from (crossings p q) (total (differences p q)) (at 0 0 0) in
    (l.at ≡ 3 * (l.m + l.more)) ×
    ((way : SixWayOf p q l.w) → Filling p q l.w way (put_cells l.initial.out 3 (map (visit_cell p q) rest)) l.out l.s l.m (l.m + l.more))

abbrev pub decreases-loop-m : goal.decreases-loop-m
decreases-loop-m l = l.crossings - l.m
