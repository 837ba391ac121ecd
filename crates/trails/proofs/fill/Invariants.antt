use Prim.Native.Nat.{◌*◌}
use Rattle.lines.specs.Lines.{six_cell}
use Rattle.routes.specs.Route.{preference}
use Rattle.lists.proofs.Filling.{Filling}
use Rattle.trails.specs.Standing.{stand, StandsAt}
use Rattle.trails.proofs.fill.Given as goal

abbrev pub invariant-loop-m : goal.invariant-loop-m
invariant-loop-m l =
    let k = l.lane.route in
    let at = stand l.lane.cells.now k in
    Filling (λ i. six_cell (preference k) k.p k.q (at i)) l.last l.initial.out l.out l.m (3 * l.m) × StandsAt k (at l.m) l.t
