-- `touching::hit::walk_touching` meets its contract: P is the hit, or the ties are walked. Assumes nothing.
use mathlib.Core.Path.{◌≡◌, sym, ◌∙◌}
use native.Mathlib.Omega.{arith}
use Rattle.lines.proofs.Ways.{at_even}
use Rattle.walks.specs.Walks.{hit_at}
use Rattle.routes.proofs.Spots.{spot_byte}
use Rattle.touching.specs.Touching.{walking}
use Rattle.touching.proofs.Finding.{start_stops, start_byte}
use Rattle.touching.proofs.hit.walk_touching.Goals as goal
use Rattle.touching.proofs.hit.walk_touching.Goals.{After-starts_solid}

pub starts_solid-requires : goal.starts_solid-requires
starts_solid-requires c = spot_byte _ c.args.lane.route c.args.lane.planned _ c.first_spot-start.result (λ a. omega (arith, at_even 0 a)) c.first_spot-start.ensures

-- what the test says of P
tested : (c : After-starts_solid) →
    let a = c.args in
    hit_at (walking a.how.start) a.lane.route.n a.lane.cells.now a.lane.route.p a.lane.route.p ≡ c.starts_solid.result
tested c =
    sym (c.starts_solid.ensures ∙ start_byte c.args.lane.cells.now c.args.lane.route c.args.lane.planned c.first_spot-start.result c.first_spot-start.ensures c.args.how.start)

pub returns-then-starts_solid : goal.returns-then-starts_solid
returns-then-starts_solid c = start_stops c.args.lane.cells.now c.args.lane.route c.args.lane.planned c.first_spot-start.result c.first_spot-start.ensures c.args.how.start (tested ((goal.at.returns-then-starts_solid c).After-starts_solid) ∙ c.if-starts_solid.true)

pub returns : goal.returns
returns c = c.walk_ties.ensures c.args.how.start (tested ((goal.at.returns c).After-starts_solid) ∙ c.if-starts_solid.false)
