-- `sight::walked` meets its contract: the walk has a route; it stops where the definition's ends, and answers from there. Assumes nothing.
use lib.ListN.{length}
use Rattle.walks.specs.declared.Walker.TheVariants.{Adaptive}
use Rattle.routes.specs.Route.{Planned}
use Rattle.routes.proofs.Accepting.{ends_enclosed, route_planned}
use Rattle.hits.proofs.Answering.{stop_byte, stop_found, found_finds}
use Rattle.sight.proofs.walked.Goals as goal
use Rattle.sight.proofs.walked.Goals.{After-route_of}

pub route_of-requires : goal.route_of-requires
route_of-requires c = ends_enclosed _ _ _ _ c.requires

planned : (c : After-route_of) → Planned (length c.args.cells.now) c.route_of.result
planned c = route_planned _ _ _ _ c.requires _ _ c.route_of.ensures

pub invariant_of-lane : goal.invariant_of-lane
invariant_of-lane c = record { planned = planned ((goal.at.invariant_of-lane c).After-route_of) }

pub answer_of-requires : goal.answer_of-requires
answer_of-requires c =
    stop_byte Adaptive c.args.how.start c.args.cells.now _ (planned ((goal.at.answer_of-requires c).After-route_of)) _ c.walk_adaptive-stop.ensures

pub returns : goal.returns
returns c =
    let a = c.args in
    found_finds Adaptive a.how a.n a.cells.now a.p a.q c.route_of.result c.requires c.route_of.ensures
    (stop_found Adaptive a.how.start a.cells.now c.route_of.result (planned ((goal.at.returns c).After-route_of)) _ c.walk_adaptive-stop.ensures c.answer_of.ensures)
