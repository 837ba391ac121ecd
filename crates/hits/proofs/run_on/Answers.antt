-- `hits::run_on` meets its contract: the run starts at a clear cell, so it leads on, and each long step of it is one of the walk's. Assumes nothing.
use mathlib.Core.Path.{◌≡◌, ap, ◌∙◌}
use Prim.Native.Nat.{◌+◌, ◌-◌}
use mathlib.Core.Bool.{true, false}
use Rattle.tripod.specs.Tripod.{steps}
use Rattle.routes.specs.Route.{raised_spot, lowered_spot}
use Rattle.runs.specs.Run.{run_spot}
use Rattle.hits.specs.Found.{Reached}
use Rattle.hits.proofs.Turns.{turn_small, turn_raised_small, can_run, end_small, end_values_small, run_leads}
use Rattle.hits.proofs.run_on.Goals as goal
use Rattle.hits.proofs.run_on.Goals.{After-lowered, After-run_spot_of-start}

pub raised-requires : goal.raised-requires
raised-requires c = turn_small _ _ _ _ _ _ _ c.requires.0

pub run_spot_of-start-requires : goal.run_spot_of-start-requires
run_spot_of-start-requires c =
    let g = c.requires.0 in
    (rw c.raised.ensures (turn_raised_small _ _ _ _ _ _ _ g), g.plan.short)

-- where the run starts
begins : (c : After-run_spot_of-start) →
    let a = c.args in
    c.run_spot_of-start.result ≡ run_spot a.long (steps a.lane.route.d) (raised_spot a.lane.route.order a.s)
begins c =
    let a = c.args in
    c.run_spot_of-start.ensures ∙ ap (run_spot a.long (steps a.lane.route.d)) c.raised.ensures

pub clear_run-r-requires : goal.clear_run-r-requires
clear_run-r-requires c =
    let (g, is, clear) = c.requires in
    can_run _ _ _ _ _ _ _ g _ is _ (begins ((goal.at.clear_run-r-requires c).After-run_spot_of-start)) clear

pub spot_of-requires : goal.spot_of-requires
spot_of-requires c =
    let (g, is, clear) = c.requires in
    (end_small _ _ _ _ _ _ _ g _ is _ (begins ((goal.at.spot_of-requires c).After-run_spot_of-start)) _ c.clear_run-r.ensures, g.plan.short)

pub lowered-requires : goal.lowered-requires
lowered-requires c =
    let (g, is, clear) = c.requires in
    rw c.spot_of.ensures (end_values_small _ _ _ _ _ _ _ g _ is _ (begins ((goal.at.lowered-requires c).After-run_spot_of-start)) _ c.clear_run-r.ensures)

-- where the run led
led : (c : After-lowered) →
    c.run_spot_of-start.result ≡ run_spot c.args.long (steps c.args.lane.route.d) (raised_spot c.args.lane.route.order c.args.s) →
    let r = c.clear_run-r.result in
    Reached c.args.lane.cells.now c.args.lane.route true c.args.s c.args.reads c.args.left
    (record { spot = c.lowered.result; reads = c.args.reads + (c.args.left - r.left); hit = false; left = r.left })
led c begun =
    let (g, is, clear) = c.requires in
    run_leads _ _ _ _ _ _ _ g _ is _ begun _ c.clear_run-r.ensures _
    (c.lowered.ensures ∙ ap (lowered_spot c.args.lane.route.order) c.spot_of.ensures)

pub returns : goal.returns
returns c = let at = goal.at.returns c in led at.After-lowered (begins at.After-run_spot_of-start)
