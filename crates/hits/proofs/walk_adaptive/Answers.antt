-- `hits::walk_adaptive` meets its contract: the invariant: whichever walk set out so, it is at the cell of the 26-line from which t.left long steps are
-- left; a turn leads it to a later one, or stops it. The measure is how many are left. Assumes nothing.
use mathlib.Core.Path.{◌≡◌, ap, ◌∙◌}
use mathlib.Core.Bool.{true}
use native.Mathlib.Omega.{arith}
use Rattle.cells.specs.declared.Start.{Start}
use Rattle.lines.specs.Steps.{X, Y, Z}
use Rattle.lines.specs.Lines.{differences, longest, number_26}
use Rattle.walks.specs.declared.Walker.TheVariants.{Adaptive}
use Rattle.runs.specs.Run.{cell_left}
use Rattle.runs.proofs.Along.{route_small}
use Rattle.hits.specs.Found.{going, Walking, At26, Came}
use Rattle.routes.proofs.Spots.{short_at}
use Rattle.hits.proofs.Walking.{at_end}
use Rattle.routes.proofs.Cells26.{last_26}
use Rattle.hits.proofs.Turns.{turn_stopped, turn_walking}
use Rattle.hits.proofs.Starting.{turn_begins, turn_came}
use Rattle.hits.proofs.walk_adaptive.Goals as goal
use Rattle.hits.proofs.walk_adaptive.Goals.{At-loop-t, In-loop-t}

pub run_route_of-h-requires : goal.run_route_of-h-requires
run_route_of-h-requires c = route_small _ c.args.lane.route c.args.lane.planned

pub returns-then-t : goal.returns-then-t
returns-then-t c = turn_stopped c.args.how.start c.args.lane.cells.now c.args.lane.route c.set_out-t.result c.set_out-t.ensures.outcome c.if-t.true

-- where the call's own walk is
came : (c : At-loop-t) →
    let a = c.args in
    Came a.how.start a.lane.cells.now a.lane.route c.loop-t.t
came c =
    let a = c.args in
    c.loop-t.invariant.1 a.how.start c.set_out-t.ensures

-- at a cell of the 26-line that is not the last, whichever walk came there
here : (c : In-loop-t) →
    let g = c.args in
    (from : Start) → Came from g.lane.cells.now g.lane.route c.loop-t.t →
    At26 from g.lane.cells.now g.lane.route true c.loop-t.t.spot c.loop-t.t.reads c.loop-t.t.left
here c from came =
    let g = c.args in
    turn_begins from g.lane.cells.now g.lane.route c.loop-t.t came c.loop-t.invariant.0 (omega (arith, c.loop-t-test.true))

pub next_26-t-requires : goal.next_26-t-requires
next_26-t-requires c =
    let earlier = goal.at.next_26-t-requires c in (
      record {
        plan = c.args.lane.planned;
        long = c.longest_axis-long.ensures;
        from = c.args.how.start;
        at = here earlier.In-loop-t c.args.how.start (came earlier.At-loop-t);
      },
      c.run_route_of-h.ensures,
    )

pub returns-then-t-2 : goal.returns-then-t-2
returns-then-t-2 c =
    let earlier = goal.at.returns-then-t-2 c in
    let g = c.args in
    turn_stopped g.how.start g.lane.cells.now g.lane.route c.next_26-t.result
    (c.next_26-t.ensures.outcome g.how.start (here earlier.In-loop-t g.how.start (came earlier.At-loop-t)))
    c.if-t-2.true

pub loop-t-preserved : goal.loop-t-preserved
loop-t-preserved c = (
  c.if-t-2.false,
  λ from set_out.
      turn_came from c.args.lane.cells.now c.args.lane.route c.args.lane.planned true _ _ _ c.next_26-t.result c.next_26-t.ensures
      (here ((goal.at.loop-t-preserved c).In-loop-t) from (c.loop-t.invariant.1 from set_out)),
)

-- it goes on to the loop's end
walking : (c : At-loop-t) →
    let l = c.args.lane.cells.now in
    let k = c.args.lane.route in
    Walking c.args.how.start l k (going l k Adaptive) (number_26 k.p k.q (cell_left k c.loop-t.t.left)) c.loop-t.t.reads c.loop-t.t.spot
walking c =
    let a = c.args in
    turn_walking a.how.start a.lane.cells.now a.lane.route c.loop-t.t (came c).outcome c.loop-t.invariant.0

pub overflow_add-result : goal.overflow_add-result
overflow_add-result c =
    let w = walking ((goal.at.overflow_add-result c).At-loop-t) in
    record {
      fits = omega (
        arith,
        w.on.few,
        w.on.most,
        short_at _ c.args.lane.route c.args.lane.planned X,
        short_at _ c.args.lane.route c.args.lane.planned Y,
        short_at _ c.args.lane.route c.args.lane.planned Z,
      );
    }

pub returns : goal.returns
returns c =
    let k = c.args.lane.route in
    let all_made : cell_left k c.loop-t.t.left ≡ longest (differences k.p k.q) = omega (arith, c.loop-t-test.false) in
    at_end c.args.how.start _ k c.args.lane.planned c.args.lane.cells.now _ _ _ _ (walking ((goal.at.returns c).At-loop-t))
    (ap (number_26 k.p k.q) all_made ∙ last_26 k)
