-- `hits::walk_plain` meets its contract: every face of the route is crossed, or the walk stopped before. Assumes nothing.
use mathlib.Core.Path.{◌≡◌, sym, ap, ◌∙◌, subst}
use Prim.Native.Nat.{suc, ◌+◌}
use native.Mathlib.Omega.{arith}
use Rattle.lines.specs.Steps.{X, Y, Z, total}
use Rattle.walks.specs.Numbers.{last_number}
use Rattle.hits.specs.Found.{Outcome, Walking, Crossing}
use Rattle.routes.proofs.Spots.{short_at}
use Rattle.hits.proofs.Walking.{at_end}
use Rattle.hits.proofs.Turns.{outcome_stopped, outcome_walking, all_faces}
use Rattle.hits.proofs.walk_plain.Goals as goal
use Rattle.hits.proofs.walk_plain.Goals.{After-tests_start, After-total, After-walk_from-t, Else-t}

-- how many faces there are
faces : (c : After-total) → let k = c.args.lane.route in c.total.result ≡ last_number k.p k.q
faces c = c.total.ensures ∙ ap total c.args.lane.planned.is

-- the faces are the plain walk's, the first of them from a cell that is tested or not
crossing : (c : After-tests_start) →
    let a = c.args in
    Crossing a.how.start a.lane.cells.now a.lane.route c.tests_start.result c.first_spot-start.result 0 c.total.result suc 0
crossing c =
    let a = c.args in
    subst (λ t. Crossing a.how.start a.lane.cells.now a.lane.route t c.first_spot-start.result 0 c.total.result suc 0) (sym c.tests_start.ensures)
    (all_faces a.how.start _ a.lane.route c.args.lane.planned a.lane.cells.now c.first_spot-start.result _ c.first_spot-start.ensures (faces ((goal.at.walk_from-t-requires c).After-total)))

pub walk_from-t-requires : goal.walk_from-t-requires
walk_from-t-requires c = record { from = c.args.how.start; next = suc; number = 0; crossing = crossing ((goal.at.walk_from-t-requires c).After-tests_start) }

-- what the faces came to
came : (c : After-walk_from-t) →
    let a = c.args in
    Crossing a.how.start a.lane.cells.now a.lane.route c.tests_start.result c.first_spot-start.result 0 c.total.result suc 0 →
    let r = c.walk_from-t.result in
    Outcome a.how.start a.lane.cells.now a.lane.route suc (0 + c.total.result) r.hit r.spot r.reads
came c faces = c.walk_from-t.ensures.leads c.args.how.start suc 0 faces

pub returns-then-t : goal.returns-then-t
returns-then-t c =
    let a = c.args in
    let at = goal.at.returns-then-t c in
    outcome_stopped a.how.start a.lane.cells.now a.lane.route suc _ _ _ _ (came at.After-walk_from-t (crossing at.After-tests_start)) c.if-t.true

-- not stopped, it is at the last place
walking : (c : Else-t) →
    let a = c.args in
    let r = c.walk_from-t.result in
    Outcome a.how.start a.lane.cells.now a.lane.route suc (0 + c.total.result) r.hit r.spot r.reads →
    Walking a.how.start a.lane.cells.now a.lane.route suc (0 + c.total.result) r.reads r.spot
walking c came =
    let a = c.args in
    outcome_walking a.how.start a.lane.cells.now a.lane.route suc _ _ _ _ came c.if-t.false

pub overflow_add-result : goal.overflow_add-result
overflow_add-result c =
    let at = goal.at.overflow_add-result c in
    let w = walking at.Else-t (came at.After-walk_from-t (crossing at.After-tests_start)) in
    record {
      fits = omega (
        arith,
        w.on.few,
        w.on.most,
        short_at _ c.args.lane.route c.args.lane.planned X,
        short_at _ c.args.lane.route c.args.lane.planned Y,
        short_at _ c.args.lane.route c.args.lane.planned Z,
      );
    }

pub returns : goal.returns
returns c =
    let at = goal.at.returns c in
    at_end c.args.how.start _ c.args.lane.route c.args.lane.planned c.args.lane.cells.now suc _ _ _
    (walking at.Else-t (came at.After-walk_from-t (crossing at.After-tests_start))) (omega (arith, faces at.After-total))
