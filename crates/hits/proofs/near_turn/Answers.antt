-- `hits::near_turn` meets its contract: as many faces as the long step would cross lie before the next cell of the 26-line. Assumes nothing.
use mathlib.Core.Path.{sym, subst}
use native.Mathlib.Omega.{arith}
use Rattle.lines.specs.Lines.{differences}
use Rattle.lines.specs.Decisions.{raised}
use Rattle.tripod.specs.Tripod.{LongMoves}
use Rattle.walks.specs.declared.Walker.TheVariants.{Adaptive}
use Rattle.hits.specs.Found.{Walked, CanWalk, going}
use Rattle.hits.proofs.Turns.{turn_small, turn_raised_small, near_faces, near_turn}
use Rattle.hits.proofs.near_turn.Goals as goal
use Rattle.hits.proofs.near_turn.Goals.{After-long_moves}

pub raised-e-requires : goal.raised-e-requires
raised-e-requires c = turn_small _ _ _ _ _ _ _ c.requires.0

pub long_moves-requires : goal.long_moves-requires
long_moves-requires c =
    let (g, near) = c.requires in
    (rw c.raised-e.ensures (turn_raised_small _ _ _ _ _ _ _ g), g.plan.short, g.long)

-- the moves, of the ends' own differences
moves : (c : After-long_moves) →
    LongMoves (differences c.args.lane.route.p c.args.lane.route.q) (raised c.args.lane.route.order c.args.s.e) c.long_moves.result
moves c =
    subst (λ e. LongMoves (differences c.args.lane.route.p c.args.lane.route.q) e c.long_moves.result) c.raised-e.ensures
    (subst (λ E. LongMoves E c.raised-e.result c.long_moves.result) c.requires.0.plan.is c.long_moves.ensures)

pub walk_from-t-requires : goal.walk_from-t-requires
walk_from-t-requires c =
    let (g, near) = c.requires in
    let l = c.args.lane.cells.now in
    subst (CanWalk l c.args.lane.route c.args.tested c.args.s c.args.reads) (sym c.faces_of-faces.ensures)
    (record {
      from = g.from;
      next = going l c.args.lane.route Adaptive;
      number = _;
      crossing =
          near_faces g.from _ c.args.lane.route g.plan l c.args.tested c.args.left c.args.s c.args.reads g.at _
          (moves ((goal.at.walk_from-t-requires c).After-long_moves)) near;
    })

pub returns : goal.returns
returns c =
    let (g, near) = c.requires in
    let l = c.args.lane.cells.now in
    record {
      fewer = omega (arith, g.at.some);
      outcome = λ from at.
          near_turn from _ c.args.lane.route g.plan l c.args.tested c.args.left c.args.s c.args.reads at _ (moves ((goal.at.returns c).After-long_moves))
          c.walk_from-t.result near
          (subst (λ f. Walked l c.args.lane.route c.args.tested c.args.s c.args.reads f c.walk_from-t.result)
          c.faces_of-faces.ensures
          c.walk_from-t.ensures);
    }
