-- `hits::set_out` meets its contract: where it passes a solid P, this is left over its faces; else the walk begins at P. Assumes nothing.
use mathlib.Core.Path.{◌≡◌, sym, ap, ◌∙◌}
use mathlib.Core.Bool.{false}
use native.Mathlib.Omega.{arith}
use Rattle.lines.specs.Lines.{differences, longest}
use Rattle.hits.specs.Found.{At26}
use Rattle.hits.proofs.Starting.{p_byte, not_clear, from_p, passed_26, turn_came}
use Rattle.hits.proofs.set_out.Goals as goal
use Rattle.hits.proofs.set_out.Goals.{Start, Then-passes_solid, else-left-gt0-via-then-left-gt0+else-passes_solid, else-left-gt0-via-else-left-gt0}

-- all long steps of the ends are left
all : (c : Start) → c.args.left ≡ longest (differences c.args.lane.route.p c.args.lane.route.q)
all c = c.requires.1 ∙ ap longest c.args.lane.planned.is

pub passes_solid-requires : goal.passes_solid-requires
passes_solid-requires c = p_byte c.args.how.start c.args.lane.cells.now c.args.lane.route c.args.lane.planned c.args.start c.requires.0

-- where it passes a solid P
here : (c : Then-passes_solid) → let a = c.args in At26 a.how.start a.lane.cells.now a.lane.route false a.start 0 a.left
here c =
    let a = c.args in
    passed_26 a.how.start a.lane.cells.now a.lane.route a.lane.planned a.start c.requires.0 a.left
    (all ((goal.at.near_turn-requires c).Start)) c.if-left-gt0.true (sym c.passes_solid.ensures ∙ c.if-passes_solid.true)

pub near_turn-requires : goal.near_turn-requires
near_turn-requires c =
    let a = c.args in (
      record { plan = a.lane.planned; long = c.requires.2 ∙ c.requires.1; from = a.how.start; at = here c },
      not_clear a.how.start a.lane.cells.now a.lane.route a.lane.planned a.start c.requires.0 (sym c.passes_solid.ensures ∙ c.if-passes_solid.true),
    )

pub returns-then-passes_solid : goal.returns-then-passes_solid
returns-then-passes_solid c =
    let a = c.args in
    turn_came a.how.start a.lane.cells.now a.lane.route a.lane.planned false a.start 0 a.left _ c.near_turn.ensures
    (here ((goal.at.returns-then-passes_solid c).Then-passes_solid))

pub returns : goal.returns
returns c =
    let a = c.args in
    from_p a.how.start a.lane.cells.now a.lane.route a.lane.planned a.start c.requires.0 a.left (all ((goal.at.returns c).Start)) (
    elim c.else-left-gt0.branch [
      | else-left-gt0-via-then-left-gt0+else-passes_solid w ↦ λ some. sym w.passes_solid.ensures ∙ w.if-passes_solid.false
      | else-left-gt0-via-else-left-gt0 w ↦ λ some. absurd (omega (arith, w.if-left-gt0.false))
    ])
