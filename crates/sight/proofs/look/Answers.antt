-- `sight::look` meets its contract: the lookups decide as the definition has it; where both give a cell, the walk between them passes its tests and
-- tells the rest. Assumes nothing.
use mathlib.Core.Path.{sym, ◌∙◌}
use Rattle.sight.proofs.Seen.{camera_refused, ball_refused, both_found}
use Rattle.sight.proofs.Walkable.{walkable}
use Rattle.sight.proofs.look.Goals as goal

pub returns-in_default : goal.returns-in_default
returns-in_default c =
    let a = c.args in
    sym (camera_refused a.how a.g.counts a.g.cells.now a.at a.camera a.ball c.look_up-from.ensures c.unwrap_err.ensures)

pub returns-in_default-to : goal.returns-in_default-to
returns-in_default-to c =
    let a = c.args in
    sym
    (ball_refused a.how a.g.counts a.g.cells.now a.at a.camera a.ball c.look_up-from.ensures c.in-Ok.is c.look_up-to.ensures
    c.unwrap_err-in_default-to.ensures)

pub walked-requires : goal.walked-requires
walked-requires c =
    let a = c.args in
    walkable a.g.counts _ a.at a.camera a.ball _ _ c.args.g.shaped c.requires
    (sym c.look_up-from.ensures ∙ c.in-Ok.is)
    (sym c.look_up-to.ensures ∙ c.in-Ok-to.is)

pub returns : goal.returns
returns c =
    let a = c.args in
    c.sight_of.ensures ∙
    sym
    (both_found a.how a.g.counts a.g.cells.now a.at a.camera a.ball
    c.look_up-from.ensures
    c.in-Ok.is
    c.look_up-to.ensures c.in-Ok-to.is
    c.walked.ensures.says)
