-- `refills::check_box` meets its contract: each verdict that is no refusal leads to the next, in the definition's order. Assumes nothing.
use mathlib.Core.Path.{sym, ◌∙◌}
use Rattle.std.proofs.lemmas.Result.{err_from_is_err_and}
use Rattle.grids.proofs.Shapes.{counted, shape_counts}
use Rattle.bricks.proofs.Building.{shape_fine}
use Rattle.refills.proofs.Checked.{ends_refused}
use Rattle.refills.proofs.check_box.Goals as goal

pub check_ends-requires : goal.check_ends-requires
check_ends-requires c =
    let a = c.args in
    counted a.n (shape_counts _ _ (shape_fine a.n a.bytes a.lent (sym c.check_bricks.ensures ∙ c.in_ok-check_bricks.was)))

pub returns-in_err-check_ends : goal.returns-in_err-check_ends
returns-in_err-check_ends c =
    let a = c.args in
    let out = c.from_residual-in_err-check_ends in
    let p = err_from_is_err_and out.result out.ensures.1 in
    let fits = sym c.check_bricks.ensures ∙ c.in_ok-check_bricks.was in
    let ends = sym c.check_ends.ensures ∙ c.in_err-check_ends.was in
    rw (p.1, p.2) (sym (ends_refused a.n a.bytes a.lent a.low a.high _ fits ends))
