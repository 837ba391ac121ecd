-- `refills::set` meets its contract: refused before memory is read, or handed on with its corner. Assumes nothing.
use mathlib.Core.Path.{◌≡◌, sym, ◌∙◌}
use Rattle.std.specs.Prelude.{Ok}
use lib.ListN.{length}
use Rattle.bricks.proofs.Building.{shape_fine, masks_lent}
use Rattle.refills.specs.Refills.{box_check}
use Rattle.refills.proofs.Boxes.{high_within}
use Rattle.refills.proofs.Checked.{natural, bricks_fine, low_in, counts_shaped, boxed, looked_at}
use Rattle.refills.proofs.set.Goals as goal
use Rattle.refills.proofs.set.Goals.{In_ok-check_box}

fine : (c : In_ok-check_box) → let a = c.args in box_check a.n (length a.cells.now) (length a.masks.now) a.cell a.cell ≡ Ok tt
fine c = sym c.check_box.ensures ∙ c.in_ok-check_box.was

pub corner_of-requires : goal.corner_of-requires
corner_of-requires c =
    let e = fine ((goal.at.corner_of-requires c).In_ok-check_box) in
    natural _ _ (counts_shaped _ _ _ _ _ e) _ (low_in _ _ _ _ _ e)

pub set_cell-requires-clause-shaped : goal.set_cell-requires-clause-shaped
set_cell-requires-clause-shaped c =
    let e = fine ((goal.at.set_cell-requires-clause-shaped c).In_ok-check_box) in shape_fine _ _ _ (bricks_fine _ _ _ _ _ e)

pub set_cell-requires-clause-inside : goal.set_cell-requires-clause-inside
set_cell-requires-clause-inside c =
    let e = fine ((goal.at.set_cell-requires-clause-inside c).In_ok-check_box) in
    (rw c.corner_of.ensures (high_within _ _ _ (boxed _ _ _ _ _ e)), masks_lent _ _ _ (bricks_fine _ _ _ _ _ e))

pub returns : goal.returns
returns c =
    let a = c.args in
    looked_at a.n a.cell a.cell a.byte a.cells.now a.masks.now a.total _ _ _ (fine ((goal.at.returns c).In_ok-check_box))
    (rw c.corner_of.ensures at c.set_cell.ensures)
