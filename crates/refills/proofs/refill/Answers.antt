-- `refills::refill` meets its contract: refused before memory is read, or handed on with its corners. Assumes nothing.
use mathlib.Core.Path.{◌≡◌, sym, ◌∙◌}
use native.Mathlib.Omega.{arith}
use Rattle.std.specs.Prelude.{Ok}
use lib.ListN.{length}
use Rattle.bricks.proofs.Building.{shape_fine, masks_lent}
use Rattle.refills.specs.Rows.{Boxed}
use Rattle.refills.specs.Refills.{box_check}
use Rattle.refills.proofs.Boxes.{high_within}
use Rattle.refills.proofs.Checked.{natural, bricks_fine, low_in, high_in, counts_shaped, boxed, looked_at}
use Rattle.refills.proofs.refill.Goals as goal
use Rattle.refills.proofs.refill.Goals.{In_ok-check_box}

fine : (c : In_ok-check_box) → let a = c.args in box_check a.n (length a.cells.now) (length a.masks.now) a.low a.high ≡ Ok tt
fine c = sym c.check_box.ensures ∙ c.in_ok-check_box.was

pub corner_of-requires : goal.corner_of-requires
corner_of-requires c =
    let e = fine ((goal.at.corner_of-requires c).In_ok-check_box) in
    natural _ _ (counts_shaped _ _ _ _ _ e) _ (low_in _ _ _ _ _ e)

pub corner_of-requires-2 : goal.corner_of-requires-2
corner_of-requires-2 c =
    let e = fine ((goal.at.corner_of-requires-2 c).In_ok-check_box) in
    natural _ _ (counts_shaped _ _ _ _ _ e) _ (high_in _ _ _ _ _ e)

pub invariant_of-c : goal.invariant_of-c
invariant_of-c c =
    let e = fine ((goal.at.invariant_of-c c).In_ok-check_box) in
    let box : Boxed c.args.n c.corner_of.result c.corner_of-2.result = rw (c.corner_of.ensures, c.corner_of-2.ensures) (boxed _ _ _ _ _ e) in
    record { ordered = (box.x.0, box.y.0, box.z.0); small = (omega (arith, box.x), omega (arith, box.y), omega (arith, box.z)) }

pub refill_box-requires-clause-shaped : goal.refill_box-requires-clause-shaped
refill_box-requires-clause-shaped c =
    let e = fine ((goal.at.refill_box-requires-clause-shaped c).In_ok-check_box) in shape_fine _ _ _ (bricks_fine _ _ _ _ _ e)

pub refill_box-requires-clause-inside : goal.refill_box-requires-clause-inside
refill_box-requires-clause-inside c =
    let e = fine ((goal.at.refill_box-requires-clause-inside c).In_ok-check_box) in
    (rw c.corner_of-2.ensures (high_within _ _ _ (boxed _ _ _ _ _ e)), masks_lent _ _ _ (bricks_fine _ _ _ _ _ e))

pub returns : goal.returns
returns c =
    let a = c.args in
    looked_at a.n a.low a.high a.byte a.cells.now a.masks.now a.total _ _ _ (fine ((goal.at.returns c).In_ok-check_box))
    (rw (c.corner_of.ensures, c.corner_of-2.ensures) at c.refill_box.ensures)
