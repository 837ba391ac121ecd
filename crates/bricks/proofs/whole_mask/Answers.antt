-- After r turns the mask has the bits of the first r rows of the brick, four a row. Assumes nothing.
use Prim.Native.Nat.{◌+◌, ◌*◌}
use native.Mathlib.Omega.{arith}
use mathlib.Core.Path.{◌≡◌, ap, ◌∙◌}
use Rattle.bricks.specs.Sums.{number_of}
use Rattle.bricks.specs.Rows.{solid_from}
use Rattle.bricks.proofs.Words.{grown, grown_fits}
use Rattle.bricks.proofs.Rows.{row_in_whole}
use Rattle.bricks.proofs.whole_mask.Goals as goal

pub overflow_add-mask : goal.overflow_add-mask
overflow_add-mask c =
    let a = c.args in
    grown_fits (solid_from a.cells.now a.from a.row a.layer) (4 * c.loop-r.r) 4 _ _ (omega arith) c.loop-r.invariant
    (row_in_whole a.cells.now a.from a.row a.layer c.loop-r.r c.four_bits.ensures)

pub loop-r-preserved : goal.loop-r-preserved
loop-r-preserved c =
    let a = c.args in
    let bits = solid_from a.cells.now a.from a.row a.layer in
    let next : 4 * c.loop-r.r + 4 ≡ 4 * (c.loop-r.r + 1) = omega arith in
    grown bits (4 * c.loop-r.r) 4 _ _ (omega arith) c.loop-r.invariant
    (row_in_whole a.cells.now a.from a.row a.layer c.loop-r.r c.four_bits.ensures)
    ∙ ap (number_of bits) next
