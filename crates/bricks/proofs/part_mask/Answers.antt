-- After r turns the mask has the bits of the first r rows of the brick, four a row. Assumes nothing.
use Prim.Native.Nat.{◌+◌, ◌*◌}
use native.Mathlib.Omega.{arith}
use mathlib.Core.Path.{◌≡◌, ap, ◌∙◌}
use Rattle.bricks.specs.Sums.{number_of}
use Rattle.bricks.specs.Bricks.{solid_in, mask_of}
use Rattle.bricks.proofs.Words.{grown, grown_fits}
use Rattle.bricks.proofs.Rows.{row_in_brick}
use Rattle.bricks.proofs.part_mask.Goals as goal

pub overflow_add-mask : goal.overflow_add-mask
overflow_add-mask c =
    let a = c.args in
    grown_fits (solid_in a.g.counts a.g.cells.now a.bx a.by a.bz) (4 * c.loop-r.r) 4 _ _ (omega arith) c.loop-r.invariant
    (row_in_brick a.g.counts a.g.cells.now a.bx a.by a.bz c.loop-r.r c.row_bits.ensures)

pub loop-r-preserved : goal.loop-r-preserved
loop-r-preserved c =
    let a = c.args in
    let bits = solid_in a.g.counts a.g.cells.now a.bx a.by a.bz in
    let next : 4 * c.loop-r.r + 4 ≡ 4 * (c.loop-r.r + 1) = omega arith in
    grown bits (4 * c.loop-r.r) 4 _ _ (omega arith) c.loop-r.invariant
    (row_in_brick a.g.counts a.g.cells.now a.bx a.by a.bz c.loop-r.r c.row_bits.ensures)
    ∙ ap (number_of bits) next

pub returns : goal.returns
unfolding mask_of
returns c =
    let a = c.args in
    let all : 4 * c.loop-r.r ≡ 64 = omega arith in
    c.loop-r.invariant ∙ ap (number_of (solid_in a.g.counts a.g.cells.now a.bx a.by a.bz)) all
