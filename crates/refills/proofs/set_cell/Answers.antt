-- `refills::set_cell` meets its contract: the mask of the cell's brick is tested, its bit turned, and the total moves with its ones; each way out is
-- a law. Assumes nothing.
use Prim.Native.Nat.{ℕ, ◌/◌, ◌≤◌, ◌<◌}
use native.Mathlib.Omega.{arith}
use mathlib.Core.Path.{◌≡◌, sym, ap, ◌∙◌}
use lib.ListN.{length}
use Rattle.grids.specs.Grid.{size}
use Rattle.grids.proofs.Shapes.{shaped}
use Rattle.bricks.specs.Bricks.{mask_of, brick_there}
use Rattle.bricks.proofs.Bricked.{bricks_shaped}
use Rattle.refills.specs.Refills.{bad_total}
use Rattle.refills.proofs.Boxes.{box_of_one}
use Rattle.refills.proofs.Single.{cell_below, there_below}
use Rattle.refills.proofs.Keeping.{total_fits}
use Rattle.refills.proofs.Changing.{refused_mask, refused_total, cell_differs, cell_ones, cell_set}
use Rattle.refills.proofs.set_cell.Goals as goal
use Rattle.refills.proofs.set_cell.Goals.{After-bad_total, After-mask_of-mask, Else-bad_total}

-- the number of the cell's brick
numbered : (c : After-mask_of-mask) →
    let a = c.args in c.index_in-k.result ≡ brick_there a.n a.at.x
    a.at.y a.at.z
numbered c = c.index_in-k.ensures ∙ rw (c.bricks_of.ensures, c.brick_of-b.ensures)

-- its mask by the bytes
masked : (c : After-mask_of-mask) → let a = c.args in c.mask_of-mask.result ≡ mask_of a.n a.cells.now (a.at.x / 4) (a.at.y / 4) (a.at.z / 4)
masked c = c.mask_of-mask.ensures ∙ rw c.brick_of-b.ensures

-- it is lent, and its bytes' number fits
lent : (c : After-mask_of-mask) → let a = c.args in
    (c.index_in-k.result < length a.masks.now) × (c.index_in-k.result < 1073741824)
lent c =
    let a = c.args in
    let below = there_below a.n a.at (box_of_one _ _ c.requires.inside.0) in
    let few = (bricks_shaped a.n _ (shaped _ _ c.requires.shaped)).size_most in
    let number = numbered c in
    (omega (arith, c.requires.inside.1), omega arith)

pub returns-then-masks-k : goal.returns-then-masks-k
returns-then-masks-k c =
    let earlier = goal.at.returns-then-masks-k c in
    let a = c.args in
    let box = box_of_one a.n a.at c.requires.inside.0 in
    refused_mask a.n a.at a.at a.byte a.cells.now a.masks.now a.total
    (cell_differs a.n a.at box a.cells.now a.masks.now (shaped _ _ c.requires.shaped) _ _ (numbered earlier.After-mask_of-mask)
    (masked earlier.After-mask_of-mask) c.if-masks-k.true)

-- what the test of the total answered, by the number of cells
judged : (c : After-bad_total) →
    let a = c.args in c.bad_total.result ≡ bad_total
    a.total c.ones-old.result (size a.n)
judged c =
    c.bad_total.ensures ∙ ap (λ (k : ℕ). bad_total c.args.total c.ones-old.result k) (shaped _ _ c.requires.shaped).bytes_are

pub returns-then-bad_total : goal.returns-then-bad_total
returns-then-bad_total c =
    let earlier = goal.at.returns-then-bad_total c in
    let a = c.args in
    let box = box_of_one a.n a.at c.requires.inside.0 in
    refused_total a.n a.at a.at a.byte a.cells.now a.masks.now a.total _
    (cell_ones a.n a.at box a.cells.now a.masks.now (shaped _ _ c.requires.shaped) _ _ (numbered earlier.After-mask_of-mask)
    (masked earlier.After-mask_of-mask) c.if-masks-k.false _ c.ones-old.ensures.0) (sym (judged earlier.After-bad_total) ∙ c.if-bad_total.true)

-- past both tests the total lies between those ones and the number of cells
fits : (c : Else-bad_total) → let a = c.args in
    (c.ones-old.result ≤ a.total) × (a.total ≤ size a.n)
fits c =
    let is : c.bad_total.result ≡ bad_total c.args.total c.ones-old.result (size c.args.n) =
    c.bad_total.ensures ∙ ap (λ (k : ℕ). bad_total c.args.total c.ones-old.result k) (shaped _ _ c.requires.shaped).bytes_are in
    total_fits _ _ _ (sym is ∙ c.if-bad_total.false)

pub bounds-cells-index_in : goal.bounds-cells-index_in
bounds-cells-index_in c =
    let a = c.args in
    let box = box_of_one a.n a.at c.requires.inside.0 in
    omega (arith, c.index_in.ensures, cell_below a.n a.at box a.cells.now (shaped _ _ c.requires.shaped))

pub bounds-masks-k-2 : goal.bounds-masks-k-2
bounds-masks-k-2 c = (lent ((goal.at.bounds-masks-k-2 c).After-mask_of-mask)).0

pub returns : goal.returns
returns c =
    let earlier = goal.at.returns c in
    let a = c.args in
    let box = box_of_one a.n a.at c.requires.inside.0 in
    cell_set a.n a.at box a.cells.now a.masks.now (shaped _ _ c.requires.shaped) _ _ (numbered earlier.After-mask_of-mask)
    (masked earlier.After-mask_of-mask) c.if-masks-k.false a.byte a.total _ _ _ _ _ c.requires.inside.1 c.index_in.ensures
    c.bit_in_brick.ensures.0 c.with_bit-turned.ensures c.ones-old.ensures.0 (sym (judged earlier.After-bad_total) ∙ c.if-bad_total.false) c.ones.ensures.0
