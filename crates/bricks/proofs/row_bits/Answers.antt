-- Beyond the grid all four bits are 0; inside, the row's bytes up to four, or up to the grid's end. Assumes nothing.
use Prim.Native.Nat.{◌-◌}
use mathlib.Core.Path.{◌∙◌}
use native.Mathlib.Omega.{arith}
use lib.ListN.{length}
use Rattle.grids.proofs.Shapes.{shaped}
use Rattle.bricks.proofs.Rows.{RowBounds, row_bounds, row_beyond_y, row_beyond_z, row_is}
use Rattle.bricks.proofs.row_bits.Goals as goal
use Rattle.bricks.proofs.row_bits.Goals.{Else-n-c-2, then-n-c-via-then-n-c, then-n-c-via-else-n-c+then-n-c-2}

pub returns-then-n-c : goal.returns-then-n-c
returns-then-n-c c =
    let a = c.args in
    elim c.then-n-c.branch [
      | then-n-c-via-then-n-c w ↦ row_beyond_y a.g.counts a.g.cells.now a.c.x a.c.y a.c.z w.if-n-c.true
      | then-n-c-via-else-n-c+then-n-c-2 w ↦ row_beyond_z a.g.counts a.g.cells.now a.c.x a.c.y a.c.z w.if-n-c-2.true
    ]

-- past both tests the row lies within the grid
within : (c : Else-n-c-2) → let a = c.args in RowBounds a.g.counts (length a.g.cells.now) a.c.y a.c.z
within c =
    let a = c.args in
    row_bounds a.g.counts (length a.g.cells.now) a.c.y a.c.z (shaped _ _ c.args.g.shaped) c.if-n-c.false c.if-n-c-2.false

pub index_in-from-requires-clause-small : goal.index_in-from-requires-clause-small
index_in-from-requires-clause-small c = let s = shaped _ _ c.args.g.shaped in omega (arith, s.x.most, s.y.most, s.z.most)

pub few_bits-requires : goal.few_bits-requires
few_bits-requires c =
    let b = within ((goal.at.few_bits-requires c).Else-n-c-2) in
    omega (arith, c.index_in-from.ensures)

pub returns-then-long-lt4 : goal.returns-then-long-lt4
returns-then-long-lt4 c =
    let a = c.args in
    rw c.index_in-from.ensures at c.few_bits.ensures
    ∙ row_is a.g.counts a.g.cells.now a.c.x a.c.y a.c.z (a.g.counts.nx - a.c.x) (omega arith) (omega arith) (λ d ge lt. omega arith)
    c.if-n-c.false c.if-n-c-2.false

pub four_bits-requires : goal.four_bits-requires
four_bits-requires c =
    let b = within ((goal.at.four_bits-requires c).Else-n-c-2) in
    omega (arith, c.index_in-from.ensures)

pub returns : goal.returns
returns c =
    let a = c.args in
    rw c.index_in-from.ensures at c.four_bits.ensures
    ∙ row_is a.g.counts a.g.cells.now a.c.x a.c.y a.c.z 4 (omega arith) (omega arith) (λ d ge lt. absurd (omega arith))
    c.if-n-c.false c.if-n-c-2.false
