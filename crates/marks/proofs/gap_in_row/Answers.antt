-- `marks::gap_in_row` meets its contract: the window shows the rows beside row r, so it tells the row's gaps. Assumes nothing.
use native.Mathlib.Omega.{arith}
use mathlib.Core.Path.{◌∙◌}
use Rattle.grids.proofs.Shapes.{shaped, row_within}
use Rattle.marks.proofs.RowMarks.{gap_row}
use Rattle.marks.proofs.gap_in_row.Goals as goal

pub overflow_mul-g : goal.overflow_mul-g
overflow_mul-g c = let h = row_within _ _ _ (shaped _ _ c.args.g.shaped) c.requires in omega arith

pub gap_by-requires : goal.gap_by-requires
gap_by-requires c = rw c.look.ensures.long (row_within _ _ _ (shaped _ _ c.args.g.shaped) c.requires)

pub returns : goal.returns
returns c =
    let a = c.args in
    let long = c.look.ensures.long in
    (rw long at c.gap_by.ensures)
    ∙ gap_row a.g.counts a.g.cells.now (shaped _ _ c.args.g.shaped) a.r c.requires _ c.look.ensures.solid_where (rw long at c.look.new.self.framed)
