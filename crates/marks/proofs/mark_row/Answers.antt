-- `marks::mark_row` meets its contract: the window shows the rows beside row r, so it tells the row's marks. Assumes nothing.
use native.Mathlib.Omega.{arith}
use Rattle.grids.proofs.Shapes.{shaped, row_within}
use Rattle.cells.proofs.Fills.{filled_as}
use Rattle.marks.proofs.RowMarks.{put_marks}
use Rattle.marks.proofs.mark_row.Goals as goal

pub overflow_mul-n : goal.overflow_mul-n
overflow_mul-n c = let h = row_within _ _ _ (shaped _ _ c.requires.shaped) c.requires.row_inside in omega arith

pub put-requires : goal.put-requires
put-requires c = rw c.look.ensures.long (row_within _ _ _ (shaped _ _ c.requires.shaped) c.requires.row_inside)

pub returns : goal.returns
returns c =
    let a = c.args in
    let long = c.look.ensures.long in
    filled_as _ _ _ _ _ _ (omega arith)
    (put_marks a.n a.cells.now (shaped _ _ c.requires.shaped) a.r c.requires.row_inside _ c.look.ensures.solid_where (rw long at c.look.new.self.framed))
    (rw long at c.put.ensures)
