-- `marks::mark_rows` meets its contract: after r turns the first r rows are marked and the others as at entry.
-- Marking changes no cell's solidity, so the next row's marks are those of the entry. Assumes nothing.
use Prim.Native.Nat.{◌+◌, ◌*◌}
use native.Mathlib.Omega.{arith}
use mathlib.Core.Path.{◌≡◌, refl, sym}
use lib.ListN.{length}
use Rattle.grids.specs.Marks.{marked_byte, marked}
use Rattle.grids.proofs.Shapes.{shaped}
use Rattle.cells.proofs.Fills.{filled_then, filled_whole}
use Rattle.grids.proofs.Marking.{marked_byte_same}
use Rattle.marks.proofs.RowMarks.{filled_same}
use Rattle.marks.proofs.mark_rows.Goals as goal

pub loop-r-preserved : goal.loop-r-preserved
loop-r-preserved c =
    let a = c.args in
    let r = c.loop-r.r in
    let done = c.loop-r.invariant in
    let e : a.n.nx * r + a.n.nx ≡ a.n.nx * (r + 1) = omega arith in
    filled_then _ (marked_byte 3 a.n c.loop-r.cells) 0 (a.n.nx * r) (a.n.nx * (r + 1)) _ _ _ (omega arith) (omega arith)
    (λ k ge lt. marked_byte_same 3 a.n c.loop-r.cells a.cells.now k (filled_same 3 a.n 0 (a.n.nx * r) _ _ done) (done.after k ge))
    done (rw e at c.mark_row.ensures)

pub returns : goal.returns
unfolding marked
returns c =
    let a = c.args in
    let e : c.loop-r.r ≡ a.n.ny * a.n.nz = omega arith in
    let all = (shaped _ _ c.requires).by_rows in
    filled_whole _ (length a.cells.now) _ _ refl (rw (e, sym all) at c.loop-r.invariant)
