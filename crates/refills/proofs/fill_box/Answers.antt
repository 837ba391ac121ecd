-- `refills::fill_box` meets its contract: after r turns the first r rows of the box have the byte. Assumes nothing.
use Prim.Native.Nat.{◌<◌}
use native.Mathlib.Omega.{arith}
use mathlib.Core.Path.{◌≡◌, ◌∙◌}
use Rattle.refills.specs.Rows.{rows, row_start}
use Rattle.refills.proofs.Boxes.{box_of}
use Rattle.refills.proofs.BoxRows.{row_fits, box_more}
use Rattle.refills.proofs.fill_box.Goals as goal
use Rattle.refills.proofs.fill_box.Goals.{After-index_in-from, In-loop-r}

-- the row of a turn is one of the box's
within : (c : In-loop-r) → c.loop-r.r < rows c.args.c.lo c.args.c.hi
within c = omega arith

-- the number of its first cell
starts : (c : After-index_in-from) → let a = c.args in c.index_in-from.result ≡ row_start a.n a.c.lo a.c.hi c.loop-r.r
starts c = c.index_in-from.ensures ∙ rw c.row.ensures

pub fill_row-requires : goal.fill_row-requires
fill_row-requires c =
    let earlier = goal.at.fill_row-requires c in
    let a = c.args in
    let fits = row_fits a.n a.c.lo a.c.hi (box_of a.n a.c c.requires.0) c.loop-r.r (within earlier.In-loop-r) in
    let from = starts earlier.After-index_in-from in
    omega arith

pub loop-r-preserved : goal.loop-r-preserved
loop-r-preserved c =
    let earlier = goal.at.loop-r-preserved c in
    let a = c.args in
    box_more a.n a.c.lo a.c.hi (box_of a.n a.c c.requires.0) (λ _. a.byte) c.loop-r.r _ _ _ (within earlier.In-loop-r) c.loop-r.invariant
    (rw (starts earlier.After-index_in-from, c.width-wide.ensures) at c.fill_row.ensures)

pub returns : goal.returns
returns c = let a = c.args in let e : c.loop-r.r ≡ rows a.c.lo a.c.hi = omega arith in rw e at c.loop-r.invariant
