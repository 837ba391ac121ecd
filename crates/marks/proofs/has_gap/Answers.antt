-- `marks::has_gap` meets its contract: after r turns no cell of the first r rows is a gap. Assumes nothing.
use Prim.Native.Nat.{◌*◌}
use native.Mathlib.Omega.{arith}
use mathlib.Core.Path.{◌≡◌, sym, ◌∙◌}
use Rattle.grids.proofs.Any.{any_none}
use Rattle.grids.proofs.Shapes.{shaped, row_within}
use Rattle.marks.proofs.RowMarks.{no_gap_more, some_gap}
use Rattle.marks.proofs.has_gap.Goals as goal

pub returns-then-gap_in_row : goal.returns-then-gap_in_row
returns-then-gap_in_row c =
    let fits = row_within _ _ _ (shaped _ _ c.args.g.shaped) c.loop-r-test.true in
    sym (some_gap c.args.g.counts c.args.g.cells.now c.loop-r.r fits (sym c.gap_in_row.ensures ∙ c.if-gap_in_row.true))

pub loop-r-preserved : goal.loop-r-preserved
loop-r-preserved c = no_gap_more _ _ c.loop-r.r c.loop-r.invariant (sym c.gap_in_row.ensures ∙ c.if-gap_in_row.false)

pub returns : goal.returns
returns c =
    let a = c.args in
    let e : c.loop-r.r ≡ a.g.counts.ny * a.g.counts.nz = omega arith in
    let all = (shaped _ _ c.args.g.shaped).by_rows in
    sym (any_none _ _ (rw (e, sym all) at c.loop-r.invariant))
