use mathlib.Core.Path.{◌≡◌}
use mathlib.Core.Bool.{false}
use lib.Count.{ones}
use Rattle.grids.specs.Marks.{any}
use Rattle.bricks.specs.Bricks.{bricks, mask_at}
use Rattle.refills.specs.Rows.{box_sum}
use Rattle.refills.proofs.Agreeing.{row_wrong}
use Rattle.refills.proofs.same_box.Given as goal

abbrev pub invariant-loop-r : goal.invariant-loop-r
invariant-loop-r l = record {
  right : any (row_wrong l.g.counts l.g.cells.now l.masks l.c.lo l.c.hi) l.r ≡ false;
  value : l.found ≡ box_sum (bricks l.g.counts) l.c.lo l.c.hi (λ k. ones (mask_at l.g.counts l.g.cells.now k)) l.r;
}
