use Prim.Native.Nat.{◌*◌, ◌≤◌}
use mathlib.Core.Path.{◌≡◌}
use lib.Count.{ones}
use Rattle.bricks.specs.Bricks.{bricks, mask_at}
use Rattle.refills.specs.Rows.{BoxFilled, box_sum}
use Rattle.refills.proofs.fill_brick_box.Given as goal

abbrev pub invariant-loop-r : goal.invariant-loop-r
invariant-loop-r l = record {
  box_filled : BoxFilled (bricks l.g.counts) l.c.lo l.c.hi (mask_at l.g.counts l.g.cells.now) l.r l.initial.masks l.masks;
  value : l.found ≡ box_sum (bricks l.g.counts) l.c.lo l.c.hi (λ k. ones (mask_at l.g.counts l.g.cells.now k)) l.r;
  most : l.found ≤ 65536 * l.r;
}
