-- `refills::fill_brick_box` meets its contract: after r turns the first r rows of the box have their masks, and what is found is the sum of their ones.
-- Assumes nothing.
use Prim.Native.Nat.{◌<◌}
use native.Mathlib.Omega.{arith}
use mathlib.Core.Path.{◌≡◌, sym, ap}
use lib.Count.{ones}
use Rattle.bricks.specs.declared.Slot.{Slot}
use Rattle.bricks.specs.Bricks.{bricks, mask_at}
use Rattle.bricks.specs.Rows.{brick_number}
use Rattle.refills.specs.Rows.{rows, row_start}
use Rattle.refills.proofs.Boxes.{box_of}
use Rattle.refills.proofs.Moves.{box_sum_none, box_sum_grows}
use Rattle.refills.proofs.BoxRows.{box_none, box_more}
use Rattle.refills.proofs.fill_brick_box.Goals as goal
use Rattle.refills.proofs.fill_brick_box.Goals.{After-row, In-loop-r}

-- the row of a turn is one of the box's
within : (c : In-loop-r) → c.loop-r.r < rows c.args.c.lo c.args.c.hi
within c = omega arith

-- the number of its first brick
starts : (c : After-row) → let a = c.args in brick_number a.g.counts c.row.result ≡ row_start (bricks a.g.counts) a.c.lo a.c.hi c.loop-r.r
starts c = ap (λ (k : Slot). brick_number c.args.g.counts k) c.row.ensures

pub loop-r-init : goal.loop-r-init
loop-r-init c =
    let a = c.args in
    record { box_filled = box_none (bricks a.g.counts) a.c.lo a.c.hi (box_of _ a.c c.requires.0) _ _; value = sym (box_sum_none _ _ _ _); most = omega arith }

pub loop-r-preserved : goal.loop-r-preserved
loop-r-preserved c =
    let earlier = goal.at.loop-r-preserved c in
    let a = c.args in
    let box = box_of (bricks a.g.counts) a.c c.requires.0 in
    let bx = box.x in
    let from = starts earlier.After-row in
    let w = c.width-wide.ensures in
    let f = c.fill_masks-found.ensures in
    let done = c.loop-r.invariant in record {
      box_filled = box_more (bricks a.g.counts) a.c.lo a.c.hi box (mask_at a.g.counts a.g.cells.now) c.loop-r.r _ _ _ (within earlier.In-loop-r) done.box_filled
          (rw (from, w) at f.filled);
      value = box_sum_grows (bricks a.g.counts) a.c.lo a.c.hi (λ k. ones (mask_at a.g.counts a.g.cells.now k)) c.loop-r.r _ _ _ _ done.value from w f.value.0;
      most = omega arith;
    }

pub returns-clause-box_filled : goal.returns-clause-box_filled
returns-clause-box_filled c =
    let a = c.args in let e : c.loop-r.r ≡ rows a.c.lo a.c.hi = omega arith in rw e at c.loop-r.invariant.box_filled
