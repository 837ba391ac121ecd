-- `refills::same_box` meets its contract: after r turns the masks of the first r rows are right and what is found is the sum of their ones. Assumes
-- nothing.
use Prim.Native.Nat.{◌+◌, ◌<◌}
use native.Mathlib.Omega.{arith}
use mathlib.Core.Path.{◌≡◌, refl, sym, ap}
use lib.Count.{ones}
use Rattle.grids.proofs.Any.{any_zero}
use Rattle.bricks.specs.declared.Slot.{Slot}
use Rattle.bricks.specs.Bricks.{bricks, mask_at}
use Rattle.bricks.specs.Rows.{brick_number}
use Rattle.bricks.proofs.Totals.{ones_most}
use Rattle.refills.specs.Rows.{rows, row_start, box_sum}
use Rattle.refills.proofs.Boxes.{box_of}
use Rattle.refills.proofs.Moves.{box_sum_none, box_sum_grows, box_sum_most}
use Rattle.refills.proofs.Agreeing.{differs_is, box_wrong, box_right, row_ones}
use Rattle.refills.proofs.same_box.Goals as goal
use Rattle.refills.proofs.same_box.Goals.{After-row, In-loop-r, In_ok-found}

-- the row of a turn is one of the box's
within : (c : In-loop-r) → c.loop-r.r < rows c.args.c.lo c.args.c.hi
within c = omega arith

-- the number of its first brick
starts : (c : After-row) → let a = c.args in brick_number a.g.counts c.row.result ≡ row_start (bricks a.g.counts) a.c.lo a.c.hi c.loop-r.r
starts c = ap (λ (k : Slot). brick_number c.args.g.counts k) c.row.ensures

pub loop-r-init : goal.loop-r-init
loop-r-init c = record { right = any_zero _; value = sym (box_sum_none _ _ _ _) }

pub returns-in_err-found : goal.returns-in_err-found
returns-in_err-found c =
    let earlier = goal.at.returns-in_err-found c in
    let a = c.args in
    rw c.from_residual.ensures (box_wrong a.g.counts a.g.cells.now a.masks.now a.c.lo a.c.hi c.loop-r.r _ _ 0 _ (starts earlier.After-row)
    c.width-wide.ensures c.same_masks.ensures (box_of (bricks a.g.counts) a.c c.requires.0) _ (within earlier.In-loop-r) c.in_err-found.was)

-- the ones of the row
row_sum_is :
    (c : In_ok-found) →
    let a = c.args in
    c.loop-r.found + c.in_ok-found.field-0 ≡ box_sum (bricks a.g.counts) a.c.lo a.c.hi (λ k. ones (mask_at a.g.counts a.g.cells.now k)) (c.loop-r.r + 1)
row_sum_is c =
    let a = c.args in
    let from : brick_number a.g.counts c.row.result ≡ row_start (bricks a.g.counts) a.c.lo a.c.hi c.loop-r.r =
    ap (λ (k : Slot). brick_number a.g.counts k) c.row.ensures in
    let so = row_ones a.g.counts a.g.cells.now a.masks.now a.c.lo a.c.hi c.loop-r.r _ _ _ _ from c.width-wide.ensures c.same_masks.ensures c.in_ok-found.was in
    box_sum_grows (bricks a.g.counts) a.c.lo a.c.hi (λ k. ones (mask_at a.g.counts a.g.cells.now k)) c.loop-r.r _ _ _ _ c.loop-r.invariant.value refl refl so

pub overflow_add-found : goal.overflow_add-found
overflow_add-found c =
    let a = c.args in
    let bx = c.requires.0.x in
    let sum = row_sum_is c in
    let most = box_sum_most (bricks a.g.counts) a.c.lo a.c.hi (λ k. ones (mask_at a.g.counts a.g.cells.now k)) (c.loop-r.r + 1) (omega arith)
    (λ k. ones_most a.g.counts a.g.cells.now _ _ _) in
    omega arith

pub loop-r-preserved : goal.loop-r-preserved
loop-r-preserved c =
    let a = c.args in
    let earlier = goal.at.loop-r-preserved c in record {
      right = box_right a.g.counts a.g.cells.now a.masks.now a.c.lo a.c.hi c.loop-r.r _ _ _ _ (starts earlier.After-row) c.width-wide.ensures
          c.same_masks.ensures c.in_ok-found.was c.loop-r.invariant.right;
      value = row_sum_is earlier.In_ok-found;
    }

pub returns : goal.returns
returns c =
    let a = c.args in
    let all : c.loop-r.r ≡ rows a.c.lo a.c.hi = omega arith in
    let box = box_of (bricks a.g.counts) a.c c.requires.0 in
    rw (c.loop-r.invariant.value, sym all, differs_is a.g.counts a.g.cells.now a.masks.now a.c.lo a.c.hi box, sym all, c.loop-r.invariant.right)
