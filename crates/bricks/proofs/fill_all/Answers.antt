-- `bricks::fill_all` meets its contract: after r turns the first r rows of bricks have their masks, and what is found is the sum of their ones. Assumes
-- nothing.
use Prim.Native.Nat.{◌*◌, ◌/◌, ◌%◌, ◌≤◌, ◌<◌}
use native.Mathlib.Omega.{arith}
use mathlib.Core.Path.{◌≡◌, sym, ap, ◌∙◌}
use lib.Count.{ones}
use Rattle.cells.proofs.Fills.{filled_none}
use Rattle.grids.proofs.Shapes.{shaped}
use Rattle.bricks.specs.Sums.{sum}
use Rattle.bricks.specs.Bricks.{bricks, mask_at}
use Rattle.bricks.specs.Rows.{brick_number}
use Rattle.bricks.proofs.Sums.{sum_none}
use Rattle.bricks.proofs.Bricked.{bricks_shaped}
use Rattle.bricks.proofs.BrickRows.{row_there, row_first, row_filled, row_summed}
use Rattle.bricks.proofs.fill_all.Goals as goal
use Rattle.bricks.proofs.fill_all.Goals.{In-loop-r}

pub bricks_of-b-requires : goal.bricks_of-b-requires
bricks_of-b-requires c = let s = shaped _ _ c.args.g.shaped in record { x = s.x; y = s.y; z = s.z }

pub loop-r-init : goal.loop-r-init
loop-r-init c =
    let none : c.bricks_of-b.result.nx * 0 ≡ 0 = omega arith in
    record { filled = filled_none _ _ _ _ (omega arith); value = sym (ap (sum _) none ∙ sum_none _); most = omega arith }

-- the row of a turn is one of theirs
within : (c : In-loop-r) → let n = c.args.g.counts in c.loop-r.r < (bricks n).ny * (bricks n).nz
within c =
    let b = c.bricks_of-b in
    let lt : c.loop-r.r < b.result.ny * b.result.nz = omega arith in
    rw b.ensures at lt

-- few are
counted : (c : In-loop-r) → c.loop-r.r < 1048576
counted c = let s = bricks_shaped c.args.g.counts _ (shaped _ _ c.args.g.shaped) in let lt = within c in omega (arith, s.rows_most)

narrow : (c : In-loop-r) → c.bricks_of-b.result.nx ≤ 1024
narrow c = rw c.bricks_of-b.ensures (bricks_shaped c.args.g.counts _ (shaped _ _ c.args.g.shaped)).x.most

-- the number of its first brick
starts : (c : In-loop-r) → let k = c.bricks_of-b.result in
    brick_number c.args.g.counts (record { x = 0; y = c.loop-r.r % k.ny; z = c.loop-r.r / k.ny }) ≡ k.nx * c.loop-r.r
starts c = rw c.bricks_of-b.ensures (row_first c.args.g.counts _ (shaped _ _ c.args.g.shaped) c.loop-r.r (within c))

pub fill_masks-found-requires : goal.fill_masks-found-requires
fill_masks-found-requires c =
    let a = c.args in
    let here = (goal.at.fill_masks-found-requires c).In-loop-r in
    let there = row_there a.g.counts _ (shaped _ _ c.args.g.shaped) c.loop-r.r (within here) in
    (rw c.bricks_of-b.ensures there, omega arith)

pub overflow_add-found : goal.overflow_add-found
overflow_add-found c =
    let here = (goal.at.overflow_add-found c).In-loop-r in
    let wide = narrow here in
    let few = counted here in
    omega arith

pub loop-r-preserved : goal.loop-r-preserved
loop-r-preserved c =
    let a = c.args in
    let here = (goal.at.loop-r-preserved c).In-loop-r in
    let at = starts here in
    let wide = narrow here in
    let f = c.fill_masks-found.ensures in
    let done = c.loop-r.invariant in record {
      filled = row_filled (mask_at a.g.counts a.g.cells.now) _ c.loop-r.r _ _ _ _ at done.filled f.filled;
      value = row_summed (λ k. ones (mask_at a.g.counts a.g.cells.now k)) _ c.loop-r.r _ _ _ at done.value f.value.0;
      most = omega arith;
    }
