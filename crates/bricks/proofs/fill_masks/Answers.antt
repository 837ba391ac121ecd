-- `bricks::fill_masks` meets its contract: after d turns the first d masks are filled and what is found is the sum of their ones. Assumes nothing.
use Prim.Native.Nat.{◌+◌}
use native.Mathlib.Omega.{arith}
use mathlib.Core.Path.{◌≡◌, sym, ap, ◌∙◌}
use lib.Count.{ones}
use Rattle.cells.proofs.Fills.{filled_none, filled_more}
use Rattle.grids.proofs.Shapes.{shaped}
use Rattle.bricks.specs.Bricks.{mask_at}
use Rattle.bricks.specs.Rows.{brick_number}
use Rattle.bricks.proofs.Sums.{sum_none, sum_grows}
use Rattle.bricks.proofs.Bricked.{bricks_shaped}
use Rattle.bricks.proofs.BrickRows.{row_number_below, row_mask}
use Rattle.bricks.proofs.fill_masks.Goals as goal
use Rattle.bricks.proofs.fill_masks.Goals.{After-index_in-from}

-- the number of the first brick
first : (c : After-index_in-from) → let a = c.args in c.index_in-from.result ≡ brick_number a.g.counts a.at
first c = c.index_in-from.ensures ∙ rw c.bricks_of.ensures

pub bricks_of-requires : goal.bricks_of-requires
bricks_of-requires c = let s = shaped _ _ c.args.g.shaped in record { x = s.x; y = s.y; z = s.z }

pub index_in-from-requires-clause-small : goal.index_in-from-requires-clause-small
index_in-from-requires-clause-small c =
    let s = bricks_shaped c.args.g.counts _ (shaped _ _ c.args.g.shaped) in rw c.bricks_of.ensures (omega (arith, s.x.most, s.y.most, s.z.most))

pub loop-d-init : goal.loop-d-init
loop-d-init c = record { filled = filled_none _ _ _ _ (omega arith); value = sym (sum_none _); most = omega arith }

pub loop-d-preserved : goal.loop-d-preserved
loop-d-preserved c =
    let a = c.args in
    let from = c.index_in-from.result in
    let e = first ((goal.at.loop-d-preserved c).After-index_in-from) in
    let there = row_number_below a.g.counts a.at a.long c.requires.0 from e c.loop-d.d (omega arith) in
    let is = row_mask a.g.counts a.at a.long c.requires.0 from e c.loop-d.d (omega arith) a.g.cells.now _ c.mask_of-mask.ensures in
    let done = c.loop-d.invariant in record {
      filled = filled_more _ from (from + c.loop-d.d) _ _ _ _ (omega arith) (omega arith) (omega arith) is done.filled;
      value = sum_grows (λ i. ones (mask_at a.g.counts a.g.cells.now (from + i))) c.loop-d.d _ _ done.value (c.ones-found.ensures.0 ∙ ap ones is);
      most = omega arith;
    }
