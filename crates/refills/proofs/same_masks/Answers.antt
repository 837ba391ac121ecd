-- `refills::same_masks` meets its contract: after d turns the first d masks are right and what is found is the sum of their ones. Assumes nothing.
use Prim.Native.Nat.{◌+◌}
use native.Mathlib.Omega.{arith}
use mathlib.Core.Path.{◌≡◌, sym, ap, ◌∙◌}
use lib.Count.{ones}
use Rattle.grids.proofs.Any.{any_zero}
use Rattle.grids.proofs.Shapes.{shaped}
use Rattle.bricks.specs.Bricks.{mask_at}
use Rattle.bricks.specs.Rows.{brick_number}
use Rattle.bricks.proofs.Sums.{sum_none, sum_grows}
use Rattle.bricks.proofs.Bricked.{bricks_shaped}
use Rattle.bricks.proofs.BrickRows.{row_mask}
use Rattle.bricks.proofs.Totals.{part_most}
use Rattle.refills.proofs.Agreeing.{part_wrong, part_right}
use Rattle.refills.proofs.same_masks.Goals as goal
use Rattle.refills.proofs.same_masks.Goals.{After-index_in-from, After-mask_of-mask}

-- the number of the first brick
first : (c : After-index_in-from) → let a = c.args in c.index_in-from.result ≡ brick_number a.g.counts a.at
first c = c.index_in-from.ensures ∙ rw c.bricks_of.ensures

-- the mask of a turn's brick is that of its number
turn : (c : After-mask_of-mask) → let a = c.args in c.mask_of-mask.result ≡ mask_at a.g.counts a.g.cells.now (c.index_in-from.result + c.loop-d.d)
turn c =
    let a = c.args in
    let from : c.index_in-from.result ≡ brick_number a.g.counts a.at = c.index_in-from.ensures ∙ rw c.bricks_of.ensures in
    row_mask a.g.counts a.at a.long c.requires.0 _ from c.loop-d.d (omega arith) a.g.cells.now _ c.mask_of-mask.ensures

pub bricks_of-requires : goal.bricks_of-requires
bricks_of-requires c = let s = shaped _ _ c.args.g.shaped in record { x = s.x; y = s.y; z = s.z }

pub index_in-from-requires-clause-small : goal.index_in-from-requires-clause-small
index_in-from-requires-clause-small c =
    let s = bricks_shaped c.args.g.counts _ (shaped _ _ c.args.g.shaped) in rw c.bricks_of.ensures (omega (arith, s.x.most, s.y.most, s.z.most))

pub loop-d-init : goal.loop-d-init
loop-d-init c = record { right = any_zero _; value = sym (sum_none _) }

pub returns-then-masks-from : goal.returns-then-masks-from
returns-then-masks-from c =
    let earlier = goal.at.returns-then-masks-from c in
    let a = c.args in
    rw (sym (first earlier.After-index_in-from)) (part_wrong a.g.counts a.g.cells.now a.masks.now _ a.long
    c.loop-d.d _ _ (omega arith) (turn earlier.After-mask_of-mask) c.if-masks-from.true)

pub overflow_add-found : goal.overflow_add-found
overflow_add-found c =
    let a = c.args in
    let s = bricks_shaped a.g.counts _ (shaped _ _ c.args.g.shaped) in
    let row = c.requires.0.x in
    let most = part_most a.g.counts a.g.cells.now c.index_in-from.result c.loop-d.d in
    omega (arith, s.x.most)

pub loop-d-preserved : goal.loop-d-preserved
loop-d-preserved c =
    let a = c.args in
    let from = c.index_in-from.result in
    let is = turn (goal.at.loop-d-preserved c).After-mask_of-mask in
    let done = c.loop-d.invariant in record {
      right = part_right a.g.counts a.g.cells.now a.masks.now from c.loop-d.d _ is c.if-masks-from.false done.right;
      value = sum_grows (λ i. ones (mask_at a.g.counts a.g.cells.now (from + i))) c.loop-d.d _ _ done.value (c.ones-found.ensures.0 ∙ ap ones is);
    }
