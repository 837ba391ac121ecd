use Prim.Native.Nat.{◌+◌}
use mathlib.Core.Path.{◌≡◌}
use mathlib.Core.Bool.{false}
use lib.Count.{ones}
use Rattle.grids.specs.Marks.{any}
use Rattle.bricks.specs.Sums.{sum}
use Rattle.bricks.specs.Bricks.{mask_at}
use Rattle.refills.specs.Refills.{differs}
use Rattle.refills.proofs.same_masks.Given as goal

abbrev pub invariant-loop-d : goal.invariant-loop-d
invariant-loop-d l = record {
  right : any (λ i. differs l.g.counts l.g.cells.now l.masks (l.from + i)) l.d ≡ false;
  value : l.found ≡ sum (λ i. ones (mask_at l.g.counts l.g.cells.now (l.from + i))) l.d;
}
