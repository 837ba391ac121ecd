use Prim.Native.Nat.{◌+◌, ◌*◌, ◌≤◌}
use mathlib.Core.Path.{◌≡◌}
use lib.Count.{ones}
use Rattle.cells.specs.Fills.{Filled}
use Rattle.bricks.specs.Sums.{sum}
use Rattle.bricks.specs.Bricks.{mask_at}
use Rattle.bricks.proofs.fill_masks.Given as goal

abbrev pub invariant-loop-d : goal.invariant-loop-d
invariant-loop-d l = record {
  filled : Filled (mask_at l.g.counts l.g.cells.now) l.from (l.from + l.d) l.initial.masks l.masks;
  value : l.found ≡ sum (λ i. ones (mask_at l.g.counts l.g.cells.now (l.from + i))) l.d;
  most : l.found ≤ 64 * l.d;
}
