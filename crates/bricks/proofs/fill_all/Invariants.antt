use Prim.Native.Nat.{◌*◌, ◌≤◌}
use mathlib.Core.Path.{◌≡◌}
use lib.Count.{ones}
use Rattle.cells.specs.Fills.{Filled}
use Rattle.bricks.specs.Sums.{sum}
use Rattle.bricks.specs.Bricks.{mask_at}
use Rattle.bricks.proofs.fill_all.Given as goal

abbrev pub invariant-loop-r : goal.invariant-loop-r
invariant-loop-r l = record {
  filled : Filled (mask_at l.g.counts l.g.cells.now) 0 (l.wide * l.r) l.initial.masks l.masks;
  value : l.found ≡ sum (λ k. ones (mask_at l.g.counts l.g.cells.now k)) (l.wide * l.r);
  most : l.found ≤ 65536 * l.r;
}
