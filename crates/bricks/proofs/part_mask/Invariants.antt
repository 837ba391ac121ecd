use Prim.Native.Nat.{◌*◌}
use mathlib.Core.Path.{◌≡◌}
use Rattle.bricks.specs.Sums.{number_of}
use Rattle.bricks.specs.Bricks.{solid_in}
use Rattle.bricks.proofs.part_mask.Given as goal

abbrev pub invariant-loop-r : goal.invariant-loop-r
invariant-loop-r l = l.mask ≡ number_of (solid_in l.g.counts l.g.cells.now l.bx l.by l.bz) (4 * l.r)
