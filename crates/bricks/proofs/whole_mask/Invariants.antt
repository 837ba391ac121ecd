use Prim.Native.Nat.{◌*◌}
use mathlib.Core.Path.{◌≡◌}
use Rattle.bricks.specs.Sums.{number_of}
use Rattle.bricks.specs.Rows.{solid_from}
use Rattle.bricks.proofs.whole_mask.Given as goal

abbrev pub invariant-loop-r : goal.invariant-loop-r
invariant-loop-r l = l.mask ≡ number_of (solid_from l.cells l.from l.row l.layer) (4 * l.r)
