use Prim.Native.Nat.{ℕ, ◌*◌, ◌<◌}
use mathlib.Core.Path.{◌≡◌}
use mathlib.Core.Bool.{false}
use Rattle.marks.specs.Rows.{gap}
use Rattle.marks.proofs.has_gap.Given as goal

abbrev pub invariant-loop-r : goal.invariant-loop-r
invariant-loop-r l = (k : ℕ) → k < l.g.counts.nx * l.r → gap l.g.counts l.g.cells.now k ≡ false
