-- The place after a step that is made where a test says so. Assumes nothing.
use mathlib.Core.Path.{◌≡◌}
use mathlib.Core.Bool.{Bool, true, false, cond}
use Prim.Native.Nat.{◌+◌, ◌*◌}
use native.Mathlib.Omega.{arith}
use Rattle.lines.specs.Steps.{Axis, Steps, same}
use Rattle.lines.proofs.Steps.{bump}
use Rattle.tripod.specs.Tripod.{bit}

-- the place after a step that is made where `go` says so
abbrev pub where_to : Bool → Axis → Steps → Steps
where_to go n t = cond go (bump t n) t

pub where_at : (go : Bool) (n : Axis) (t : Steps) (a : Axis) → where_to go n t a ≡ t a + bit go * same n a
where_at true n t a = omega arith
where_at false n t a = omega arith
