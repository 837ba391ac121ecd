-- `tripod::twice` meets its contract: a short difference doubled fits, and is read back as it is. Assumes nothing.
use Prim.Native.Nat.{◌*◌}
use native.Mathlib.Omega.{arith}
use Rattle.cells.proofs.Machine.{nat_held}
use Rattle.tripod.proofs.twice.Goals as goal

pub returns : goal.returns
returns c =
    let d = c.args.d in
    let s = c.requires in
    λ i. record { a2 = nat_held (2 * d.a) (omega arith) i; b2 = nat_held (2 * d.b) (omega arith) i; c2 = nat_held (2 * d.c) (omega arith) i }
