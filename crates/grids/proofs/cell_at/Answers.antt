-- `grids::cell_at` meets its contract: a place below 2^30 has small quotients and rests. Assumes nothing.
use Prim.Native.Nat.{◌*◌, ◌/◌, ◌%◌, ◌^◌, ◌≤◌, ◌<◌}
use native.Mathlib.Nat.{mul-le-mul, mod-lt, div-le_self}
use native.Mathlib.Omega.{arith}
use Rattle.cells.proofs.Machine.{nat_fits, nat_held}
use Rattle.grids.proofs.cell_at.Goals as goal
use Rattle.grids.proofs.cell_at.Goals.{Start}

-- the three numbers are small
small_x : (c : Start) → c.args.i % c.args.n.nx < 2 ^ 31
small_x c = omega (arith, mod-lt c.args.i c.requires.0.some, c.requires.0.most)

small_y : (c : Start) → c.args.i / c.args.n.nx % c.args.n.ny < 2 ^ 31
small_y c = omega (arith, mod-lt (c.args.i / c.args.n.nx) c.requires.1.some, c.requires.1.most)

small_z : (c : Start) → c.args.i / (c.args.n.nx * c.args.n.ny) < 2 ^ 31
small_z c = omega (arith, div-le_self c.args.i (c.args.n.nx * c.args.n.ny), c.requires.2)

pub overflow_cast-x : goal.overflow_cast-x
overflow_cast-x c = nat_fits _ (small_x c.before)

pub overflow_cast-y : goal.overflow_cast-y
overflow_cast-y c = nat_fits _ (small_y c.before.before.before)

pub overflow_mul-z : goal.overflow_mul-z
overflow_mul-z c =
    let most : c.args.n.nx * c.args.n.ny ≤ 1024 * 1024 = mul-le-mul c.requires.0.most c.requires.1.most in
    record { fits = omega arith }

pub nonzero_div-z : goal.nonzero_div-z
nonzero_div-z c =
    let some : 1 * 1 ≤ c.args.n.nx * c.args.n.ny = mul-le-mul c.requires.0.some c.requires.1.some in
    omega arith

pub overflow_cast-z : goal.overflow_cast-z
overflow_cast-z c = nat_fits _ (small_z c.before.before.before.before)

pub returns : goal.returns
returns c = λ i. record { x = nat_held _ (small_x c.before.before.before.before) i; y = nat_held _ (small_y c.before.before.before.before) i; z = nat_held _ (small_z c.before.before.before.before) i }
