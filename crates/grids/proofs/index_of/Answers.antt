-- `grids::index_of` meets its contract: the coordinates are natural numbers, and every sum and product is at most the place, which is below the
-- number of bytes. Assumes nothing.
use mathlib.Core.Path.{◌≡◌, ap}
use Prim.Native.Nat.{◌+◌, ◌*◌, ◌^◌, ◌<◌}
use native.Mathlib.Nat.{mul-le-mul_right}
use native.Mathlib.Omega.{arith}
use lib.IntN.{nat_abs}
use Rattle.cells.specs.Touching.{on}
use Rattle.cells.proofs.Machine.{held}
use Rattle.cells.specs.declared.Axis.{Axis}
use Rattle.cells.specs.declared.Axis.TheVariants.{X, Y, Z}
use Rattle.grids.specs.Grid.{index, byte_index}
use Rattle.grids.proofs.Inside.{inside_held, inside_cast, counts_most, byte_below}
use Rattle.grids.proofs.index_of.Goals as goal
use Rattle.grids.proofs.index_of.Goals.{Start}

-- a coordinate as a natural number
number : (c : Start) (a : Axis) → nat_abs (held (on c.args.c a)) ≡ nat_abs (on c.args.c a)
number c a = ap nat_abs (inside_held (on c.args.c a) _ (counts_most c.args.n c.requires.shaped a) (c.requires.inside.inside a))

-- what is read back is the place
reads_back : (c : Start) → index c.args.n (nat_abs (held c.args.c.x)) (nat_abs (held c.args.c.y))
    (nat_abs (held c.args.c.z)) ≡ byte_index c.args.n c.args.c
reads_back c = rw (number c X, number c Y, number c Z)

below : (c : Start) → index c.args.n (nat_abs (held c.args.c.x)) (nat_abs (held c.args.c.y)) (nat_abs (held c.args.c.z)) < 2 ^ 32
below c =
    omega (
      arith,
      reads_back c,
      byte_below c.args.n c.requires.bytes c.requires.shaped c.args.c c.requires.inside,
      c.requires.shaped.bytes_are,
      c.requires.shaped.size_most,
    )

-- a row's number is at most that of its first byte
rows : (c : Start) → nat_abs (held c.args.c.y) + c.args.n.ny * nat_abs (held c.args.c.z) < 2 ^ 32
rows c = omega (arith, below c, mul-le-mul_right (nat_abs (held c.args.c.y) + c.args.n.ny * nat_abs (held c.args.c.z)) c.requires.shaped.x.some)

pub overflow_cast-x : goal.overflow_cast-x
overflow_cast-x c = inside_cast c.args.c.x c.args.n.nx (counts_most c.args.n c.requires.shaped X) (c.requires.inside.inside X)

pub overflow_cast-y : goal.overflow_cast-y
overflow_cast-y c =
    inside_cast c.args.c.y c.args.n.ny (counts_most c.args.n c.requires.shaped Y)
    (c.requires.inside.inside Y)

pub overflow_cast-z : goal.overflow_cast-z
overflow_cast-z c =
    inside_cast c.args.c.z c.args.n.nz
    (counts_most c.args.n c.requires.shaped Z) (c.requires.inside.inside Z)

pub overflow_mul-result : goal.overflow_mul-result
overflow_mul-result c = record { fits = omega (arith, rows c.before.before.before.before.before.before.before) }

pub overflow_add-result : goal.overflow_add-result
overflow_add-result c = record { fits = rows c.before.before.before.before.before.before.before }

pub overflow_mul-result-2 : goal.overflow_mul-result-2
overflow_mul-result-2 c = record { fits = omega (arith, below c.before.before.before.before.before.before.before.before) }

pub overflow_add-result-2 : goal.overflow_add-result-2
overflow_add-result-2 c = record { fits = below c.before.before.before.before.before.before.before.before }

pub returns : goal.returns
returns c = reads_back c.before.before.before.before.before.before.before.before
