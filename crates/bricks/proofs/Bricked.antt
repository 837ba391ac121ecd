-- The bricks are a grid themselves: 1 to 256 along each axis, each with a cell in the grid. Assumes nothing.
use Prim.Native.Nat.{ℕ, ◌+◌, ◌*◌, ◌/◌, ◌≤◌, ◌<◌}
use native.Mathlib.Nat.{mul-le-mul, mul_assoc}
use native.Mathlib.Omega.{arith}
use mathlib.Core.Path.{refl}
use Rattle.cells.specs.declared.Counts.{Counts}
use Rattle.grids.specs.Grid.{size}
use Rattle.grids.specs.Inside.{Good, Shaped}
use Rattle.grids.proofs.Places.{index_below}
use Rattle.bricks.specs.Bricks.{bricks, brick_there}

-- how many bricks along an axis
pub bricked : (n : ℕ) → Good n → Good ((n + 3) / 4)
bricked n g = record { some = omega (arith, g.some); most = omega (arith, g.most) }

-- a brick below their count starts at a cell of the grid
pub starts_inside : (n b : ℕ) → b < (n + 3) / 4 → 4 * b < n
starts_inside n b h = omega arith

-- the brick of a cell of the grid
pub brick_inside : (n x : ℕ) → x < n → x / 4 < (n + 3) / 4
brick_inside n x h = omega arith

-- the number of a cell's brick is below their count
pub brick_below : (n : Counts) (x y z : ℕ) → x < n.nx → y < n.ny → z < n.nz → brick_there n x y z < size (bricks n)
brick_below n x y z hx hy hz =
    index_below (bricks n) (x / 4) (y / 4) (z / 4) (brick_inside n.nx x hx) (brick_inside n.ny y hy) (brick_inside n.nz z hz)

module _ (n : Counts) (bytes : ℕ) (s : Shaped n bytes) where
  pub bricks_shaped : Shaped (bricks n) (size (bricks n))
  bricks_shaped =
      let gx = bricked n.nx s.x in
      let gy = bricked n.ny s.y in
      let gz = bricked n.nz s.z in
      let per : (bricks n).nx * (bricks n).ny ≤ 1024 * 1024 = mul-le-mul gx.most gy.most in
      record {
        x = gx;
        y = gy;
        z = gz;
        bytes_are = refl;
        by_rows = mul_assoc (bricks n).nx (bricks n).ny (bricks n).nz;
        layer_most = per;
        rows_most = mul-le-mul gy.most gz.most;
        size_most = mul-le-mul per gz.most;
        layer_some = mul-le-mul gx.some gy.some;
      }
