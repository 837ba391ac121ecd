-- The cell of an index and the index of a cell are inverse inside the grid. Assumes nothing.
use Prim.Native.Nat.{ℕ, suc, ◌+◌, ◌*◌, ◌/◌, ◌%◌, ◌≤◌, ◌<◌}
use native.Mathlib.Nat.{mul_comm, mul-le-mul_left, mod-lt, mod-eq_of_lt, div-eq_of_lt, add-mul-mod_self_left}
use native.Mathlib.Nat.{add-mul-div_left, mod-add-div, div-div-eq-div-mul, div-lt_iff_lt-mul}
use native.Mathlib.Omega.{arith}
use mathlib.Core.Path.{◌≡◌, sym, subst, ap, ◌∙◌}
use lib.IntN.{pos}
use Rattle.cells.specs.declared.Counts.{Counts}
use Rattle.grids.specs.Grid.{size, index, cell_at}
use Rattle.grids.specs.Inside.{Shaped}

-- a number with a remainder x < m
pub rest_of : (m x q : ℕ) → x < m → (x + m * q) % m ≡ x
rest_of m x q h = add-mul-mod_self_left x m q ∙ mod-eq_of_lt h

pub whole_of : (m x q : ℕ) → x < m → (x + m * q) / m ≡ q
whole_of m x q h = let some : 0 < m = omega arith in add-mul-div_left x q some ∙ ap (λ (t : ℕ). t + q) (div-eq_of_lt h) ∙ omega arith

module _ (n : Counts) where
  -- the coordinates of the cell with an index
  pub x_at : (x y z : ℕ) → x < n.nx → index n x y z % n.nx ≡ x
  x_at x y z hx = rest_of n.nx x (y + n.ny * z) hx

  pub y_at : (x y z : ℕ) → x < n.nx → y < n.ny → index n x y z / n.nx % n.ny ≡ y
  y_at x y z hx hy = ap (λ (t : ℕ). t % n.ny) (whole_of n.nx x (y + n.ny * z) hx) ∙ rest_of n.ny y z hy

  pub z_at : (x y z : ℕ) → x < n.nx → y < n.ny → index n x y z / (n.nx * n.ny) ≡ z
  z_at x y z hx hy =
      sym (div-div-eq-div-mul (index n x y z) n.nx n.ny) ∙ ap (λ (t : ℕ). t / n.ny) (whole_of n.nx x (y + n.ny * z) hx)
      ∙ whole_of n.ny y z hy

  -- every cell inside the grid is the cell of its index
  pub cell_at_index : (x y z : ℕ) → x < n.nx → y < n.ny → cell_at n (index n x y z) ≡ record { x = pos x; y = pos y; z = pos z }
  cell_at_index x y z hx hy = rw (x_at x y z hx, y_at x y z hx hy, z_at x y z hx hy)

  -- and every index is that of its cell
  pub index_of_cell : (i : ℕ) → index n (i % n.nx) (i / n.nx % n.ny) (i / (n.nx * n.ny)) ≡ i
  index_of_cell i =
      ap (λ (t : ℕ). i % n.nx + n.nx * (i / n.nx % n.ny + n.ny * t)) (sym (div-div-eq-div-mul i n.nx n.ny))
      ∙ ap (λ (t : ℕ). i % n.nx + n.nx * t) (mod-add-div (i / n.nx) n.ny) ∙ mod-add-div i n.nx

  -- the index of a cell inside the grid is below the size
  pub index_below : (x y z : ℕ) → x < n.nx → y < n.ny → z < n.nz → index n x y z < size n
  index_below x y z hx hy hz =
      let rows : n.nx * suc y ≤ n.nx * n.ny = mul-le-mul_left n.nx hy in
      let layers : n.nx * n.ny * suc z ≤ n.nx * n.ny * n.nz = mul-le-mul_left (n.nx * n.ny) hz in
      omega arith

  module _ (bytes : ℕ) (s : Shaped n bytes) (i : ℕ) (h : i < bytes) where
    -- the cell of an index below the size is inside the grid
    pub x_below : i % n.nx < n.nx
    x_below = mod-lt i s.x.some

    pub y_below : i / n.nx % n.ny < n.ny
    y_below = mod-lt (i / n.nx) s.y.some

    pub z_below : i / (n.nx * n.ny) < n.nz
    z_below = (div-lt_iff_lt-mul s.layer_some).1 (rw (mul_comm n.nz (n.nx * n.ny)) (subst (λ (t : ℕ). i < t) s.bytes_are h))
