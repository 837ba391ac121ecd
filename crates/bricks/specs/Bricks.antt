-- SCOPE K1 to K3: bricks of 4 by 4 by 4 cells, the mask of each by its bits, and a fresh count of solid cells. Assumes nothing.
use Rattle.std.specs.Prelude.{ℕ, ◌+◌, ◌*◌, ◌/◌, ◌%◌, Bool, ◌&&◌, List, ltb, eqb, length, get_or}
use Rattle.cells.specs.declared.Counts.{Counts}
use Rattle.grids.specs.Grid.{index, solid}
use Rattle.bricks.specs.Sums.{sum, count, number_of}

-- SCOPE K1: how many bricks stand along each axis. They are a grid themselves: `index (bricks n)` gives a brick's number, x fastest, then y, then z
abbrev pub bricks : Counts → Counts
bricks n = record { nx = (n.nx + 3) / 4; ny = (n.ny + 3) / 4; nz = (n.nz + 3) / 4 }

-- (x, y, z) is a cell of the grid, and solid
abbrev pub solid_at : Counts → List ℕ → ℕ → ℕ → ℕ → Bool
solid_at n l x y z = (ltb x n.nx && (ltb y n.ny && ltb z n.nz)) && solid (get_or l (index n x y z) 0)

-- SCOPE K2: the cell of bit b of the brick (bx, by, bz) is solid: b is x + 4y + 16z within the brick
abbrev pub solid_in : Counts → List ℕ → ℕ → ℕ → ℕ → ℕ → Bool
solid_in n l bx by bz b = solid_at n l (4 * bx + b % 4) (4 * by + b / 4 % 4) (4 * bz + b / 16)

-- the mask of the brick (bx, by, bz)
unfoldable pub mask_of : Counts → List ℕ → ℕ → ℕ → ℕ → ℕ
unfolding sum
mask_of n l bx by bz = number_of (solid_in n l bx by bz) 64

-- the mask of brick number k
abbrev pub mask_at : Counts → List ℕ → ℕ → ℕ
mask_at n l k = mask_of n l (k % (bricks n).nx) (k / (bricks n).nx % (bricks n).ny) (k / ((bricks n).nx * (bricks n).ny))

-- SCOPE K3: a fresh count of the solid bytes
unfoldable pub solids : List ℕ → ℕ
unfolding sum
solids l = count (λ i. solid (get_or l i 0)) (length l)

-- ---- of one cell

-- the number of its brick
abbrev pub brick_there : Counts → ℕ → ℕ → ℕ → ℕ
brick_there n x y z = index (bricks n) (x / 4) (y / 4) (z / 4)

-- its bit there
abbrev pub bit_there : ℕ → ℕ → ℕ → ℕ
bit_there x y z = x % 4 + 4 * (y % 4) + 16 * (z % 4)

-- ---- of one brick

-- the brick of the cell of byte number i
abbrev pub brick_at : Counts → ℕ → ℕ
brick_at n i = brick_there n (i % n.nx) (i / n.nx % n.ny) (i / (n.nx * n.ny))

-- a fresh count of the solid bytes whose cells are in brick number k
unfoldable pub solids_in : Counts → List ℕ → ℕ → ℕ
unfolding sum
solids_in n l k = count (λ i. solid (get_or l i 0) && eqb (brick_at n i) k) (length l)
