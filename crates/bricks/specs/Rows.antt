-- The bytes of a brick, and bricks in a row along x: words for the contracts of inner functions. No promise rests on this file. Assumes nothing.
use Rattle.std.specs.Prelude.{ℕ, ◌+◌, ◌*◌, ◌/◌, ◌%◌, ◌≤◌, ◌<◌, Bool, List, get_or}
use Rattle.cells.specs.declared.Counts.{Counts}
use Rattle.grids.specs.Grid.{index, solid}
use Rattle.bricks.specs.declared.Slot.{Slot}
use Rattle.bricks.specs.Bricks.{bricks}

-- the cell of bit b is solid, in a brick whose first byte is at from, the next row and the next layer so many bytes on
abbrev pub solid_from : List ℕ → (from row layer b : ℕ) → Bool
solid_from l from row layer b = solid (get_or l (from + row * (b / 4 % 4) + layer * (b / 16) + b % 4) 0)

-- the number of a brick
abbrev pub brick_number : Counts → Slot → ℕ
brick_number n b = index (bricks n) b.x b.y b.z

-- so many bricks from one on, along x, are there
pub record RowOfBricks (n : Counts) (b : Slot) (long : ℕ) : Type 0 where
  pub x : b.x + long ≤ (bricks n).nx
  pub some : 1 ≤ long
  pub y : b.y < (bricks n).ny
  pub z : b.z < (bricks n).nz
