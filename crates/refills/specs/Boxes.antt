-- SCOPE K5: boxes of cells, and of bricks, both corners included; and a list changed in a box alone. Assumes nothing.
use Rattle.std.specs.Prelude.{ℕ, ◌*◌, ◌/◌, ◌%◌, Bool, cond, ◌&&◌, List, leb, nat_abs, length, get_or}
use Rattle.cells.specs.declared.Cell.{Cell}
use Rattle.cells.specs.declared.Counts.{Counts}
use Rattle.cells.specs.Tabulate.{tabulate}
use Rattle.bricks.specs.declared.Slot.{Slot}

-- a cell of the grid as a corner of a box (it is asked of no other cell: no coordinate is negative)
abbrev pub corner : Cell → Slot
corner c = record { x = nat_abs c.x; y = nat_abs c.y; z = nat_abs c.z }

-- the brick of a corner's cell
abbrev pub brick_of : Slot → Slot
brick_of c = record { x = c.x / 4; y = c.y / 4; z = c.z / 4 }

-- a number from a to b
abbrev pub between : ℕ → ℕ → ℕ → Bool
between a b x = leb a x && leb x b

-- (x, y, z) is in the box from lo to hi
abbrev pub in_box : Slot → Slot → ℕ → ℕ → ℕ → Bool
in_box lo hi x y z = between lo.x hi.x x && (between lo.y hi.y y && between lo.z hi.z z)

-- what has number k in the grid n is in the box
abbrev pub in_box_at : Counts → Slot → Slot → ℕ → Bool
in_box_at n lo hi k = in_box lo hi (k % n.nx) (k / n.nx % n.ny) (k / (n.nx * n.ny))

-- a list with f's numbers in a box of the grid n, all else as it was
abbrev pub box_put : Counts → Slot → Slot → (ℕ → ℕ) → List ℕ → List ℕ
box_put n lo hi f l = tabulate (λ k. cond (in_box_at n lo hi k) (f k) (get_or l k 0)) (length l)
