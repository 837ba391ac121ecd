-- SCOPE G1, R5, O4: what lies inside a grid, and refusal 5, of an end that does not. Assumes nothing.
use Rattle.std.specs.Prelude.{ℕ, ◌*◌, ◌≤◌, ◌≡◌, Bool, false, ◌||◌, ℤ, pos}
use Rattle.std.specs.Int.Signed.{lt_z, le_z}
use Rattle.cells.specs.declared.Axis.{Axis}
use Rattle.cells.specs.declared.Axis.TheVariants.{X, Y, Z}
use Rattle.cells.specs.declared.Cell.{Cell}
use Rattle.cells.specs.declared.Counts.{Counts}
use Rattle.cells.specs.declared.End.{End}
use Rattle.cells.specs.declared.End.TheVariants.{P, Q}
use Rattle.cells.specs.declared.Refusal.TheVariants.{OffGrid}
use Rattle.cells.specs.Checks.{Verdict}
use Rattle.cells.specs.Checks.{refuse_when, ◌then◌}
use Rattle.cells.specs.Touching.{on}
use Rattle.grids.specs.Grid.{size, shape}

-- the count of an axis
abbrev pub count_on : Counts → Axis → ℕ
count_on n X = n.nx
count_on n Y = n.ny
count_on n Z = n.nz

-- outside an axis of so many cells
abbrev pub off_axis : ℤ → ℕ → Bool
off_axis v count = lt_z v (pos 0) || le_z (pos count) v

-- a cell of the grid
pub record InGrid (n : Counts) (c : Cell) : Type 0 where
  pub inside : (a : Axis) → off_axis (on c a) (count_on n a) ≡ false

-- refusal 5 (x, y, z), for one end
abbrev pub grid_check : End → Counts → Cell → Verdict
grid_check e n c =
    refuse_when (off_axis c.x n.nx) (OffGrid e X) then
    refuse_when (off_axis c.y n.ny) (OffGrid e Y) then
    refuse_when (off_axis c.z n.nz) (OffGrid e Z)

-- 2, 3, then 5 (P before Q)
unfoldable pub walk_check : Counts → ℕ → Cell → Cell → Verdict
unfolding shape
walk_check n bytes p q = shape n bytes then grid_check P n p then grid_check Q n q

-- ---- what a fine shape comes to, for contracts of inner functions; that it does is a law (`proofs/Shapes.antt`)

-- a count is 1 to 1,024
pub record Good (n : ℕ) : Type 0 where
  pub some : 1 ≤ n
  pub most : n ≤ 1024

-- counts that passed
pub record Counted (n : Counts) : Type 0 where
  pub x : Good n.nx
  pub y : Good n.ny
  pub z : Good n.nz

-- counts 1 to 1,024, as many bytes as cells, and so every product that a call forms is small
pub record Shaped (n : Counts) (bytes : ℕ) : Type 0 where
  pub x : Good n.nx
  pub y : Good n.ny
  pub z : Good n.nz
  pub bytes_are : bytes ≡ size n
  pub by_rows : bytes ≡ n.nx * (n.ny * n.nz)
  pub layer_most : n.nx * n.ny ≤ 1048576
  pub rows_most : n.ny * n.nz ≤ 1048576
  pub size_most : size n ≤ 1073741824
  pub layer_some : 1 ≤ n.nx * n.ny

-- a cell of a grid
pub record Enclosed (n : Counts) (c : Cell) : Type 0 where
  pub bytes : ℕ
  pub shaped : Shaped n bytes
  pub inside : InGrid n c
