-- SCOPE K6: what holds from a build on: between counts, bytes, masks and total. Assumes nothing.
use Rattle.std.specs.Prelude.{Ok, ℕ, ◌≤◌, ◌<◌, ◌≡◌, List, length, get_or}
use Rattle.cells.specs.declared.Counts.{Counts}
use Rattle.grids.specs.Grid.{shape, size}
use Rattle.bricks.specs.Bricks.{bricks, mask_at, solids}

-- counts and bytes make a grid, each mask says which cells of its brick are solid, and the total is a fresh count
pub record Kept (n : Counts) (l m : List ℕ) (total : ℕ) : Type 0 where
  pub grid : shape n (length l) ≡ Ok tt
  pub room : size (bricks n) ≤ length m
  pub each : (k : ℕ) → k < size (bricks n) → get_or m k 0 ≡ mask_at n l k
  pub fresh : total ≡ solids l
