-- What makes long steps safe: marks that are complete at k (SCOPE N3 at 3, N5 at 2), in words of cells. Assumes nothing.
use Rattle.std.specs.Prelude.{ℕ, ◌≡◌, true, List}
use Rattle.cells.specs.declared.Cell.{Cell}
use Rattle.cells.specs.declared.Counts.{Counts}
use Rattle.cells.specs.Touching.{Touches}
use Rattle.grids.specs.Grid.{byte_of, clear, solid}
use Rattle.grids.specs.Inside.{InGrid}

-- no clear cell of the grid touches a solid one; k says how near counts
pub record NoClearTouches (k : ℕ) (n : Counts) (l : List ℕ) : Type 0 where
  pub none : (c d : Cell) → InGrid n c → InGrid n d → clear (byte_of n l c) ≡ true → solid (byte_of n l d) ≡ true → Touches k c d → ⊥
