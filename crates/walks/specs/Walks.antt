-- SCOPE, W: the plain and the adaptive walk from P to Q through a grid, as lists of cells. They differ in what
-- comes next alone. Assumes nothing.
use Rattle.std.specs.Prelude.{ℕ, zero, suc, ◌+◌, Bool, cond, not, ◌&&◌, ◌||◌, List, [], ◌∷◌, ℤ}
use Rattle.std.proofs.Math.Option.{Option, none, some}
use Rattle.std.specs.Int.Signed.{le_z}
use Rattle.cells.specs.declared.Cell.{Cell}
use Rattle.cells.specs.declared.Counts.{Counts}
use Rattle.cells.specs.declared.Manner.{Manner}
use Rattle.cells.specs.declared.Start.{Start}
use Rattle.cells.specs.Manners.{is_tested}
use Rattle.lines.specs.Steps.{total}
use Rattle.lines.specs.Preference.{Preference, by_rule}
use Rattle.lines.specs.Lines.{differences, six_cell, longest, cell_26}
use Rattle.grids.specs.Grid.{byte_of, clear, solid}
use Rattle.walks.specs.declared.Walker.{Walker}
use Rattle.walks.specs.declared.Walker.TheVariants.{Plain, Adaptive}

-- how a walk between two ends goes: whether P is tested, and which axis goes first in a tie
pub record Conduct : Type 0 where
  pub start : Start
  pub preference : Preference

-- SCOPE W9, L17: as its caller names it
abbrev pub conduct : Manner → (p q : Cell) → Conduct
conduct how p q = record { start = how.start; preference = by_rule how.rule p q }

-- two cells are one
abbrev pub is_same : ℤ → ℤ → Bool
is_same a b = le_z a b && le_z b a

abbrev pub is_cell : Cell → Cell → Bool
is_cell c d = is_same c.x d.x && (is_same c.y d.y && is_same c.z d.z)

-- which of the cells f 0 to f (n - 1) is w
unfoldable pub number_of : (ℕ → Cell) → ℕ → Cell → Option ℕ
number_of f zero w = none
number_of f (suc n) w = cond (is_cell w (f n)) (some n) (number_of f n w)

-- how many cells the 6-line and the 26-line have
abbrev pub six_count : Cell → Cell → ℕ
six_count p q = total (differences p q) + 1

abbrev pub count_26 : Cell → Cell → ℕ
count_26 p q = longest (differences p q) + 1

-- the cell after the one that was found (a walk's cell is always found: `six_found`)
abbrev pub after : (ℕ → Cell) → Cell → Option ℕ → Cell
after f w none = w
after f w (some s) = f (s + 1)

-- SCOPE W3: one cell on along the 6-line
unfoldable pub next_plain : Preference → (p q w : Cell) → Cell
unfolding number_of six_cell
next_plain r p q w = after (six_cell r p q) w (number_of (six_cell r p q) (six_count p q) w)

-- SCOPE W3: from cell m of the 26-line a long step, from any other cell one on along the 6-line
abbrev pub long_or_plain : Preference → (p q w : Cell) → Option ℕ → Cell
long_or_plain r p q w none = next_plain r p q w
long_or_plain r p q w (some m) = cell_26 p q (m + 1)

-- SCOPE W3: the adaptive walk's next cell, by a long step only where the byte is clear
unfoldable pub next_adaptive : Preference → Counts → List ℕ → (p q w : Cell) → Cell
unfolding number_of cell_26 next_plain
next_adaptive r n l p q w =
    cond (clear (byte_of n l w)) (long_or_plain r p q w (number_of (cell_26 p q) (count_26 p q) w)) (next_plain r p q w)

-- SCOPE W3, W9: the one test of a cell w: a hit where its byte is solid, unless it is P and the start is not tested
abbrev pub hit_at : Conduct → Counts → List ℕ → (p w : Cell) → Bool
hit_at how n l p w = solid (byte_of n l w) && (is_tested how.start || not (is_cell w p))

-- SCOPE W3: from w on, to the first hit or to Q, by what comes next. The number of cells is bounded by that of the 6-line.
unfoldable pub walk : (Cell → Bool) → (Cell → Cell) → Cell → ℕ → Cell → List Cell
walk hit next q zero w = []
walk hit next q (suc fuel) w = w ∷ cond (hit w || is_cell w q) [] (walk hit next q fuel (next w))

-- what comes next: SCOPE W2 for the plain walk, W3 for the adaptive one
abbrev pub next_cell : Walker → Preference → Counts → List ℕ → (p q w : Cell) → Cell
next_cell Plain r n l p q w = next_plain r p q w
next_cell Adaptive r n l p q w = next_adaptive r n l p q w

-- the cells of a walk
unfoldable pub walk_of : Walker → Conduct → Counts → List ℕ → Cell → Cell → List Cell
unfolding walk next_plain next_adaptive
walk_of k how n l p q = walk (hit_at how n l p) (next_cell k how.preference n l p q) q (six_count p q) p

-- SCOPE W9, L17: those of the walk that a caller names so
abbrev pub cells_of : Walker → Manner → Counts → List ℕ → (p q : Cell) → List Cell
cells_of k how n l p q = walk_of k (conduct how p q) n l p q
