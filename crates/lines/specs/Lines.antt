-- SCOPE, L: the 6-line and the 26-line between the centres of two cells. Assumes nothing.
use Rattle.std.specs.Prelude.{ℕ, zero, suc, ◌+◌, ◌*◌, ◌/◌, max, ◌≡◌, Bool, true, ◌&&◌, List, ℤ, pos, negsuc}
use Rattle.std.specs.Int.Signed.{le_z}
use Rattle.cells.specs.declared.Cell.{Cell}
use Rattle.cells.specs.declared.Face.{Face}
use Rattle.cells.specs.Tabulate.{tabulate}
use Rattle.cells.specs.Touching.{on, apart}
use Rattle.lines.specs.Steps.{Axis, X, Y, Z, Steps, total}
use Rattle.lines.specs.Crossings.{Course, place}
use Rattle.lines.specs.Preference.{Preference}
use Rattle.lines.specs.Towards.{towards, face_towards}

-- SCOPE L1: A, B and C, by axis
abbrev pub differences : Cell → Cell → Steps
differences p q a = apart (on p a) (on q a)

-- SCOPE L1: the cell of a place, on each axis so many cells from P on the way to Q
abbrev pub cell_of : Cell → Cell → Steps → Cell
cell_of p q t = record { x = towards p.x q.x (t X); y = towards p.y q.y (t Y); z = towards p.z q.z (t Z) }

-- SCOPE W8: the face that a line from P to Q crosses along an axis
abbrev pub face_along : Cell → Cell → Axis → Face
face_along p q a = face_towards (on p a) (on q a) a

-- SCOPE L3: how many faces are crossed on each axis, and at which fractions. Crossing i counts from 0: it is face i + 1.
abbrev pub centres : Preference → Steps → Course
centres r D = record { count = D; first = λ a. 1; step = 2; lower = λ a. 2 * D a; rank = r.rank }

-- SCOPE L4: cell number n of the 6-line, after the first n crossings
unfoldable pub six_cell : Preference → Cell → Cell → ℕ → Cell
unfolding place
six_cell r p q n = cell_of p q (place (centres r (differences p q)) n)

unfoldable pub six_line : Preference → Cell → Cell → List Cell
unfolding six_cell
six_line r p q = tabulate (six_cell r p q) (total (differences p q) + 1)

-- SCOPE L12: M, the longest of the differences
abbrev pub longest : Steps → ℕ
longest D = max (max (D X) (D Y)) (D Z)

-- SCOPE L12: cell number m has moved, on an axis with difference D, floor((2mD+M)/(2M)) cells; none where M is 0
unfoldable pub moved_26 : (M D m : ℕ) → ℕ
moved_26 zero D m = 0
moved_26 (suc n) D m =
    let M : ℕ = suc n in
    (2 * m * D + M) / (2 * M)

-- the place of cell number m
abbrev pub place_26 : Steps → ℕ → Steps
place_26 D m a = moved_26 (longest D) (D a) m

-- its number in the 6-line, as a law says (`claims`, TwentySixLine)
abbrev pub number_26 : Cell → Cell → ℕ → ℕ
number_26 p q m = total (place_26 (differences p q) m)

unfoldable pub cell_26 : Cell → Cell → ℕ → Cell
unfolding moved_26
cell_26 p q m = cell_of p q (place_26 (differences p q) m)

unfoldable pub line_26 : Cell → Cell → List Cell
unfolding cell_26
line_26 p q = tabulate (cell_26 p q) (longest (differences p q) + 1)

-- the coordinate limit, -8,192 to 8,191
abbrev pub in_limit : ℤ → Bool
in_limit z = le_z (negsuc 8191) z && le_z z (pos 8191)

pub record InLimit (c : Cell) : Type 0 where
  pub limit : (a : Axis) → in_limit (on c a) ≡ true
