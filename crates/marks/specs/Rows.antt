-- How the code finds the cells that touch solid ones, row by row: words for the contracts of its inner functions. No promise rests on this file.
-- Row number r holds the cells (0 .. nx-1, r % ny, r / ny); a *window* is a row of bytes with one more at each end. Assumes nothing.
use Rattle.std.specs.Prelude.{ℕ, ◌+◌, ◌*◌, ◌-◌, ◌/◌, ◌%◌, ◌≤◌, ◌<◌, min, Bool, false, cond, ◌&&◌, ◌||◌, ◌≡◌, List, length, get_or}
use Rattle.cells.specs.declared.Counts.{Counts}
use Rattle.grids.specs.Grid.{index, cell_at, clear, solid}
use Rattle.grids.specs.Marks.{any, touches_solid}
use Rattle.marks.specs.declared.Three.{Three}

-- p holds of one of three numbers
abbrev pub of_three : (ℕ → Bool) → (a b c : ℕ) → Bool
of_three p a b c = (p a || p b) || p c

-- the first of the numbers at most 1 away from y
abbrev pub lowest : ℕ → ℕ
lowest y = y - 1

-- the last of those below n
abbrev pub highest : ℕ → ℕ → ℕ
highest y n = min (y + 1) (n - 1)

-- p holds of a number below n at most 1 away from y
abbrev pub nearby : (ℕ → Bool) → ℕ → ℕ → Bool
nearby p y n = of_three p (lowest y) y (highest y n)

-- where the rows at most 1 away from row y of n start, per apart, row 0 at from
abbrev pub starts : (from per y n : ℕ) → Three
starts from per y n = record { low = from + per * lowest y; mid = from + per * y; high = from + per * highest y n }

-- three rows of nx bytes lie within so many bytes
pub record Within (rows : Three) (nx bytes : ℕ) : Type 0 where
  pub low_fits : rows.low + nx ≤ bytes
  pub mid_fits : rows.mid + nx ≤ bytes
  pub high_fits : rows.high + nx ≤ bytes

-- some byte at x of three rows is solid
unfoldable pub in_rows : List ℕ → Three → ℕ → Bool
in_rows l rows x = of_three (λ from. solid (get_or l (from + x) 0)) rows.low rows.mid rows.high

-- some byte at x of the up to nine rows beside row r is solid
unfoldable pub in_column : Counts → List ℕ → ℕ → ℕ → Bool
in_column n l r x = nearby (λ z. nearby (λ y. solid (get_or l (index n x y z) 0)) (r % n.ny) n.ny) (r / n.ny) n.nz

-- a window has a solid byte for x exactly where p x holds
abbrev pub SolidWhere : (ℕ → Bool) → (nx : ℕ) → (w : List ℕ) → Type 0
SolidWhere p nx w = (x : ℕ) → x < nx → solid (get_or w (x + 1) 0) ≡ p x

-- a window has a solid byte for x exactly where p x holds, and is as it was past both ends of the row
pub record Shows (p : ℕ → Bool) (nx : ℕ) (entry exit : List ℕ) : Type 0 where
  pub long : length exit ≡ length entry
  pub over : SolidWhere p nx exit
  pub before : get_or exit 0 0 ≡ get_or entry 0 0
  pub after : (k : ℕ) → nx < k → get_or exit k 0 ≡ get_or entry k 0

-- a window has room for a row of nx bytes, and a byte that is not solid at each end of it
pub record Framed (nx : ℕ) (w : List ℕ) : Type 0 where
  pub room : nx + 1 < length w
  pub left : solid (get_or w 0 0) ≡ false
  pub right : solid (get_or w (nx + 1) 0) ≡ false

-- the window has a solid byte at x, or beside it
abbrev pub beside : List ℕ → ℕ → Bool
beside w x = of_three (λ k. solid (get_or w k 0)) x (x + 1) (x + 2)

-- the byte that marking puts for b, where the cell is beside a solid one or not
abbrev pub mark_for : ℕ → Bool → ℕ
mark_for b t = cond (solid b) b (cond t 1 0)

-- the byte that marking puts at k, by the window of the row that starts at from
abbrev pub put_byte : List ℕ → List ℕ → ℕ → ℕ → ℕ
put_byte w l from k = mark_for (get_or l k 0) (beside w (k - from))

-- a clear cell of the row that starts at from is beside a solid one, by the row's window
unfoldable pub gap_by : List ℕ → List ℕ → ℕ → ℕ → Bool
gap_by w l from nx = any (λ x. clear (get_or l (from + x) 0) && beside w x) nx

-- the byte at i is clear, and its cell touches a solid one
unfoldable pub gap : Counts → List ℕ → ℕ → Bool
unfolding touches_solid
gap n l i = clear (get_or l i 0) && touches_solid 3 n l (cell_at n i)
