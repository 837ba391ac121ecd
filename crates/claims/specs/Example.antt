-- SCOPE's worked examples, by which claims name their inputs: the program's venue, without marks and with them; grids with thin marks, and with marks by
-- faces alone. Assumes nothing.
use Rattle.std.specs.Prelude.{ℕ, List, [], ◌∷◌, ◌++◌, ℤ, pos, replicate}
use Rattle.cells.specs.declared.Cell.{Cell}
use Rattle.cells.specs.declared.Counts.{Counts}

-- counts
abbrev pub counts : (nx ny nz : ℕ) → Counts
counts nx ny nz = record { nx = nx; ny = ny; nz = nz }

-- so many numbers that a caller lends
abbrev pub sevens : ℕ → List ℤ
sevens many = replicate many (pos 7)

-- the cell (x, y, z)
abbrev pub at : (x y z : ℕ) → Cell
at x y z = record { x = pos x; y = pos y; z = pos z }

-- 4 by 2 by 1, solid at (1,1,0) alone
abbrev pub example_counts : Counts
example_counts = counts 4 2 1

abbrev pub example_cells : List ℕ
example_cells = 0 ∷ 0 ∷ 0 ∷ 0 ∷ 0 ∷ 2 ∷ 0 ∷ 0 ∷ []

-- SCOPE T14: the same cells, marked
abbrev pub marked_cells : List ℕ
marked_cells = 1 ∷ 1 ∷ 1 ∷ 0 ∷ 1 ∷ 2 ∷ 1 ∷ 0 ∷ []

-- SCOPE E25: these with (0,0,0) set to 2, and all set to 2
abbrev pub set_cells : List ℕ
set_cells = 2 ∷ 1 ∷ 1 ∷ 0 ∷ 1 ∷ 2 ∷ 1 ∷ 0 ∷ []

abbrev pub all_solid : List ℕ
all_solid = 2 ∷ 2 ∷ 2 ∷ 2 ∷ 2 ∷ 2 ∷ 2 ∷ 2 ∷ []

-- SCOPE E34: 3 by 2 by 2, solid at (0,0,0) alone; marked in the thin shell, where (1,1,1), which shares but a corner with it, stays clear; and marked in full
abbrev pub corner_counts : Counts
corner_counts = counts 3 2 2

abbrev pub corner_cells : List ℕ
corner_cells = 2 ∷ 0 ∷ 0 ∷ 0 ∷ 0 ∷ 0 ∷ 0 ∷ 0 ∷ 0 ∷ 0 ∷ 0 ∷ 0 ∷ []

abbrev pub corner_thin : List ℕ
corner_thin = 2 ∷ 1 ∷ 0 ∷ 1 ∷ 1 ∷ 0 ∷ 1 ∷ 1 ∷ 0 ∷ 1 ∷ 0 ∷ 0 ∷ []

abbrev pub corner_full : List ℕ
corner_full = 2 ∷ 1 ∷ 0 ∷ 1 ∷ 1 ∷ 0 ∷ 1 ∷ 1 ∷ 0 ∷ 1 ∷ 1 ∷ 0 ∷ []

-- SCOPE E35: 4 by 3 by 3, solid at (3,2,2) alone, marked in the thin shell: (2,1,1), the cell before it on the 26-line from (0,0,0), stays clear
abbrev pub far_counts : Counts
far_counts = counts 4 3 3

abbrev pub far_thin : List ℕ
far_thin = replicate 12 0 ++ (0 ∷ 0 ∷ 0 ∷ 0 ∷ 0 ∷ 0 ∷ 0 ∷ 1 ∷ 0 ∷ 0 ∷ 1 ∷ 1 ∷ []) ++ (0 ∷ 0 ∷ 0 ∷ 0 ∷ 0 ∷ 0 ∷ 1 ∷ 1 ∷ 0 ∷ 0 ∷ 1 ∷ 2 ∷ [])

-- SCOPE E32 and E33: 2 by 2 by 2, solid at (0,1,1) alone, and at (0,1,0) alone; near are just the cells that share a face with it
abbrev pub faces_there : List ℕ
faces_there = 0 ∷ 0 ∷ 1 ∷ 0 ∷ 1 ∷ 0 ∷ 2 ∷ 1 ∷ []

abbrev pub faces_back : List ℕ
faces_back = 1 ∷ 0 ∷ 2 ∷ 1 ∷ 0 ∷ 0 ∷ 1 ∷ 0 ∷ []

-- SCOPE E32, its second grid: 4 by 3 by 3, solid at (2,2,2) alone, near likewise; the segment from (0,0,0) to (3,2,2) enters its inside
abbrev pub faces_inside : List ℕ
faces_inside = replicate 12 0 ++ (0 ∷ 0 ∷ 0 ∷ 0 ∷ 0 ∷ 0 ∷ 0 ∷ 0 ∷ 0 ∷ 0 ∷ 1 ∷ 0 ∷ []) ++ (0 ∷ 0 ∷ 0 ∷ 0 ∷ 0 ∷ 0 ∷ 1 ∷ 0 ∷ 0 ∷ 1 ∷ 2 ∷ 1 ∷ [])
