-- SCOPE L2: the segment between the centres of two cells, by its points at whole shares n over d of the way. Coordinates are multiplied by 2d.
-- A cell of the integer lattice reaches half a cell from its centre to each side. Assumes nothing.
use Rattle.std.specs.Prelude.{ℕ, ◌*◌, ◌≤◌, ◌<◌, ℤ, pos, ◌+ℤ◌, ◌-ℤ◌, ◌*ℤ◌, ◌≤ℤ◌, ◌<ℤ◌}
use Rattle.cells.specs.declared.Cell.{Cell}
use Rattle.cells.specs.Touching.{on}
use Rattle.lines.specs.Steps.{Axis}

-- n over d is a share of the way
pub record Share (n d : ℕ) : Type 0 where
  pub some : 0 < d
  pub most : n ≤ d

-- p + (q - p)·n/d, times 2d
abbrev pub point : ℤ → ℤ → ℕ → ℕ → ℤ
point p q n d = pos (2 * d) *ℤ p +ℤ pos (2 * n) *ℤ (q -ℤ p)

-- the two faces of cell c on an axis, c - 1/2 and c + 1/2, times 2d
abbrev pub lower_face : ℕ → ℤ → ℤ
lower_face d c = pos (2 * d) *ℤ c -ℤ pos d

abbrev pub upper_face : ℕ → ℤ → ℤ
upper_face d c = pos (2 * d) *ℤ c +ℤ pos d

-- the point at n over d of the way from the centre of p to that of q lies in the closed cell c
pub record InClosed (p q : Cell) (n d : ℕ) (c : Cell) : Type 0 where
  pub from : (a : Axis) → lower_face d (on c a) ≤ℤ point (on p a) (on q a) n d
  pub upto : (a : Axis) → point (on p a) (on q a) n d ≤ℤ upper_face d (on c a)

-- it lies in the open inside of c
pub record InOpen (p q : Cell) (n d : ℕ) (c : Cell) : Type 0 where
  pub from : (a : Axis) → lower_face d (on c a) <ℤ point (on p a) (on q a) n d
  pub upto : (a : Axis) → point (on p a) (on q a) n d <ℤ upper_face d (on c a)
  -- no more is asked
