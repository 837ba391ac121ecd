-- Cells by axis, and when two of them touch. How near is a number k: 1 by face, 2 by face or edge, 3 by face, edge or corner, as SCOPE G5 has it (N5 is at 2).
-- Assumes nothing.
use Rattle.std.specs.Prelude.{ℕ, ◌+◌, ◌≤◌, min, Bool, ◌&&◌, leb, ℤ, nat_abs, ◌-ℤ◌}
use Rattle.cells.specs.declared.Axis.{Axis}
use Rattle.cells.specs.declared.Axis.TheVariants.{X, Y, Z}
use Rattle.cells.specs.declared.Cell.{Cell}

-- a cell's coordinate on an axis
abbrev pub on : Cell → Axis → ℤ
on c X = c.x
on c Y = c.y
on c Z = c.z

-- the absolute difference of two coordinates
abbrev pub apart : ℤ → ℤ → ℕ
apart p q = nat_abs (q -ℤ p)

-- 1 where two coordinates differ, else 0
abbrev pub differ : ℤ → ℤ → ℕ
differ p q = min 1 (apart p q)

-- on how many axes two cells differ
abbrev pub axes_apart : Cell → Cell → ℕ
axes_apart c d = differ c.x d.x + differ c.y d.y + differ c.z d.z

-- the two cells differ on at least one and at most k axes, by one
pub record Touches (k : ℕ) (c d : Cell) : Type 0 where
  pub by_one : (a : Axis) → apart (on c a) (on d a) ≤ 1
  pub differing : 1 ≤ axes_apart c d
  pub within : axes_apart c d ≤ k

-- the same as a test
abbrev pub touching : ℕ → Cell → Cell → Bool
touching k c d =
    (leb (apart c.x d.x) 1 && leb (apart c.y d.y) 1 && leb (apart c.z d.z) 1) &&
    (leb 1 (axes_apart c d) && leb (axes_apart c d) k)
