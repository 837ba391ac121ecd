-- Directions, in one place only: a coordinate moved from p towards q, and the face that it crosses. Assumes nothing.
use Rattle.std.specs.Prelude.{ℕ, cond, ℤ, pos, ◌+ℤ◌, ◌-ℤ◌}
use Rattle.std.specs.Int.Signed.{le_z}
use Rattle.cells.specs.declared.Axis.{Axis}
use Rattle.cells.specs.declared.Face.{Face}

-- i cells from p towards q
abbrev pub towards : ℤ → ℤ → ℕ → ℤ
towards p q i = cond (le_z p q) (p +ℤ pos i) (p -ℤ pos i)

-- SCOPE W8: the face that is crossed on the way from p towards q, on an axis. Where p is q nothing is crossed, and nothing asks.
abbrev pub face_towards : ℤ → ℤ → Axis → Face
face_towards p q a = cond (le_z p q) (Face.Plus a) (Face.Minus a)
