-- The entry face of a hit for C, as one number. Assumes nothing.
use Rattle.std.specs.Prelude.{ℕ, Bool, true, false, ℤ, pos, neg_ℤ}
use Rattle.cells.specs.declared.Face.{Face}
use Rattle.structs.specs.Refusals.{axis_number}

-- 0 for none, else the axis's number with the sign of the move
abbrev pub face_number : Face → ℤ
face_number Face.None = pos 0
face_number (Face.Plus a) = pos (axis_number a)
face_number (Face.Minus a) = neg_ℤ (pos (axis_number a))

-- how the code makes it: the axis's number, 0 for none; and whether the move is to smaller numbers
abbrev pub face_axis : Face → ℕ
face_axis Face.None = 0
face_axis (Face.Plus a) = axis_number a
face_axis (Face.Minus a) = axis_number a

abbrev pub falls : Face → Bool
falls Face.None = false
falls (Face.Plus a) = false
falls (Face.Minus a) = true
