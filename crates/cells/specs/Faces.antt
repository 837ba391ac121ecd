-- SCOPE W8: what an entry face says: which cell lies before it. Assumes nothing.
use Rattle.std.specs.Prelude.{ℤ, pos, ◌+ℤ◌, ◌-ℤ◌}
use Rattle.cells.specs.declared.Axis.{Axis}
use Rattle.cells.specs.declared.Axis.TheVariants.{X, Y, Z}
use Rattle.cells.specs.declared.Cell.{Cell}
use Rattle.cells.specs.declared.Face.{Face}
use Rattle.cells.specs.Touching.{on}

-- a cell with another number on one axis
abbrev pub put_on : Cell → Axis → ℤ → Cell
put_on c X v = record { x = v; y = c.y; z = c.z }
put_on c Y v = record { x = c.x; y = v; z = c.z }
put_on c Z v = record { x = c.x; y = c.y; z = v }

-- the cell from which the line came: one step back across the face, to smaller numbers where the move was to larger ones; with no face the cell itself
abbrev pub back_across : Face → Cell → Cell
back_across Face.None c = c
back_across (Face.Plus a) c = put_on c a (on c a -ℤ pos 1)
back_across (Face.Minus a) c = put_on c a (on c a +ℤ pos 1)
