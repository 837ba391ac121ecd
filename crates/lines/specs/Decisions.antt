-- SCOPE L6, L7, L19: the three decision values of figure 6 at a place of the line, the tests of their signs and the sums that move them; and what is
-- taken off them for the order x, z, y. Assumes nothing.
use Rattle.std.specs.Prelude.{ℕ, ◌+◌, ◌*◌, cond, ℤ, pos, ◌+ℤ◌, ◌-ℤ◌}
use Rattle.std.specs.Int.Signed.{lt_z}
use Rattle.lines.specs.declared.Tripod.{Tripod}
use Rattle.lines.specs.declared.Doubled.{Doubled}
use Rattle.lines.specs.declared.Order.{Order}
use Rattle.lines.specs.declared.Order.TheVariants.{Yzx, Xzy}
use Rattle.lines.specs.declared.Tie.{Tie}
use Rattle.lines.specs.declared.Tie.TheVariants.{One, Two, Three}
use Rattle.lines.specs.Steps.{Axis, X, Y, Z, Steps}

-- e_xy = B(2i+1)-A(2j+1)
abbrev pub e_xy : Steps → Steps → ℤ
e_xy D t = pos (D Y * (2 * t X + 1)) -ℤ pos (D X * (2 * t Y + 1))

-- e_xz = C(2i+1)-A(2k+1)
abbrev pub e_xz : Steps → Steps → ℤ
e_xz D t = pos (D Z * (2 * t X + 1)) -ℤ pos (D X * (2 * t Z + 1))

-- e_zy = B(2k+1)-C(2j+1)
abbrev pub e_zy : Steps → Steps → ℤ
e_zy D t = pos (D Y * (2 * t Z + 1)) -ℤ pos (D Z * (2 * t Y + 1))

-- the three together
abbrev pub values : Steps → Steps → Tripod
values D t = record { xy = e_xy D t; xz = e_xz D t; zy = e_zy D t }

-- figure 6: the next axis by their signs
abbrev pub by_signs : Tripod → Axis
by_signs v =
    cond (lt_z v.xy (pos 0))
    (cond (lt_z v.xz (pos 0)) X Z)
    (cond (lt_z v.zy (pos 0)) Z Y)

-- figure 6: `A2 = 2A; B2 = 2B; C2 = 2C`
abbrev pub doubled : Steps → Doubled
doubled D = record { a2 = pos (2 * D X); b2 = pos (2 * D Y); c2 = pos (2 * D Z) }

-- figure 6: the sums by which a step along an axis moves them
abbrev pub moved_values : Doubled → Axis → Tripod → Tripod
moved_values d X v = record { xy = v.xy +ℤ d.b2; xz = v.xz +ℤ d.c2; zy = v.zy }
moved_values d Y v = record { xy = v.xy -ℤ d.a2; xz = v.xz; zy = v.zy -ℤ d.c2 }
moved_values d Z v = record { xy = v.xy; xz = v.xz -ℤ d.a2; zy = v.zy +ℤ d.b2 }

-- SCOPE L19: where two crossings come next at one fraction their value is 0, and figure 6 then takes the second axis of the pair. That is right for all
-- three pairs, xy, xz and zy, in the order y, z, x, and wrong for all three in the order x, z, y: there each value is kept smaller by one
abbrev pub shift : Order → ℕ
shift Yzx = 0
shift Xzy = 1

-- the values as they are kept along a line of an order
abbrev pub lowered : Order → Tripod → Tripod
lowered o v = record { xy = v.xy -ℤ pos (shift o); xz = v.xz -ℤ pos (shift o); zy = v.zy -ℤ pos (shift o) }

-- and those of figure 6 again
abbrev pub raised : Order → Tripod → Tripod
raised o v = record { xy = v.xy +ℤ pos (shift o); xz = v.xz +ℤ pos (shift o); zy = v.zy +ℤ pos (shift o) }

-- the decision value of any two axes: e_xy is that of x and y, e_xz that of x and z, e_zy that of z and y
abbrev pub decision : Steps → Steps → Axis → Axis → ℤ
decision D t a b = pos (D b * (2 * t a + 1)) -ℤ pos (D a * (2 * t b + 1))

-- SCOPE M9: the next tie by their signs and zeros. A value of 0 tells a tie only where one of its two axes comes next: e_xy is 0 too where A and B are, and
-- where x and y tie later than z
abbrev pub tie_by_signs : Tripod → Tie
tie_by_signs v =
    cond (lt_z v.xy (pos 0))
    (cond (lt_z v.xz (pos 0)) (One X) (cond (lt_z (pos 0) v.xz) (One Z) (Two Z X)))
    (cond (lt_z v.zy (pos 0))
    (One Z)
    (cond (lt_z (pos 0) v.zy) (cond (lt_z (pos 0) v.xy) (One Y) (Two Y X)) (cond (lt_z (pos 0) v.xy) (Two Y Z) Three)))
