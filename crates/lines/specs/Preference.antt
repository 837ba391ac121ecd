-- The order of preference of the axes where fractions are equal, and the two orders that the rules take. Assumes nothing.
use Rattle.std.specs.Prelude.{ℕ, zero, suc, ◌≡◌, refl, Bool, true, false, cond, ℤ}
use Rattle.std.specs.Int.Signed.{lt_z}
use Rattle.cells.specs.declared.Cell.{Cell}
use Rattle.cells.specs.declared.Rule.{Rule}
use Rattle.cells.specs.declared.Rule.TheVariants.{One, Two}
use Rattle.lines.specs.declared.Order.{Order}
use Rattle.lines.specs.declared.Order.TheVariants.{Yzx, Xzy}
use Rattle.lines.specs.Steps.{Axis, X, Y, Z, PerAxis}

-- the rank of each axis, 0 first; no two have the same, since the rank tells the axis
pub record Preference : Type 0 where
  pub rank : PerAxis
  pub axis : ℕ → Axis
  pub ranked : (a : Axis) → axis (rank a) ≡ a

-- ---- SCOPE L5: y, then z, then x

abbrev pub y_z_x_rank : PerAxis
y_z_x_rank Y = 0
y_z_x_rank Z = 1
y_z_x_rank X = 2

abbrev pub y_z_x_axis : ℕ → Axis
y_z_x_axis zero = Y
y_z_x_axis (suc zero) = Z
y_z_x_axis (suc (suc n)) = X

pub y_z_x_ranked : (a : Axis) → y_z_x_axis (y_z_x_rank a) ≡ a
y_z_x_ranked X = refl
y_z_x_ranked Y = refl
y_z_x_ranked Z = refl

abbrev pub y_z_x : Preference
y_z_x = record { rank = y_z_x_rank; axis = y_z_x_axis; ranked = y_z_x_ranked }

-- ---- SCOPE L18: x, then z, then y

abbrev pub x_z_y_rank : PerAxis
x_z_y_rank X = 0
x_z_y_rank Z = 1
x_z_y_rank Y = 2

abbrev pub x_z_y_axis : ℕ → Axis
x_z_y_axis zero = X
x_z_y_axis (suc zero) = Z
x_z_y_axis (suc (suc n)) = Y

pub x_z_y_ranked : (a : Axis) → x_z_y_axis (x_z_y_rank a) ≡ a
x_z_y_ranked X = refl
x_z_y_ranked Y = refl
x_z_y_ranked Z = refl

abbrev pub x_z_y : Preference
x_z_y = record { rank = x_z_y_rank; axis = x_z_y_axis; ranked = x_z_y_ranked }

-- the preference that an order names
abbrev pub prefers : Order → Preference
prefers Yzx = y_z_x
prefers Xzy = x_z_y

-- ---- the rules

-- p is below q; where they are equal, `after` decides
abbrev pub below : (p q : ℤ) → Bool → Bool
below p q after = cond (lt_z p q) true (cond (lt_z q p) false after)

-- SCOPE L18: p comes before q in the order z, then y, then x: its z is below; or that is equal and its y is; or both are equal and its x is
unfoldable pub comes_before : (p q : Cell) → Bool
comes_before p q = below p.z q.z (below p.y q.y (below p.x q.x false))

-- SCOPE L5, L18: the order of the line from p to q. Rule 1: y, z, x. Rule 2: that too, but x, z, y where q comes before p
unfoldable pub order_of : Rule → (p q : Cell) → Order
unfolding comes_before
order_of One p q = Yzx
order_of Two p q = cond (comes_before q p) Xzy Yzx

-- as a preference
abbrev pub by_rule : Rule → (p q : Cell) → Preference
by_rule rule p q = prefers (order_of rule p q)
