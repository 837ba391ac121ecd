-- What the code keeps along a walk, and what its steps ask and promise. No promise to users rests on this file. Assumes nothing.
use Rattle.std.specs.Prelude.{ℕ, ◌*◌, ◌≤◌, ◌<◌, ◌≡◌, cond, List, ℤ, pos, nat_abs, ◌+ℤ◌, ◌-ℤ◌, get_or}
use Rattle.std.specs.Int.Signed.{le_z}
use Rattle.cells.specs.declared.Cell.{Cell}
use Rattle.cells.specs.declared.Counts.{Counts}
use Rattle.cells.specs.declared.Each.{Each}
use Rattle.cells.specs.declared.Rule.{Rule}
use Rattle.cells.specs.Small.{Small}
use Rattle.lines.specs.declared.Order.{Order}
use Rattle.lines.specs.Steps.{Axis, X, Y, Z, Steps}
use Rattle.lines.specs.Preference.{Preference, prefers, order_of}
use Rattle.lines.specs.Crossings.{Course}
use Rattle.lines.specs.Lines.{differences, centres, cell_of}
use Rattle.lines.specs.Decisions.{values, doubled, moved_values, lowered, raised}
use Rattle.tripod.specs.Tripod.{steps, Short, SmallTripod, SmallDoubled}
use Rattle.grids.specs.Grid.{byte_index}
use Rattle.grids.specs.Inside.{Shaped, InGrid}
use Rattle.routes.specs.declared.Route.{Route}
use Rattle.routes.specs.declared.Spot.{Spot}

-- how far that place moves with a cell towards q, on an axis where a cell further on is `width` bytes further on
abbrev pub stride : ℤ → ℤ → ℕ → ℤ
stride p q width = cond (le_z p q) (pos width) (pos 0 -ℤ pos width)

-- on each axis: x fastest, then y, then z
abbrev pub strides : Counts → Cell → Cell → Each ℤ
strides n p q = record { x = stride p.x q.x 1; y = stride p.y q.y n.nx; z = stride p.z q.z (n.nx * n.ny) }

-- the stride along an axis
abbrev pub stride_on : Each ℤ → Axis → ℤ
stride_on h X = h.x
stride_on h Y = h.y
stride_on h Z = h.z

-- the route from p to q by a rule
pub record RouteOf (rule : Rule) (n : Counts) (p q : Cell) (k : Route) : Type 0 where
  pub grid : k.n ≡ n
  pub start : k.p ≡ p
  pub end : k.q ≡ q
  pub order : k.order ≡ order_of rule p q
  pub is : steps k.d ≡ differences p q
  pub short : Short k.d
  pub moves : k.strides ≡ strides n p q
  pub twice : k.twice ≡ doubled (differences p q)

-- a route between two cells of a grid of so many bytes
pub record Planned (bytes : ℕ) (k : Route) : Type 0 where
  pub shaped : Shaped k.n bytes
  pub p_in : InGrid k.n k.p
  pub q_in : InGrid k.n k.q
  pub is : steps k.d ≡ differences k.p k.q
  pub short : Short k.d
  pub moves : k.strides ≡ strides k.n k.p k.q
  pub twice : k.twice ≡ doubled (differences k.p k.q)

-- which axis goes first in its ties
abbrev pub preference : Route → Preference
preference k = prefers k.order

-- the order of its crossings
abbrev pub course : Route → Course
course k = centres (preference k) (differences k.p k.q)

-- the spot of a place of the route
pub record SpotAt (k : Route) (t : Steps) (s : Spot) : Type 0 where
  pub index : s.at ≡ pos (byte_index k.n (cell_of k.p k.q t))
  pub value : s.e ≡ lowered k.order (values (differences k.p k.q) t)

-- a spot with the values of figure 6 themselves, and with those of an order
abbrev pub raised_spot : Order → Spot → Spot
raised_spot o s = record { at = s.at; e = raised o s.e }

abbrev pub lowered_spot : Order → Spot → Spot
lowered_spot o s = record { at = s.at; e = lowered o s.e }

-- where a byte is
pub record HasByte (bytes : ℕ) (at : ℤ) : Type 0 where
  pub index : ℕ
  pub is : at ≡ pos index
  pub below : index < bytes
  pub few : bytes ≤ 1073741824

-- that byte
abbrev pub byte_there : List ℕ → ℤ → ℕ
byte_there l at = get_or l (nat_abs at) 0

-- a spot's byte
abbrev pub byte_of_spot : List ℕ → Spot → ℕ
byte_of_spot l s = byte_there l s.at

-- the spot across the next face along n
abbrev pub crossed_spot : Route → Axis → Spot → Spot
crossed_spot k n s = record { at = s.at +ℤ stride_on k.strides n; e = moved_values k.twice n s.e }

-- what a step asks: every sum fits
pub record CanCross (s : Spot) (k : Route) : Type 0 where
  pub at : Small s.at
  pub x : Small k.strides.x
  pub y : Small k.strides.y
  pub z : Small k.strides.z
  pub values : SmallTripod s.e
  pub twice : SmallDoubled k.twice
