-- What the code keeps along a line, and what its steps ask and promise. No promise to users rests on this file. Assumes nothing.
use Rattle.std.specs.Prelude.{ℕ, ◌+◌, ◌*◌, ◌≡◌, cond, List, ℤ, pos, negsuc, ◌+ℤ◌, ◌-ℤ◌, set}
use Rattle.std.specs.Int.Signed.{le_z}
use Rattle.cells.specs.declared.Cell.{Cell}
use Rattle.cells.specs.Small.{Small}
use Rattle.lines.specs.declared.Order.{Order}
use Rattle.lines.specs.Steps.{Axis, X, Y, Z, Steps}
use Rattle.lines.specs.Lines.{differences, longest, cell_of, InLimit}
use Rattle.lines.specs.Decisions.{values, doubled, moved_values, lowered}
use Rattle.tripod.specs.declared.Diffs.{Diffs}
use Rattle.tripod.specs.Tripod.{steps, Short, SmallTripod, SmallDoubled}
use Rattle.cells.specs.declared.Each.{Each}
use Rattle.lists.specs.declared.six.SixWay.{SixWay}
use Rattle.lists.specs.declared.six.SixSpot.{SixSpot}
use Rattle.lists.specs.declared.twenty_six.Pace.{Pace}
use Rattle.lists.specs.declared.twenty_six.Coordinate.{Coordinate}

-- one cell from p towards q
abbrev pub unit : ℤ → ℤ → ℤ
unit p q = cond (le_z p q) (pos 1) (negsuc 0)

abbrev pub heading : Cell → Cell → Each ℤ
heading p q = record { x = unit p.x q.x; y = unit p.y q.y; z = unit p.z q.z }

-- the neighbouring cell along an axis
abbrev pub stepped_cell : Each ℤ → Axis → Cell → Cell
stepped_cell h X c = record { x = c.x +ℤ h.x; y = c.y; z = c.z }
stepped_cell h Y c = record { x = c.x; y = c.y +ℤ h.y; z = c.z }
stepped_cell h Z c = record { x = c.x; y = c.y; z = c.z +ℤ h.z }

-- coordinates and a heading that may be added
pub record CanStep (c : Cell) (h : Each ℤ) : Type 0 where
  pub x : Small c.x
  pub y : Small c.y
  pub z : Small c.z
  pub hx : Small h.x
  pub hy : Small h.y
  pub hz : Small h.z

-- the way from p to q
pub record SixWayOf (p q : Cell) (w : SixWay) : Type 0 where
  pub towards : w.towards ≡ heading p q
  pub twice : w.twice ≡ doubled (differences p q)

-- the spot of a place of the line from p to q, in an order
pub record SixSpotAt (o : Order) (p q : Cell) (t : Steps) (s : SixSpot) : Type 0 where
  pub cell : s.at ≡ cell_of p q t
  pub value : s.e ≡ lowered o (values (differences p q) t)

-- the place across the next face along n
abbrev pub crossed_six : SixWay → Axis → SixSpot → SixSpot
crossed_six w n s = record { at = stepped_cell w.towards n s.at; e = moved_values w.twice n s.e }

-- what a step asks: every sum fits
pub record CanCrossSix (s : SixSpot) (w : SixWay) : Type 0 where
  pub cells : CanStep s.at w.towards
  pub values : SmallTripod s.e
  pub twice : SmallDoubled w.twice

-- two ends within the limit, and their differences
pub record Measured (p q : Cell) (d : Diffs) : Type 0 where
  pub p_in : InLimit p
  pub q_in : InLimit q
  pub is : steps d ≡ differences p q
  pub short : Short d

-- ---- the 26-line, a coordinate at a time

-- from p towards q, with the difference D and the longest one M
abbrev pub pace : ℤ → ℤ → ℕ → ℕ → Pace
pace p q D M = record { by = unit p q; stay = pos (2 * D); go = pos (2 * D) -ℤ pos (2 * M) }

abbrev pub first_of : ℤ → ℕ → ℕ → Coordinate
first_of p D M = record { at = p; due = pos (2 * D) -ℤ pos M }

abbrev pub next_of : Pace → Coordinate → Coordinate
next_of k c = cond (le_z (pos 0) c.due) (record { at = c.at +ℤ k.by; due = c.due +ℤ k.go }) (record { at = c.at; due = c.due +ℤ k.stay })

-- what a move asks: every sum fits
pub record CanMove (c : Coordinate) (k : Pace) : Type 0 where
  pub at : Small c.at
  pub due : Small c.due
  pub by : Small k.by
  pub stay : Small k.stay
  pub go : Small k.go

-- the three, D being the differences
abbrev pub paces : Cell → Cell → Steps → Each Pace
paces p q D = record { x = pace p.x q.x (D X) (longest D); y = pace p.y q.y (D Y) (longest D); z = pace p.z q.z (D Z) (longest D) }

abbrev pub firsts : Cell → Steps → Each Coordinate
firsts p D = record { x = first_of p.x (D X) (longest D); y = first_of p.y (D Y) (longest D); z = first_of p.z (D Z) (longest D) }

abbrev pub nexts : Each Pace → Each Coordinate → Each Coordinate
nexts k c = record { x = next_of k.x c.x; y = next_of k.y c.y; z = next_of k.z c.z }

pub record CanMoves (c : Each Coordinate) (k : Each Pace) : Type 0 where
  pub x : CanMove c.x k.x
  pub y : CanMove c.y k.y
  pub z : CanMove c.z k.z

abbrev pub cell_at : Each Coordinate → Cell
cell_at c = record { x = c.x.at; y = c.y.at; z = c.z.at }

-- three numbers stored from a place on
abbrev pub put3 : List ℤ → ℕ → Cell → List ℤ
put3 l at c = set (set (set l at c.x) (at + 1) c.y) (at + 2) c.z
