-- What the tripod's functions ask and promise. No promise to users rests on this file. Assumes nothing.
use Rattle.std.specs.Prelude.{ℕ, ◌+◌, ◌≤◌, ◌<◌, ◌≡◌, Bool, true, false}
use Rattle.cells.specs.Small.{Small}
use Rattle.lines.specs.declared.Tripod.{Tripod}
use Rattle.lines.specs.declared.Doubled.{Doubled}
use Rattle.lines.specs.Steps.{Axis, X, Y, Z, Steps, at, total}
use Rattle.lines.specs.Crossings.{next}
use Rattle.lines.specs.declared.Order.{Order}
use Rattle.lines.specs.declared.Tie.{Tie}
use Rattle.lines.specs.Preference.{prefers, y_z_x}
use Rattle.lines.specs.Touching.{next_tie}
use Rattle.lines.specs.Lines.{centres, longest, place_26}
use Rattle.lines.specs.Decisions.{values, lowered}
use Rattle.tripod.specs.declared.Diffs.{Diffs}
use Rattle.cells.specs.declared.Each.{Each}

-- the differences by axis
abbrev pub steps : Diffs → Steps
steps d = at d.a d.b d.c

-- the differences of two ends within the coordinate limit
pub record Short (d : Diffs) : Type 0 where
  pub a : d.a ≤ 16383
  pub b : d.b ≤ 16383
  pub c : d.c ≤ 16383

-- values and doubled differences that may be added
pub record SmallTripod (e : Tripod) : Type 0 where
  pub xy : Small e.xy
  pub xz : Small e.xz
  pub zy : Small e.zy

pub record SmallDoubled (d : Doubled) : Type 0 where
  pub a2 : Small d.a2
  pub b2 : Small d.b2
  pub c2 : Small d.c2

-- where e are the values of an order at a place that is not the end, r is the axis of the crossing that comes next
pub record NextFace (e : Tripod) (r : Axis) : Type 0 where
  pub comes_first :
      (o : Order) (D t : Steps) → ((a : Axis) → t a ≤ D a) → total t < total D → e ≡ lowered o (values D t) → r ≡ next (centres (prefers o) D) t

-- where e are the values at a place that is not the end, r is the tie that comes next
pub record NextTie (e : Tripod) (r : Tie) : Type 0 where
  pub comes_first : (D t : Steps) → ((a : Axis) → t a ≤ D a) → total t < total D → e ≡ values D t → r ≡ next_tie (centres y_z_x D) t

-- 1 for a move, else 0
abbrev pub bit : Bool → ℕ
bit true = 1
bit false = 0

abbrev pub moves_on : Each Bool → Steps
moves_on m X = bit m.x
moves_on m Y = bit m.y
moves_on m Z = bit m.z

-- where e are the values at 26-line cell m, which is not the last, r are the moves to cell m + 1
pub record LongMoves (D : Steps) (e : Tripod) (r : Each Bool) : Type 0 where
  pub go_on : (m : ℕ) → m < longest D → e ≡ values D (place_26 D m) → (a : Axis) → place_26 D (m + 1) a ≡ place_26 D m a + moves_on r a
