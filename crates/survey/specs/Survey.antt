-- SCOPE, S: placement and surveyed point, their refusals in order, and the cell of a point. Assumes nothing.
use Rattle.std.specs.Prelude.{Ok, Err, Result, ℕ, ◌≡◌, Bool, not, ◌||◌, ◌⊎◌, pos, Float}
use Rattle.std.specs.Float.Ieee.{lt}
use Rattle.std.specs.Float.Ieee.Scale.{finite}
use Rattle.cells.specs.declared.Axis.{Axis}
use Rattle.cells.specs.declared.Axis.TheVariants.{X, Y, Z}
use Rattle.cells.specs.declared.Cell.{Cell}
use Rattle.cells.specs.declared.Counts.{Counts}
use Rattle.cells.specs.declared.End.{End}
use Rattle.cells.specs.declared.End.TheVariants.{P}
use Rattle.cells.specs.declared.Part.TheVariants.{OriginX, OriginY, OriginZ, Edge}
use Rattle.cells.specs.declared.Refusal.{Refusal}
use Rattle.cells.specs.Checks.{Verdict, refuse_when, ◌then◌, by_verdict}
use Rattle.cells.specs.Refusals.{Told, told_of}
pub use Rattle.grids.specs.Grid.{count_check}
use Rattle.survey.specs.declared.Placement.{Placement}
use Rattle.survey.specs.declared.Point.{Point}
use Rattle.survey.specs.Quotient.{as_f64, quotient, outside, cell_number}

-- SCOPE R7: an edge that no cell has
abbrev pub bad_edge : Float → Bool
bad_edge e = not (finite e) || not (lt (as_f64 0) e)

-- refusal 7 (origin x, y, z, edge)
unfoldable pub placement_check : Placement → Verdict
placement_check at =
    refuse_when (not (finite at.ox)) (Refusal.Placement OriginX) then
    refuse_when (not (finite at.oy)) (Refusal.Placement OriginY) then
    refuse_when (not (finite at.oz)) (Refusal.Placement OriginZ) then
    refuse_when (bad_edge at.edge) (Refusal.Placement Edge)

-- counts and placement passed their tests
pub record PlacedGrid (n : Counts) (at : Placement) : Type 0 where
  pub counts : count_check n ≡ Ok tt
  pub placed : placement_check at ≡ Ok tt

-- the quotients of a point on the three axes: where it lies, in cells from the origin
abbrev pub quotients : Placement → Point → Point
quotients at p =
    record {
      x = quotient p.x at.ox at.edge;
      y = quotient p.y at.oy at.edge;
      z = quotient p.z at.oz at.edge;
    }

-- one axis, a surveyed value with its quotient: 8, then 9
abbrev pub value_check : End → Axis → ℕ → Float → Float → Verdict
value_check e a count value q = refuse_when (not (finite value)) (Refusal.NotFinite e a) then refuse_when (outside count q) (Refusal.OffSurvey e a)

-- SCOPE O5: a surveyed point with its quotients, axis by axis
unfoldable pub point_check : End → Counts → Point → Point → Verdict
point_check e n p q =
    value_check e X n.nx p.x q.x then
    value_check e Y n.ny p.y q.y then
    value_check e Z n.nz p.z q.z

-- the cell that has these quotients
abbrev pub cell_at : Counts → Point → Cell
cell_at n q = record { x = pos (cell_number n.nx q.x); y = pos (cell_number n.ny q.y); z = pos (cell_number n.nz q.z) }

-- the lookup of an end's point, counts and placement being tested
unfoldable pub look_up : End → Counts → Placement → Point → Result Cell Refusal
unfolding point_check cell_number
look_up e n at p = by_verdict Err (Ok (cell_at n (quotients at p))) (point_check e n p (quotients at p))

-- SCOPE S7, O5: the cell of a point alone; counts and placement are tested first, and the point as P
unfoldable pub cell_of : Counts → Placement → Point → Result Cell Refusal
unfolding count_check placement_check look_up
cell_of n at p = by_verdict Err (look_up P n at p) (count_check n then placement_check at)

-- the contract of the call
pub record LooksUp (n : Counts) (at : Placement) (p : Point) (r : Result Cell Refusal) : Type 0 where
  pub says : r ≡ cell_of n at p

-- each case of the answer: what is said of a refusal, or the cell
abbrev pub told_lookup : Result Cell Refusal → Told ⊎ Cell
told_lookup = told_of (λ c. c)
