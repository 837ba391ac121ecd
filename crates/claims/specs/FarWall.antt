-- The surveyed box is closed (SCOPE S13), and nothing else moved when it was closed: told by the half-open rule that stood before, by which a quotient
-- equal to the count was outside. Assumes nothing.
use Rattle.std.specs.Prelude.{Ok, Err, Result, ℕ, ◌≤◌, ◌<◌, ◌≡◌, Bool, true, false, not, ◌||◌, List, ◌⊎◌, pos, Float, length}
use Rattle.cells.specs.declared.Cell.{Cell}
use Rattle.std.specs.Float.Ieee.{lt, le}
use Rattle.std.specs.Float.Ieee.Scale.{finite}
use Rattle.cells.specs.declared.Axis.{Axis}
use Rattle.cells.specs.declared.Axis.TheVariants.{X, Y, Z}
use Rattle.cells.specs.declared.Cell as cell
use Rattle.cells.specs.declared.Counts.{Counts}
use Rattle.cells.specs.declared.End.{End}
use Rattle.cells.specs.declared.End.TheVariants.{P, Q}
use Rattle.cells.specs.declared.Manner.{Manner}
use Rattle.cells.specs.declared.Refusal.{Refusal}
use Rattle.cells.specs.Checks.{Verdict, refuse_when, ◌then◌, by_verdict}
use Rattle.grids.specs.Grid.{shape, count_check}
use Rattle.grids.specs.Inside.{count_on}
use Rattle.survey.specs.declared.Placement.{Placement}
use Rattle.survey.specs.declared.Point.{Point}
use Rattle.survey.specs.Quotient.{as_f64, outside, in_cell, on_far_face, number_below, cell_number}
use Rattle.survey.specs.Survey.{placement_check, quotients, look_up, LooksUp}
use Rattle.sight.specs.declared.Sight.{Sight}
use Rattle.sight.specs.Sight.{seen, Sees}

-- ---- the half-open rule

-- below 0, or at or above the count
abbrev pub outside_before : ℕ → Float → Bool
outside_before count q = lt q (as_f64 0) || le (as_f64 count) q

-- one axis: 8, then 9
abbrev pub value_before : End → Axis → ℕ → Float → Float → Verdict
value_before e a count value q =
    refuse_when (not (finite value)) (Refusal.NotFinite e a) then refuse_when (outside_before count q) (Refusal.OffSurvey e a)

-- a point with its quotients: x, y, z
abbrev pub point_before : End → Counts → Point → Point → Verdict
point_before e n p q =
    value_before e X n.nx p.x q.x then value_before e Y n.ny p.y q.y then value_before e Z n.nz p.z q.z

-- its cell: on each axis the whole number k below the count with k ≤ q < k+1
abbrev pub cell_before : Counts → Point → cell.Cell
cell_before n q = record { x = pos (number_below n.nx q.x); y = pos (number_below n.ny q.y); z = pos (number_below n.nz q.z) }

-- the lookup of an end's point, the cell of a point alone, and the sight
abbrev pub look_up_before : End → Counts → Placement → Point → Result Cell Refusal
look_up_before e n at p = by_verdict Err (Ok (cell_before n (quotients at p))) (point_before e n p (quotients at p))

abbrev pub cell_of_before : Counts → Placement → Point → Result Cell Refusal
cell_of_before n at p = by_verdict Err (look_up_before P n at p) (count_check n then placement_check at)

abbrev pub sight_before : Manner → Counts → List ℕ → Placement → Point → Point → Sight
sight_before how n l at camera ball =
    by_verdict Sight.Refused (seen how n l (look_up_before P n at camera) (look_up_before Q n at ball)) (shape n (length l) then placement_check at)

-- ---- what moved

-- One axis: below the count the number is what it was, that of the cell where q lies, and off the far face the test. On the far face q was outside, and is
-- inside.
pub record AxisKept (count : ℕ) (q : Float) : Type 0 where
  pub number : lt q (as_f64 count) ≡ true → cell_number count q ≡ number_below count q
  pub was : count ≤ 1024 → le (as_f64 0) q ≡ true → lt q (as_f64 count) ≡ true →
      (number_below count q < count) × (in_cell q (number_below count q) ≡ true)
  pub test : on_far_face count q ≡ false → outside count q ≡ outside_before count q
  pub was_outside : on_far_face count q ≡ true → outside_before count q ≡ true
  pub is_inside : count ≤ 1024 → on_far_face count q ≡ true → outside count q ≡ false

-- a point's quotient along an axis
abbrev pub along : Point → Axis → Float
along q X = q.x
along q Y = q.y
along q Z = q.z

-- the point's quotient along the axis equals the count: it lies on that far wall
abbrev pub on_wall : Counts → Placement → Point → Axis → Bool
on_wall n at p a = on_far_face (count_on n a) (along (quotients at p) a)

-- an answer is what it was, a refusal too; or the point lies on a far wall, and the answer was refusal 9 for it
abbrev pub SameOrWall : {A : Type 0} → (Refusal → A) → End → Counts → Placement → Point → (now before : A) → Type 0
SameOrWall refused e n at p now before = (now ≡ before) ⊎ ((a : Axis) × (on_wall n at p a ≡ true) × (before ≡ refused (Refusal.OffSurvey e a)))

-- A lookup, of the camera as P or of the ball as Q. No point on a far wall had a cell.
pub record OnlyWalls (e : End) (n : Counts) (at : Placement) (p : Point) : Type 0 where
  pub moved : SameOrWall Err e n at p (look_up e n at p) (look_up_before e n at p)
  pub had_none : (a : Axis) (c : cell.Cell) → on_wall n at p a ≡ true → ¬ (look_up_before e n at p ≡ Ok c)

-- The two calls: the cell of a point, as P; and the sight, which moved only where the camera lies on a far wall, or the ball does.
pub record CallsKept (n : Counts) (at : Placement) : Type 0 where
  pub cell_of : (p : Point) (r : Result Cell Refusal) → LooksUp n at p r → SameOrWall Err P n at p r (cell_of_before n at p)
  pub see : (how : Manner) (l : List ℕ) (camera ball : Point) (r : Sight) → Sees how n l at camera ball r →
      SameOrWall Sight.Refused P n at camera r (sight_before how n l at camera ball) ⊎
      SameOrWall Sight.Refused Q n at ball r (sight_before how n l at camera ball)
