-- What passed tests tell: counts from 1 to 1,024, a finite placement with an edge above 0, and so quotients from 0 up to the counts.
-- Assumes nothing.
use Rattle.std.specs.Prelude.{Ok}
use Prim.Native.Nat.{ℕ}
use native.Mathlib.Omega.{arith}
use mathlib.Core.Path.{◌≡◌}
use mathlib.Core.Bool.{Bool, true, false, not}
use borrow.Author.Tests.{not-false}
use lib.Ieee.{Float, lt}
use lib.Ieee.Scale.{finite}
use Rattle.cells.specs.declared.Axis.{Axis}
use Rattle.cells.specs.declared.End.{End}
use Rattle.cells.specs.declared.Counts.{Counts}
use Rattle.cells.specs.declared.Axis.TheVariants.{X, Y, Z}
use Rattle.cells.specs.declared.Refusal.{Refusal}
use Rattle.cells.specs.Checks.{refuse_when}
use Rattle.cells.proofs.Checks.{each_fine, passed}
use Rattle.grids.specs.Inside.{Good}
use Rattle.grids.proofs.Shapes.{counted}
use Rattle.survey.specs.declared.Placement.{Placement}
use Rattle.survey.specs.declared.Point.{Point}
use Rattle.survey.specs.Quotient.{as_f64, quotient, outside}
use Rattle.survey.specs.Search.{Inside, AllInside}
use Rattle.survey.specs.Survey.{placement_check, PlacedGrid, quotients, value_check, point_check}
use Rattle.survey.proofs.Tests.{neither}
use Rattle.survey.proofs.Finite.{quotient_no_nan}
use Rattle.survey.proofs.Whole.{at_least}
use Rattle.survey.proofs.Numbers.{not_outside}

-- ---- placement

pub record Placed (at : Placement) : Type 0 where
  pub x : finite at.ox ≡ true
  pub y : finite at.oy ≡ true
  pub z : finite at.oz ≡ true
  pub edge : finite at.edge ≡ true
  pub above : lt (as_f64 0) at.edge ≡ true

finite_passed : (b : Bool) (r : Refusal) → refuse_when (not b) r ≡ Ok tt → b ≡ true
finite_passed b r h = not-false b (passed (not b) r h)

pub placed : (at : Placement) → placement_check at ≡ Ok tt → Placed at
unfolding placement_check
placed at h =
    let (x, rest) = each_fine _ _ h in
    let (y, more) = each_fine _ _ rest in
    let (z, e) = each_fine _ _ more in
    let (edge, above) = neither _ _ (passed _ _ e) in
    record { x = finite_passed _ _ x; y = finite_passed _ _ y; z = finite_passed _ _ z; edge = not-false _ edge; above = not-false _ above }

-- ---- a point

value_inside : (e : End) (a : Axis) (count : ℕ) (value origin edge : Float) → Good count → finite origin ≡ true → finite edge ≡ true
    → lt (as_f64 0) edge ≡ true → value_check e a count value (quotient value origin edge) ≡ Ok tt → Inside count (quotient value origin edge)
value_inside e a count value origin edge range o f up h =
    let (finite, within) = each_fine _ _ h in
    let number = quotient_no_nan value origin edge (finite_passed _ _ finite) o f up in
    let inside = passed _ _ within in
    record { some = range.some; small = range.most; from = at_least _ 0 (omega arith) number (not_outside count _ inside).0; within = inside }

pub point_inside : (e : End) (n : Counts) (at : Placement) (p : Point) → PlacedGrid n at → point_check e n p (quotients at p) ≡ Ok tt →
    AllInside n (quotients at p)
unfolding point_check
point_inside e n at p t h =
    let range = counted n t.counts in
    let l = placed at t.placed in
    let (x, rest) = each_fine _ _ h in
    let (y, z) = each_fine _ _ rest in
    record {
      x = value_inside e _ n.nx p.x at.ox at.edge range.x l.x l.edge l.above x;
      y = value_inside e _ n.ny p.y at.oy at.edge range.y l.y l.edge l.above y;
      z = value_inside e _ n.nz p.z at.oz at.edge range.z l.z l.edge l.above z;
    }

-- the other way: finite values that are not outside pass
pub value_fine : (e : End) (a : Axis) (count : ℕ) (value q : Float) → finite value ≡ true → outside count q ≡ false → value_check e a count value q ≡ Ok tt
value_fine e a count value q f o = rw (f, o)

pub point_fine : (e : End) (n : Counts) (p q : Point) → finite p.x ≡ true → finite p.y ≡ true → finite p.z ≡ true
    → outside n.nx q.x ≡ false → outside n.ny q.y ≡ false → outside n.nz q.z ≡ false → point_check e n p q ≡ Ok tt
unfolding point_check
point_fine e n p q fx fy fz ox oy oz =
    rw (value_fine e X n.nx p.x q.x fx ox, value_fine e Y n.ny p.y q.y fy oy, value_fine e Z n.nz p.z q.z fz oz)
