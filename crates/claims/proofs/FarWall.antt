-- Closing the surveyed box moved nothing but its far faces: off them the two rules have the same tests and the same numbers, and on them the half-open
-- one refused 9. Assumes nothing.
use Rattle.std.specs.Prelude.{Ok, Err, Result}
use Rattle.cells.specs.declared.Cell.{Cell}
use Prim.Native.Nat.{ℕ}
use mathlib.Core.Path.{◌≡◌, refl, sym, ap, ap₂, ◌∙◌}
use mathlib.Core.Bool.{Bool, true, false, not, ◌||◌}
use mathlib.Core.List.{List}
use mathlib.Core.Logic.{◌⊎◌, inl, inr}
use native.Mathlib.Omega.{arith}
use lib.Ieee.{Float, lt, le}
use lib.Ieee.Scale.{finite}
use lib.ListN.{length}
use Rattle.cells.specs.declared.Axis.{Axis}
use Rattle.cells.specs.declared.Axis.TheVariants.{X, Y, Z}
use Rattle.cells.specs.declared.Cell as cell
use Rattle.cells.specs.declared.Counts.{Counts}
use Rattle.cells.specs.declared.End.{End}
use Rattle.cells.specs.declared.End.TheVariants.{P, Q}
use Rattle.cells.specs.declared.Manner.{Manner}
use Rattle.cells.specs.declared.Refusal.{Refusal}
use Rattle.cells.specs.Checks.{Verdict, refuse_when, ◌then◌, by_verdict}
use Rattle.cells.proofs.Checks.{fine_rest, each_fine, passed, by_fine}
use Rattle.grids.specs.Grid.{shape, count_check}
use Rattle.grids.proofs.Any.{or_false}
use Rattle.survey.specs.declared.Placement.{Placement}
use Rattle.survey.specs.declared.Point.{Point}
use Rattle.survey.specs.Quotient.{as_f64, on_far_face}
use Rattle.survey.specs.Survey.{placement_check, quotients, value_check, point_check, cell_at, look_up, cell_of, LooksUp}
use Rattle.survey.proofs.Tests.{true_of_is_true, is_true_of_true, or_r, clash, false_unless}
use Rattle.survey.proofs.Order.{at_most_is, equal_at_most}
use Rattle.survey.proofs.Numbers.{below_in, number_off_face, off_face, far_not_outside}
use Rattle.survey.proofs.Lookups.{no_refusal}
use Rattle.sight.specs.declared.Sight.{Sight}
use Rattle.sight.specs.Sight.{seen, Sees}
use Rattle.sight.proofs.Seen.{looked_is, sight_is}
use Rattle.claims.specs.FarWall.{outside_before, value_before, point_before, cell_before, look_up_before, cell_of_before, sight_before, AxisKept, on_wall, SameOrWall, OnlyWalls, CallsKept}

-- ---- one axis

was_outside : (count : ℕ) (q : Float) → on_far_face count q ≡ true → outside_before count q ≡ true
was_outside count q on =
    true_of_is_true (outside_before count q) (or_r (lt q (as_f64 0)) (le (as_f64 count) q) (is_true_of_true (equal_at_most (as_f64 count) q on).0))

pub axis_kept : (count : ℕ) (q : Float) → AxisKept count q
axis_kept count q =
    record {
      number = λ upto. number_off_face count q (off_face count q upto);
      was = λ small from upto. below_in count q (omega arith) from upto;
      test = λ off. ap (λ b. lt q (as_f64 0) || b) (sym (at_most_is (as_f64 count) q ∙ rw off (or_false (lt (as_f64 count) q))));
      was_outside = was_outside count q;
      is_inside = λ small on. far_not_outside count q (omega arith) on;
    }

-- a value by both rules: it passes both, off the far face; it is refused alike; or it lies on the far face, and the half-open rule refused it 9
data ByBoth (e : End) (a : Axis) (face : Bool) (now before : Verdict) : Type 0 where
  passes : face ≡ false → now ≡ Ok tt → before ≡ Ok tt → ByBoth e a face now before
  alike : (r : Refusal) → now ≡ Err r → before ≡ Err r → ByBoth e a face now before
  wall : face ≡ true → before ≡ Err (Refusal.OffSurvey e a) → ByBoth e a face now before

by_both : (e : End) (a : Axis) (count : ℕ) (value q : Float) →
    ByBoth e a (on_far_face count q) (value_check e a count value q) (value_before e a count value q)
by_both e a count value q = go (on_far_face count q) refl
  where
    Case : Type 0
    Case = ByBoth e a (on_far_face count q) (value_check e a count value q) (value_before e a count value q)

    same : on_far_face count q ≡ false → value_before e a count value q ≡ value_check e a count value q
    same off = ap (λ b. refuse_when (not (finite value)) (Refusal.NotFinite e a) then refuse_when b (Refusal.OffSurvey e a)) (sym ((axis_kept count q).test off))

    off_it : on_far_face count q ≡ false → (v : Verdict) → value_check e a count value q ≡ v → Case
    off_it off (Ok _) is = passes off is (same off ∙ is)
    off_it off (Err r) is = alike r is (same off ∙ is)

    on_it : on_far_face count q ≡ true → (b : Bool) → finite value ≡ b → Case
    on_it on true known = wall on (rw (known, was_outside count q on) refl)
    on_it on false known = alike (Refusal.NotFinite e a) (rw known refl) (rw known refl)

    go : (b : Bool) → on_far_face count q ≡ b → Case
    go false off = off_it off (value_check e a count value q) refl
    go true on = on_it on (finite value) refl

-- ---- a point

module _ (e : End) (n : Counts) (at : Placement) (p : Point) where
  abbrev q : Point
  q = quotients at p

  cell_same : ((a : Axis) → on_wall n at p a ≡ false) → cell_at n q ≡ cell_before n q
  cell_same off =
      rw (number_off_face n.nx q.x (off X), number_off_face n.ny q.y (off Y), number_off_face n.nz q.z (off Z)) refl

  look_moved : SameOrWall Err e n at p (look_up e n at p) (look_up_before e n at p)
  unfolding look_up point_check
  look_moved =
      by_axes (by_both e X n.nx p.x q.x) (by_both e Y n.ny p.y q.y) (by_both e Z n.nz p.z q.z)
    where
      by_axes : ByBoth e X (on_wall n at p X) (value_check e X n.nx p.x q.x) (value_before e X n.nx p.x q.x) →
          ByBoth e Y (on_wall n at p Y) (value_check e Y n.ny p.y q.y) (value_before e Y n.ny p.y q.y) →
          ByBoth e Z (on_wall n at p Z) (value_check e Z n.nz p.z q.z) (value_before e Z n.nz p.z q.z) →
          SameOrWall Err e n at p (look_up e n at p) (look_up_before e n at p)
      by_axes (wall on x) y z = inr (X, on, rw x refl)
      by_axes (alike r x x') y z = inl (rw (x, x') refl)
      by_axes (passes off x x') (wall on y) z = inr (Y, on, rw (x', y) refl)
      by_axes (passes off x x') (alike r y y') z = inl (rw (x, x', y, y') refl)
      by_axes (passes off x x') (passes off_y y y') (wall on z) = inr (Z, on, rw (x', y', z) refl)
      by_axes (passes off x x') (passes off_y y y') (alike r z z') = inl (rw (x, x', y, y', z, z') refl)
      by_axes (passes off x x') (passes off_y y y') (passes off_z z z') =
          inl (rw (x, x', y, y', z, z') (ap Ok (cell_same (λ a. elim a as (λ k. on_wall n at p k ≡ false) [ X ↦ off | Y ↦ off_y | Z ↦ off_z ]))))

  -- what the half-open rule found lies on no far wall
  found_off : (c : cell.Cell) → look_up_before e n at p ≡ Ok c → (a : Axis) → on_wall n at p a ≡ false
  found_off c h a =
      let (fine, same) = by_fine Err (point_before e n p q) _ (no_refusal c) h in
      let (x, rest) = each_fine _ _ fine in
      let (y, z) = each_fine _ _ rest in
      elim a as (λ k. on_wall n at p k ≡ false) [
        | X ↦ passed_off X n.nx p.x q.x x
        | Y ↦ passed_off Y n.ny p.y q.y y
        | Z ↦ passed_off Z n.nz p.z q.z z
      ]
    where
      passed_off : (a : Axis) (count : ℕ) (value r : Float) → value_before e a count value r ≡ Ok tt → on_far_face count r ≡ false
      passed_off a count value r h =
          false_unless (on_far_face count r) (λ on.
          clash (was_outside count r on)
          (passed (outside_before count r) (Refusal.OffSurvey e a) (fine_rest (refuse_when (not (finite value)) (Refusal.NotFinite e a)) _ h)))

  pub only_walls : OnlyWalls e n at p
  only_walls = record { moved = look_moved; had_none = λ a c on h. clash on (found_off c h a) }

-- ---- the calls

-- tests that come first leave it so
module _ {A : Type 0} (refused : Refusal → A) (e : End) (n : Counts) (at : Placement) (p : Point) where
  after_tests : (v : Verdict) {now before : A} → SameOrWall refused e n at p now before →
      SameOrWall refused e n at p (by_verdict refused now v) (by_verdict refused before v)
  after_tests (Ok _) h = h
  after_tests (Err r) h = inl refl

module _ (n : Counts) (at : Placement) where
  cell_of_moved : (p : Point) (r : Result Cell Refusal) → LooksUp n at p r → SameOrWall Err P n at p r (cell_of_before n at p)
  unfolding cell_of
  cell_of_moved p r h = rw h.says (after_tests Err P n at p (count_check n then placement_check at) (look_moved P n at p))

  -- the sight, from the two lookups by both rules
  seen_moved : (how : Manner) (l : List ℕ) (camera ball : Point) (f f' t t' : Result Cell Refusal) → SameOrWall Err P n at camera f f' →
      SameOrWall Err Q n at ball t t' →
      SameOrWall Sight.Refused P n at camera (seen how n l f t) (seen how n l f' t') ⊎
      SameOrWall Sight.Refused Q n at ball (seen how n l f t) (seen how n l f' t')
  seen_moved how l camera ball f f' t t' (inr (a, on, was)) to = inl (inr (a, on, rw was refl))
  seen_moved how l camera ball f f' t t' (inl same) (inl same-ball) = inl (inl (ap₂ (seen how n l) same same-ball))
  seen_moved how l camera ball f (Err r) t t' (inl same) (inr to) = inl (inl (rw same refl))
  seen_moved how l camera ball f (Ok c) t t' (inl same) (inr (a, on, was)) = inr (inr (a, on, rw was refl))

  see_moved : (how : Manner) (l : List ℕ) (camera ball : Point) (r : Sight) → Sees how n l at camera ball r →
      SameOrWall Sight.Refused P n at camera r (sight_before how n l at camera ball) ⊎
      SameOrWall Sight.Refused Q n at ball r (sight_before how n l at camera ball)
  see_moved how l camera ball r h =
      rw (h.says, sight_is how n l at camera ball, looked_is how n l at camera ball)
      (elim (seen_moved how l camera ball _ _ _ _ (look_moved P n at camera) (look_moved Q n at ball)) [
        | inl from ↦ inl (after_tests Sight.Refused P n at camera tests from)
        | inr to ↦ inr (after_tests Sight.Refused Q n at ball tests to)
      ])
    where
      tests : Verdict
      tests = shape n (length l) then placement_check at

  pub calls_kept : CallsKept n at
  calls_kept = record { cell_of = cell_of_moved; see = see_moved }
