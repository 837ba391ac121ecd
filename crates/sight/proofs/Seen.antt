-- The sight answer from what is computed on the way: the two lookups f and t, and what the walk h says. Assumes nothing.
use Rattle.std.specs.Prelude.{Ok, Err, Result}
use Rattle.cells.specs.declared.Cell.{Cell}
use Prim.Native.Nat.{ℕ}
use mathlib.Core.Path.{◌≡◌, refl, sym, ap, ap₂, ◌∙◌}
use mathlib.Core.List.{List}
use lib.ListN.{length}
use Rattle.cells.specs.declared.Cell as cell
use Rattle.cells.specs.declared.Counts.{Counts}
use Rattle.cells.specs.declared.End.TheVariants.{P, Q}
use Rattle.cells.specs.declared.Manner.{Manner}
use Rattle.cells.specs.declared.Refusal.{Refusal}
use Rattle.cells.specs.Checks.{◌then◌, by_verdict}
use Rattle.grids.specs.Grid.{shape}
use Rattle.walks.specs.declared.Walker.TheVariants.{Adaptive}
use Rattle.walks.specs.declared.FirstHit.{FirstHit}
use Rattle.walks.specs.Answers.{first_hit}
use Rattle.survey.specs.declared.Placement.{Placement}
use Rattle.survey.specs.declared.Point.{Point}
use Rattle.survey.specs.Survey.{placement_check, look_up}
use Rattle.sight.specs.declared.Sight.TheVariants.{Refused}
use Rattle.sight.specs.Sight.{sight_of, seen, looked, sight}

module _ (how : Manner) (n : Counts) (l : List ℕ) (at : Placement) (camera ball : Point) where
  pub looked_is : looked how n l at camera ball ≡ seen how n l (look_up P n at camera) (look_up Q n at ball)
  unfolding looked
  looked_is = refl

  pub sight_is : sight how n l at camera ball ≡ by_verdict Refused (looked how n l at camera ball) (shape n (length l) then placement_check at)
  unfolding sight
  sight_is = refl

  from_lookups : {f t u v : (Result Cell Refusal)} → f ≡ look_up P n at camera → f ≡ u → t ≡ look_up Q n at ball → t ≡ v → looked how n l at camera ball ≡ seen how n l u v
  from_lookups hf f-is ht t-is = looked_is ∙ ap₂ (seen how n l) (sym hf ∙ f-is) (sym ht ∙ t-is)

  pub camera_refused : {f : (Result Cell Refusal)} {r : Refusal} → f ≡ look_up P n at camera → f ≡ Err r → looked how n l at camera ball ≡ Refused r
  camera_refused hf f-is = from_lookups hf f-is refl refl

  pub ball_refused : {f t : (Result Cell Refusal)} {c : cell.Cell} {r : Refusal} →
      f ≡ look_up P n at camera → f ≡ Ok c → t ≡ look_up Q n at ball → t ≡ Err r → looked how n l at camera ball ≡ Refused r
  ball_refused hf f-is ht t-is = from_lookups hf f-is ht t-is

  pub both_found : {f t : (Result Cell Refusal)} {c b : cell.Cell} {h : (Result FirstHit Refusal)} →
      f ≡ look_up P n at camera → f ≡ Ok c → t ≡ look_up Q n at ball → t ≡ Ok b → h ≡ first_hit Adaptive how n l c b →
      looked how n l at camera ball ≡ sight_of h
  both_found hf f-is ht t-is h-is = from_lookups hf f-is ht t-is ∙ ap sight_of (sym h-is)
