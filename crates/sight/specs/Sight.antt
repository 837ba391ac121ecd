-- SCOPE: the sight answer from camera to ball. Refusals 2, 3, 7, the camera's 8 and 9, then the ball's. Assumes nothing.
use Rattle.std.specs.Prelude.{Ok, Err, Result, ℕ, ◌≡◌, List, ◌⊎◌, Float, length}
use Rattle.cells.specs.declared.Refusal.{Refusal}
use Rattle.cells.specs.declared.Cell.{Cell}
use Rattle.std.proofs.Common.{inl, inr}
use Rattle.std.specs.Float.{binary64}
use Rattle.std.specs.Float.Ieee.{div}
use Rattle.cells.specs.declared.Counts.{Counts}
use Rattle.cells.specs.declared.End.TheVariants.{P, Q}
use Rattle.cells.specs.declared.Manner.{Manner}
use Rattle.cells.specs.Checks.{◌then◌, by_verdict}
use Rattle.cells.specs.Refusals.{Told, told}
use Rattle.grids.specs.Grid.{shape}
use Rattle.walks.specs.declared.Walker.TheVariants.{Adaptive}
use Rattle.walks.specs.declared.FirstHit.{FirstHit}
use Rattle.walks.specs.Answers.{first_hit}
use Rattle.survey.specs.declared.Placement.{Placement}
use Rattle.survey.specs.declared.Point.{Point}
use Rattle.survey.specs.Quotient.{as_f64}
use Rattle.survey.specs.Survey.{placement_check, look_up}
use Rattle.sight.specs.declared.Block.{Block}
use Rattle.sight.specs.declared.Sight.{Sight}
use Rattle.sight.specs.declared.Sight.TheVariants.{Clear, Blocked, Refused}

-- SCOPE S9: the share of the way, from the two numbers of a place
abbrev pub share_of : ℕ → ℕ → Float
share_of num den = div binary64 (as_f64 num) (as_f64 den)

-- SCOPE S8, S10: the sight answer, from what the adaptive walk says
abbrev pub sight_of : Result FirstHit Refusal → Sight
sight_of (Ok (FirstHit.Clear reads)) = Clear
sight_of (Ok (FirstHit.Hit h)) =
    Blocked (record { share = share_of h.place.num h.place.den; cell = h.cell; code = h.code; reads = h.reads; face = h.place.face })
sight_of (Err r) = Refused r

-- SCOPE S10, S11: from the two lookups: a refusal, the camera's before the ball's, or what the adaptive walk finds
abbrev pub seen : Manner → Counts → List ℕ → Result Cell Refusal → Result Cell Refusal → Sight
seen how n l (Err r) ball = Refused r
seen how n l (Ok c) (Err r) = Refused r
seen how n l (Ok c) (Ok b) = sight_of (first_hit Adaptive how n l c b)

-- the two lookups, camera P and ball Q, counts and placement being tested
unfoldable pub looked : Manner → Counts → List ℕ → Placement → Point → Point → Sight
unfolding look_up first_hit
looked how n l at camera ball = seen how n l (look_up P n at camera) (look_up Q n at ball)

-- SCOPE O6: counts, bytes and placement are tested before any point
unfoldable pub sight : Manner → Counts → List ℕ → Placement → Point → Point → Sight
unfolding looked shape placement_check
sight how n l at camera ball = by_verdict Refused (looked how n l at camera ball) (shape n (length l) then placement_check at)

-- the contract of the sight call
pub record Sees (how : Manner) (n : Counts) (l : List ℕ) (at : Placement) (camera ball : Point) (r : Sight) : Type 0 where
  pub says : r ≡ sight how n l at camera ball

-- what a sight says: clear, or the block's values
pub data SightSaid : Type 0 where
  clear : SightSaid
  blocked : Block → SightSaid

-- each case of the answer: what is said of a refusal, or what the sight says
abbrev pub told_sight : Sight → Told ⊎ SightSaid
told_sight (Refused r) = inl (told r)
told_sight Clear = inr clear
told_sight (Blocked b) = inr (blocked b)
