-- What is claimed of the words: what SCOPE says of a refusal, its number and details, tells which refusal it is; and what it says of an
-- answer, a refusal or the values, tells which answer it is. Assumes nothing.
use Rattle.std.specs.Prelude.{Bool, Result, ℕ, ◌≡◌}
use Rattle.records.specs.declared.venues.Venue.{Venue}
use Rattle.records.specs.declared.pairs.Pair.{Pair}
use Rattle.cells.specs.declared.Cell.{Cell}
use Rattle.std.proofs.Math.Option.{none, some}
use Rattle.cells.specs.declared.Axis.{Axis}
use Rattle.cells.specs.declared.Axis.TheVariants.{X}
use Rattle.cells.specs.declared.End.{End}
use Rattle.cells.specs.declared.End.TheVariants.{P}
use Rattle.cells.specs.declared.Part.{Part}
use Rattle.cells.specs.declared.Refusal.{Refusal}
use Rattle.cells.specs.declared.Refusal.TheVariants.{Limit, Count, Bytes, Layer, OffGrid, Room, Placement, NotFinite, OffSurvey, Record, Version, NoRule, Stale, Corners}
use Rattle.cells.specs.Checks.{Verdict}
use Rattle.cells.specs.Refusals.{told, NumberOf, told_verdict}
use Rattle.lists.specs.Lists.{told_listed}
use Rattle.grids.specs.declared.LayerPart.{LayerPart}
use Rattle.grids.specs.Grid.{told_part}
use Rattle.grids.specs.Marks.{told_completeness}
use Rattle.bricks.specs.Builds.{told_tally}
use Rattle.walks.specs.declared.FirstHit.{FirstHit}
use Rattle.walks.specs.Answers.{told_hit}
use Rattle.survey.specs.Survey.{told_lookup}
use Rattle.sight.specs.declared.Sight.{Sight}
use Rattle.sight.specs.Sight.{told_sight}
use Rattle.records.specs.Venues.{told_venue}
use Rattle.records.specs.Pairs.{told_pair}
use Rattle.records.specs.Writing.{told_written}

pub record ToldApart : Type 0 where
  pub refusal : (r s : Refusal) → told r ≡ told s → r ≡ s
  pub verdict : (r s : Verdict) → told_verdict r ≡ told_verdict s → r ≡ s
  pub listed : (r s : Result ℕ Refusal) → told_listed r ≡ told_listed s → r ≡ s
  pub part : (r s : Result LayerPart Refusal) → told_part r ≡ told_part s → r ≡ s
  pub completeness : (r s : Result Bool Refusal) → told_completeness r ≡ told_completeness s → r ≡ s
  pub tally : (r s : Result ℕ Refusal) → told_tally r ≡ told_tally s → r ≡ s
  pub hit : (r s : Result FirstHit Refusal) → told_hit r ≡ told_hit s → r ≡ s
  pub lookup : (r s : Result Cell Refusal) → told_lookup r ≡ told_lookup s → r ≡ s
  pub sight : (r s : Sight) → told_sight r ≡ told_sight s → r ≡ s
  pub venue : (r s : Result Venue Refusal) → told_venue r ≡ told_venue s → r ≡ s
  pub pair : (r s : Result Pair Refusal) → told_pair r ≡ told_pair s → r ≡ s
  pub written : (r s : Result ℕ Refusal) → told_written r ≡ told_written s → r ≡ s

-- the call that gives a refusal's number: one answer for each
pub record OneNumber (r : Refusal) : Type 0 where
  pub one : (m n : ℕ) → NumberOf r m → NumberOf r n → m ≡ n

-- SCOPE's table, number by number: each refusal's number, and what it says with it
pub record TheTable : Type 0 where
  pub one : (e : End) (a : Axis) → told (Limit e a) ≡ record { number = 1; end = some e; axis = some a; part = none }
  pub two : (a : Axis) → told (Count a) ≡ record { number = 2; end = none; axis = some a; part = none }
  pub three : told Bytes ≡ record { number = 3; end = none; axis = none; part = none }
  pub four : told Layer ≡ record { number = 4; end = none; axis = none; part = none }
  pub five : (e : End) (a : Axis) → told (OffGrid e a) ≡ record { number = 5; end = some e; axis = some a; part = none }
  pub six : told Room ≡ record { number = 6; end = none; axis = none; part = none }
  pub seven : (p : Part) → told (Placement p) ≡ record { number = 7; end = none; axis = none; part = some p }
  pub eight : (e : End) (a : Axis) → told (NotFinite e a) ≡ record { number = 8; end = some e; axis = some a; part = none }
  pub nine : (e : End) (a : Axis) → told (OffSurvey e a) ≡ record { number = 9; end = some e; axis = some a; part = none }
  pub ten : told Record ≡ record { number = 10; end = none; axis = none; part = none }
  pub eleven : told Version ≡ record { number = 11; end = none; axis = none; part = none }
  pub twelve : told NoRule ≡ record { number = 12; end = none; axis = none; part = none }
  pub thirteen : told Stale ≡ record { number = 13; end = none; axis = none; part = none }
  pub fourteen : told Corners ≡ record { number = 14; end = none; axis = none; part = none }

-- wrong numbers: an end outside the grid called 9, another version called a record cut short, a number that names no rule called another version,
-- crossed corners called stale
pub record WrongNumbers : Type 0 where
  pub off_grid_nine : (told (OffGrid P X)).number ≡ 9 → ⊥
  pub version_as_record : (told Version).number ≡ (told Record).number → ⊥
  pub rule_as_version : (told NoRule).number ≡ (told Version).number → ⊥
  pub corners_as_stale : (told Corners).number ≡ (told Stale).number → ⊥
