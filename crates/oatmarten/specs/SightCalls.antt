-- The contracts of a point's cell and of the sight for C: each struct is the flattening of an answer that meets the call's own contract. Assumes nothing.
use Rattle.std.specs.Prelude.{◌≡◌, ℕ, List}
use Rattle.cells.specs.declared.Counts.{Counts}
use Rattle.cells.specs.Manners.{rule_check}
use Rattle.structs.specs.declared.inputs.OatManner.{OatManner}
use Rattle.structs.specs.declared.sight_answers.OatFound.{OatFound}
use Rattle.survey.specs.declared.Placement.{Placement}
use Rattle.survey.specs.declared.Point.{Point}
use Rattle.sight.specs.declared.Sight.{Sight}
use Rattle.structs.specs.declared.sight_answers.OatSight.{OatSight}
use Rattle.survey.specs.Survey.{LooksUp}
use Rattle.sight.specs.Sight.{Sees}
use Rattle.oatmarten.specs.Flattening.{Flattens, After}
use Rattle.structs.specs.Inputs.{as_manner}
use Rattle.structs.specs.SightAnswers.{flat_found, flat_sight}

abbrev pub FlatLooksUp : Counts → Placement → Point → OatFound → Type 0
FlatLooksUp n at p = Flattens flat_found (LooksUp n at p)

-- 12 comes first
abbrev pub FlatSees : OatManner → Counts → List ℕ → Placement → Point → Point → OatSight → Type 0
FlatSees how n cells at camera ball =
    Flattens flat_sight (λ a. After (rule_check how.rule) (λ why. a ≡ Sight.Refused why) (Sees (as_manner how) n cells at camera ball a))
