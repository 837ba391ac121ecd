-- The contracts of the first-hit calls for C, and of the adaptive walk's trail: the struct is the flattening of an answer that meets the call's own contract.
-- Assumes nothing.
use Rattle.std.specs.Prelude.{Result, Err, ℕ, ◌≡◌, List, ℤ}
use Rattle.cells.specs.declared.Refusal.{Refusal}
use Rattle.cells.specs.declared.Cell.{Cell}
use Rattle.cells.specs.declared.Counts.{Counts}
use Rattle.cells.specs.declared.Start.{Start}
use Rattle.cells.specs.Manners.{rule_check}
use Rattle.walks.specs.declared.Walker.{Walker}
use Rattle.walks.specs.declared.FirstHit.{FirstHit}
use Rattle.walks.specs.Answers.{Finds}
use Rattle.touching.specs.Touching.{FindsTouching}
use Rattle.trails.specs.Trails.{AdaptiveCells}
use Rattle.structs.specs.declared.inputs.OatManner.{OatManner}
use Rattle.structs.specs.declared.line_answers.OatListed.{OatListed}
use Rattle.structs.specs.declared.walk_answers.OatHit.{OatHit}
use Rattle.oatmarten.specs.Flattening.{Flattens, After}
use Rattle.oatmarten.specs.LineCalls.{FlatByRule}
use Rattle.structs.specs.Inputs.{as_manner}
use Rattle.structs.specs.WalkAnswers.{flat_hit}

-- of either walk; 12 comes first
abbrev pub FindsByRule : Walker → OatManner → Counts → List ℕ → Cell → Cell → Result FirstHit Refusal → Type 0
FindsByRule w how n cells p q a = After (rule_check how.rule) (λ why. a ≡ Err why) (Finds w (as_manner how) n cells p q a)

abbrev pub FlatFinds : Walker → OatManner → Counts → List ℕ → Cell → Cell → OatHit → Type 0
FlatFinds w how n cells p q = Flattens flat_hit (FindsByRule w how n cells p q)

-- of the adaptive one's trail
abbrev pub FlatAdaptiveCells : OatManner → Counts → List ℕ → Cell → Cell → List ℤ → OatListed → List ℤ → Type 0
FlatAdaptiveCells how n cells p q entry r exit = FlatByRule how.rule (λ a. AdaptiveCells (as_manner how) n cells p q entry a exit) entry r exit

-- of the touching walk, which knows no rule
abbrev pub FlatFindsTouching : Start → Counts → List ℕ → Cell → Cell → OatHit → Type 0
FlatFindsTouching start n cells p q = Flattens flat_hit (FindsTouching start n cells p q)
