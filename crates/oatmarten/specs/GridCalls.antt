-- The contracts of marking, completeness and layers for C: each struct is the flattening of an answer that meets the call's own contract. Assumes nothing.
use Rattle.std.specs.Prelude.{ℕ, List, ℤ}
use Rattle.cells.specs.declared.Counts.{Counts}
use Rattle.grids.specs.Grid.{GivesLayerPart}
use Rattle.grids.specs.Marks.{Marks, Completes}
use Rattle.structs.specs.declared.grid_answers.OatVerdict.{OatVerdict}
use Rattle.structs.specs.declared.grid_answers.OatComplete.{OatComplete}
use Rattle.structs.specs.declared.grid_answers.OatPart.{OatPart}
use Rattle.oatmarten.specs.Flattening.{Flattens}
use Rattle.structs.specs.GridAnswers.{flat_verdict, flat_complete, flat_part}

abbrev pub FlatMarks : Counts → List ℕ → OatVerdict → List ℕ → Type 0
FlatMarks n entry r exit = Flattens flat_verdict (λ a. Marks n entry a exit) r

abbrev pub FlatCompletes : Counts → List ℕ → OatComplete → Type 0
FlatCompletes n cells = Flattens flat_complete (Completes n cells)

abbrev pub FlatGivesLayerPart : Counts → ℕ → ℤ → OatPart → Type 0
FlatGivesLayerPart n bytes z = Flattens flat_part (GivesLayerPart n bytes z)
