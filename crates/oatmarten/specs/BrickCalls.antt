-- The contracts of the calls for C that keep counts: the struct is the flattening of an answer that meets the call's own contract. Assumes nothing.
use Rattle.std.specs.Prelude.{ℕ, List}
use Rattle.cells.specs.declared.Cell.{Cell}
use Rattle.cells.specs.declared.Counts.{Counts}
use Rattle.bricks.specs.Builds.{Builds}
use Rattle.refills.specs.Refills.{Refills, Sets}
use Rattle.structs.specs.declared.brick_answers.OatTally.{OatTally}
use Rattle.oatmarten.specs.Flattening.{Flattens}
use Rattle.structs.specs.BrickAnswers.{flat_tally}

abbrev pub FlatBuilds : Counts → List ℕ → List ℕ → OatTally → List ℕ → Type 0
FlatBuilds n cells entry r exit = Flattens flat_tally (λ a. Builds n cells entry a exit) r

abbrev pub FlatSets : Counts → Cell → ℕ → List ℕ → List ℕ → ℕ → OatTally → List ℕ → List ℕ → Type 0
FlatSets n cell byte l m total r l' m' = Flattens flat_tally (λ a. Sets n cell byte l m total a l' m') r

abbrev pub FlatRefills : Counts → Cell → Cell → ℕ → List ℕ → List ℕ → ℕ → OatTally → List ℕ → List ℕ → Type 0
FlatRefills n low high byte l m total r l' m' = Flattens flat_tally (λ a. Refills n low high byte l m total a l' m') r
