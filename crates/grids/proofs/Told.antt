-- What is said of an answer tells which answer it is. Assumes nothing.
use Rattle.std.specs.Prelude.{Result}
use mathlib.Core.Path.{◌≡◌, refl}
use Rattle.cells.specs.declared.Refusal.{Refusal}
use Rattle.cells.proofs.Refusals.{told_of_one}
use mathlib.Core.Bool.{Bool}
use Rattle.grids.specs.declared.LayerPart.{LayerPart}
use Rattle.grids.specs.Grid.{part_at, told_part}
use Rattle.grids.specs.Marks.{told_completeness}

pub told_part_one : (r s : Result LayerPart Refusal) → told_part r ≡ told_part s → r ≡ s
told_part_one = told_of_one (λ p. (p.start, p.long)) (λ v. part_at v.0 v.1) (λ v. refl)

pub told_completeness_one : (r s : Result Bool Refusal) → told_completeness r ≡ told_completeness s → r ≡ s
told_completeness_one = told_of_one (λ v. v) (λ v. v) (λ v. refl)
