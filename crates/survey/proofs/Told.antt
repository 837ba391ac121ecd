-- What is said of an answer tells which answer it is. Assumes nothing.
use Rattle.std.specs.Prelude.{Result}
use mathlib.Core.Path.{◌≡◌, refl}
use Rattle.cells.specs.declared.Refusal.{Refusal}
use Rattle.cells.proofs.Refusals.{told_of_one}
use Rattle.cells.specs.declared.Cell.{Cell}
use Rattle.survey.specs.Survey.{told_lookup}

pub told_lookup_one : (r s : Result Cell Refusal) → told_lookup r ≡ told_lookup s → r ≡ s
told_lookup_one = told_of_one (λ v. v) (λ v. v) (λ v. refl)
