-- What is said of an answer tells which answer it is. Assumes nothing.
use Rattle.std.specs.Prelude.{Result}
use mathlib.Core.Path.{◌≡◌, refl}
use Rattle.cells.specs.declared.Refusal.{Refusal}
use Rattle.cells.proofs.Refusals.{told_of_one}
use Prim.Native.Nat.{ℕ}
use Rattle.bricks.specs.Builds.{told_tally}

pub told_tally_one : (r s : Result ℕ Refusal) → told_tally r ≡ told_tally s → r ≡ s
told_tally_one = told_of_one (λ v. v) (λ v. v) (λ v. refl)
