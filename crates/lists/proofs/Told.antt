-- What is said of an answer tells which answer it is. Assumes nothing.
use Rattle.std.specs.Prelude.{Result}
use mathlib.Core.Path.{◌≡◌, refl}
use Rattle.cells.specs.declared.Refusal.{Refusal}
use Rattle.cells.proofs.Refusals.{told_of_one}
use Prim.Native.Nat.{ℕ}
use Rattle.lists.specs.Lists.{told_listed}

pub told_listed_one : (r s : Result ℕ Refusal) → told_listed r ≡ told_listed s → r ≡ s
told_listed_one = told_of_one (λ v. v) (λ v. v) (λ v. refl)
