-- What is said of an answer tells which answer it is. Assumes nothing.
use Rattle.std.specs.Prelude.{Result}
use mathlib.Core.Path.{◌≡◌, refl}
use Rattle.cells.specs.declared.Refusal.{Refusal}
use Rattle.cells.proofs.Refusals.{told_of_one}
use Rattle.walks.specs.declared.FirstHit.{FirstHit}
use Rattle.walks.specs.Answers.{WalkSaid, clear, hit, walk_said, told_hit}

abbrev walked : WalkSaid → FirstHit
walked (clear reads) = FirstHit.Clear reads
walked (hit h) = FirstHit.Hit h

walked_back : (h : FirstHit) → walked (walk_said h) ≡ h
walked_back (FirstHit.Clear reads) = refl
walked_back (FirstHit.Hit h) = refl

pub told_hit_one : (r s : Result FirstHit Refusal) → told_hit r ≡ told_hit s → r ≡ s
told_hit_one = told_of_one walk_said walked walked_back
