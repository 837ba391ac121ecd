-- What is said of an answer tells which answer it is. Assumes nothing.
use Rattle.std.specs.Prelude.{Result}
use mathlib.Core.Path.{◌≡◌, refl}
use Rattle.cells.specs.declared.Refusal.{Refusal}
use Rattle.cells.proofs.Refusals.{told_of_one}
use Prim.Native.Nat.{ℕ}
use Rattle.records.specs.declared.pairs.Pair.{Pair}
use Rattle.records.specs.declared.venues.Venue.{Venue}
use Rattle.records.specs.Writing.{told_written}
use Rattle.records.specs.Venues.{told_venue}
use Rattle.records.specs.Pairs.{told_pair}

pub told_venue_one : (r s : Result Venue Refusal) → told_venue r ≡ told_venue s → r ≡ s
told_venue_one = told_of_one (λ v. (v.counts, v.start, v.long)) (λ v. record { counts = v.0; start = v.1; long = v.2 }) (λ v. refl)

pub told_pair_one : (r s : Result Pair Refusal) → told_pair r ≡ told_pair s → r ≡ s
told_pair_one = told_of_one (λ e. (e.p, e.q, e.rule)) (λ e. record { p = e.0; q = e.1; rule = e.2 }) (λ v. refl)

pub told_written_one : (r s : Result ℕ Refusal) → told_written r ≡ told_written s → r ≡ s
told_written_one = told_of_one (λ v. v) (λ v. v) (λ v. refl)
