-- The answer's case and values tell which answer it is: the definition that says them has a left inverse. Assumes nothing.
use mathlib.Core.Path.{◌≡◌, refl, ap}
use mathlib.Core.Logic.{◌⊎◌}
use mathlib.Core.Option.{Option, some, map}
use Rattle.cells.specs.Refusals.{Told}
use Rattle.cells.proofs.Refusals.{told_back, tells_apart, untold_by}
use Rattle.sight.specs.declared.Sight.{Sight}
use Rattle.sight.specs.declared.Sight.TheVariants.{Clear, Blocked, Refused}
use Rattle.sight.specs.Sight.{SightSaid, clear, blocked, told_sight}

abbrev seen_as : SightSaid → Sight
seen_as clear = Clear
seen_as (blocked b) = Blocked b

abbrev untold_sight : Told ⊎ SightSaid → Option Sight
untold_sight = untold_by Refused seen_as

pub told_sight_back : (r : Sight) → untold_sight (told_sight r) ≡ some r
told_sight_back (Refused r) = ap (map Refused) (told_back r)
told_sight_back Clear = refl
told_sight_back (Blocked b) = refl

pub told_sight_one : (r s : Sight) → told_sight r ≡ told_sight s → r ≡ s
told_sight_one = tells_apart told_sight untold_sight told_sight_back
