-- `touching::hit::told_from` meets its contract: the same route, with the order x, z, y. Assumes nothing.
use mathlib.Core.Path.{refl}
use Rattle.touching.proofs.hit.told_from.Goals as goal

pub returns : goal.returns
returns c = refl
