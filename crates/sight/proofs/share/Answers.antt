-- `sight::share` meets its contract: the two whole numbers are made floats, and the first is divided by the second. Assumes nothing.
use mathlib.Core.Path.{refl}
use Rattle.sight.proofs.share.Goals as goal

pub returns : goal.returns
returns c = refl
