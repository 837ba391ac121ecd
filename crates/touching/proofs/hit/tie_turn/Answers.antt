-- `touching::hit::tie_turn` meets its contract: the cells of the tie that comes next may be looked at. Assumes nothing.
use mathlib.Core.Path.{subst}
use Rattle.tripod.specs.Tripod.{NextTie}
use Rattle.touching.proofs.hit.tie_turn.Goals as goal

pub look_two-requires : goal.look_two-requires
look_two-requires c = c.requires.fits _ (subst (NextTie c.args.s.e) c.in-Two.is c.next_tie.ensures)
