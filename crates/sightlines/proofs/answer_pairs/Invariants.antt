-- The measure is how many pairs are left up to a number that no run reaches, with the one that comes next; none where nothing comes. Assumes nothing.
use Rattle.std.specs.Prelude.{Some, None, Option, ℕ, ◌-◌}
use Rattle.sightlines.proofs.answer_pairs.Given as goal

abbrev pub pairs_left : Option ℕ → ℕ
pairs_left (Some k) = 18446744073709551616 - k
pairs_left None = 0

abbrev pub decreases-loop-next : goal.decreases-loop-next
decreases-loop-next l = pairs_left l.next
