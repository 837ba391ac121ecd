-- `tripod::first_values` meets its contract: differences of short numbers fit, and with no step taken they are the values. Assumes nothing.
use Rattle.lines.proofs.Signs.{same_values}
use Rattle.tripod.proofs.Laws.{first_fits, first_held}
use Rattle.tripod.proofs.first_values.Goals as goal

pub overflow_sub-result : goal.overflow_sub-result
overflow_sub-result c = let s = c.requires in first_fits _ _ s.b s.a

pub overflow_sub-result-2 : goal.overflow_sub-result-2
overflow_sub-result-2 c = let s = c.requires in first_fits _ _ s.c s.a

pub overflow_sub-result-3 : goal.overflow_sub-result-3
overflow_sub-result-3 c = let s = c.requires in first_fits _ _ s.b s.c

pub returns : goal.returns
returns c =
    let s = c.requires in
    same_values (first_held _ _ s.b s.a) (first_held _ _ s.c s.a) (first_held _ _ s.b s.c)
