-- `tripod::lowered` meets its contract: what is taken off is 0 or 1, and so the differences fit and are read back as they are. Assumes nothing.
use Rattle.lines.proofs.Signs.{same_values}
use Rattle.tripod.proofs.Laws.{diff_shift_fits, diff_shift_held}
use Rattle.tripod.proofs.lowered.Goals as goal

pub overflow_sub-result : goal.overflow_sub-result
overflow_sub-result c = diff_shift_fits _ _ c.requires.xy c.shift_of-shift.ensures.1

pub overflow_sub-result-2 : goal.overflow_sub-result-2
overflow_sub-result-2 c = diff_shift_fits _ _ c.requires.xz c.shift_of-shift.ensures.1

pub overflow_sub-result-3 : goal.overflow_sub-result-3
overflow_sub-result-3 c = diff_shift_fits _ _ c.requires.zy c.shift_of-shift.ensures.1

pub returns : goal.returns
returns c =
    let s = c.requires in
    let t = c.shift_of-shift.ensures in
    same_values (diff_shift_held _ _ _ s.xy t.0 t.1) (diff_shift_held _ _ _ s.xz t.0 t.1) (diff_shift_held _ _ _ s.zy t.0 t.1)
