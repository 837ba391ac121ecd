-- `tripod::raised` meets its contract: what is put back is 0 or 1, and so the sums fit and are read back as they are. Assumes nothing.
use Rattle.lines.proofs.Signs.{same_values}
use Rattle.tripod.proofs.Laws.{sum_shift_fits, sum_shift_held}
use Rattle.tripod.proofs.raised.Goals as goal

pub overflow_add-result : goal.overflow_add-result
overflow_add-result c = sum_shift_fits _ _ c.requires.xy c.shift_of-shift.ensures.1

pub overflow_add-result-2 : goal.overflow_add-result-2
overflow_add-result-2 c = sum_shift_fits _ _ c.requires.xz c.shift_of-shift.ensures.1

pub overflow_add-result-3 : goal.overflow_add-result-3
overflow_add-result-3 c = sum_shift_fits _ _ c.requires.zy c.shift_of-shift.ensures.1

pub returns : goal.returns
returns c =
    let s = c.requires in
    let t = c.shift_of-shift.ensures in
    same_values (sum_shift_held _ _ _ s.xy t.0 t.1) (sum_shift_held _ _ _ s.xz t.0 t.1) (sum_shift_held _ _ _ s.zy t.0 t.1)
