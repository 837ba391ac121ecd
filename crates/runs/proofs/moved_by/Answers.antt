-- `runs::moved_by` meets its contract: of small numbers every sum fits. Assumes nothing.
use Rattle.runs.proofs.Sums.{move_fits, move_held}
use Rattle.runs.proofs.moved_by.Goals as goal

pub overflow_add-result : goal.overflow_add-result
overflow_add-result c = let m = c.requires in move_fits _ _ _ m.from.at m.go.at m.stay.at _ _ c.by_sign-2.ensures

pub overflow_add-result-2 : goal.overflow_add-result-2
overflow_add-result-2 c = let m = c.requires in move_fits _ _ _ m.from.wv m.go.wv m.stay.wv _ _ c.by_sign-3.ensures

pub returns : goal.returns
returns c =
    let m = c.requires in
    λ i. record {
      at = move_held _ _ _ m.from.at m.go.at m.stay.at _ m.from.due _ c.by_sign-2.ensures i;
      due = move_held _ _ _ m.from.due m.go.due m.stay.due _ m.from.due _ c.by_sign.ensures i;
      wv = move_held _ _ _ m.from.wv m.go.wv m.stay.wv _ m.from.due _ c.by_sign-3.ensures i;
    }
