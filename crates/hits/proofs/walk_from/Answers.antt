-- `hits::walk_from` meets its contract: past the first cell where it is not tested, the faces that are left are walked. Assumes nothing.
use Rattle.hits.proofs.Starting.{can_pass, can_walk_on, walked_on}
use Rattle.hits.proofs.walk_from.Goals as goal

pub past_start-b-requires : goal.past_start-b-requires
past_start-b-requires c = can_pass _ _ c.args.lane.planned _ _ _ _ c.requires

pub walk_faces-requires : goal.walk_faces-requires
walk_faces-requires c =
    let past = c.past_start-b.ensures in
    (past.few, can_walk_on _ _ c.args.lane.planned _ _ _ _ _ past c.requires)

pub returns : goal.returns
returns c = walked_on _ _ c.args.lane.planned _ _ _ _ _ c.past_start-b.ensures _ c.walk_faces.ensures
