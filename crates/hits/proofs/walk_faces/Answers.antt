-- `hits::walk_faces` meets its contract: the invariant: with j faces behind it the walk is at s, and no cell on the way was solid; a turn crosses the
-- next face. Assumes nothing.
use mathlib.Core.Path.{◌≡◌, sym, ap, ◌∙◌, subst}
use Prim.Native.Nat.{◌+◌, ◌-◌}
use Rattle.grids.specs.Grid.{solid}
use Rattle.routes.specs.Route.{byte_of_spot}
use Rattle.hits.specs.Found.{Walking}
use Rattle.routes.proofs.Spots.{spot_byte, can_cross, place_within}
use Rattle.hits.proofs.Walking.{Following, no_face, one_face, hit_face, last_face}
use Rattle.hits.proofs.walk_faces.Goals as goal
use Rattle.hits.proofs.walk_faces.Goals.{After-is_solid, At-loop-j}

-- a walk of which these are faces
followed : (c : At-loop-j) →
    Walking c.requires.1.from c.args.lane.cells.now c.args.lane.route c.requires.1.next (c.requires.1.number + (c.loop-j.j - c.args.past))
    (c.args.reads + c.loop-j.j) c.loop-j.s
followed c = let w = c.requires.1 in c.loop-j.invariant.follows w.from w.next w.number w.crossing

pub loop-j-init : goal.loop-j-init
loop-j-init c = no_face _ c.args.lane.route c.args.lane.planned c.args.lane.cells.now c.args.start c.args.reads c.args.past c.args.faces c.requires.0

pub byte_at-requires : goal.byte_at-requires
byte_at-requires c =
    let w = followed ((goal.at.byte_at-requires c).At-loop-j) in
    spot_byte _ c.args.lane.route c.args.lane.planned _ _ (place_within _ c.args.lane.route c.args.lane.planned _ w.on.most) w.spot

-- what the test of the byte says
tested : (c : After-is_solid) →
    solid (byte_of_spot c.args.lane.cells.now c.loop-j.s) ≡ c.is_solid.result
tested c = sym (c.is_solid.ensures ∙ ap solid c.byte_at.ensures)

pub returns-then-is_solid : goal.returns-then-is_solid
returns-then-is_solid c =
    hit_face _ c.args.lane.route c.args.lane.planned c.args.lane.cells.now c.args.start c.args.reads c.args.past c.args.faces c.loop-j.j _ c.loop-j.invariant
    c.loop-j-test.true (tested ((goal.at.returns-then-is_solid c).After-is_solid) ∙ c.if-is_solid.true)

pub crossed-s-requires : goal.crossed-s-requires
crossed-s-requires c =
    let w = followed ((goal.at.crossed-s-requires c).At-loop-j) in
    can_cross _ c.args.lane.route c.args.lane.planned _ _ (place_within _ c.args.lane.route c.args.lane.planned _ w.on.most) w.spot

pub loop-j-preserved : goal.loop-j-preserved
loop-j-preserved c =
    subst (Following c.args.lane.cells.now c.args.lane.route c.args.start c.args.reads c.args.past c.args.faces (c.loop-j.j + 1))
    (sym c.crossed-s.ensures)
    (one_face _ c.args.lane.route c.args.lane.planned c.args.lane.cells.now c.args.start c.args.reads c.args.past c.args.faces
    c.loop-j.j _ _ c.loop-j.invariant
    c.loop-j-test.true (tested ((goal.at.loop-j-preserved c).After-is_solid) ∙ c.if-is_solid.false)
    c.next_face.ensures)

pub returns : goal.returns
returns c =
    last_face _ c.args.lane.route c.args.lane.planned c.args.lane.cells.now c.args.start c.args.reads c.args.past c.args.faces c.loop-j.j _ c.loop-j.invariant
    c.loop-j-test.false
