-- `touching::hit::walk_ties` meets its contract: the invariant: the spot is that of a place between two ties, and what is found from there is what the walk
-- finds. The measure is how many crossings are left. Assumes nothing.
use mathlib.Core.Path.{◌≡◌, refl, sym, ap, ◌∙◌, subst}
use mathlib.Core.Bool.{Bool, true, false}
use Prim.Native.Nat.{◌+◌, ◌-◌, ◌≤◌, ◌<◌}
use native.Mathlib.Omega.{arith}
use lib.ListN.{length}
use Rattle.lines.specs.Steps.{total}
use Rattle.lines.specs.Lines.{differences}
use Rattle.lines.specs.declared.Tie.TheVariants.{One}
use Rattle.tripod.specs.Tripod.{NextTie}
use Rattle.grids.specs.Grid.{solid}
use Rattle.routes.specs.Route.{HasByte}
use Rattle.touching.specs.Looking.{CanLookTie, Turned, WalksTies}
use Rattle.touching.proofs.Finding.{one_turned, Walking, walking_start, reads_most, walking_can, turn_stops, turn_goes, walk_stops}
use Rattle.touching.proofs.hit.walk_ties.Goals as goal
use Rattle.touching.proofs.hit.walk_ties.Goals.{After-is_solid, After-total-faces, At-loop-m, Else-t, In-One, In-loop-m}

-- how many crossings there are
all : (c : After-total-faces) → let k = c.args.lane.route in c.total-faces.result ≡ total (differences k.p k.q)
all c = c.total-faces.ensures ∙ ap total c.args.lane.planned.is

pub loop-m-init : goal.loop-m-init
loop-m-init c = let a = c.args.lane in walking_start a.cells.now a.route a.planned c.args.start c.requires.1

-- a turn begins before the last crossing
below : (c : In-loop-m) →
    let k = c.args.lane.route in
    c.total-faces.result ≡ total (differences k.p k.q) →
    c.loop-m.m < total (differences k.p k.q)
below c all = subst (λ n. c.loop-m.m < n) all c.loop-m-test.true

-- few cells were read
few_reads : (c : At-loop-m) → c.loop-m.m + c.loop-m.more ≤ 344044
few_reads c = let a = c.args.lane in reads_most a.cells.now a.route a.planned c.requires.0 _ _ _ c.loop-m.invariant

-- ---- a tie of one axis
one : (c : In-One) → NextTie c.loop-m.s.e (One c.in-One.n)
one c = subst (NextTie _) c.in-One.is c.next_tie.ensures

can : (c : In-One) → c.loop-m.m < total (differences c.args.lane.route.p c.args.lane.route.q) →
    CanLookTie (length c.args.lane.cells.now) c.args.lane.route c.loop-m.s (c.loop-m.m + c.loop-m.more) (One c.in-One.n)
can c below =
    let a = c.args.lane in
    (walking_can a.cells.now a.route a.planned c.requires.0 _ _ _ c.loop-m.invariant below).fits _ (one c)

pub crossed-s-requires : goal.crossed-s-requires
crossed-s-requires c =
    let at = goal.at.crossed-s-requires c in
    (can at.In-One (below at.In-loop-m (all at.After-total-faces))).steps

pub byte_at-requires : goal.byte_at-requires
byte_at-requires c =
    let at = goal.at.byte_at-requires c in
    subst (λ u. HasByte (length c.args.lane.cells.now) u.at) (sym c.crossed-s.ensures)
    (can at.In-One (below at.In-loop-m (all at.After-total-faces))).look.there.0

-- what the turn says
turned : (c : After-is_solid) → NextTie c.loop-m.s.e (One c.in-One.n) → (hit : Bool) → c.is_solid.result ≡ hit →
    Turned c.args.lane.cells.now c.args.lane.route c.loop-m.s (c.loop-m.m + c.loop-m.more)
    (record { turn = record { spot = c.crossed-s.result; reads = c.loop-m.m + c.loop-m.more + 1; hit = hit }; faces = 1 })
turned c one hit is =
    one_turned c.args.lane.cells.now c.args.lane.route c.loop-m.s c.crossed-s.result (c.loop-m.m + c.loop-m.more) _ hit one c.crossed-s.ensures
    (sym (c.is_solid.ensures ∙ ap solid c.byte_at.ensures) ∙ is)

pub overflow_add-result : goal.overflow_add-result
overflow_add-result c = record { fits = omega (arith, few_reads ((goal.at.overflow_add-result c).At-loop-m)) }

pub returns-then-is_solid : goal.returns-then-is_solid
returns-then-is_solid c =
    let at = goal.at.returns-then-is_solid c in
    let a = c.args.lane in
    let one_more : c.loop-m.m + c.loop-m.more + 1 ≡ c.loop-m.m + 1 + c.loop-m.more = omega arith in
    subst (λ r. WalksTies a.cells.now a.route (record { spot = c.crossed-s.result; reads = r; hit = true })) one_more
    (turn_stops a.cells.now a.route a.planned c.requires.0 _ _ _ c.loop-m.invariant (below at.In-loop-m (all at.After-total-faces)) _
    (turned at.After-is_solid (one at.In-One) true c.if-is_solid.true) refl)

pub loop-m-preserved-else-is_solid : goal.loop-m-preserved-else-is_solid
loop-m-preserved-else-is_solid c =
    let at = goal.at.loop-m-preserved-else-is_solid c in
    let a = c.args.lane in
    let one_more : c.loop-m.m + c.loop-m.more + 1 ≡ c.loop-m.m + 1 + c.loop-m.more = omega arith in
    subst (Walking a.cells.now a.route a.planned c.crossed-s.result (c.loop-m.m + 1)) one_more
    (turn_goes a.cells.now a.route a.planned c.requires.0 _ _ _ c.loop-m.invariant (below at.In-loop-m (all at.After-total-faces)) _
    (turned at.After-is_solid (one at.In-One) false c.if-is_solid.false) refl)

-- ---- a tie of more
pub overflow_add-m-in_default : goal.overflow_add-m-in_default
overflow_add-m-in_default c = record { fits = omega (arith, few_reads ((goal.at.overflow_add-m-in_default c).At-loop-m)) }

pub tie_turn-t-requires : goal.tie_turn-t-requires
tie_turn-t-requires c =
    let at = goal.at.tie_turn-t-requires c in
    let a = c.args.lane in
    walking_can a.cells.now a.route a.planned c.requires.0 _ _ _ c.loop-m.invariant (below at.In-loop-m (all at.After-total-faces))

pub returns-then-t : goal.returns-then-t
returns-then-t c =
    let at = goal.at.returns-then-t c in
    let a = c.args.lane in
    turn_stops a.cells.now a.route a.planned c.requires.0 _ _ _ c.loop-m.invariant (below at.In-loop-m (all at.After-total-faces))
    c.tie_turn-t.result c.tie_turn-t.ensures c.if-t.true

-- a turn that missed
on : (c : Else-t) →
    let a = c.args.lane in
    c.loop-m.m < total (differences a.route.p a.route.q) →
    Walking a.cells.now a.route a.planned c.tie_turn-t.result.turn.spot (c.loop-m.m + c.tie_turn-t.result.faces) c.tie_turn-t.result.turn.reads
on c below =
    let a = c.args.lane in
    turn_goes a.cells.now a.route a.planned c.requires.0 _ _ _ c.loop-m.invariant below c.tie_turn-t.result c.tie_turn-t.ensures c.if-t.false

pub overflow_sub-more : goal.overflow_sub-more
overflow_sub-more c =
    let at = goal.at.overflow_sub-more c in
    omega (arith, (on at.Else-t (below at.In-loop-m (all at.After-total-faces))).least)

pub loop-m-preserved : goal.loop-m-preserved
loop-m-preserved c =
    let at = goal.at.loop-m-preserved c in
    let a = c.args.lane in
    let t = c.tie_turn-t.result in
    let m = c.loop-m.m + t.faces in
    let w = on at.Else-t (below at.In-loop-m (all at.After-total-faces)) in
    let same : t.turn.reads ≡ m + (t.turn.reads - m) = omega (arith, w.least) in
    subst (Walking a.cells.now a.route a.planned t.turn.spot m) same w

pub overflow_add-result-2 : goal.overflow_add-result-2
overflow_add-result-2 c = record { fits = omega (arith, few_reads ((goal.at.overflow_add-result-2 c).At-loop-m)) }

pub returns : goal.returns
returns c =
    let a = c.args.lane in
    walk_stops a.cells.now a.route a.planned c.requires.0 _ _ _ c.loop-m.invariant
    (subst (λ n. n ≤ c.loop-m.m) (all ((goal.at.returns c).After-total-faces)) c.loop-m-test.false)
