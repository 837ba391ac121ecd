-- `trails::fill` meets its contract: the invariant: m cells are stored, and the walk stands where it stands after m steps; a turn stores its cell and steps on. Assumes
-- nothing.
use mathlib.Core.Path.{◌≡◌, sym, ap, ◌∙◌, subst}
use Prim.Native.Nat.{ℕ, ◌+◌, ◌-◌, ◌*◌, ◌≤◌, ◌<◌}
use native.Mathlib.Omega.{arith}
use lib.ListN.{length}
use Rattle.cells.specs.declared.Cell.{Cell}
use Rattle.lines.specs.Lines.{six_cell}
use Rattle.walks.specs.Numbers.{stands, last_number}
use Rattle.routes.specs.Route.{preference}
use Rattle.routes.proofs.Spots.{at_first}
use Rattle.lists.specs.Lists.{filled}
use Rattle.lists.proofs.Filling.{filled_none, filled_next, filled_end}
use Rattle.trails.specs.Standing.{stand, stand_cells, StandsAt, CanPass}
use Rattle.trails.proofs.Steps26.{starts_on}
use Rattle.trails.proofs.Along.{stand_next, stand_most}
use Rattle.trails.proofs.fill.Goals as goal
use Rattle.trails.proofs.fill.Goals.{At-loop-m, In-loop-m}

pub loop-m-init : goal.loop-m-init
unfolding stands
loop-m-init c =
    let k = c.args.lane.route in
    (filled_none _ _ _, record { spot = at_first _ k c.args.lane.planned _ c.first_spot.ensures; beside = starts_on k })

-- there is room for all cells
room : (l : At-loop-m) →
    3 * (l.args.count - 1 + 1) ≤ length l.args.out.now
room l = omega (arith, l.requires.0.some, l.requires.1)

-- the walk stands on the line
within : (l : At-loop-m) →
    let a = l.args in
    stand a.lane.cells.now a.lane.route l.loop-m.m ≤ last_number a.lane.route.p a.lane.route.q
within l =
    stand_most l.args.lane.cells.now l.args.lane.route l.args.count l.requires.0 l.loop-m.m (omega (arith, l.requires.0.some, l.loop-m.invariant.0.most))

cell_there : (l : At-loop-m) → CanPass l.args.lane.route 0 l.loop-m.t.spot
cell_there l =
    record { bytes = _; plan = l.args.lane.planned; number = stand l.args.lane.cells.now l.args.lane.route l.loop-m.m; at = l.loop-m.invariant.1.spot; fits = omega (arith, within l) }

-- before the last cell it is not at Q
below : (i : In-loop-m) →
    let a = i.args in
    stand a.lane.cells.now a.lane.route i.loop-m.m < last_number a.lane.route.p a.lane.route.q
below i =
    i.requires.0.below i.loop-m.m (omega (arith, i.loop-m-test.true))

pub spot_cell-requires : goal.spot_cell-requires
spot_cell-requires c = cell_there ((goal.at.spot_cell-requires c).At-loop-m)

pub next_stand-t-requires : goal.next_stand-t-requires
next_stand-t-requires c =
    record {
      plan = c.args.lane.planned;
      long = c.longest_axis-long.ensures;
      number = stand c.args.lane.cells.now c.args.lane.route c.loop-m.m;
      below = below ((goal.at.next_stand-t-requires c).In-loop-m);
      at = c.loop-m.invariant.1;
    }

pub loop-m-preserved : goal.loop-m-preserved
loop-m-preserved c =
    let earlier = goal.at.loop-m-preserved c in
    let k = c.args.lane.route in
    let cells = c.args.lane.cells.now in (
      filled_next (λ j. six_cell (preference k) k.p k.q (stand cells k j)) _ _ (room earlier.At-loop-m) _ _ _ c.loop-m.m c.loop-m.invariant.0 c.loop-m-test.true
          c.put.ensures (c.spot_cell.ensures.is (stand cells k c.loop-m.m) (within earlier.At-loop-m) c.loop-m.invariant.1.spot),
      subst (λ n. StandsAt k n c.next_stand-t.result) (stand_next cells k c.loop-m.m)
          (c.next_stand-t.ensures.leads (stand cells k c.loop-m.m) (below earlier.In-loop-m) c.loop-m.invariant.1),
    )

pub spot_cell-requires-2 : goal.spot_cell-requires-2
spot_cell-requires-2 c = cell_there ((goal.at.spot_cell-requires-2 c).At-loop-m)

pub returns : goal.returns
returns c =
    let earlier = goal.at.returns c in
    let k = c.args.lane.route in
    let cells = c.args.lane.cells.now in
    let count : c.args.count - 1 + 1 ≡ c.args.count = omega (arith, c.requires.0.some) in
    let f : ℕ → Cell = λ j. six_cell (preference k) k.p k.q (stand cells k j) in
    let last : c.loop-m.m ≡ c.args.count - 1 = omega (arith, c.loop-m.invariant.0.most, c.loop-m-test.false) in
    filled_end f _ _ (room earlier.At-loop-m) _ _ _ c.loop-m.m c.loop-m.invariant.0 c.loop-m-test.false
    (ap f (sym last) ∙ sym (c.spot_cell-2.ensures.is (stand cells k c.loop-m.m) (within earlier.At-loop-m) c.loop-m.invariant.1.spot)) c.put-2.ensures
    ∙ ap (λ n. filled (stand_cells cells k n) c.args.out.now) count
