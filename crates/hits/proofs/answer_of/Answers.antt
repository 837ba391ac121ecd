-- `hits::answer_of` meets its contract: clear where the byte is not solid, or it is that of a P that is not tested; else a hit with the cell of that
-- byte. Assumes nothing.
use mathlib.Core.Path.{◌≡◌, refl, sym, ap, ◌∙◌}
use mathlib.Core.Bool.{Bool, true, false, not, ◌&&◌, ◌||◌}
use Prim.Native.Nat.{ℕ, ◌<◌}
use native.Mathlib.Nat.{lt_of_lt_of_le}
use native.Mathlib.Omega.{arith}
use lib.Dec.{eqb}
use lib.IntN.{ℤ, nat_abs}
use lib.ListN.{length}
use Rattle.cells.specs.Manners.{is_tested}
use Rattle.cells.proofs.Machine.{held}
use Rattle.lines.specs.Steps.{total}
use Rattle.lines.specs.Lines.{differences}
use Rattle.tripod.specs.Tripod.{steps}
use Rattle.grids.specs.Grid.{solid, cell_at}
use Rattle.walks.specs.declared.FirstHit.TheVariants as FirstHit
use Rattle.routes.specs.Route.{byte_of_spot, HasByte}
use Rattle.places.specs.Entered.{entered}
use Rattle.hits.specs.Answer.{answer_from}
use Rattle.cells.proofs.Held.{abs_nat}
use Rattle.routes.proofs.Spots.{p_limit, byte_limit}
use Rattle.hits.proofs.answer_of.Goals as goal
use Rattle.hits.proofs.answer_of.Goals.{After-cell_at-cell, After-is_passed, After-is_solid, After-measured-made, Start}

-- the place of the byte
at_is : (l : ℕ) (at : ℤ) → HasByte l at → nat_abs (held at) ≡ nat_abs at
at_is l at h = abs_nat _ h.index h.is (omega arith)

has_byte : (c : Start) → nat_abs c.args.r.spot.at < length c.args.lane.now.cells.now
has_byte c = let h = c.requires in rw h.is h.below

below : (c : Start) → nat_abs (held c.args.r.spot.at) < 1073741824
below c = rw (at_is _ _ c.requires) (lt_of_lt_of_le (has_byte c) c.requires.few)

-- what the test of the byte answered
solid_is : (c : After-is_solid) → solid
    (byte_of_spot c.args.lane.now.cells.now c.args.r.spot) ≡ c.is_solid.result
solid_is c = sym (c.is_solid.ensures ∙ ap solid c.byte_at-code.ensures)

-- the cell
cell_is : (c : After-cell_at-cell) → c.cell_at-cell.result ≡ cell_at
    c.args.lane.now.route.n (nat_abs c.args.r.spot.at)
cell_is c = c.cell_at-cell.ensures ∙ ap (cell_at c.args.lane.now.route.n) (at_is _ _ c.requires)

pub returns-then-not-is_solid : goal.returns-then-not-is_solid
unfolding answer_from
returns-then-not-is_solid c = rw (solid_is ((goal.at.returns-then-not-is_solid c).After-is_solid) ∙ c.if-not-is_solid.true)

pub measured-made-requires : goal.measured-made-requires
measured-made-requires c =
    let earlier = goal.at.measured-made-requires c in
    let lane = c.args.lane.now in (
      p_limit _ _ lane.planned,
      rw (cell_is earlier.After-cell_at-cell)
          (byte_limit lane.route.n _ lane.planned.shaped (nat_abs c.args.r.spot.at) (has_byte earlier.Start)),
    )

-- the steps from P to it
made_is : (c : After-measured-made) →
    let k = c.args.lane.now.route in
    c.cell_at-cell.result ≡ cell_at k.n (nat_abs c.args.r.spot.at) →
    steps c.measured-made.result ≡ differences k.p (cell_at k.n (nat_abs c.args.r.spot.at))
made_is c cell = c.measured-made.ensures.0 ∙ ap (differences c.args.lane.now.route.p) cell

-- what the test of P answered
passed_is : (c : After-is_passed) →
    let k = c.args.lane.now.route in
    steps c.measured-made.result ≡ differences k.p (cell_at k.n (nat_abs c.args.r.spot.at)) →
    (is_tested c.args.how.start || not (eqb (total (differences k.p (cell_at k.n (nat_abs c.args.r.spot.at)))) 0))
    ≡ not c.is_passed.result
passed_is c made =
    turned (is_tested c.args.how.start) _
    ∙ ap not (sym (c.is_passed.ensures ∙ ap (λ t. not (is_tested c.args.how.start) && eqb (total t) 0) made))
  where
    turned : (t z : Bool) → (t || not z) ≡ not (not t && z)
    turned true z = refl
    turned false z = refl

pub returns-then-is_passed : goal.returns-then-is_passed
unfolding answer_from
returns-then-is_passed c =
    let earlier = goal.at.returns-then-is_passed c in
    rw (
      solid_is earlier.After-is_solid ∙ c.if-not-is_solid.false,
      passed_is earlier.After-is_passed (made_is earlier.After-measured-made (cell_is earlier.After-cell_at-cell)),
      c.if-is_passed.true,
    )

pub returns : goal.returns
unfolding answer_from
returns c =
    let earlier = goal.at.returns c in
    let made = made_is earlier.After-measured-made (cell_is earlier.After-cell_at-cell) in
    let k = c.args.lane.now.route in
    let place = c.place_after.ensures ∙ ap (entered k.p k.q k.order (steps k.d)) made in
    rw (
      solid_is earlier.After-is_solid ∙ c.if-not-is_solid.false,
      passed_is earlier.After-is_passed made,
      c.if-is_passed.false,
    )
    (λ i. FirstHit.Hit (record {
      cell = cell_is earlier.After-cell_at-cell i;
      code = c.byte_at-code.ensures i;
      place = place i;
      reads = c.args.r.reads;
    }))
