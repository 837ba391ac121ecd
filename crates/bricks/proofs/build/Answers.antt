-- `bricks::build` meets its contract: the masks of all bricks are filled in, and their ones are the solid bytes. Assumes nothing.
use mathlib.Core.Path.{sym, ap, ◌∙◌}
use Rattle.grids.proofs.Shapes.{shaped}
use Rattle.std.specs.Prelude.{Ok}
use Rattle.bricks.proofs.Totals.{ones_are_solids}
use Rattle.bricks.proofs.Building.{shape_fine, masks_lent, filled_built}
use Rattle.bricks.proofs.build.Goals as goal

pub invariant_of-fill_all : goal.invariant_of-fill_all
invariant_of-fill_all c = record { shaped = shape_fine _ _ _ (sym c.check_bricks.ensures ∙ c.in_ok-check_bricks.was) }

pub fill_all-requires : goal.fill_all-requires
fill_all-requires c = masks_lent _ _ _ (sym c.check_bricks.ensures ∙ c.in_ok-check_bricks.was)

pub returns : goal.returns
returns c =
    let a = c.args in
    let e = sym c.check_bricks.ensures ∙ c.in_ok-check_bricks.was in
    let f = c.fill_all.ensures in
    record {
      says = rw e (ap Ok (f.value ∙ ones_are_solids a.n a.cells.now (shaped _ _ (shape_fine _ _ _ e))));
      holds = rw e (filled_built a.n a.cells.now a.masks.now _ f.filled);
    }
