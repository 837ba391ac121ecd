-- `trails::spot_cell` meets its contract: the byte of a spot on the line tells the cell. Assumes nothing.
use mathlib.Core.Path.{sym, ap, ◌∙◌}
use native.Mathlib.Omega.{arith}
use Rattle.cells.proofs.Held.{abs_nat}
use Rattle.grids.specs.Grid.{cell_at}
use Rattle.lines.proofs.Cells.{six_is}
use Rattle.routes.specs.Route.{preference, HasByte}
use Rattle.routes.proofs.Spots.{spot_byte, spot_cell, place_within}
use Rattle.trails.proofs.spot_cell.Goals as goal
use Rattle.trails.proofs.spot_cell.Goals.{Start}

has_byte : (c : Start) → HasByte c.requires.bytes c.args.s.at
has_byte c = let h = c.requires in spot_byte _ c.args.k h.plan _ _ (place_within _ c.args.k h.plan h.number (omega (arith, h.fits))) h.at

pub cell_at-requires : goal.cell_at-requires
cell_at-requires c =
    let h = has_byte ((goal.at.cell_at-requires c).Start) in
    (c.requires.plan.shaped.x, c.requires.plan.shaped.y, rw (abs_nat _ h.index h.is (omega arith), h.is) (omega arith))

pub returns : goal.returns
returns c =
    let k = c.args.k in
    let h = has_byte ((goal.at.returns c).Start) in
    record {
      is = λ m le at.
          c.cell_at.ensures ∙ ap (cell_at k.n) (abs_nat _ h.index h.is (omega arith))
          ∙ spot_cell _ k c.requires.plan _ _ (place_within _ k c.requires.plan m le) at.index ∙ sym (six_is (preference k) k.p k.q m);
    }
