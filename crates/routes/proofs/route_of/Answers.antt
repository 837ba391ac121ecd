-- `routes::route_of` meets its contract: cells of a grid lie within the coordinate limit. Assumes nothing.
use mathlib.Core.Path.{refl, ap, ◌∙◌}
use Rattle.lines.specs.Decisions.{doubled}
use Rattle.routes.proofs.route_of.Goals as goal

pub returns : goal.returns
returns c =
    let m = c.measured-d.ensures in
    record {
      grid = refl;
      start = refl;
      end = refl;
      order = c.order_of.ensures;
      is = m.0;
      short = m.1;
      moves = c.strides_of.ensures;
      twice = c.twice.ensures ∙ ap doubled m.0;
    }
