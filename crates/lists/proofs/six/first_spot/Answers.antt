-- `lists::six::first_spot` meets its contract: with no step taken the values are the first, lowered by the order's tie. Assumes nothing.
use mathlib.Core.Path.{sym, ap, ap₂, ◌∙◌}
use native.Mathlib.Omega.{arith}
use Rattle.lines.specs.Steps.{at}
use Rattle.lines.specs.Decisions.{values, lowered}
use Rattle.lines.proofs.Cells.{cell_start}
use Rattle.tripod.specs.Tripod.{steps}
use Rattle.tripod.proofs.Laws.{place_small, short_at}
use Rattle.lists.proofs.Filling.{no_steps}
use Rattle.lists.proofs.six.first_spot.Goals as goal

pub lowered-requires : goal.lowered-requires
lowered-requires c =
    let s = c.args.segment in
    rw c.first_values.ensures (place_small (steps s.d) (at 0 0 0) (short_at s.d s.measured.short) (λ a. rw (no_steps a) (omega arith)))

pub returns : goal.returns
returns c =
    let s = c.args.segment in
    record {
      cell = sym (cell_start s.p s.q (at 0 0 0) no_steps);
      value = c.lowered.ensures
          ∙ ap₂ lowered c.order_of.ensures (c.first_values.ensures ∙ ap (λ D. values D (at 0 0 0)) s.measured.is);
    }
