-- `marks::complete` meets its contract: the marks are complete exactly when no row has a gap. Assumes nothing.
use mathlib.Core.Path.{sym, ◌∙◌}
use Rattle.grids.specs.Marks.{completeness}
use Rattle.marks.proofs.RowMarks.{complete_is}
use Rattle.marks.proofs.complete.Goals as goal

pub returns : goal.returns
unfolding completeness
returns c = record { says = rw (sym c.shape.ensures.says ∙ c.in_ok-shape.was, complete_is, c.has_gap.ensures) }
