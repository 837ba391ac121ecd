-- `touching::list::lacks_room` meets its contract: where there is room for seven cells to three crossings nothing is counted, else the cells are.
-- Assumes nothing.
use mathlib.Core.Path.{sym, ap, ◌∙◌}
use Prim.Native.Nat.{◌*◌}
use native.Mathlib.Omega.{arith}
use borrow.Author.Tests.{le-ltb}
use lib.ListN.{length}
use Rattle.lines.specs.Steps.{total}
use Rattle.lines.specs.Lines.{differences}
use Rattle.lines.specs.Preference.{y_z_x}
use Rattle.lines.specs.Touching.{touching_line}
use Rattle.lines.proofs.Centres.{centres_good}
use Rattle.lines.proofs.Counted.{count_most}
use Rattle.lines.proofs.Touched.{touching_length}
use Rattle.touching.specs.Listing.{course_of}
use Rattle.touching.proofs.list.lacks_room.Goals as goal

pub returns-else-room-most : goal.returns-else-room-most
returns-else-room-most c =
    let s = c.args.segment in
    let D = differences s.p s.q in
    le-ltb _ _ c.if-room-most.false ∙ sym (le-ltb c.args.room (3 * length (touching_line s.p s.q))
    (omega (arith, touching_length s.p s.q, count_most (course_of D) (centres_good y_z_x D), c.total.ensures ∙ ap total s.measured.is)))
