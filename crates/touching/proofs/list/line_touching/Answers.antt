-- `touching::list::line_touching` meets its contract: each way out has the verdict that led there, and an accepted call is filled in. Assumes nothing.
use Rattle.std.specs.Prelude.{Ok}
use mathlib.Core.Path.{sym, ◌∙◌, subst}
use borrow.Author.Tests.{ltb-true, ltb-false}
use Rattle.lines.specs.Touching.{touching_line}
use Rattle.lists.specs.Lists.{ends_check}
use Rattle.lists.proofs.Front.{refused_room, listed_all, segment_fine}
use Rattle.touching.specs.Touching.{LineTouching}
use Rattle.touching.proofs.list.line_touching.Goals as goal

pub returns-then-lacks_room : goal.returns-then-lacks_room
returns-then-lacks_room c =
    let s = c.in_ok-segment.segment in
    let (p_is, q_is) = c.in_ok-segment.ensures in
    rw (← p_is, ← q_is)
    (refused_room (touching_line s.p s.q) (ends_check s.p s.q) c.args.out.now (segment_fine s)
    (ltb-true _ _ (sym c.lacks_room.ensures ∙ c.if-lacks_room.true)))

pub returns : goal.returns
returns c =
    let s = c.in_ok-segment.segment in
    let (p_is, q_is) = c.in_ok-segment.ensures in
    let (stored, many) = c.fill.ensures in
    rw (← p_is, ← q_is)
    (subst (λ n. LineTouching s.p s.q c.args.out.now (Ok n) c.fill.new.out) (sym many)
    (listed_all (touching_line s.p s.q) (ends_check s.p s.q) c.args.out.now _ (segment_fine s)
    (ltb-false _ _ (sym c.lacks_room.ensures ∙ c.if-lacks_room.false)) stored))
