-- `lists::twenty_six::line26` meets its contract: each way out has the verdict that led there, and an accepted call is filled in. Assumes nothing.
use Rattle.std.specs.Prelude.{Ok}
use mathlib.Core.Path.{◌≡◌, sym, ap, ◌∙◌, subst}
use Prim.Native.Nat.{◌+◌}
use native.Mathlib.Omega.{arith}
use Rattle.lines.specs.Lines.{differences, longest, line_26}
use Rattle.lines.proofs.Cells.{length_26}
use Rattle.lists.specs.Lists.{ends_check, Line26}
use Rattle.lists.proofs.Front.{refused_room, listed_all, segment_fine}
use Rattle.lists.proofs.twenty_six.line26.Goals as goal
use Rattle.lists.proofs.twenty_six.line26.Goals.{After-longest-last}

-- the last cell's number
count : (c : After-longest-last) → let s = c.in_ok-segment.segment in longest (differences s.p s.q) ≡ c.longest-last.result
count c = sym (c.longest-last.ensures ∙ ap longest c.in_ok-segment.segment.measured.is)

pub returns-then-out-count : goal.returns-then-out-count
returns-then-out-count c =
    let earlier = (goal.at.returns-then-out-count c).After-longest-last in
    let s = c.in_ok-segment.segment in
    let (p_is, q_is) = c.in_ok-segment.ensures in
    rw (← p_is, ← q_is)
    (refused_room (line_26 s.p s.q) (ends_check s.p s.q) c.args.out.now (segment_fine s)
    (omega (arith, length_26 s.p s.q, count earlier)))

pub returns : goal.returns
returns c =
    let earlier = (goal.at.returns c).After-longest-last in
    let s = c.in_ok-segment.segment in
    let (p_is, q_is) = c.in_ok-segment.ensures in
    rw (← p_is, ← q_is)
    (subst (λ n. Line26 s.p s.q c.args.out.now (Ok n) c.fill26.new.out) (length_26 s.p s.q ∙ ap (λ k. k + 1) (count earlier))
    (listed_all (line_26 s.p s.q) (ends_check s.p s.q) c.args.out.now _ (segment_fine s)
    (omega (arith, length_26 s.p s.q, count earlier)) c.fill26.ensures))
