-- `lists::six::line6` meets its contract: each way out has the verdict that led there, and an accepted call is filled in. Assumes nothing.
use Rattle.std.specs.Prelude.{Ok}
use mathlib.Core.Path.{◌≡◌, sym, ap, ◌∙◌, subst}
use Prim.Native.Nat.{◌+◌}
use native.Mathlib.Omega.{arith}
use Rattle.lines.specs.Steps.{total}
use Rattle.lines.specs.Preference.{by_rule}
use Rattle.lines.specs.Lines.{differences, six_line}
use Rattle.lines.proofs.Cells.{six_length}
use Rattle.lists.specs.Lists.{ends_check, Line6}
use Rattle.lists.proofs.Front.{refused_room, listed_all, segment_fine}
use Rattle.lists.proofs.six.line6.Goals as goal
use Rattle.lists.proofs.six.line6.Goals.{After-total-cells}

-- how many cells there are
count : (c : After-total-cells) → let s = c.in_ok-segment.segment in total (differences s.p s.q) ≡ c.total-cells.result
count c = sym (c.total-cells.ensures ∙ ap total c.in_ok-segment.segment.measured.is)

pub returns-then-out-cells : goal.returns-then-out-cells
returns-then-out-cells c =
    let earlier = (goal.at.returns-then-out-cells c).After-total-cells in
    let s = c.in_ok-segment.segment in
    let (p_is, q_is) = c.in_ok-segment.ensures in
    let r = by_rule c.args.rule s.p s.q in
    rw (← p_is, ← q_is)
    (refused_room (six_line r s.p s.q) (ends_check s.p s.q) c.args.out.now (segment_fine s)
    (omega (arith, six_length r s.p s.q, count earlier)))

pub returns : goal.returns
returns c =
    let earlier = (goal.at.returns c).After-total-cells in
    let s = c.in_ok-segment.segment in
    let (p_is, q_is) = c.in_ok-segment.ensures in
    let r = by_rule c.args.rule s.p s.q in
    rw (← p_is, ← q_is)
    (subst (λ n. Line6 c.args.rule s.p s.q c.args.out.now (Ok n) c.fill6.new.out) (six_length r s.p s.q ∙ ap (λ k. k + 1) (count earlier))
    (listed_all (six_line r s.p s.q) (ends_check s.p s.q) c.args.out.now _ (segment_fine s)
    (omega (arith, six_length r s.p s.q, count earlier)) c.fill6.ensures))
