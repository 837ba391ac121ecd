-- `lists::twenty_six::fill26` meets its contract: the invariant: m cells are stored, and c are the coordinates of cell m; a turn stores one more and moves each
-- coordinate where that is due. Assumes nothing.
use mathlib.Core.Path.{◌≡◌, sym, ap, ◌∙◌, subst}
use Prim.Native.Nat.{◌+◌}
use native.Mathlib.Omega.{arith}
use Rattle.lines.specs.Lines.{differences, longest, cell_26}
use Rattle.cells.specs.Tabulate.{tabulate}
use Rattle.lines.proofs.Cells.{end_26, line_26_is}
use Rattle.lists.specs.Lists.{filled}
use Rattle.lists.specs.Kept.{paces, firsts, nexts, CanMoves}
use Rattle.lists.proofs.Filling.{filled_none, filled_next, filled_end}
use Rattle.lists.proofs.Moving.{Paced, paced_cell, paced_first, paced_next, paced_moves}
use Rattle.lists.proofs.twenty_six.fill26.Goals as goal
use Rattle.lists.proofs.twenty_six.fill26.Goals.{After-paces_of-k}

-- the paces are the line's, and its longest difference is the last cell's number
paces_are : (c : After-paces_of-k) →
    let s = c.args.segment in
    c.paces_of-k.result ≡ paces s.p s.q (differences s.p s.q)
paces_are c = c.paces_of-k.ensures ∙ ap (paces c.args.segment.p c.args.segment.q) c.args.segment.measured.is

last_is : (c : After-paces_of-k) → c.args.last ≡ longest (differences c.args.segment.p c.args.segment.q)
last_is c = c.requires.0 ∙ ap longest c.args.segment.measured.is

pub loop-m-init : goal.loop-m-init
loop-m-init c =
    let s = c.args.segment in (
      filled_none _ _ _,
      subst (Paced s.p s.q 0) (sym (c.first_coordinates-c.ensures ∙ ap (firsts s.p) s.measured.is)) (paced_first s.p s.q),
    )

pub next_coordinates-c-requires : goal.next_coordinates-c-requires
next_coordinates-c-requires c =
    let s = c.args.segment in
    let earlier = (goal.at.next_coordinates-c-requires c).After-paces_of-k in
    subst (CanMoves c.loop-m.c) (sym (paces_are earlier))
    (paced_moves s.p s.q c.loop-m.m c.loop-m.c (omega (arith, c.loop-m-test.true, last_is earlier)) c.loop-m.invariant.1 s.measured.p_in s.measured.q_in)

pub loop-m-preserved : goal.loop-m-preserved
loop-m-preserved c =
    let p = c.args.segment.p in
    let q = c.args.segment.q in
    let m = c.loop-m.m in
    let (stored, paced) = c.loop-m.invariant in
    let earlier = (goal.at.loop-m-preserved c).After-paces_of-k in (
      filled_next _ _ _ c.requires.1 _ _ _ m stored c.loop-m-test.true c.put.ensures (c.cell_at.ensures ∙ paced_cell p q m _ paced),
      subst (Paced p q (m + 1)) (sym (c.next_coordinates-c.ensures ∙ ap (λ k. nexts k c.loop-m.c) (paces_are earlier)))
          (paced_next p q m c.loop-m.c (omega (arith, c.loop-m-test.true, last_is earlier)) paced),
    )

pub returns : goal.returns
returns c =
    let p = c.args.segment.p in
    let q = c.args.segment.q in
    let e = last_is ((goal.at.returns c).After-paces_of-k) in
    filled_end _ _ _ c.requires.1 _ _ q c.loop-m.m c.loop-m.invariant.0 (omega arith) (ap (cell_26 p q) e ∙ end_26 p q) c.put-2.ensures
    ∙ ap (λ n. filled (tabulate (cell_26 p q) (n + 1)) c.args.out.now) e ∙ ap (λ x. filled x c.args.out.now) (sym (line_26_is p q))
