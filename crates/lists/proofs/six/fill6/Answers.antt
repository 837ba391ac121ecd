-- `lists::six::fill6` meets its contract: the invariant: m cells are stored, and s is the spot of place m; a turn stores one more and crosses the face that
-- comes next. Assumes nothing.
use mathlib.Core.Path.{◌≡◌, sym, ap, ◌∙◌, subst}
use Prim.Native.Nat.{◌+◌, ◌*◌, ◌≤◌}
use native.Mathlib.Omega.{arith}
use lib.ListN.{length}
use Rattle.cells.specs.Tabulate.{tabulate}
use Rattle.lines.specs.Steps.{total}
use Rattle.lines.specs.Preference.{prefers, order_of}
use Rattle.lines.specs.Lines.{differences, six_cell}
use Rattle.lines.specs.Crossings.{place}
use Rattle.lines.proofs.Cells.{six_is, six_line_is, six_end}
use Rattle.lines.proofs.Fractions.{place_on}
use Rattle.lines.proofs.Centres.{centres_good}
use Rattle.lists.specs.Lists.{filled}
use Rattle.lists.specs.Kept.{SixSpotAt}
use Rattle.lists.proofs.Line.{can_cross}
use Rattle.lists.proofs.Filling.{C, filled_none, filled_next, filled_end, six_start, six_turn}
use Rattle.lists.proofs.six.fill6.Goals as goal
use Rattle.lists.proofs.six.fill6.Goals.{After-total-crossings}

-- so many crossings the line has
count : (c : After-total-crossings) → c.total-crossings.result ≡ total (differences c.args.segment.p c.args.segment.q)
count c = c.total-crossings.ensures ∙ ap total c.args.segment.measured.is

-- there is room for its cells
room : (c : After-total-crossings) → 3 * (c.total-crossings.result + 1) ≤ length c.args.out.now
room c = omega (arith, c.total-crossings.ensures, c.requires)

pub loop-m-init : goal.loop-m-init
loop-m-init c = (filled_none _ _ _, six_start _ _ _ _ c.first_spot-s.ensures)

pub crossed-s-requires : goal.crossed-s-requires
crossed-s-requires c =
    let s = c.args.segment in
    let o = order_of c.args.rule s.p s.q in
    let e = count ((goal.at.crossed-s-requires c).After-total-crossings) in
    can_cross o _ _ _ c.six_way_of-w.ensures s.measured.p_in s.measured.q_in _ _
    (place_on (C o _ _) (centres_good (prefers o) _) c.loop-m.m (omega (arith, e))).1 c.loop-m.invariant.1

pub loop-m-preserved : goal.loop-m-preserved
loop-m-preserved c =
    let earlier = (goal.at.loop-m-preserved c).After-total-crossings in
    let s = c.args.segment in
    let o = order_of c.args.rule s.p s.q in
    let (stored, spot) = c.loop-m.invariant in (
      filled_next (six_cell (prefers o) s.p s.q) _ _ (room earlier) _ _ _ c.loop-m.m stored (omega arith) c.put.ensures
          (spot.cell ∙ sym (six_is (prefers o) s.p s.q c.loop-m.m)),
      subst (SixSpotAt o s.p s.q (place (C o s.p s.q) (c.loop-m.m + 1))) (sym c.crossed-s.ensures)
          (six_turn o s.p s.q _ c.six_way_of-w.ensures c.loop-m.m c.loop-m.s _ (omega (arith, count earlier)) spot c.next_face.ensures),
    )

pub returns : goal.returns
returns c =
    let earlier = (goal.at.returns c).After-total-crossings in
    let p = c.args.segment.p in
    let q = c.args.segment.q in
    let r = prefers (order_of c.args.rule p q) in
    let e = count earlier in
    filled_end (six_cell r p q) _ _ (room earlier) _ _ q c.loop-m.m c.loop-m.invariant.0 (omega arith)
    (ap (six_cell r p q) e ∙ six_end r p q) c.put-2.ensures
    ∙ ap (λ n. filled (tabulate (six_cell r p q) (n + 1)) c.args.out.now) e ∙ ap (λ x. filled x c.args.out.now) (sym (six_line_is r p q))
