-- `trails::faces_ahead` meets its contract: what is left is ahead; from a cell of the 26-line, the faces of the long step are. Assumes nothing.
use mathlib.Core.Path.{◌≡◌, sym, subst}
use Prim.Native.Nat.{◌≤◌}
use native.Mathlib.Omega.{arith}
use Rattle.lines.specs.Lines.{differences}
use Rattle.tripod.specs.Tripod.{LongMoves}
use Rattle.routes.proofs.Spots.{can_cross, place_within}
use Rattle.trails.specs.Standing.{Ahead26}
use Rattle.trails.proofs.Steps26.{ahead_off, ahead_on, none_left, raised_small}
use Rattle.trails.proofs.faces_ahead.Goals as goal

pub returns-then-t-gt0 : goal.returns-then-t-gt0
returns-then-t-gt0 c = record { leads = λ s lt at. ahead_off _ s _ at.beside c.if-t-gt0.true }

pub raised-e-requires : goal.raised-e-requires
raised-e-requires c =
    let k = c.args.k in
    let h = c.requires.1 in
    (can_cross _ k h.plan _ _ (place_within _ k h.plan h.number (omega (arith, h.below))) h.at.spot).values

pub long_moves-requires : goal.long_moves-requires
long_moves-requires c =
    let k = c.args.k in
    let h = c.requires.1 in (
      rw c.raised-e.ensures
          (raised_small k h.number h.below (none_left k h.number _ c.if-t-gt0.false h.at.beside) _ h.plan _ h.at.spot),
      h.plan.short,
      h.long,
    )

pub returns : goal.returns
returns c =
    let k = c.args.k in
    let t = c.args.t in
    let left : t.left ≤ 0 = c.if-t-gt0.false in
    let none : 0 ≡ t.left = omega arith in
    let moves = subst (λ e. LongMoves (differences k.p k.q) e c.long_moves.result) c.raised-e.ensures
    (subst (λ E. LongMoves E c.raised-e.result c.long_moves.result) c.requires.1.plan.is c.long_moves.ensures) in
    record {
      leads = λ n lt at.
          subst (λ left. Ahead26 k n left c.faces_of.result) none
          (subst (Ahead26 k n 0) (sym c.faces_of.ensures) (ahead_on k n lt (none_left k n _ left at.beside) t.spot _ at.spot moves));
    }
