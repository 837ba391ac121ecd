-- `grids::check_end` meets its contract: each way out has the tests that led there. Assumes nothing.
use mathlib.Core.Path.{◌≡◌, sym, ap, ◌∙◌}
use mathlib.Core.Bool.{Bool}
use Prim.Native.Nat.{ℕ}
use lib.IntN.{ℤ}
use mir.Syntax.{w32}
use mir.Val.{SFits}
use borrow.Author.Rules.{rules}
use Rattle.cells.proofs.Machine.{held, held_is}
use Rattle.grids.specs.Inside.{off_axis}
use Rattle.grids.proofs.check_end.Goals as goal

-- what the test of a coordinate answered, of the coordinate itself
off_of : (z : ℤ) (count : ℕ) {r t : Bool} → SFits w32 z → r ≡ off_axis (held z) count → r ≡ t → off_axis z count ≡ t
off_of z count f e h = sym (ap (λ v. off_axis v count) (held_is z f)) ∙ sym e ∙ h

pub returns-then-off_axis : goal.returns-then-off_axis
returns-then-off_axis c =
    let a = c.args in
    simp (off_of a.c.x a.n.nx (search rules) c.off_axis.ensures c.if-off_axis.true)

pub returns-then-off_axis-2 : goal.returns-then-off_axis-2
returns-then-off_axis-2 c =
    let a = c.args in
    simp (
      off_of a.c.x a.n.nx (search rules) c.off_axis.ensures c.if-off_axis.false,
      off_of a.c.y a.n.ny (search rules) c.off_axis-2.ensures c.if-off_axis-2.true,
    )

pub returns-then-off_axis-3 : goal.returns-then-off_axis-3
returns-then-off_axis-3 c =
    let a = c.args in
    simp (
      off_of a.c.x a.n.nx (search rules) c.off_axis.ensures c.if-off_axis.false,
      off_of a.c.y a.n.ny (search rules) c.off_axis-2.ensures c.if-off_axis-2.false,
      off_of a.c.z a.n.nz (search rules) c.off_axis-3.ensures c.if-off_axis-3.true,
    )

pub returns : goal.returns
returns c =
    let a = c.args in
    simp (
      off_of a.c.x a.n.nx (search rules) c.off_axis.ensures c.if-off_axis.false,
      off_of a.c.y a.n.ny (search rules) c.off_axis-2.ensures c.if-off_axis-2.false,
      off_of a.c.z a.n.nz (search rules) c.off_axis-3.ensures c.if-off_axis-3.false,
    )
