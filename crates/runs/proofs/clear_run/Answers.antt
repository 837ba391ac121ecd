-- `runs::clear_run` meets its contract: the invariant: the run is at the cell from which `left` long steps are left, over clear cells alone; at its
-- start the byte is 0, so it makes a step. Assumes nothing.
use mathlib.Core.Path.{◌≡◌, sym, ap, ◌∙◌, subst}
use Prim.Native.Nat.{ℕ, ◌-◌}
use mathlib.Core.List.{List}
use native.Mathlib.Omega.{arith, by_contra}
use mir.Syntax.{w32}
use mir.Val.{SFits}
use borrow.Author.Rules.{rules}
use lib.IntN.{ℤ}
use Rattle.cells.proofs.Machine.{held, held_is}
use Rattle.routes.specs.Route.{byte_there}
use Rattle.runs.proofs.Along.{Follows, not_begun, steps_on, byte_on, one_step, stopped}
use Rattle.runs.proofs.clear_run.Goals as goal

-- the byte that was read
read : (l : List ℕ) (at : ℤ) {b : ℕ} → SFits w32 at → b ≡ byte_there l (held at) → byte_there l at ≡ b
read l at fits e = sym (e ∙ ap (byte_there l) (held_is at fits))

pub loop-left-init : goal.loop-left-init
loop-left-init c = not_begun _ _ _ _ c.requires.clear

pub byte_there-requires : goal.byte_there-requires
byte_there-requires c = rw (held_is c.loop-left.s.at (search rules)) (byte_on _ _ _ _ _ _ c.loop-left.invariant c.requires.running)

pub returns-then-byte_there-ne0 : goal.returns-then-byte_there-ne0
returns-then-byte_there-ne0 c =
    let is = read c.args.cells.now c.loop-left.s.at (search rules) c.byte_there.ensures in
    stopped _ _ _ _ _ _ c.loop-left.invariant (by_contra _ _ (λ le. c.if-byte_there-ne0.true (sym is ∙ c.loop-left.invariant.clear (omega arith))))

pub long_step-s-requires : goal.long_step-s-requires
long_step-s-requires c = steps_on _ _ _ _ _ _ c.loop-left.invariant c.requires.running (omega (arith, c.loop-left-test.true))

pub loop-left-preserved : goal.loop-left-preserved
loop-left-preserved c =
    let is = read c.args.cells.now c.loop-left.s.at (search rules) c.byte_there.ensures in
    subst (Follows c.args.cells.now c.args.k c.args.start c.args.from (c.loop-left.left - 1)) (sym c.long_step-s.ensures)
    (one_step _ _ _ _ _ _ c.loop-left.invariant (omega (arith, c.loop-left-test.true)) (is ∙ c.if-byte_there-ne0.false))

pub returns : goal.returns
returns c =
    let none : c.loop-left.left ≡ 0 = omega arith in
    stopped _ _ _ _ _ _ (rw none at c.loop-left.invariant) (omega (arith, c.requires.some))
