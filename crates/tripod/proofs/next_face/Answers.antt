-- `tripod::next_face` meets its contract: each way out has the signs of figure 6, which give the next crossing. Assumes nothing.
use mathlib.Core.Path.{◌≡◌, subst}
use borrow.Author.Rules.{rules}
use native.Mathlib.Omega.{arith}
use Rattle.cells.proofs.Signed.{le_z_true, le_z_false, lt_z_true, lt_z_false}
use Rattle.lines.specs.Steps.{Axis, X, Y, Z}
use Rattle.lines.specs.declared.Tripod.{Tripod}
use Rattle.lines.specs.Decisions.{by_signs}
use Rattle.tripod.specs.Tripod.{NextFace}
use Rattle.tripod.proofs.Laws.{by_signs_next, negative, not_negative}
use Rattle.tripod.proofs.next_face.Goals as goal

-- what the signs give is what the contract asks
by : (e : Tripod) (r : Axis) → by_signs e ≡ r → NextFace e r
by e r h = subst (NextFace e) h (by_signs_next e)

pub returns-then-e-lt0-2 : goal.returns-then-e-lt0-2
returns-then-e-lt0-2 c =
    let e = c.args.e in
    by e X (simp (negative e.xy (search rules) (omega (arith, le_z_true, lt_z_true)), negative e.xz (search rules) (omega (arith, le_z_true, lt_z_true))))

pub returns-then-e-lt0 : goal.returns-then-e-lt0
returns-then-e-lt0 c =
    let e = c.args.e in
    by e Z (simp (
      negative e.xy (search rules) (omega (arith, le_z_true, lt_z_true)),
      not_negative e.xz (search rules) (omega (arith, le_z_false, lt_z_false)),
    ))

pub returns-then-e-lt0-3 : goal.returns-then-e-lt0-3
returns-then-e-lt0-3 c =
    let e = c.args.e in
    by e Z (simp (
      not_negative e.xy (search rules) (omega (arith, le_z_false, lt_z_false)),
      negative e.zy (search rules) (omega (arith, le_z_true, lt_z_true)),
    ))

pub returns : goal.returns
returns c =
    let e = c.args.e in
    by e Y (simp (
      not_negative e.xy (search rules) (omega (arith, le_z_false, lt_z_false)),
      not_negative e.zy (search rules) (omega (arith, le_z_false, lt_z_false)),
    ))
