-- `tripod::next_tie` meets its contract: each way out has the signs and zeros that give the next tie. Assumes nothing.
use mathlib.Core.Path.{◌≡◌, subst}
use borrow.Author.Rules.{rules}
use native.Mathlib.Omega.{arith}
use Rattle.cells.proofs.Signed.{le_z_true, le_z_false, lt_z_true, lt_z_false}
use Rattle.lines.specs.Steps.{X, Y, Z}
use Rattle.lines.specs.declared.Tie.{Tie}
use Rattle.lines.specs.declared.Tie.TheVariants.{One, Two, Three}
use Rattle.lines.specs.declared.Tripod.{Tripod}
use Rattle.lines.specs.Decisions.{tie_by_signs}
use Rattle.tripod.specs.Tripod.{NextTie}
use Rattle.tripod.proofs.Laws.{by_signs_tie, negative, not_negative, positive, not_positive}
use Rattle.tripod.proofs.next_tie.Goals as goal

-- what the signs give is what the contract asks
by : (e : Tripod) (r : Tie) → tie_by_signs e ≡ r → NextTie e r
by e r h = subst (NextTie e) h (by_signs_tie e)

pub returns-then-v-lt0-2 : goal.returns-then-v-lt0-2
returns-then-v-lt0-2 c =
    let e = c.args.v in
    by e (One X) (simp (negative e.xy (search rules) (omega (arith, le_z_true, lt_z_true)), negative e.xz (search rules) (omega (arith, le_z_true, lt_z_true))))

pub returns-then-v-gt0 : goal.returns-then-v-gt0
returns-then-v-gt0 c =
    let e = c.args.v in
    by e (One Z) (simp (
      negative e.xy (search rules) (omega (arith, le_z_true, lt_z_true)),
      not_negative e.xz (search rules) (omega (arith, le_z_false, lt_z_false)),
      positive e.xz (search rules) (omega (arith, le_z_true, lt_z_true)),
    ))

pub returns-then-v-lt0 : goal.returns-then-v-lt0
returns-then-v-lt0 c =
    let e = c.args.v in
    by e (Two Z X) (simp (
      negative e.xy (search rules) (omega (arith, le_z_true, lt_z_true)),
      not_negative e.xz (search rules) (omega (arith, le_z_false, lt_z_false)),
      not_positive e.xz (search rules) (omega (arith, le_z_false, lt_z_false)),
    ))

pub returns-then-v-lt0-3 : goal.returns-then-v-lt0-3
returns-then-v-lt0-3 c =
    let e = c.args.v in
    by e (One Z) (simp (
      not_negative e.xy (search rules) (omega (arith, le_z_false, lt_z_false)),
      negative e.zy (search rules) (omega (arith, le_z_true, lt_z_true)),
    ))

pub returns-then-v-gt0-3 : goal.returns-then-v-gt0-3
returns-then-v-gt0-3 c =
    let e = c.args.v in
    by e (One Y) (simp (
      not_negative e.xy (search rules) (omega (arith, le_z_false, lt_z_false)),
      not_negative e.zy (search rules) (omega (arith, le_z_false, lt_z_false)),
      positive e.zy (search rules) (omega (arith, le_z_true, lt_z_true)),
      positive e.xy (search rules) (omega (arith, le_z_true, lt_z_true)),
    ))

pub returns-then-v-gt0-2 : goal.returns-then-v-gt0-2
returns-then-v-gt0-2 c =
    let e = c.args.v in
    by e (Two Y X) (simp (
      not_negative e.xy (search rules) (omega (arith, le_z_false, lt_z_false)),
      not_negative e.zy (search rules) (omega (arith, le_z_false, lt_z_false)),
      positive e.zy (search rules) (omega (arith, le_z_true, lt_z_true)),
      not_positive e.xy (search rules) (omega (arith, le_z_false, lt_z_false)),
    ))

pub returns-then-v-gt0-4 : goal.returns-then-v-gt0-4
returns-then-v-gt0-4 c =
    let e = c.args.v in
    by e (Two Y Z) (simp (
      not_negative e.xy (search rules) (omega (arith, le_z_false, lt_z_false)),
      not_negative e.zy (search rules) (omega (arith, le_z_false, lt_z_false)),
      not_positive e.zy (search rules) (omega (arith, le_z_false, lt_z_false)),
      positive e.xy (search rules) (omega (arith, le_z_true, lt_z_true)),
    ))

pub returns : goal.returns
returns c =
    let e = c.args.v in
    by e Three (simp (
      not_negative e.xy (search rules) (omega (arith, le_z_false, lt_z_false)),
      not_negative e.zy (search rules) (omega (arith, le_z_false, lt_z_false)),
      not_positive e.zy (search rules) (omega (arith, le_z_false, lt_z_false)),
      not_positive e.xy (search rules) (omega (arith, le_z_false, lt_z_false)),
    ))
