-- `tripod::long_moves` meets its contract: with the longest axis known, each test is that of the 26-line by the decision values. Assumes nothing.
use mathlib.Core.Path.{◌≡◌, sym, subst}
use mathlib.Core.Bool.{Bool, true}
use Rattle.lines.specs.Steps.{Axis, X, Y, Z}
use Rattle.lines.specs.Lines.{longest}
use Rattle.lines.specs.declared.Tripod.{Tripod}
use Rattle.tripod.specs.declared.Diffs.{Diffs}
use Rattle.cells.specs.declared.Each.{Each}
use Rattle.tripod.specs.Tripod.{steps, LongMoves}
use Rattle.tripod.proofs.Laws.{by_long, by_long_goes, plus_test, most_test}
use Rattle.tripod.proofs.long_moves.Goals as goal

-- moves that are the tests' are the long step's
by : (e : Tripod) (d : Diffs) {long : Axis} (a : Axis) (r : Each Bool) → long ≡ a → steps d long ≡ longest (steps d) → r ≡ by_long a (steps d) e →
    LongMoves (steps d) e r
by e d a r l long h = subst (LongMoves (steps d) e) (sym h) (by_long_goes a (steps d) e (rw l at long))

pub returns-in-X : goal.returns-in-X
returns-in-X c =
    let (e, d, long) = c.requires in
    by c.args.e c.args.d X _ c.in-X.is long
    (λ i. record { x = true; y = plus_test _ _ e.xy d.b i; z = plus_test _ _ e.xz d.c i })

pub returns-in-Y : goal.returns-in-Y
returns-in-Y c =
    let (e, d, long) = c.requires in
    by c.args.e c.args.d Y _ c.in-Y.is long
    (λ i. record { x = most_test _ _ e.xy d.a i; y = true; z = most_test _ _ e.zy d.c i })

pub returns-in-Z : goal.returns-in-Z
returns-in-Z c =
    let (e, d, long) = c.requires in
    by c.args.e c.args.d Z _ c.in-Z.is long
    (λ i. record { x = most_test _ _ e.xz d.a i; y = plus_test _ _ e.zy d.b i; z = true })
