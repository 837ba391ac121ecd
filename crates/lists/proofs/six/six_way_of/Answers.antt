-- `lists::six::six_way_of` meets its contract: a unit for each axis, and the doubled differences. Assumes nothing.
use mathlib.Core.Path.{◌≡◌, ap, ap₂, ◌∙◌}
use lib.IntN.{ℤ}
use Rattle.cells.specs.declared.Cell.{Cell}
use Rattle.cells.specs.Touching.{on}
use Rattle.cells.proofs.Machine.{held, small_held}
use Rattle.lines.specs.Steps.{Axis, X, Y, Z}
use Rattle.lines.specs.Lines.{InLimit}
use Rattle.lines.specs.Decisions.{doubled}
use Rattle.tripod.proofs.Laws.{limit_small}
use Rattle.lists.specs.Kept.{unit}
use Rattle.lists.proofs.Line.{unit_small}
use Rattle.lists.proofs.six.six_way_of.Goals as goal

-- what the call on an axis answered, of the ends themselves
unit_of : (p q : Cell) → InLimit p → InLimit q → (a : Axis) {r : ℤ} → r ≡ unit (held (on p a)) (held (on q a)) → held r ≡ unit (on p a) (on q a)
unit_of p q hp hq a {r} e = ap held is ∙ small_held (unit (on p a) (on q a)) (unit_small (on p a) (on q a))
  where
    is : r ≡ unit (on p a) (on q a)
    is = e ∙ ap₂ unit (small_held (on p a) (limit_small (on p a) (hp.limit a))) (small_held (on q a) (limit_small (on q a) (hq.limit a)))

pub returns : goal.returns
returns c =
    let s = c.args.segment in
    let k = s.measured in
    record {
      towards = λ i. record {
        x = unit_of s.p s.q k.p_in k.q_in X c.unit_to.ensures i;
        y = unit_of s.p s.q k.p_in k.q_in Y c.unit_to-2.ensures i;
        z = unit_of s.p s.q k.p_in k.q_in Z c.unit_to-3.ensures i;
      };
      twice = c.twice.ensures ∙ ap doubled k.is;
    }
