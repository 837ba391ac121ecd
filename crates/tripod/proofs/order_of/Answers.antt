-- `tripod::order_of` meets its contract: rule 1 has one order, rule 2 asks which end comes first. Assumes nothing.
use mathlib.Core.Path.{◌≡◌, sym, ap, ◌∙◌}
use mathlib.Core.Bool.{Bool, true, false, cond}
use Rattle.cells.specs.declared.Cell.{Cell}
use Rattle.cells.specs.declared.Rule.TheVariants.{Two}
use Rattle.lines.specs.declared.Order.TheVariants.{Yzx, Xzy}
use Rattle.lines.specs.Preference.{comes_before, order_of}
use Rattle.tripod.proofs.order_of.Goals as goal

-- what rule 2 takes, by the answer that q comes before p or does not
by_answer : (p q : Cell) (t : Bool) → t ≡ comes_before q p → order_of Two p q ≡ cond t Xzy Yzx
unfolding order_of
by_answer p q t e = ap (λ t. cond t Xzy Yzx) (sym e)

pub returns-in-One : goal.returns-in-One
unfolding order_of
returns-in-One c = let a = c.args in sym (ap (λ rule. order_of rule a.p a.q) c.in-One.is)

pub returns-in-Two : goal.returns-in-Two
returns-in-Two c =
    let a = c.args in
    let rule = ap (λ rule. order_of rule a.p a.q) c.in-Two.is in
    sym (rule ∙ by_answer a.p a.q true (sym c.if-comes_before.true ∙ c.comes_before.ensures))

pub returns-in-Two-2 : goal.returns-in-Two-2
returns-in-Two-2 c =
    let a = c.args in
    let rule = ap (λ rule. order_of rule a.p a.q) c.in-Two-2.is in
    sym (rule ∙ by_answer a.p a.q false (sym c.if-comes_before.false ∙ c.comes_before.ensures))
