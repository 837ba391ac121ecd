-- `grids::bad_count` meets its contract: 0 is bad, and so is all above 1,024: the definition's two tests, in its order. Assumes nothing.
use borrow.Author.Tests.{eq-eqb, ne_eqb}
use Rattle.grids.proofs.bad_count.Goals as goal

pub returns-then-n-eq0 : goal.returns-then-n-eq0
returns-then-n-eq0 c = rw (eq-eqb c.args.n 0 c.if-n-eq0.true)

pub returns-else-n-eq0 : goal.returns-else-n-eq0
returns-else-n-eq0 c = rw (ne_eqb c.args.n 0 c.if-n-eq0.false)
