-- `grids::check_counts` meets its contract: each test is the definition's, in its order. Assumes nothing.
use mathlib.Core.Path.{◌≡◌, sym, ◌∙◌}
use mathlib.Core.Bool.{false}
use Rattle.grids.specs.Grid.{bad_count, count_check}
use Rattle.grids.proofs.check_counts.Goals as goal
use Rattle.grids.proofs.check_counts.Goals.{Else-bad_count, Else-bad_count-2, Else-bad_count-3}

-- what each test left
good_x : (c : Else-bad_count) → bad_count c.args.n.nx ≡ false
good_x c = sym c.bad_count.ensures ∙ c.if-bad_count.false

good_y : (c : Else-bad_count-2) → bad_count c.args.n.ny ≡ false
good_y c = sym c.bad_count-2.ensures ∙ c.if-bad_count-2.false

good_z : (c : Else-bad_count-3) → bad_count c.args.n.nz ≡ false
good_z c = sym c.bad_count-3.ensures ∙ c.if-bad_count-3.false

pub returns-then-bad_count : goal.returns-then-bad_count
unfolding count_check
returns-then-bad_count c = rw (sym c.bad_count.ensures ∙ c.if-bad_count.true)

pub returns-then-bad_count-2 : goal.returns-then-bad_count-2
unfolding count_check
returns-then-bad_count-2 c = rw (good_x c.before.before, sym c.bad_count-2.ensures ∙ c.if-bad_count-2.true)

pub returns-then-bad_count-3 : goal.returns-then-bad_count-3
unfolding count_check
returns-then-bad_count-3 c = rw (good_x c.before.before.before.before, good_y c.before.before, sym c.bad_count-3.ensures ∙ c.if-bad_count-3.true)

pub returns : goal.returns
unfolding count_check
returns c = rw (good_x c.before.before.before.before, good_y c.before.before, good_z c)
