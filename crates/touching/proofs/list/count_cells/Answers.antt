-- `touching::list::count_cells` meets its contract: the invariant: the values are those of a place between two ties, and the cells up to it are counted. The
-- measure is how many crossings are left. Assumes nothing.
use mathlib.Core.Path.{◌≡◌, sym, ap, ◌∙◌, subst}
use Prim.Native.Nat.{ℕ, ◌+◌, ◌≤◌, ◌<◌}
use native.Mathlib.Omega.{arith}
use Rattle.lines.specs.Steps.{Axis, at, total}
use Rattle.lines.specs.Lines.{differences}
use Rattle.lines.specs.Decisions.{values, doubled}
use Rattle.lines.proofs.Cells.{limited_difference}
use Rattle.lines.proofs.Touched.{touching_length}
use Rattle.tripod.specs.Tripod.{steps}
use Rattle.lists.specs.declared.segment.Segment.{Segment}
use Rattle.touching.specs.Listing.{CanCount, Counted}
use Rattle.touching.proofs.Counting.{Counting, counting_start, cells_most, counting_can, counting_next, counting_end}
use Rattle.touching.proofs.list.count_cells.Goals as goal
use Rattle.touching.proofs.list.count_cells.Goals.{After-past_tie-past}

-- its differences are short
short : (s : Segment) (a : Axis) → differences s.p s.q a ≤ 16383
short s = limited_difference s.p s.q s.measured.p_in s.measured.q_in

-- a turn begins before the last crossing
below : (s : Segment) {n : ℕ} (m : ℕ) → n ≡ total (steps s.d) → m < n → m < total (differences s.p s.q)
below s m all = subst (λ n. m < n) (all ∙ ap total s.measured.is)

pub loop-m-init : goal.loop-m-init
loop-m-init c =
    let s = c.args.segment in
    subst (λ e. Counting (differences s.p s.q) e 0 1) (sym (c.first_values-e.ensures ∙ ap (λ D. values D (at 0 0 0)) s.measured.is)) (counting_start _)

pub past_tie-past-requires : goal.past_tie-past-requires
past_tie-past-requires c =
    let s = c.args.segment in
    subst (λ w. CanCount w c.loop-m.e) (sym (c.twice-twice.ensures ∙ ap doubled s.measured.is))
    (counting_can _ _ _ _ c.loop-m.invariant (below s _ c.total-crossings.ensures c.loop-m-test.true) (short s))

-- and leads to the next tie
turned : (c : After-past_tie-past) →
    let s = c.args.segment in
    let r = c.past_tie-past.result in
    Counting (differences s.p s.q) r.behind (c.loop-m.m + r.faces) (c.loop-m.count + r.cells)
turned c =
    let s = c.args.segment in
    counting_next _ _ _ _ c.loop-m.invariant (below s _ c.total-crossings.ensures c.loop-m-test.true) _
    (subst (λ w. Counted w c.loop-m.e c.past_tie-past.result) (c.twice-twice.ensures ∙ ap doubled s.measured.is) c.past_tie-past.ensures)

pub overflow_add-count : goal.overflow_add-count
overflow_add-count c =
    record { fits = omega (arith, cells_most _ _ _ _ (turned ((goal.at.overflow_add-count c).After-past_tie-past)) (short c.args.segment)) }

pub loop-m-preserved : goal.loop-m-preserved
loop-m-preserved c = turned ((goal.at.loop-m-preserved c).After-past_tie-past)

pub returns : goal.returns
returns c =
    let s = c.args.segment in
    counting_end _ _ _ _ c.loop-m.invariant (subst (λ n. n ≤ c.loop-m.m) (c.total-crossings.ensures ∙ ap total s.measured.is) c.loop-m-test.false)
    ∙ sym (touching_length s.p s.q)
