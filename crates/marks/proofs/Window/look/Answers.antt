-- `marks::Window::look` meets its contract: the up to nine rows beside row r lie within the grid; the window shows those of the layer below, then those
-- of the others too. Assumes nothing.
use Prim.Native.Nat.{ℕ, ◌+◌, ◌*◌, ◌%◌, ◌^◌, ◌≤◌, ◌<◌}
use native.Mathlib.Nat.{lt_of_le_of_lt}
use native.Mathlib.Omega.{arith}
use lib.ListN.{length}
use borrow.Author.Rules.{rules}
use Rattle.marks.specs.declared.Three.{Three}
use Rattle.marks.specs.Rows.{starts, Within}
use mathlib.Core.Path.{◌≡◌, ◌∙◌}
use Rattle.grids.proofs.Shapes.{shaped}
use Rattle.marks.proofs.Windows.{row_y, row_z, layers_within, rows_within, column_is, solid_then}
use Rattle.marks.proofs.Window.look.Goals as goal
use Rattle.marks.proofs.Window.look.Goals.{After-starts-layers}

-- each of the three layers lies within the cells
layers : (c : After-starts-layers) → let a = c.args in Within c.starts-layers.result (a.g.counts.nx * a.g.counts.ny) (length a.g.cells.now)
layers c =
    let a = c.args in
    rw c.starts-layers.ensures (layers_within a.g.counts a.g.cells.now (shaped _ _ c.args.g.shaped) a.r c.requires)

-- so its start and its rows do
a_layer : (c : After-starts-layers) → let a = c.args in
    (from : ℕ) → from + a.g.counts.nx * a.g.counts.ny ≤ length a.g.cells.now →
    (a.r % a.g.counts.ny < a.g.counts.ny) × (from + a.g.counts.nx * a.g.counts.ny < 2 ^ 64)
a_layer c from h =
    let a = c.args in
    let long : length a.g.cells.now < 2 ^ 64 = search rules in
    (row_y a.g.counts a.g.cells.now (shaped _ _ c.args.g.shaped) a.r c.requires, lt_of_le_of_lt h long)

its_rows : (c : After-starts-layers) → let a = c.args in
    (rows : Three) (from nx : ℕ) → rows ≡ starts from a.g.counts.nx (a.r % a.g.counts.ny) a.g.counts.ny →
    from + a.g.counts.nx * a.g.counts.ny ≤ length a.g.cells.now → nx ≡ a.g.counts.nx →
    Within rows nx (length a.g.cells.now)
its_rows c rows from nx is h long =
    let a = c.args in
    rw (is, long) (rows_within a.g.counts a.g.cells.now (shaped _ _ c.args.g.shaped) a.r c.requires from h)

pub starts-layers-requires : goal.starts-layers-requires
starts-layers-requires c =
    let a = c.args in
    let s = shaped _ _ c.args.g.shaped in
    (row_z a.g.counts a.g.cells.now s a.r c.requires, omega (arith, s.size_most))

pub starts-below-requires : goal.starts-below-requires
starts-below-requires c = a_layer c _ (layers c).low_fits

pub starts-here-requires : goal.starts-here-requires
starts-here-requires c = let d = (goal.at.starts-here-requires c).After-starts-layers in a_layer d _ (layers d).mid_fits

pub starts-above-requires : goal.starts-above-requires
starts-above-requires c = let d = (goal.at.starts-above-requires c).After-starts-layers in a_layer d _ (layers d).high_fits

pub frame-requires : goal.frame-requires
frame-requires c = (shaped _ _ c.args.g.shaped).x.most

pub set_rows-requires : goal.set_rows-requires
set_rows-requires c =
    let d = (goal.at.set_rows-requires c).After-starts-layers in its_rows d _ _ _ c.starts-below.ensures (omega (arith, layers d)) c.frame.ensures

pub raise_rows-requires : goal.raise_rows-requires
raise_rows-requires c =
    let d = (goal.at.raise_rows-requires c).After-starts-layers in
    its_rows d _ _ _ c.starts-here.ensures (omega (arith, layers d)) (c.set_rows.ensures.long ∙ c.frame.ensures)

pub raise_rows-requires-2 : goal.raise_rows-requires-2
raise_rows-requires-2 c =
    let d = (goal.at.raise_rows-requires-2 c).After-starts-layers in
    let w = its_rows d _ _ _ c.starts-above.ensures (omega (arith, layers d)) (c.raise_rows.ensures.long ∙ c.set_rows.ensures.long ∙ c.frame.ensures) in
    record { low_fits = omega (arith, w); mid_fits = omega (arith, w); high_fits = omega (arith, w) }

pub returns-clause-solid_where : goal.returns-clause-solid_where
returns-clause-solid_where c =
    let a = c.args in
    let told = c.starts-layers.ensures in
    let first = c.frame.ensures in
    let second = c.set_rows.ensures.long ∙ first in
    let third = c.raise_rows.ensures.long ∙ second in
    let seen = solid_then _
    (solid_then _ ((rw (c.starts-below.ensures, told, first) at c.set_rows.ensures.shows).over)
    (rw (c.starts-here.ensures, told, second) at c.raise_rows.ensures.shows))
    (rw (c.starts-above.ensures, told, third) at c.raise_rows-2.ensures.shows) in
    λ x lt. seen x lt ∙ column_is a.g.counts a.g.cells.now (shaped _ _ c.args.g.shaped) a.r c.requires x
