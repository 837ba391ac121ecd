-- Between two ends inside the grid every cell of the line is inside it. Assumes nothing.
use mathlib.Core.Path.{◌≡◌}
use mathlib.Core.Logic.{⊎_elim}
use mathlib.Core.Bool.{false}
use Prim.Native.Nat.{ℕ, ◌≤◌}
use native.Mathlib.Omega.{arith}
use lib.IntN.{ℤ}
use Rattle.cells.specs.declared.Axis.{Axis}
use Rattle.cells.specs.declared.Cell.{Cell}
use Rattle.cells.specs.declared.Counts.{Counts}
use Rattle.cells.specs.Touching.{on, apart}
use Rattle.cells.proofs.Signed.{one_sided}
use Rattle.lines.specs.Steps.{Steps, total}
use Rattle.lines.specs.Towards.{towards}
use Rattle.lines.specs.Preference.{Preference}
use Rattle.lines.specs.Lines.{differences, cell_of, centres, six_cell}
use Rattle.lines.specs.Crossings.{place}
use Rattle.lines.proofs.Towards.{along}
use Rattle.lines.proofs.Cells.{cell_on, six_is}
use Rattle.lines.proofs.Centres.{centres_good}
use Rattle.lines.proofs.Fractions.{place_on}
use Rattle.grids.specs.Inside.{off_axis, count_on, InGrid}
use Rattle.grids.proofs.Inside.{inside_parts, parts_inside}

-- from one coordinate of an axis towards another
between : (p q : ℤ) (count i : ℕ) → off_axis p count ≡ false → off_axis q count ≡ false → i ≤ apart p q → off_axis (towards p q i) count ≡ false
between p q count i hp hq le =
    let (dp, up-p) = inside_parts p count hp in
    let (dq, up-q) = inside_parts q count hq in
    let o = one_sided (towards p q i) in
    ⊎_elim
    (λ w. parts_inside (towards p q i) count (omega (arith, w.steps i, w.end)) (omega (arith, w.steps i, w.end)))
    (λ w. parts_inside (towards p q i) count (omega (arith, w.steps i, w.end)) (omega (arith, w.steps i, w.end)))
    (along p q)

-- every place between the ends
pub cell_inside : (n : Counts) (p q : Cell) → InGrid n p → InGrid n q → (t : Steps) → ((a : Axis) → t a ≤ differences p q a) → InGrid n (cell_of p q t)
cell_inside n p q hp hq t le =
    record { inside = λ a. rw (cell_on p q t a) (between (on p a) (on q a) (count_on n a) (t a) (hp.inside a) (hq.inside a) (le a)) }

pub six_inside : (r : Preference) (n : Counts) (p q : Cell) → InGrid n p → InGrid n q → (s : ℕ) → s ≤ total (differences p q) → InGrid n (six_cell r p q s)
six_inside r n p q hp hq s le =
    rw (six_is r p q s) (cell_inside n p q hp hq (place (centres r (differences p q)) s)
    (place_on (centres r (differences p q)) (centres_good r (differences p q)) s le).1)
