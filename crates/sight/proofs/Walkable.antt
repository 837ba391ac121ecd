-- Two cells that were looked up lie in the grid, so a walk between them passes its tests. Assumes nothing.
use Rattle.std.specs.Prelude.{Ok}
use Prim.Native.Nat.{ℕ, ◌<◌}
use native.Mathlib.Omega.{arith}
use mathlib.Core.Path.{◌≡◌, sym, subst}
use mathlib.Core.Bool.{false}
use lib.IntN.{pos}
use Rattle.cells.specs.declared.Axis.{Axis}
use Rattle.cells.specs.declared.Axis.TheVariants.{X, Y, Z}
use Rattle.cells.specs.declared.Cell as cell
use Rattle.cells.specs.declared.Counts.{Counts}
use Rattle.cells.specs.declared.End.{End}
use Rattle.cells.specs.declared.End.TheVariants.{P, Q}
use Rattle.cells.specs.Touching.{on}
use Rattle.cells.proofs.Signed.{le_lt_z, lt_le_z}
use Rattle.grids.specs.Grid.{shape}
use Rattle.grids.specs.Inside.{off_axis, walk_check, count_on, InGrid}
use Rattle.grids.proofs.Inside.{walk_fine}
use Rattle.survey.specs.declared.Placement.{Placement}
use Rattle.survey.specs.declared.Point.{Point}
use Rattle.survey.specs.Survey.{PlacedGrid, quotients, cell_at, look_up}
use Rattle.survey.specs.Search.{AllInside}
use Rattle.survey.proofs.Numbers.{number_in}
use Rattle.survey.proofs.Lookups.{look_given}

number_on : (k count : ℕ) → k < count → off_axis (pos k) count ≡ false
number_on k count h = rw (le_lt_z (pos k) (pos 0) (omega arith), lt_le_z (pos count) (pos k) (omega arith))

-- the cell that has quotients that are inside
inside_grid : (n : Counts) (q : Point) → AllInside n q → InGrid n (cell_at n q)
inside_grid n q h = record { inside = on_axis }
  where
    on_axis : (a : Axis) → off_axis (on (cell_at n q) a) (count_on n a) ≡ false
    on_axis X = number_on _ n.nx (number_in n.nx q.x h.x).0
    on_axis Y = number_on _ n.ny (number_in n.ny q.y h.y).0
    on_axis Z = number_on _ n.nz (number_in n.nz q.z h.z).0

looked_in : (e : End) (n : Counts) (at : Placement) (p : Point) (c : cell.Cell) → PlacedGrid n at → look_up e n at p ≡ Ok c → InGrid n c
looked_in e n at p c tested found = let (inside, is) = look_given e n at p c tested found in subst (InGrid n) (sym is) (inside_grid n (quotients at p) inside)

pub walkable : (n : Counts) (bytes : ℕ) (at : Placement) (camera ball : Point) (c b : cell.Cell) → shape n bytes ≡ Ok tt → PlacedGrid n at →
    look_up P n at camera ≡ Ok c → look_up Q n at ball ≡ Ok b → walk_check n bytes c b ≡ Ok tt
walkable n bytes at camera ball c b shaped tested from to =
    walk_fine n bytes c b (record { shaped = shaped; p_in = looked_in P n at camera c tested from; q_in = looked_in Q n at ball b tested to })
