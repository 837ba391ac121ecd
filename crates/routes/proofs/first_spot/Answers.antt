-- `routes::first_spot` meets its contract: the place of P's byte is below 2^30, and with no step taken the values are the first. Assumes nothing.
use mathlib.Core.Path.{◌≡◌, refl, sym, ap, ◌∙◌}
use Prim.Native.Nat.{ℕ, ◌^◌, ◌<◌}
use native.Mathlib.Omega.{arith}
use lib.IntN.{pos}
use Rattle.cells.specs.declared.Cell.{Cell}
use Rattle.cells.specs.declared.Counts.{Counts}
use Rattle.cells.proofs.Machine.{nat_fits, nat_held}
use Rattle.lines.specs.Steps.{Axis, X, Y, Z, at}
use Rattle.lines.specs.Decisions.{values, lowered}
use Rattle.lines.proofs.Cells.{cell_start}
use Rattle.tripod.specs.Tripod.{steps}
use Rattle.tripod.proofs.Laws.{place_small, short_at}
use Rattle.grids.specs.Grid.{byte_index}
use Rattle.grids.specs.Inside.{Enclosed}
use Rattle.grids.proofs.Inside.{byte_below}
use Rattle.routes.proofs.first_spot.Goals as goal

no_steps : (a : Axis) → at 0 0 0 a ≡ 0
no_steps X = refl
no_steps Y = refl
no_steps Z = refl

below : (n : Counts) (p : Cell) {i : ℕ} → Enclosed n p → i ≡ byte_index n p → i < 2 ^ 31
below n p h e = omega (arith, e, byte_below n h.bytes h.shaped p h.inside, h.shaped.bytes_are, h.shaped.size_most)

pub lowered-requires : goal.lowered-requires
lowered-requires c = rw c.first_values.ensures (place_small (steps c.args.k.d) (at 0 0 0) (short_at c.args.k.d c.requires.1) (λ a. rw (no_steps a) (omega arith)))

pub overflow_cast-result : goal.overflow_cast-result
overflow_cast-result c = nat_fits _ (below c.args.k.n c.args.k.p c.requires.0 c.index_of.ensures)

pub returns : goal.returns
returns c =
    let k = c.args.k in
    record {
      index = nat_held _ (below k.n k.p c.requires.0 c.index_of.ensures) ∙ ap pos c.index_of.ensures ∙ ap (λ d. pos (byte_index k.n d)) (sym (cell_start k.p k.q (at 0 0 0) no_steps));
      value = c.lowered.ensures ∙ ap (lowered k.order)
          (c.first_values.ensures ∙ ap (λ D. values D (at 0 0 0)) c.requires.2);
    }
