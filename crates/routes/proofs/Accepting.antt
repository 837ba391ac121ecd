-- A call that passed its tests has a route between two cells of the grid. Assumes nothing.
use Rattle.std.specs.Prelude.{Ok}
use mathlib.Core.Path.{◌≡◌, sym, ap, ap₂, ◌∙◌, subst}
use Prim.Native.Nat.{ℕ}
use Rattle.cells.specs.declared.Cell.{Cell}
use Rattle.cells.specs.declared.Counts.{Counts}
use Rattle.cells.specs.declared.Rule.{Rule}
use Rattle.lines.specs.declared.Order.{Order}
use Rattle.lines.specs.Preference.{order_of}
use Rattle.lines.specs.Lines.{differences}
use Rattle.lines.specs.Decisions.{doubled}
use Rattle.tripod.specs.Tripod.{steps, Short}
use Rattle.grids.specs.Inside.{Shaped, walk_check, InGrid, Enclosed}
use Rattle.grids.proofs.Shapes.{shaped}
use Rattle.grids.proofs.Inside.{accepted}
use Rattle.routes.specs.declared.Route.{Route}
use Rattle.routes.specs.Route.{strides, RouteOf, Planned}

module _ (n : Counts) (bytes : ℕ) (p q : Cell) (fine : walk_check n bytes p q ≡ Ok tt) where
  has_shape : Shaped n bytes
  has_shape = shaped n bytes (accepted n bytes p q fine).shaped

  pub ends_enclosed : Enclosed n p × Enclosed n q
  ends_enclosed = (
    record { bytes = bytes; shaped = has_shape; inside = (accepted n bytes p q fine).p_in },
    record { bytes = bytes; shaped = has_shape; inside = (accepted n bytes p q fine).q_in },
  )

  pub route_planned : (rule : Rule) (k : Route) → RouteOf rule n p q k → Planned bytes k
  route_planned rule k r =
      record {
        shaped = subst (λ m. Shaped m bytes) (sym r.grid) has_shape;
        p_in = subst (λ m. InGrid m k.p) (sym r.grid) (subst (InGrid n) (sym r.start) (accepted n bytes p q fine).p_in);
        q_in = subst (λ m. InGrid m k.q) (sym r.grid) (subst (InGrid n) (sym r.end) (accepted n bytes p q fine).q_in);
        is = r.is ∙ ap₂ differences (sym r.start) (sym r.end);
        short = r.short;
        moves = r.moves ∙ ap (λ m. strides m p q) (sym r.grid) ∙ ap₂ (strides k.n) (sym r.start) (sym r.end);
        twice = r.twice ∙ ap₂ (λ a b. doubled (differences a b)) (sym r.start) (sym r.end);
      }

-- its start has a spot
pub p_enclosed : {bytes : ℕ} {k : Route} → Planned bytes k → Enclosed k.n k.p × Short k.d × (steps k.d ≡ differences k.p k.q)
p_enclosed {bytes} plan = (record { bytes = bytes; shaped = plan.shaped; inside = plan.p_in }, plan.short, plan.is)

-- what is said of a route's grid, ends and order is said of those of the call
pub of_route : {A : Type 0} (rule : Rule) (n : Counts) (p q : Cell) (k : Route) → RouteOf rule n p q k → (f : Counts → Cell → Cell → Order → A) →
    f k.n k.p k.q k.order ≡ f n p q (order_of rule p q)
of_route rule n p q k r f = ap₂ (λ m o. f m k.p k.q o) r.grid r.order ∙ ap₂ (λ a b. f n a b (order_of rule p q)) r.start r.end
