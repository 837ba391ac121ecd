-- `routes::strides_of` meets its contract: a stride for each axis, small enough to be read back as it is. Assumes nothing.
use mathlib.Core.Path.{◌≡◌, ap, ap₂, ◌∙◌}
use Prim.Native.Nat.{ℕ, ◌*◌, ◌≤◌}
use native.Mathlib.Omega.{arith}
use lib.IntN.{ℤ}
use Rattle.cells.specs.declared.Cell.{Cell}
use Rattle.cells.specs.declared.Counts.{Counts}
use Rattle.cells.specs.Touching.{on}
use Rattle.cells.proofs.Machine.{held, small_held}
use Rattle.lines.specs.Steps.{Axis, X, Y, Z}
use Rattle.routes.specs.Route.{stride}
use Rattle.grids.specs.Inside.{Enclosed}
use Rattle.grids.proofs.Inside.{inside_held, counts_most}
use Rattle.routes.proofs.Spots.{stride_small}
use Rattle.routes.proofs.strides_of.Goals as goal

-- what the call on an axis answered, of the ends themselves
stride_of :
    (n : Counts) (p q : Cell) → Enclosed n p → Enclosed n q → (a : Axis) (w : ℕ) {r : ℤ} → w ≤ 1048576 → r ≡ stride (held (on p a)) (held (on q a)) w →
    held r ≡ stride (on p a) (on q a) w
stride_of n p q hp hq a w {r} le e = ap held is ∙ small_held (stride (on p a) (on q a) w) (stride_small (on p a) (on q a) w le)
  where
    as_is : (c : Cell) → Enclosed n c → held (on c a) ≡ on c a
    as_is c h = inside_held (on c a) _ (counts_most n h.shaped a) (h.inside.inside a)

    is : r ≡ stride (on p a) (on q a) w
    is = e ∙ ap₂ (λ u v. stride u v w) (as_is p hp) (as_is q hq)

pub returns : goal.returns
returns c =
    let (hp, hq) = c.requires in
    let n = c.args.n in
    let p = c.args.p in
    let q = c.args.q in
    λ i. record {
      x = stride_of n p q hp hq X 1 (omega arith) c.stride_to.ensures i;
      y = stride_of n p q hp hq Y n.nx (omega (arith, hp.shaped.x.most)) c.stride_to-2.ensures i;
      z = stride_of n p q hp hq Z (n.nx * n.ny) hp.shaped.layer_most c.stride_to-3.ensures i;
    }
