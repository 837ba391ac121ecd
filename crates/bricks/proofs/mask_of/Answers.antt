-- `bricks::mask_of` meets its contract: a brick that lies in the grid whole is read with no test, any other row by row. Assumes nothing.
use Prim.Native.Nat.{ℕ, ◌*◌}
use native.Mathlib.Omega.{arith}
use mathlib.Core.Path.{ap, ◌∙◌}
use Rattle.grids.proofs.Shapes.{shaped}
use Rattle.bricks.specs.Sums.{number_of}
use Rattle.bricks.specs.Bricks.{mask_of}
use Rattle.bricks.specs.Rows.{solid_from}
use Rattle.bricks.proofs.Rows.{whole_is, whole_fits}
use Rattle.bricks.proofs.mask_of.Goals as goal

pub is_whole-requires-clause-counted : goal.is_whole-requires-clause-counted
is_whole-requires-clause-counted c = let s = shaped _ _ c.args.g.shaped in record { x = s.x; y = s.y; z = s.z }

pub index_in-requires-clause-small : goal.index_in-requires-clause-small
index_in-requires-clause-small c = let s = shaped _ _ c.args.g.shaped in omega (arith, s.x.most, s.y.most, s.z.most)

pub whole_mask-requires : goal.whole_mask-requires
whole_mask-requires c =
    let a = c.args in
    let h = c.is_whole.ensures c.if-is_whole.true in
    let fits = whole_fits a.g.counts _ a.b.x a.b.y a.b.z (shaped _ _ c.args.g.shaped) h.0 h.1 h.2 in
    omega (arith, c.index_in.ensures)

pub returns-then-is_whole : goal.returns-then-is_whole
unfolding mask_of
returns-then-is_whole c =
    let a = c.args in
    let h = c.is_whole.ensures c.if-is_whole.true in
    c.whole_mask.ensures
    ∙ ap (λ (from : ℕ). number_of (solid_from a.g.cells.now from a.g.counts.nx (a.g.counts.nx * a.g.counts.ny)) 64) c.index_in.ensures
    ∙ whole_is a.g.counts a.g.cells.now a.b.x a.b.y a.b.z h.0 h.1 h.2
