-- What corners that passed all tests before 13 say; and the ways out of the two calls. Assumes nothing.
use Rattle.std.specs.Prelude.{Ok, Err, Result}
use Prim.Native.Nat.{ℕ, ◌≤◌, ◌<◌}
use native.Mathlib.Omega.{arith}
use mathlib.Core.Path.{◌≡◌, sym, ap, ◌∙◌}
use mathlib.Core.Bool.{false}
use mathlib.Core.List.{List}
use lib.IntN.{ℤ, pos, nat_abs}
use lib.ListN.{length}
use lib.Signed.{lt_z}
use Rattle.cells.specs.declared.Axis.TheVariants.{X, Y, Z}
use Rattle.cells.specs.declared.Cell.{Cell}
use Rattle.cells.specs.declared.Counts.{Counts}
use Rattle.cells.specs.declared.End.TheVariants.{P, Q}
use Rattle.cells.specs.declared.Refusal.{Refusal}
use Rattle.cells.specs.declared.Refusal.TheVariants.{Corners}
use Rattle.cells.specs.Checks.{refuse_when, ◌then◌}
use Rattle.cells.proofs.Checks.{fine_first, fine_rest, passed, then_assoc}
use Rattle.cells.proofs.Signed.{lt_z_false, abs_is}
use Rattle.grids.specs.Inside.{off_axis, InGrid, grid_check, Shaped}
use Rattle.grids.proofs.Any.{or_neither}
use Rattle.grids.proofs.Inside.{inside_parts, inside_nat, inside_below, check_inside}
use Rattle.grids.proofs.Shapes.{shaped}
use Rattle.bricks.specs.Builds.{bricks_check}
use Rattle.bricks.proofs.Building.{shape_fine}
use Rattle.refills.specs.Boxes.{corner}
use Rattle.refills.specs.Rows.{Natural, Boxed}
use Rattle.refills.specs.Refills.{crossed, box_check, stale_check, Changes, Refills}

-- a cell of a grid has natural coordinates
pub natural : (n : Counts) (bytes : ℕ) → Shaped n bytes → (c : Cell) → InGrid n c → Natural c
natural n bytes s c h =
    record {
      x = one c.x n.nx s.x.most (h.inside X);
      y = one c.y n.ny s.y.most (h.inside Y);
      z = one c.z n.nz s.z.most
          (h.inside Z);
    }
  where
    one : (v : ℤ) (count : ℕ) → count ≤ 1024 → off_axis v count ≡ false → (v ≡ pos (nat_abs v)) × (nat_abs v < 1024)
    one v count most inside = let below = inside_below v count inside in (inside_nat v count most inside, omega arith)

module _ (n : Counts) (bytes lent : ℕ) (low high : Cell) (e : box_check n bytes lent low high ≡ Ok tt) where
  pub bricks_fine : bricks_check n bytes lent ≡ Ok tt
  unfolding box_check
  bricks_fine = fine_first (bricks_check n bytes lent) _ e

  ends_fine : (grid_check P n low then grid_check Q n high then refuse_when (crossed low high) Corners) ≡ Ok tt
  unfolding box_check
  ends_fine = fine_rest (bricks_check n bytes lent) _ e

  pub low_in : InGrid n low
  low_in = check_inside P n low (fine_first (grid_check P n low) _ ends_fine)

  high_fine : (grid_check Q n high then refuse_when (crossed low high) Corners) ≡ Ok tt
  high_fine = fine_rest (grid_check P n low) _ ends_fine

  pub high_in : InGrid n high
  high_in = check_inside Q n high (fine_first (grid_check Q n high) _ high_fine)

  pub uncrossed : crossed low high ≡ false
  uncrossed = passed _ _ (fine_rest (grid_check Q n high) _ high_fine)

  pub counts_shaped : Shaped n bytes
  counts_shaped = shaped n bytes (shape_fine n bytes lent bricks_fine)

  -- the corners make a box of the grid
  pub boxed : Boxed n (corner low) (corner high)
  boxed =
      let (x, yz) = or_neither (lt_z high.x low.x) _ uncrossed in
      let (y, z) = or_neither (lt_z high.y low.y) _ yz in
      let s = counts_shaped in
      record {
        x = axis low.x high.x n.nx s.x.most (low_in.inside X) (high_in.inside X) x;
        y = axis low.y high.y n.ny s.y.most (low_in.inside Y) (high_in.inside Y) y;
        z = axis low.z high.z n.nz s.z.most (low_in.inside Z) (high_in.inside Z) z;
      }
    where
      axis :
          (a b : ℤ) (count : ℕ) → count ≤ 1024 → off_axis a count ≡ false → off_axis b count ≡ false → lt_z b a ≡ false →
          (nat_abs a ≤ nat_abs b) × (nat_abs b < count) × (count ≤ 1024)
      axis a b count most ina inb le =
          let (da, ua) = inside_parts a count ina in
          let (db, ub) = inside_parts b count inb in
          let way = lt_z_false b a le in
          let ea = abs_is a in
          let eb = abs_is b in
          omega arith

-- where the ends are refused, the corners are not looked at
pub ends_refused :
    (n : Counts) (bytes lent : ℕ) (low high : Cell) (r : Refusal) → bricks_check n bytes lent ≡ Ok tt →
    (grid_check P n low then grid_check Q n high) ≡ Err r → box_check n bytes lent low high ≡ Err r
unfolding box_check
ends_refused n bytes lent low high r fits e =
    rw fits (sym (then_assoc (grid_check P n low) (grid_check Q n high) _) ∙ ap (λ v. v then refuse_when (crossed low high) Corners) e)

-- ---- the ways out

module _ (n : Counts) (low high : Cell) (byte : ℕ) (l m : List ℕ) (total : ℕ) where
  pub looked_at :
      (r : Result ℕ Refusal) (l' m' : List ℕ) → box_check n (length l) (length m) low high ≡ Ok tt →
      Changes (stale_check n (corner low) (corner high) l m total) n (corner low) (corner high) byte l m total r l' m' →
      Refills n low high byte l m total r l' m'
  looked_at r l' m' e c = rw e c
