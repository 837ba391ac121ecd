-- Bricks in a row along x: where each starts, its number, and its mask; and all rows, one after another. Assumes nothing.
use Prim.Native.Nat.{ℕ, ◌+◌, ◌*◌, ◌/◌, ◌%◌, ◌<◌}
use native.Mathlib.Nat.{mod-lt, div-lt_iff_lt-mul, mul_comm, mod-add-div}
use native.Mathlib.Omega.{arith}
use mathlib.Core.Path.{◌≡◌, refl, sym, subst, ap, ap₂, ◌∙◌}
use mathlib.Core.List.{List}
use Rattle.cells.specs.declared.Counts.{Counts}
use Rattle.cells.specs.Fills.{Filled}
use Rattle.cells.proofs.Fills.{filled_then}
use Rattle.grids.specs.Grid.{size, index}
use Rattle.grids.specs.Inside.{Shaped}
use Rattle.grids.proofs.Places.{index_below}
use Rattle.bricks.specs.declared.Slot.{Slot}
use Rattle.bricks.specs.Sums.{sum}
use Rattle.bricks.specs.Bricks.{bricks, mask_of, mask_at}
use Rattle.bricks.specs.Rows.{brick_number, RowOfBricks}
use Rattle.bricks.proofs.Bricked.{bricked, starts_inside}
use Rattle.bricks.proofs.Sums.{sum_cat}
use Rattle.bricks.proofs.Totals.{mask_at_is}

module _ (n : Counts) (b : Slot) (long : ℕ) (row : RowOfBricks n b long) (from : ℕ) (e : from ≡ brick_number n b) (d : ℕ) (h : d < long) where
  -- it has a cell in the grid
  pub row_starts : (4 * (b.x + d) < n.nx) × (4 * b.y < n.ny) × (4 * b.z < n.nz)
  row_starts =
      let x = row.x in
      (starts_inside n.nx (b.x + d) (omega arith), starts_inside n.ny b.y row.y, starts_inside n.nz b.z row.z)

  -- its number is the first one's and d
  numbered : index (bricks n) (b.x + d) b.y b.z ≡ from + d
  numbered = omega arith

  pub row_number_below : from + d < size (bricks n)
  row_number_below =
      let x = row.x in
      subst (λ (k : ℕ). k < size (bricks n)) numbered (index_below (bricks n) (b.x + d) b.y b.z (omega arith) row.y row.z)

  -- and its mask is that of its number
  pub row_mask : (l : List ℕ) (mask : ℕ) → mask ≡ mask_of n l (b.x + d) b.y b.z → mask ≡ mask_at n l (from + d)
  row_mask l mask is =
      let x = row.x in
      is ∙ sym (mask_at_is n l (b.x + d) b.y b.z (omega arith) row.y) ∙ ap (mask_at n l) numbered

-- ---- all rows of bricks, one after another

module _ (n : Counts) (bytes : ℕ) (s : Shaped n bytes) (r : ℕ) (h : r < (bricks n).ny * (bricks n).nz) where
  abbrev row_at : Slot
  row_at = record { x = 0; y = r % (bricks n).ny; z = r / (bricks n).ny }

  pub row_there : RowOfBricks n row_at (bricks n).nx
  row_there =
      let gy = bricked n.ny s.y in
      record {
        x = omega arith;
        some = (bricked n.nx s.x).some;
        y = mod-lt r gy.some;
        z = (div-lt_iff_lt-mul gy.some).1 (subst (λ (t : ℕ). r < t) (mul_comm (bricks n).ny (bricks n).nz) h);
      }

  -- the number of its first brick
  pub row_first : brick_number n row_at ≡ (bricks n).nx * r
  row_first = ap (λ (t : ℕ). 0 + (bricks n).nx * t) (mod-add-div r (bricks n).ny) ∙ omega arith

-- one row more is filled, and summed
pub row_filled :
    (f : ℕ → ℕ) (w r from : ℕ) (l m e : List ℕ) → from ≡ w * r → Filled f 0 (w * r) l m → Filled f from (from + w) m e → Filled f 0 (w * (r + 1)) l e
row_filled f w r from l m e at done row =
    let next : w * r + w ≡ w * (r + 1) = omega arith in
    let part : Filled f (w * r) (w * (r + 1)) m e = rw (sym next) (subst (λ (t : ℕ). Filled f t (t + w) m e) at row) in
    filled_then f f 0 (w * r) (w * (r + 1)) l m e (omega arith) (omega arith) (λ k _ _. refl) done part

pub row_summed : (g : ℕ → ℕ) (w r from t v : ℕ) → from ≡ w * r → t ≡ sum g (w * r) → v ≡ sum (λ i. g (from + i)) w → t + v ≡ sum g (w * (r + 1))
row_summed g w r from t v at et ev =
    let next : w * r + w ≡ w * (r + 1) = omega arith in
    ap₂ (λ (a b : ℕ). a + b) et (ev ∙ ap (λ (k : ℕ). sum (λ i. g (k + i)) w) at) ∙ sym (sum_cat g (w * r) w) ∙ ap (sum g) next
