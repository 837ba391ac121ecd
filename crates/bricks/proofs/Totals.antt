-- The ones of all masks are the solid cells of the grid. Assumes nothing.
use Prim.Native.Nat.{ℕ, ◌+◌, ◌*◌, ◌/◌, ◌%◌, ◌≤◌, ◌<◌}
use native.Mathlib.Nat.{mul_assoc}
use native.Mathlib.Omega.{arith}
use mathlib.Core.Path.{◌≡◌, refl, sym, ap, ap₂, ◌∙◌}
use mathlib.Core.Bool.{Bool, true, false, ◌&&◌, and-false}
use mathlib.Core.List.{List}
use lib.Count.{ones, ones-le}
use lib.Dec.{eqb}
use lib.ListN.{length, get_or}
use borrow.Author.Tests.{lt-ltb, le-ltb}
use Rattle.cells.specs.declared.Counts.{Counts}
use Rattle.grids.specs.Grid.{size, index, solid}
use Rattle.grids.specs.Inside.{Shaped}
use Rattle.grids.proofs.Places.{x_at, y_at, z_at, index_of_cell}
use Rattle.bricks.specs.Sums.{sum, digit, count}
use Rattle.bricks.specs.Bricks.{bricks, solid_at, solid_in, mask_of, mask_at, solids, brick_there, brick_at, solids_in}
use Rattle.bricks.proofs.Sums.{sum_single, sum_most, number_small, ones_number}
use Rattle.bricks.proofs.Boxes.{sum3, sum3_same, sum_grid, sum3_past, sum3_parted, sum3_times}

-- two tests as digits
digits_and : (s t : Bool) → digit (s && t) ≡ digit t * digit s
digits_and true true = refl
digits_and true false = refl
digits_and false true = refl
digits_and false false = refl

module _ (n : Counts) (l : List ℕ) where
  -- inside the grid the byte decides
  pub solid_inside : (x y z : ℕ) → x < n.nx → y < n.ny → z < n.nz → solid_at n l x y z ≡ solid (get_or l (index n x y z) 0)
  solid_inside x y z hx hy hz = rw (lt-ltb x n.nx hx, lt-ltb y n.ny hy, lt-ltb z n.nz hz)

  -- and nothing beyond it is solid
  pub none_past_x : (x y z : ℕ) → n.nx ≤ x → solid_at n l x y z ≡ false
  none_past_x x y z h = rw (le-ltb x n.nx h)

  pub none_past_y : (x y z : ℕ) → n.ny ≤ y → solid_at n l x y z ≡ false
  none_past_y x y z h = rw (le-ltb y n.ny h, and-false)

  pub none_past_z : (x y z : ℕ) → n.nz ≤ z → solid_at n l x y z ≡ false
  none_past_z x y z h = rw (le-ltb z n.nz h, and-false, and-false)

  abbrev cells_of : ℕ → ℕ → ℕ → ℕ
  cells_of x y z = digit (solid_at n l x y z)

  -- the number of ones is the number of bits that are set
  pub ones_mask : (bx by bz : ℕ) → ones (mask_of n l bx by bz) ≡ count (solid_in n l bx by bz) 64
  unfolding mask_of
  ones_mask bx by bz = ones_number (solid_in n l bx by bz) 64

  pub ones_most : (bx by bz : ℕ) → ones (mask_of n l bx by bz) ≤ 64
  unfolding mask_of
  ones_most bx by bz = ones-le 64 _ (number_small (solid_in n l bx by bz) 64)

  pub part_most : (from k : ℕ) → sum (λ i. ones (mask_at n l (from + i))) k ≤ 64 * k
  part_most from k = sum_most _ 64 k (λ i. ones_most _ _ _)

  -- the same over the brick's cells
  ones_box : (bx by bz : ℕ) → ones (mask_of n l bx by bz) ≡ sum3 (λ x y z. cells_of (x + 4 * bx) (y + 4 * by) (z + 4 * bz)) 4 4 4
  ones_box bx by bz =
      ones_mask bx by bz ∙ sum_grid (λ b. digit (solid_in n l bx by bz b)) 4 4 4
      ∙ sum3_same _ _ 4 4 4 (λ x y z hx hy hz.
      let ex : 4 * bx + (x + 4 * (y + 4 * z)) % 4 ≡ x + 4 * bx = omega arith in
      let row : (x + 4 * (y + 4 * z)) / 4 ≡ y + 4 * z = omega arith in
      let ey : 4 * by + (x + 4 * (y + 4 * z)) / 4 % 4 ≡ y + 4 * by = rw row (omega arith) in
      let ez : 4 * bz + (x + 4 * (y + 4 * z)) / 16 ≡ z + 4 * bz = omega arith in
      λ i. cells_of (ex i) (ey i) (ez i))

  -- a fresh count, by coordinates
  solids_box : Shaped n (length l) → solids l ≡ sum3 cells_of n.nx n.ny n.nz
  unfolding solids
  solids_box s =
      ap (count (λ i. solid (get_or l i 0))) s.by_rows ∙ sum_grid (λ i. digit (solid (get_or l i 0))) n.nx n.ny n.nz
      ∙ sum3_same _ _ n.nx n.ny n.nz (λ x y z hx hy hz. ap digit (sym (solid_inside x y z hx hy hz)))

  -- the mask of the number of a brick is that of its coordinates
  pub mask_at_is : (bx by bz : ℕ) → bx < (bricks n).nx → by < (bricks n).ny → mask_at n l (index (bricks n) bx by bz) ≡ mask_of n l bx by bz
  mask_at_is bx by bz hx hy i = mask_of n l (x_at (bricks n) bx by bz hx i) (y_at (bricks n) bx by bz hx hy i) (z_at (bricks n) bx by bz hx hy i)

  -- brick by brick, by number and by coordinates
  over_bricks :
      (h : ℕ → ℕ → ℕ → ℕ) →
      sum (λ k. h (k % (bricks n).nx) (k / (bricks n).nx % (bricks n).ny) (k / ((bricks n).nx * (bricks n).ny))) (size (bricks n))
      ≡ sum3 h (bricks n).nx (bricks n).ny (bricks n).nz
  over_bricks h =
      let at : ℕ → ℕ = λ k. h (k % (bricks n).nx) (k / (bricks n).nx % (bricks n).ny) (k / ((bricks n).nx * (bricks n).ny)) in
      ap (sum at) (mul_assoc (bricks n).nx (bricks n).ny (bricks n).nz)
      ∙ sum_grid at (bricks n).nx (bricks n).ny (bricks n).nz
      ∙ sum3_same _ _ (bricks n).nx (bricks n).ny (bricks n).nz (λ x y z hx hy hz.
      λ i. h (x_at (bricks n) x y z hx i) (y_at (bricks n) x y z hx hy i) (z_at (bricks n) x y z hx hy i))

  -- what is nothing past the grid, summed brick by brick
  by_bricks :
      (g : ℕ → ℕ → ℕ → ℕ) → ((x y z : ℕ) → solid_at n l x y z ≡ false → g x y z ≡ 0) →
      sum3 (λ bx by bz. sum3 (λ x y z. g (x + 4 * bx) (y + 4 * by) (z + 4 * bz)) 4 4 4) (bricks n).nx (bricks n).ny (bricks n).nz
      ≡ sum3 g n.nx n.ny n.nz
  by_bricks g none =
      sym (sum3_parted g 4 (bricks n).nx (bricks n).ny (bricks n).nz)
      ∙ sum3_past g n.nx n.ny n.nz (4 * (bricks n).nx) (4 * (bricks n).ny) (4 * (bricks n).nz) (omega arith) (omega arith) (omega arith)
      (λ x y z h. none x y z (none_past_x x y z h)) (λ x y z h. none x y z (none_past_y x y z h)) (λ x y z h. none x y z (none_past_z x y z h))

  -- the ones of all masks are the solid bytes
  pub ones_are_solids : Shaped n (length l) → sum (λ k. ones (mask_at n l k)) (size (bricks n)) ≡ solids l
  ones_are_solids s =
      over_bricks (λ bx by bz. ones (mask_of n l bx by bz))
      ∙ sum3_same _ _ (bricks n).nx (bricks n).ny (bricks n).nz (λ x y z hx hy hz. ones_box x y z)
      ∙ by_bricks cells_of (λ x y z e. ap digit e) ∙ sym (solids_box s)

  -- ---- the solid cells of one brick

  module _ (k : ℕ) where
    abbrev in_brick : ℕ → ℕ → ℕ → Bool
    in_brick x y z = solid_at n l x y z && eqb (brick_there n x y z) k

    -- a fresh count of them, by coordinates
    counted_box : Shaped n (length l) → solids_in n l k ≡ sum3 (λ x y z. digit (in_brick x y z)) n.nx n.ny n.nz
    unfolding solids_in
    counted_box s =
        ap (count (λ i. solid (get_or l i 0) && eqb (brick_at n i) k)) s.by_rows
        ∙ sum_grid (λ i. digit (solid (get_or l i 0) && eqb (brick_at n i) k)) n.nx n.ny n.nz
        ∙ sum3_same _ _ n.nx n.ny n.nz (λ x y z hx hy hz.
        ap₂ (λ (a b : Bool). digit (a && b)) (sym (solid_inside x y z hx hy hz))
        (λ i. eqb (brick_there n (x_at n x y z hx i) (y_at n x y z hx hy i) (z_at n x y z hx hy i)) k))

    -- of the cells of a brick all are in it, or none
    in_or_out :
        (bx by bz : ℕ) → sum3 (λ x y z. digit (in_brick (x + 4 * bx) (y + 4 * by) (z + 4 * bz))) 4 4 4
        ≡ digit (eqb (index (bricks n) bx by bz) k) * ones (mask_of n l bx by bz)
    in_or_out bx by bz =
        sum3_same _ (λ x y z. digit (eqb (index (bricks n) bx by bz) k) * cells_of (x + 4 * bx) (y + 4 * by) (z + 4 * bz)) 4 4 4 (λ x y z hx hy hz.
        let ex : (x + 4 * bx) / 4 ≡ bx = omega arith in
        let ey : (y + 4 * by) / 4 ≡ by = omega arith in
        let ez : (z + 4 * bz) / 4 ≡ bz = omega arith in
        digits_and (solid_at n l (x + 4 * bx) (y + 4 * by) (z + 4 * bz)) _
        ∙ (λ i. digit (eqb (index (bricks n) (ex i) (ey i) (ez i)) k) * cells_of (x + 4 * bx) (y + 4 * by) (z + 4 * bz)))
        ∙ sum3_times (eqb (index (bricks n) bx by bz) k) (λ x y z. cells_of (x + 4 * bx) (y + 4 * by) (z + 4 * bz)) 4 4 4
        ∙ ap (λ (t : ℕ). digit (eqb (index (bricks n) bx by bz) k) * t) (sym (ones_box bx by bz))

    -- the number of ones of a mask is the number of solid cells of its brick
    pub ones_of_brick : Shaped n (length l) → k < size (bricks n) → ones (mask_at n l k) ≡ solids_in n l k
    ones_of_brick s lt =
        sym (counted_box s ∙ sym (by_bricks (λ x y z. digit (in_brick x y z)) (λ x y z e. rw e))
        ∙ sum3_same _ _ (bricks n).nx (bricks n).ny (bricks n).nz (λ x y z hx hy hz. in_or_out x y z)
        ∙ sym (over_bricks (λ bx by bz. digit (eqb (index (bricks n) bx by bz) k) * ones (mask_of n l bx by bz)))
        ∙ sum_single _ (λ j. ones (mask_at n l j)) (size (bricks n)) k lt (λ j. ap (λ (i : ℕ). eqb i k) (index_of_cell (bricks n) j)))
