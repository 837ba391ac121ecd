-- Whether masks are those of the bytes: what holds somewhere in a box holds somewhere in its rows. Assumes nothing.
use Rattle.std.specs.Prelude.{Some, None, Option}
use Prim.Native.Nat.{ℕ, ◌+◌, ◌-◌, ◌*◌, ◌/◌, ◌%◌, ◌<◌}
use native.Mathlib.Omega.{arith}
use mathlib.Core.Path.{◌≡◌, refl, sym, ap, ◌∙◌}
use mathlib.Core.Bool.{Bool, true, false, not, ◌&&◌}
use mathlib.Core.List.{List}
use lib.Count.{ones}
use lib.ListN.{get_or}
use borrow.Author.Tests.{eq-eqb, ne_eqb}
use Rattle.cells.specs.declared.Counts.{Counts}
use Rattle.cells.proofs.Touching.{and_both}
use Rattle.grids.specs.Grid.{size}
use Rattle.grids.specs.Marks.{any}
use Rattle.grids.proofs.Any.{same_test, any_some, any_more, any_which}
use Rattle.grids.proofs.Places.{index_of_cell}
use Rattle.bricks.specs.Sums.{sum}
use Rattle.bricks.specs.Bricks.{bricks, mask_at}
use Rattle.bricks.specs.declared.Slot.{Slot}
use Rattle.refills.specs.Boxes.{in_box_at}
use Rattle.refills.specs.Rows.{Boxed, wide, rows, row_start, row_number, agreed}
use Rattle.refills.specs.Refills.{differs}
use Rattle.refills.proofs.Boxes.{is_in, passes, row_below}
use Rattle.refills.proofs.BoxRows.{row_in, row_index, row_fits, in_row}

module _ (n : Counts) (lo hi : Slot) (box : Boxed n lo hi) where
  -- some number of the box passes exactly when one of its rows has such a number
  pub any_box : (p : ℕ → Bool) → any (λ r. any (λ i. p (row_start n lo hi r + i)) (wide lo hi)) (rows lo hi) ≡ any (λ k. in_box_at n lo hi k && p k)
      (size n)
  any_box p = same_test _ _ down up
    where
      down : any (λ r. any (λ i. p (row_start n lo hi r + i)) (wide lo hi)) (rows lo hi) ≡ true → any (λ k. in_box_at n lo hi k && p k) (size n) ≡ true
      down e =
          let (r, hr, er) = any_which (λ r. any (λ i. p (row_start n lo hi r + i)) (wide lo hi)) (rows lo hi) e in
          let (i, w, ei) = any_which (λ i. p (row_start n lo hi r + i)) (wide lo hi) er in
          let here = passes n lo hi box _ _ _ (row_start n lo hi r + i) (row_in n lo hi box r i hr w) (row_index n lo hi box r i) in
          let fits = row_fits n lo hi box r hr in
          any_some (λ k. in_box_at n lo hi k && p k) (size n) (row_start n lo hi r + i) (omega arith) (rw here ei)

      up : any (λ k. in_box_at n lo hi k && p k) (size n) ≡ true → any (λ r. any (λ i. p (row_start n lo hi r + i)) (wide lo hi)) (rows lo hi) ≡ true
      up e =
          let (k, lt, t) = any_which (λ k. in_box_at n lo hi k && p k) (size n) e in
          let (t₀, t₁) = and_both (in_box_at n lo hi k) _ t in
          let i = is_in lo hi _ _ _ t₀ in
          let x : ℕ = k % n.nx in
          let y : ℕ = k / n.nx % n.ny in
          let z : ℕ = k / (n.nx * n.ny) in
          let dx = i.across in
          let at : k ≡ row_start n lo hi (row_number lo hi y z) + (x - lo.x) = sym (index_of_cell n k) ∙ in_row n lo hi box x y z i in
          any_some (λ r. any (λ i. p (row_start n lo hi r + i)) (wide lo hi)) (rows lo hi) (row_number lo hi y z) (row_below lo hi x y z i)
          (any_some (λ i. p (row_start n lo hi (row_number lo hi y z) + i)) (wide lo hi) (x - lo.x) (omega arith) (rw at at t₁))

-- ---- a part of the masks, one by one

module _ (n : Counts) (l m : List ℕ) (from : ℕ) where
  -- a wrong mask is found
  pub part_wrong :
      (long d mask t : ℕ) → d < long → mask ≡ mask_at n l (from + d) → (get_or m (from + d) 0 ≡ mask → ⊥) → None ≡ agreed (any (λ i. differs n l m
      (from + i)) long) t
  part_wrong long d mask t lt e ne =
      let bad : differs n l m (from + d) ≡ true = ap not (ne_eqb (get_or m (from + d) 0) (mask_at n l (from + d)) (λ q. ne (q ∙ sym e))) in
      rw (any_some (λ i. differs n l m (from + i)) long d lt bad)

  -- or one more is right
  pub part_right :
      (d mask : ℕ) → mask ≡ mask_at n l (from + d) → get_or m (from + d) 0 ≡ mask → any (λ i. differs n l m (from + i)) d ≡ false → any
      (λ i. differs n l m (from + i)) (d + 1) ≡ false
  part_right d mask e same none =
      let good : differs n l m (from + d) ≡ false = ap not (eq-eqb (get_or m (from + d) 0) (mask_at n l (from + d)) (same ∙ e)) in
      any_more (λ i. differs n l m (from + i)) d ∙ rw (none, good)

-- ---- a box of masks, row by row

-- a mask of a box of bricks differs
abbrev pub some_differs : Counts → List ℕ → List ℕ → Slot → Slot → Bool
some_differs n l m lo hi = any (λ k. in_box_at (bricks n) lo hi k && differs n l m k) (size (bricks n))

pub differs_is :
    (n : Counts) (l m : List ℕ) (lo hi : Slot) → Boxed (bricks n) lo hi →
    some_differs n l m lo hi ≡ any (λ r. any (λ i. differs n l m (row_start (bricks n) lo hi r + i)) (wide lo hi)) (rows lo hi)
differs_is n l m lo hi box = sym (any_box (bricks n) lo hi box (differs n l m))

differs_not_ones : (t : ℕ) → None ≡ Some t → ⊥
differs_not_ones t e = let z : ◌≡◌ {A = ℕ} 0 1 = cc in omega arith

-- an answer with ones has found no wrong mask, and gives the sum
pub ones_tells : (t : Bool) (a b : ℕ) → Some a ≡ agreed t b → (t ≡ false) × (a ≡ b)
ones_tells true a b e = absurd (differs_not_ones a (sym e))
ones_tells false a b e = (refl, cc)

-- and one with none has found one
pub differs_tells : (t : Bool) (b : ℕ) → None ≡ agreed t b → t ≡ true
differs_tells true b e = refl
differs_tells false b e = absurd (differs_not_ones b e)

-- one row of the box more: it answered with its ones, or with none

-- row r of the box has a wrong mask
abbrev pub row_wrong : Counts → List ℕ → List ℕ → Slot → Slot → ℕ → Bool
row_wrong n l m lo hi r = any (λ i. differs n l m (row_start (bricks n) lo hi r + i)) (wide lo hi)

abbrev row_sum : Counts → List ℕ → Slot → Slot → ℕ → ℕ
row_sum n l lo hi r = sum (λ i. ones (mask_at n l (row_start (bricks n) lo hi r + i))) (wide lo hi)

module _ (n : Counts) (l m : List ℕ) (lo hi : Slot) (r s w t : ℕ) (a : Option ℕ) (es : s ≡ row_start (bricks n) lo hi r) (ew : w ≡ wide lo hi)
    (says : a ≡ agreed (any (λ i. differs n l m (s + i)) w) (sum (λ i. ones (mask_at n l (s + i))) w)) where
  row_says : a ≡ agreed (row_wrong n l m lo hi r) (row_sum n l lo hi r)
  row_says = says ∙ (λ k. agreed (any (λ i. differs n l m (es k + i)) (ew k)) (sum (λ i. ones (mask_at n l (es k + i))) (ew k)))

  pub box_wrong : Boxed (bricks n) lo hi → (total : ℕ) → r < rows lo hi → a ≡ None → None ≡ agreed (some_differs n l m lo hi) total
  box_wrong box total lt e =
      let found : row_wrong n l m lo hi r ≡ true = differs_tells (row_wrong n l m lo hi r) (row_sum n l lo hi r) (sym e ∙ row_says) in
      rw (differs_is n l m lo hi box, any_some (row_wrong n l m lo hi) (rows lo hi) r lt found)

  told : a ≡ Some t → (row_wrong n l m lo hi r ≡ false) × (t ≡ row_sum n l lo hi r)
  told e = ones_tells (row_wrong n l m lo hi r) t (row_sum n l lo hi r) (sym e ∙ row_says)

  pub box_right : a ≡ Some t → any (row_wrong n l m lo hi) r ≡ false → any (row_wrong n l m lo hi) (r + 1) ≡ false
  box_right e none = let here = (told e).0 in any_more (row_wrong n l m lo hi) r ∙ rw (none, here)

  pub row_ones : a ≡ Some t → t ≡ row_sum n l lo hi r
  row_ones e = (told e).1
