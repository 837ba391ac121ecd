-- Sums that move in a part of their numbers, and the part that is a box. Assumes nothing.
use Prim.Native.Nat.{ℕ, zero, suc, ◌+◌, ◌*◌, ◌≤◌, ◌<◌}
use native.Mathlib.Nat.{mul_assoc}
use native.Mathlib.Omega.{arith}
use mathlib.Core.Path.{◌≡◌, refl, sym, ap, ◌∙◌}
use mathlib.Core.Bool.{Bool, true, false, and-false}
use Rattle.cells.specs.declared.Counts.{Counts}
use Rattle.grids.specs.Grid.{size, index}
use Rattle.grids.proofs.Places.{rest_of, whole_of}
use Rattle.bricks.specs.declared.Slot.{Slot}
use Rattle.bricks.specs.Sums.{sum, digit}
use Rattle.refills.specs.Boxes.{between, in_box, in_box_at}
use Rattle.refills.specs.Rows.{Boxed, wide, tall, deep, rows, row_start, box_sum}
use Rattle.bricks.proofs.Sums.{sum_same, sum_most, sum_grows, sum_zero, sum_cat, sum_past, sum_groups}
use Rattle.bricks.proofs.Boxes.{sum3, sum3_same, sum_grid}
use Rattle.refills.proofs.Boxes.{inside_is, below_is, above_is, in_box_index}
use Rattle.refills.proofs.BoxRows.{row_index}

-- f and g differ only where t holds
pub sum_where :
    (t : ℕ → Bool) (f g : ℕ → ℕ) (n : ℕ) → ((k : ℕ) → k < n → t k ≡ false → f k ≡ g k) →
    sum f n + sum (λ k. digit (t k) * g k) n ≡ sum g n + sum (λ k. digit (t k) * f k) n
unfolding sum
sum_where t f g zero same = refl
sum_where t f g (suc n) same =
    let ih = sum_where t f g n (λ k l e. same k (omega arith) e) in
    let here : f n + digit (t n) * g n ≡ g n + digit (t n) * f n = go (t n) (same n (omega arith)) in
    omega arith
  where
    go : (b : Bool) → (b ≡ false → f n ≡ g n) → f n + digit b * g n ≡ g n + digit b * f n
    go true h = omega arith
    go false h = omega (arith, h refl)

-- f and g are the same where t holds
pub sum_named :
    (t : ℕ → Bool) (f g : ℕ → ℕ) (n : ℕ) → ((k : ℕ) → k < n → t k ≡ true → f k ≡ g k) → sum (λ k. digit (t k) * f k) n ≡ sum (λ k. digit (t k) * g k) n
sum_named t f g n same = sum_same _ _ n (λ k lt. go k (t k) (same k lt))
  where
    go : (k : ℕ) (b : Bool) → (b ≡ true → f k ≡ g k) → digit b * f k ≡ digit b * g k
    go k true h = ap (λ (s : ℕ). 1 * s) (h refl)
    go k false h = omega arith

-- nothing is added outside lo .. lo + w - 1
pub sum_window : (f : ℕ → ℕ) (n lo w : ℕ) → lo + w ≤ n → ((k : ℕ) → k < lo → f k ≡ 0) → ((k : ℕ) → lo + w ≤ k → f k ≡ 0) → sum f n ≡ sum (λ i. f
    (lo + i)) w
sum_window f n lo w le low high =
    sum_past f (lo + w) n le (λ k ge lt. high k ge) ∙ sum_cat f lo w ∙ ap (λ (t : ℕ). t + sum (λ i. f (lo + i)) w) (sum_zero f lo low) ∙ omega arith

module _ (n : Counts) (lo hi : Slot) (box : Boxed n lo hi) (g : ℕ → ℕ) where
  abbrev there : ℕ → ℕ → ℕ → ℕ
  there x y z = digit (in_box lo hi x y z) * g (index n x y z)

  not_there : (x y z : ℕ) → in_box lo hi x y z ≡ false → there x y z ≡ 0
  not_there x y z e = rw e (omega arith)

  -- the sum over all numbers of the grid that are in the box, row by row
  pub box_sum_where : sum (λ k. digit (in_box_at n lo hi k) * g k) (size n) ≡ box_sum n lo hi g (rows lo hi)
  unfolding box_sum sum3
  box_sum_where =
      let bx = box.x in
      let by = box.y in
      let bz = box.z in
      ap (sum (λ k. digit (in_box_at n lo hi k) * g k)) (mul_assoc n.nx n.ny n.nz)
      ∙ sum_grid (λ k. digit (in_box_at n lo hi k) * g k) n.nx n.ny n.nz
      ∙ sum3_same _ there n.nx n.ny n.nz (λ x y z hx hy hz.
      ap (λ (t : Bool). digit t * g (index n x y z)) (in_box_index n lo hi x y z hx hy))
      ∙ sum_window _ n.nz lo.z (deep lo hi) (omega arith)
      (λ z h. sum_zero _ n.ny (λ y _. sum_zero _ n.nx (λ x _. not_there x y z (off_z x y z (below_is _ _ z h)))))
      (λ z h. sum_zero _ n.ny (λ y _. sum_zero _ n.nx (λ x _. not_there x y z (off_z x y z (above_is lo.z hi.z z (omega arith))))))
      ∙ sum_same _ _ (deep lo hi) (λ m hm.
      sum_window _ n.ny lo.y (tall lo hi) (omega arith)
      (λ y h. sum_zero _ n.nx (λ x _. not_there x y (lo.z + m) (off_y x y (lo.z + m) (below_is _ _ y h))))
      (λ y h. sum_zero _ n.nx (λ x _. not_there x y (lo.z + m) (off_y x y (lo.z + m) (above_is lo.y hi.y y (omega arith)))))
      ∙ sum_same _ _ (tall lo hi) (λ j hj.
      sum_window _ n.nx lo.x (wide lo hi) (omega arith)
      (λ x h. not_there x (lo.y + j) (lo.z + m) (off_x x (lo.y + j) (lo.z + m) (below_is _ _ x h)))
      (λ x h. not_there x (lo.y + j) (lo.z + m) (off_x x (lo.y + j) (lo.z + m) (above_is lo.x hi.x x (omega arith))))
      ∙ sum_same _ _ (wide lo hi) (λ i hi'.
      here (lo.x + i) (lo.y + j) (lo.z + m) (omega arith) (omega arith) (omega arith) (omega arith) (omega arith) (omega arith)
      ∙ ap g (sym (row_at i j m hj)))))
      ∙ sym (sum_groups (λ r. sum (λ i. g (row_start n lo hi r + i)) (wide lo hi)) (tall lo hi) (deep lo hi))
    where
      off_x : (x y z : ℕ) → between lo.x hi.x x ≡ false → in_box lo hi x y z ≡ false
      off_x x y z e = rw e

      off_y : (x y z : ℕ) → between lo.y hi.y y ≡ false → in_box lo hi x y z ≡ false
      off_y x y z e = rw (e, and-false)

      off_z : (x y z : ℕ) → between lo.z hi.z z ≡ false → in_box lo hi x y z ≡ false
      off_z x y z e = rw (e, and-false, and-false)

      here : (x y z : ℕ) → lo.x ≤ x → x ≤ hi.x → lo.y ≤ y → y ≤ hi.y → lo.z ≤ z → z ≤ hi.z → there x y z ≡ g (index n x y z)
      here x y z ax bx ay by az bz =
          rw (inside_is lo.x hi.x x ax bx, inside_is lo.y hi.y y ay by, inside_is lo.z hi.z z az bz) (omega arith)

      row_at : (i j m : ℕ) → j < tall lo hi → row_start n lo hi (j + tall lo hi * m) + i ≡ index n (lo.x + i) (lo.y + j) (lo.z + m)
      row_at i j m h =
          row_index n lo hi box (j + tall lo hi * m) i
          ∙ (λ k. index n (lo.x + i) (lo.y + rest_of (tall lo hi) j m h k) (lo.z + whole_of (tall lo hi) j m h k))

-- row by row
pub box_sum_none : (n : Counts) (lo hi : Slot) (g : ℕ → ℕ) → box_sum n lo hi g 0 ≡ 0
unfolding box_sum sum
box_sum_none n lo hi g = refl

pub box_sum_grows :
    (n : Counts) (lo hi : Slot) (g : ℕ → ℕ) (r t v s w : ℕ) → t ≡ box_sum n lo hi g r → s ≡ row_start n lo hi r → w ≡ wide lo hi →
    v ≡ sum (λ i. g (s + i)) w → t + v ≡ box_sum n lo hi g (r + 1)
unfolding box_sum
box_sum_grows n lo hi g r t v s w e es ew h =
    sum_grows (λ j. sum (λ i. g (row_start n lo hi j + i)) (wide lo hi)) r t v e (h ∙ (λ k. sum (λ i. g (es k + i)) (ew k)))

pub box_sum_most : (n : Counts) (lo hi : Slot) (g : ℕ → ℕ) (r : ℕ) → wide lo hi ≤ 1024 → ((k : ℕ) → g k ≤ 64) → box_sum n lo hi g r ≤ 65536 * r
unfolding box_sum
box_sum_most n lo hi g r w most =
    sum_most _ 65536 r (λ j. let row = sum_most (λ i. g (row_start n lo hi j + i)) 64 (wide lo hi) (λ i. most _) in omega arith)
