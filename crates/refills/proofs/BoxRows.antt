-- A box is filled row by row. Assumes nothing.
use Prim.Native.Nat.{ℕ, ◌+◌, ◌-◌, ◌*◌, ◌/◌, ◌%◌, ◌≤◌, ◌<◌}
use native.Mathlib.Nat.{mul-le-mul, mod-lt, div-lt_iff_lt-mul, mul_comm, mod-add-div}
use native.Mathlib.Omega.{arith}
use native.Mathlib.Decide.{dec_lt}
use mathlib.Core.Path.{◌≡◌, refl, sym, subst, ap, ap₂, ◌∙◌}
use mathlib.Core.Bool.{Bool, true, false, cond, true≢false}
use mathlib.Core.List.{List}
use lib.ListN.{length, get_or}
use Rattle.cells.specs.declared.Counts.{Counts}
use Rattle.cells.proofs.Tabulate.{is_tabulate}
use Rattle.grids.specs.Grid.{size, index}
use Rattle.grids.proofs.Places.{rest_of, whole_of, index_below, index_of_cell}
use Rattle.bricks.specs.declared.Slot.{Slot}
use Rattle.cells.specs.Fills.{Filled}
use Rattle.refills.specs.Boxes.{in_box_at, box_put}
use Rattle.refills.specs.Rows.{Boxed, In, wide, tall, deep, rows, row_start, row_number, BoxFilled}
use Rattle.refills.proofs.Boxes.{is_in, passes, row_below}

-- row r lies at lo.y + r % tall, lo.z + r / tall
pub row_y : (lo hi : Slot) (r : ℕ) → r % tall lo hi < tall lo hi
row_y lo hi r = mod-lt r (omega arith)

pub row_z : (lo hi : Slot) (r : ℕ) → r < rows lo hi → r / tall lo hi < deep lo hi
row_z lo hi r h =
    let some : 0 < tall lo hi = omega arith in
    (div-lt_iff_lt-mul some).1 (subst (λ (t : ℕ). r < t) (mul_comm (tall lo hi) (deep lo hi)) h)

module _ (n : Counts) (lo hi : Slot) (box : Boxed n lo hi) where
  -- a cell of row r of the box
  pub row_in : (r i : ℕ) → r < rows lo hi → i < wide lo hi → In lo hi (lo.x + i) (lo.y + r % tall lo hi) (lo.z + r / tall lo hi)
  row_in r i h w =
      let y = row_y lo hi r in
      let z = row_z lo hi r h in
      let bx = box.x in
      let by = box.y in
      let bz = box.z in
      record { across = omega arith; up = omega arith; deep = omega arith }

  row_is_number : (r : ℕ) → row_number lo hi (lo.y + r % tall lo hi) (lo.z + r / tall lo hi) ≡ r
  row_is_number r =
      let ey : lo.y + r % tall lo hi - lo.y ≡ r % tall lo hi = omega arith in
      let ez : lo.z + r / tall lo hi - lo.z ≡ r / tall lo hi = omega arith in
      ap₂ (λ (a b : ℕ). a + tall lo hi * b) ey ez ∙ mod-add-div r (tall lo hi)

  -- a byte from the row's start to its end is that of a cell of the row
  pub row_index : (r i : ℕ) → row_start n lo hi r + i ≡ index n (lo.x + i) (lo.y + r % tall lo hi) (lo.z + r / tall lo hi)
  row_index r i = omega arith

  -- a cell of the box in row r lies between the row's start and its end
  pub in_row : (x y z : ℕ) → In lo hi x y z → index n x y z ≡ row_start n lo hi (row_number lo hi y z) + (x - lo.x)
  in_row x y z h =
      let up = h.up in
      let small : y - lo.y < tall lo hi = omega arith in
      let ey : lo.y + row_number lo hi y z % tall lo hi ≡ y = ap (λ (t : ℕ). lo.y + t) (rest_of (tall lo hi) (y - lo.y) (z - lo.z) small)
      ∙ omega arith in
      let dz = h.deep in
      let ez : lo.z + row_number lo hi y z / tall lo hi ≡ z = ap (λ (t : ℕ). lo.z + t) (whole_of (tall lo hi) (y - lo.y) (z - lo.z) small)
      ∙ omega arith in
      let dx = h.across in
      let e : index n lo.x y z + (x - lo.x) ≡ index n x y z = omega arith in
      sym ((λ i. index n lo.x (ey i) (ez i) + (x - lo.x)) ∙ e)

  pub box_none : (f : ℕ → ℕ) (l : List ℕ) → BoxFilled n lo hi f 0 l l
  box_none f l = record { long = refl; inside = λ x y z h lt. absurd (omega arith); outside = λ k h. refl }

  pub box_more :
      (f : ℕ → ℕ) (r : ℕ) (l m e : List ℕ) → r < rows lo hi → BoxFilled n lo hi f r l m →
      Filled f (row_start n lo hi r) (row_start n lo hi r + wide lo hi) m e → BoxFilled n lo hi f (r + 1) l e
  box_more f r l m e hr done row =
      record {
        long = row.long ∙ done.long;
        inside = λ x y z h lt.
            let k : ℕ = index n x y z in
            elim (dec_lt k start) [
              | yes low ↦ row.before k low ∙ done.inside x y z h (earlier x y z h lt (λ same. omega (arith, within x y z h same)))
              | no ge ↦ elim (dec_lt k end) [
                | yes mid ↦ row.inside k (omega arith) mid
                | no up ↦ row.after k (omega arith) ∙ done.inside x y z h (earlier x y z h lt (λ same. omega (arith, within x y z h same)))
              ]
            ];
        outside = λ k none.
            elim (dec_lt k start) [
              | yes low ↦ row.before k low ∙ done.outside k (λ x y z h lt. none x y z h (omega arith))
              | no ge ↦ elim (dec_lt k end) [
                | yes mid ↦ absurd (none _ _ _ (row_in r (k - start) hr (omega arith)) (omega (arith, row_is_number r)) (at k (omega arith)))
                | no up ↦ row.after k (omega arith) ∙ done.outside k (λ x y z h lt. none x y z h (omega arith))
              ]
            ];
      }
    where
      start : ℕ
      start = row_start n lo hi r

      end : ℕ
      end = row_start n lo hi r + wide lo hi

      -- a cell of the box in row r is in the row's part
      within : (x y z : ℕ) → In lo hi x y z → row_number lo hi y z ≡ r → (start ≤ index n x y z) × (index n x y z < end)
      within x y z h same =
          let dx = h.across in
          let e : index n x y z ≡ start + (x - lo.x) = in_row x y z h ∙ ap (λ (q : ℕ). row_start n lo hi q + (x - lo.x)) same in
          omega arith

      earlier : (x y z : ℕ) → In lo hi x y z → row_number lo hi y z < r + 1 → (row_number lo hi y z ≡ r → ⊥) → row_number lo hi y z < r
      earlier x y z h lt ne = omega arith

      at : (k : ℕ) → start ≤ k → k ≡ index n (lo.x + (k - start)) (lo.y + r % tall lo hi) (lo.z + r / tall lo hi)
      at k ge = let e : k ≡ start + (k - start) = omega arith in e ∙ row_index r (k - start)

  -- a row lies within the grid
  pub row_fits : (r : ℕ) → r < rows lo hi → row_start n lo hi r + wide lo hi ≤ size n
  row_fits r h =
      let bx = box.x in
      let i = row_in r (hi.x - lo.x) h (omega arith) in
      let by = box.y in
      let bz = box.z in
      let up = i.up in
      let deep = i.deep in
      let last = index_below n (lo.x + (hi.x - lo.x)) (lo.y + r % tall lo hi) (lo.z + r / tall lo hi) (omega arith) (omega arith) (omega arith) in
      omega (arith, row_index r (hi.x - lo.x))

  -- a box that is filled row by row, as one list
  pub box_filled_is : (f : ℕ → ℕ) (l e : List ℕ) → BoxFilled n lo hi f (rows lo hi) l e → e ≡ box_put n lo hi f l
  box_filled_is f l e h = is_tabulate _ (length l) 0 e h.long (λ k _. each k (in_box_at n lo hi k) refl)
    where
      each : (k : ℕ) (t : Bool) → in_box_at n lo hi k ≡ t → get_or e k 0 ≡ cond (in_box_at n lo hi k) (f k) (get_or l k 0)
      each k true q =
          let i = is_in lo hi _ _ _ q in
          rw q (subst (λ (j : ℕ). get_or e j 0 ≡ f j) (index_of_cell n k) (h.inside _ _ _ i (row_below lo hi _ _ _ i)))
      each k false q = rw q (h.outside k (λ x y z i _ w. true≢false (sym (passes n lo hi box x y z k i w) ∙ q)))

-- few rows
pub rows_most : (lo hi : Slot) → hi.y < 1024 → hi.z < 1024 → rows lo hi ≤ 1048576
rows_most lo hi hy hz =
    let y : tall lo hi ≤ 1024 = omega arith in
    let z : deep lo hi ≤ 1024 = omega arith in
    mul-le-mul y z
