-- A row of four bits of a brick, by the bytes of the grid. Assumes nothing.
use Prim.Native.Nat.{ℕ, suc, ◌+◌, ◌*◌, ◌/◌, ◌%◌, ◌≤◌, ◌<◌}
use native.Mathlib.Nat.{mul-le-mul_left}
use native.Mathlib.Omega.{arith}
use mathlib.Core.Path.{◌≡◌, sym, ap, ◌∙◌}
use mathlib.Core.Bool.{Bool}
use mathlib.Core.List.{List}
use lib.ListN.{get_or}
use Rattle.cells.specs.declared.Counts.{Counts}
use Rattle.grids.specs.Grid.{index, solid}
use Rattle.grids.specs.Inside.{Shaped}
use Rattle.grids.proofs.Places.{index_below}
use Rattle.grids.proofs.Shapes.{row_within}
use Rattle.bricks.specs.Sums.{number_of}
use Rattle.bricks.specs.Bricks.{solid_at, solid_in}
use Rattle.bricks.specs.Rows.{solid_from}
use Rattle.bricks.proofs.Sums.{sum_none, number_same, number_past}
use Rattle.bricks.proofs.Totals.{solid_inside, none_past_x, none_past_y, none_past_z}

-- the products that lead to a row's first byte, and the row itself, lie within the bytes
pub record RowBounds (n : Counts) (bytes y z : ℕ) : Type 0 where
  pub layer : n.ny * z ≤ 1048576
  pub row : y + n.ny * z ≤ 1048576
  pub within : n.nx * (y + n.ny * z) + n.nx ≤ bytes
  pub most : bytes ≤ 1073741824

pub row_bounds : (n : Counts) (bytes y z : ℕ) → Shaped n bytes → y < n.ny → z < n.nz → RowBounds n bytes y z
row_bounds n bytes y z s hy hz =
    let layers : n.ny * suc z ≤ n.ny * n.nz = mul-le-mul_left n.ny hz in
    record {
      layer = omega (arith, s.rows_most);
      row = omega (arith, s.rows_most);
      within = row_within n bytes (y + n.ny * z) s (omega arith);
      most = omega (arith, s.bytes_are, s.size_most);
    }

module _ (n : Counts) (l : List ℕ) where
  -- the test for each of four bits
  abbrev pub row_test : ℕ → ℕ → ℕ → ℕ → Bool
  row_test x y z d = solid_at n l (x + d) y z

  pub row_beyond_y : (x y z : ℕ) → n.ny ≤ y → 0 ≡ number_of (row_test x y z) 4
  row_beyond_y x y z h = sym (number_past (row_test x y z) 0 4 (omega arith) (λ d ge lt. none_past_y n l (x + d) y z h) ∙ sum_none _)

  pub row_beyond_z : (x y z : ℕ) → n.nz ≤ z → 0 ≡ number_of (row_test x y z) 4
  row_beyond_z x y z h = sym (number_past (row_test x y z) 0 4 (omega arith) (λ d ge lt. none_past_z n l (x + d) y z h) ∙ sum_none _)

  -- long bytes of the row, and the grid ends there or four are read
  pub row_is :
      (x y z long : ℕ) → long ≤ 4 → x + long ≤ n.nx → ((d : ℕ) → long ≤ d → d < 4 → n.nx ≤ x + d) → y < n.ny → z < n.nz →
      number_of (λ d. solid (get_or l (x + n.nx * (y + n.ny * z) + d) 0)) long ≡ number_of (row_test x y z) 4
  row_is x y z long four fits ends hy hz =
      number_same _ (row_test x y z) long (λ d h.
      let at : x + n.nx * (y + n.ny * z) + d ≡ index n (x + d) y z = omega arith in
      ap (λ (i : ℕ). solid (get_or l i 0)) at ∙ sym (solid_inside n l (x + d) y z (omega arith) hy hz))
      ∙ sym (number_past (row_test x y z) long 4 four (λ d ge lt. none_past_x n l (x + d) y z (ends d ge lt)))

  -- row r of a brick holds its bits from 4 r on
  pub row_in_brick :
      (bx by bz r : ℕ) {v : ℕ} → v ≡ number_of (row_test (4 * bx) (4 * by + r % 4) (4 * bz + r / 4)) 4 → v ≡ number_of (λ d. solid_in n l bx by bz
      (4 * r + d)) 4
  row_in_brick bx by bz r e =
      e ∙ number_same _ _ 4 (λ d h.
      let ex : d ≡ (4 * r + d) % 4 = omega arith in
      let row : r ≡ (4 * r + d) / 4 = omega arith in
      let ez : r / 4 ≡ (4 * r + d) / 16 = omega arith in
      λ i. solid_at n l (4 * bx + ex i) (4 * by + row i % 4) (4 * bz + ez i))

  -- ---- a brick that lies in the grid whole

  -- each of its bits is read where it lies
  pub whole_is :
      (bx by bz : ℕ) → 4 * bx + 4 ≤ n.nx → 4 * by + 4 ≤ n.ny → 4 * bz + 4 ≤ n.nz →
      number_of (solid_from l (index n (4 * bx) (4 * by) (4 * bz)) n.nx (n.nx * n.ny)) 64 ≡ number_of (solid_in n l bx by bz) 64
  whole_is bx by bz hx hy hz =
      number_same _ _ 64 (λ b lt.
      let at : index n (4 * bx) (4 * by) (4 * bz) + n.nx * (b / 4 % 4) + n.nx * n.ny * (b / 16) + b % 4
      ≡ index n (4 * bx + b % 4) (4 * by + b / 4 % 4) (4 * bz + b / 16) = omega arith in
      ap (λ (i : ℕ). solid (get_or l i 0)) at
      ∙ sym (solid_inside n l (4 * bx + b % 4) (4 * by + b / 4 % 4) (4 * bz + b / 16) (omega arith) (omega arith) (omega arith)))

-- its bytes lie within the grid's
pub whole_fits :
    (n : Counts) (bytes bx by bz : ℕ) → Shaped n bytes → 4 * bx + 4 ≤ n.nx → 4 * by + 4 ≤ n.ny → 4 * bz + 4 ≤ n.nz →
    index n (4 * bx) (4 * by) (4 * bz) + n.nx * 3 + n.nx * n.ny * 3 + 4 ≤ bytes
whole_fits n bytes bx by bz s hx hy hz =
    let last = index_below n (4 * bx + 3) (4 * by + 3) (4 * bz + 3) (omega arith) (omega arith) (omega arith) in
    let at : index n (4 * bx + 3) (4 * by + 3) (4 * bz + 3) ≡ index n (4 * bx) (4 * by) (4 * bz) + n.nx * 3 + n.nx * n.ny * 3 + 3 = omega arith in
    omega (arith, s.bytes_are)

-- row r of such a brick
pub row_in_whole :
    (l : List ℕ) (from row layer r : ℕ) {v : ℕ} → v ≡ number_of (λ d. solid (get_or l (from + row * (r % 4) + layer * (r / 4) + d) 0)) 4 →
    v ≡ number_of (λ d. solid_from l from row layer (4 * r + d)) 4
row_in_whole l from row layer r e =
    e ∙ number_same _ _ 4 (λ d h.
    let ex : d ≡ (4 * r + d) % 4 = omega arith in
    let ey : r ≡ (4 * r + d) / 4 = omega arith in
    let ez : r / 4 ≡ (4 * r + d) / 16 = omega arith in
    λ i. solid (get_or l (from + row * (ey i % 4) + layer * ez i + ex i) 0))
