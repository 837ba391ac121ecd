-- The bit of a cell in the mask of its brick: which it is, and that no other bit has the cell. Assumes nothing.
use Prim.Native.Nat.{ℕ, ◌+◌, ◌*◌, ◌/◌, ◌%◌, ◌<◌, ◌^◌}
use native.Mathlib.Omega.{arith}
use mathlib.Core.Path.{◌≡◌, sym, ap, ◌∙◌}
use mathlib.Core.Bool.{Bool, false, ◌&&◌}
use mathlib.Core.List.{List}
use lib.Count.{ones}
use lib.Dec.{ltb}
use lib.ListN.{length, get_or}
use borrow.Author.Tests.{ltb-true}
use Rattle.cells.specs.declared.Counts.{Counts}
use Rattle.cells.proofs.Touching.{and_both}
use Rattle.grids.specs.Grid.{index, solid}
use Rattle.grids.proofs.Any.{not_so}
use Rattle.grids.proofs.Marking.{SameSolid}
use Rattle.grids.proofs.Places.{index_of_cell}
use Rattle.bricks.specs.Sums.{digit, count, bit}
use Rattle.bricks.specs.Bricks.{bricks, solid_at, solid_in, mask_of, mask_at, solids, brick_there, bit_there}
use Rattle.bricks.proofs.Sums.{sum_same, number_same, number_small, bit_number, ones_number}
use Rattle.bricks.proofs.Bricked.{brick_inside}
use Rattle.bricks.proofs.Totals.{solid_inside, mask_at_is}

pub bit_small : (x y z : ℕ) → bit_there x y z < 64
bit_small x y z = omega arith

-- the bit's cell is the cell
pub bit_is : (n : Counts) (l : List ℕ) (x y z : ℕ) → solid_in n l (x / 4) (y / 4) (z / 4) (bit_there x y z) ≡ solid_at n l x y z
bit_is n l x y z =
    let row : bit_there x y z / 4 ≡ y % 4 + 4 * (z % 4) = omega arith in
    let ex : 4 * (x / 4) + bit_there x y z % 4 ≡ x = omega arith in
    let ey : 4 * (y / 4) + bit_there x y z / 4 % 4 ≡ y = rw row (omega arith) in
    let ez : 4 * (z / 4) + bit_there x y z / 16 ≡ z = omega arith in
    λ i. solid_at n l (ex i) (ey i) (ez i)

-- and no other bit has it
pub only_bit : (x y z b : ℕ) → 4 * (x / 4) + b % 4 ≡ x → 4 * (y / 4) + b / 4 % 4 ≡ y → 4 * (z / 4) + b / 16 ≡ z → b ≡ bit_there x y z
only_bit x y z b ex ey ez =
    let high : b / 16 ≡ b / 4 / 4 = omega arith in
    let low : b ≡ b % 4 + 4 * (b / 4) = omega arith in
    let mid : b / 4 ≡ b / 4 % 4 + 4 * (b / 4 / 4) = omega arith in
    let dx : b % 4 ≡ x % 4 = omega arith in
    let dy : b / 4 % 4 ≡ y % 4 = omega arith in
    let dz : b / 16 ≡ z % 4 = omega arith in
    omega arith

-- the cell of bit b of a brick has that brick and that bit
part_of : (b d : ℕ) → d < 4 → ((4 * b + d) / 4 ≡ b) × ((4 * b + d) % 4 ≡ d)
part_of b d h = (omega arith, omega arith)

parts : (b : ℕ) → b % 4 + 4 * (b / 4 % 4) + 16 * (b / 16) ≡ b
parts b =
    let high : b / 16 ≡ b / 4 / 4 = omega arith in
    let mid : b / 4 ≡ b / 4 % 4 + 4 * (b / 4 / 4) = omega arith in
    let low : b ≡ b % 4 + 4 * (b / 4) = omega arith in
    omega arith

pub cell_of_bit :
    (bx by bz b : ℕ) → b < 64 →
    ((4 * bx + b % 4) / 4 ≡ bx) × ((4 * by + b / 4 % 4) / 4 ≡ by) × ((4 * bz + b / 16) / 4 ≡ bz)
    × (bit_there (4 * bx + b % 4) (4 * by + b / 4 % 4) (4 * bz + b / 16) ≡ b)
cell_of_bit bx by bz b h =
    let (bx-is, dx) = part_of bx (b % 4) (omega arith) in
    let (by-is, dy) = part_of by (b / 4 % 4) (omega arith) in
    let (bz-is, dz) = part_of bz (b / 16) (omega arith) in
    (bx-is, by-is, bz-is, (λ i. dx i + 4 * dy i + 16 * dz i) ∙ parts b)

module _ (n : Counts) (l : List ℕ) where
  -- the mask of a cell's brick says whether the cell is solid
  pub cell_bit :
      (x y z : ℕ) → x < n.nx → y < n.ny → z < n.nz →
      bit (mask_at n l (brick_there n x y z)) (bit_there x y z) ≡ solid (get_or l (index n x y z) 0)
  unfolding mask_of
  cell_bit x y z hx hy hz =
      ap (λ (m : ℕ). bit m (bit_there x y z)) (mask_at_is n l (x / 4) (y / 4) (z / 4) (brick_inside n.nx x hx) (brick_inside n.ny y hy))
      ∙ bit_number (solid_in n l (x / 4) (y / 4) (z / 4)) 64 (bit_there x y z) (bit_small x y z)
      ∙ bit_is n l x y z ∙ solid_inside n l x y z hx hy hz

  -- and a bit of no cell of the grid is 0
  pub no_cell_bit :
      (k b : ℕ) → b < 64 → ((x y z : ℕ) → x < n.nx → y < n.ny → z < n.nz → brick_there n x y z ≡ k → bit_there x y z ≡ b → ⊥) →
      bit (mask_at n l k) b ≡ false
  unfolding mask_of
  no_cell_bit k b h none =
      let bx : ℕ = k % (bricks n).nx in
      let by : ℕ = k / (bricks n).nx % (bricks n).ny in
      let bz : ℕ = k / ((bricks n).nx * (bricks n).ny) in
      bit_number (solid_in n l bx by bz) 64 b h
      ∙ not_so (solid_in n l bx by bz b) (λ t.
      let (inside, _) = and_both (ltb (4 * bx + b % 4) n.nx && (ltb (4 * by + b / 4 % 4) n.ny && ltb (4 * bz + b / 16) n.nz)) _ t in
      let (inx, yz) = and_both (ltb (4 * bx + b % 4) n.nx) _ inside in
      let (iny, inz) = and_both (ltb (4 * by + b / 4 % 4) n.ny) _ yz in
      let (ex, ey, ez, eb) = cell_of_bit bx by bz b h in
      none (4 * bx + b % 4) (4 * by + b / 4 % 4) (4 * bz + b / 16) (ltb-true _ _ inx) (ltb-true _ _ iny) (ltb-true _ _ inz)
      ((λ i. index (bricks n) (ex i) (ey i) (ez i)) ∙ index_of_cell (bricks n) k) eb)

  abbrev bits : ℕ → ℕ → Bool
  bits k = solid_in n l (k % (bricks n).nx) (k / (bricks n).nx % (bricks n).ny) (k / ((bricks n).nx * (bricks n).ny))

  -- a mask has 64 bits, and its ones are those that are set
  pub mask_small : (k : ℕ) → mask_at n l k < 2 ^ 64
  unfolding mask_of
  mask_small k = number_small (bits k) 64

  pub ones_set : (k : ℕ) → ones (mask_at n l k) ≡ count (bit (mask_at n l k)) 64
  unfolding mask_of
  ones_set k = ones_number (bits k) 64 ∙ sum_same _ _ 64 (λ b lt. ap digit (sym (bit_number (bits k) 64 b lt)))

-- ---- solidity alone decides

module _ (n : Counts) (l k : List ℕ) (same : SameSolid l k) where
  alike_at : (x y z : ℕ) → solid_at n l x y z ≡ solid_at n k x y z
  alike_at x y z = ap (λ (t : Bool). (ltb x n.nx && (ltb y n.ny && ltb z n.nz)) && t) (same.alike (index n x y z))

  pub masks_alike : (j : ℕ) → mask_at n l j ≡ mask_at n k j
  unfolding mask_of
  masks_alike j =
      let bx : ℕ = j % (bricks n).nx in
      let by : ℕ = j / (bricks n).nx % (bricks n).ny in
      let bz : ℕ = j / ((bricks n).nx * (bricks n).ny) in
      number_same (bits n l j) (bits n k j) 64 (λ b lt. alike_at (4 * bx + b % 4) (4 * by + b / 4 % 4) (4 * bz + b / 16))

  pub solids_alike : solids l ≡ solids k
  unfolding solids
  solids_alike = sum_same _ _ (length l) (λ i _. ap digit (same.alike i)) ∙ ap (count (λ i. solid (get_or k i 0))) same.long
