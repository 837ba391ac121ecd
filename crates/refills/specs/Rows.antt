-- How the code goes through a box: rows along x, first in y, then in z. Words for the contracts of its inner functions; no promise rests on this
-- file. Assumes nothing.
use Rattle.std.specs.Prelude.{Result, Some, None, Option, ℕ, ◌+◌, ◌-◌, ◌*◌, ◌/◌, ◌%◌, ◌≤◌, ◌<◌, ◌≡◌, Bool, true, false, ◌&&◌, List, length, get_or, pos, nat_abs}
use Rattle.cells.specs.declared.Refusal.{Refusal}
use Rattle.std.specs.Int.Count.{ones}
use Rattle.cells.specs.declared.Cell.{Cell}
use Rattle.cells.specs.declared.Counts.{Counts}
use Rattle.grids.specs.Grid.{size, index}
use Rattle.grids.specs.Marks.{any}
use Rattle.bricks.specs.Sums.{sum}
use Rattle.bricks.specs.Bricks.{bricks, mask_at}
use Rattle.bricks.specs.declared.Slot.{Slot}
use Rattle.refills.specs.Boxes.{in_box_at}
use Rattle.refills.specs.Refills.{differs, stale_check, Changes}

-- a cell of some grid: its coordinates are natural numbers, and small
pub record Natural (c : Cell) : Type 0 where
  pub x : (c.x ≡ pos (nat_abs c.x)) × (nat_abs c.x < 1024)
  pub y : (c.y ≡ pos (nat_abs c.y)) × (nat_abs c.y < 1024)
  pub z : (c.z ≡ pos (nat_abs c.z)) × (nat_abs c.z < 1024)

-- the low corner is not above the high one, which lies in a grid of at most 1,024 a side
pub record Boxed (n : Counts) (lo hi : Slot) : Type 0 where
  pub x : (lo.x ≤ hi.x) × (hi.x < n.nx) × (n.nx ≤ 1024)
  pub y : (lo.y ≤ hi.y) × (hi.y < n.ny) × (n.ny ≤ 1024)
  pub z : (lo.z ≤ hi.z) × (hi.z < n.nz) × (n.nz ≤ 1024)

-- c is one of the cells, or bricks, of a grid of at most 1,024 a side
pub record InCounts (n : Counts) (c : Slot) : Type 0 where
  pub x : (c.x < n.nx) × (n.nx ≤ 1024)
  pub y : (c.y < n.ny) × (n.ny ≤ 1024)
  pub z : (c.z < n.nz) × (n.nz ≤ 1024)

-- (x, y, z) is in the box
pub record In (lo hi : Slot) (x y z : ℕ) : Type 0 where
  pub across : (lo.x ≤ x) × (x ≤ hi.x)
  pub up : (lo.y ≤ y) × (y ≤ hi.y)
  pub deep : (lo.z ≤ z) × (z ≤ hi.z)

abbrev pub wide : Slot → Slot → ℕ
wide lo hi = hi.x - lo.x + 1

abbrev pub tall : Slot → Slot → ℕ
tall lo hi = hi.y - lo.y + 1

abbrev pub deep : Slot → Slot → ℕ
deep lo hi = hi.z - lo.z + 1

abbrev pub rows : Slot → Slot → ℕ
rows lo hi = tall lo hi * deep lo hi

-- where row r starts
abbrev pub row_slot : Slot → Slot → ℕ → Slot
row_slot lo hi r = record { x = lo.x; y = lo.y + r % tall lo hi; z = lo.z + r / tall lo hi }

-- and its number in the grid n
abbrev pub row_start : Counts → Slot → Slot → ℕ → ℕ
row_start n lo hi r = index n lo.x (lo.y + r % tall lo hi) (lo.z + r / tall lo hi)

-- the number of the row of (y, z)
abbrev pub row_number : Slot → Slot → ℕ → ℕ → ℕ
row_number lo hi y z = (y - lo.y) + tall lo hi * (z - lo.z)

-- the first r rows of a box are f's, all else is as it was
pub record BoxFilled (n : Counts) (lo hi : Slot) (f : ℕ → ℕ) (r : ℕ) (entry exit : List ℕ) : Type 0 where
  pub long : length exit ≡ length entry
  pub inside : (x y z : ℕ) → In lo hi x y z → row_number lo hi y z < r → get_or exit (index n x y z) 0 ≡ f (index n x y z)
  pub outside : (k : ℕ) → ((x y z : ℕ) → In lo hi x y z → row_number lo hi y z < r → k ≡ index n x y z → ⊥) → get_or exit k 0 ≡ get_or entry k 0

-- the sum of g over the first r rows of a box
unfoldable pub box_sum : Counts → Slot → Slot → (ℕ → ℕ) → ℕ → ℕ
unfolding sum
box_sum n lo hi g r = sum (λ j. sum (λ i. g (row_start n lo hi j + i)) (wide lo hi)) r

-- masks that are not all those of the bytes, or their ones
abbrev pub agreed : Bool → ℕ → Option ℕ
agreed true t = None
agreed false t = Some t

-- so of as many masks from number `from` on, and of those of a box of bricks
abbrev pub row_agreed : Counts → (from long : ℕ) (l m : List ℕ) → Option ℕ
row_agreed n from long l m = agreed (any (λ i. differs n l m (from + i)) long) (sum (λ i. ones (mask_at n l (from + i))) long)

abbrev pub box_agreed : Counts → Slot → Slot → (l m : List ℕ) → Option ℕ
box_agreed n lo hi l m =
    agreed (any (λ k. in_box_at (bricks n) lo hi k && differs n l m k) (size (bricks n)))
    (box_sum (bricks n) lo hi (λ k. ones (mask_at n l k)) (rows lo hi))

-- what a refill does once its corners are tested: 13, or the change
abbrev pub Looked : Counts → Slot → Slot → ℕ → (l m : List ℕ) → ℕ → Result ℕ Refusal → (l' m' : List ℕ) → Type 0
Looked n lo hi byte l m total = Changes (stale_check n lo hi l m total) n lo hi byte l m total
