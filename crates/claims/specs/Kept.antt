-- What is claimed of the solid counts that are kept (SCOPE, K), call by call: masks, ones and totals, the build, a cell set, a box refilled. What holds
-- from a build on is in Sequences. Assumes nothing.
use Rattle.std.specs.Prelude.{Ok, Err, Result, ℕ, ◌+◌, ◌*◌, ◌/◌, ◌^◌, ◌≤◌, ◌<◌, ◌≡◌, true, false, List, [], ◌∷◌, ◌↔◌, pos, length, get_or, set, ◌≤ℤ◌}
use Rattle.std.specs.Int.Count.{ones}
use Rattle.cells.specs.declared.Cell.{Cell}
use Rattle.cells.specs.declared.Counts.{Counts}
use Rattle.cells.specs.declared.Refusal.{Refusal}
use Rattle.grids.specs.Grid.{shape, size, index, byte_index, solid}
use Rattle.bricks.specs.Sums.{sum, count, bit}
use Rattle.bricks.specs.Bricks.{bricks, mask_at, solids, brick_there, bit_there, solids_in}
use Rattle.bricks.specs.Builds.{Builds}
use Rattle.refills.specs.Boxes.{corner}
use Rattle.refills.specs.Refills.{holds_named, ones_in, Refills, Sets}
use Rattle.claims.specs.Example.{at, counts, example_counts, marked_cells}
use Rattle.claims.specs.Grids.{Inside}

-- 1. Each call's contract admits one answer and one final memory, of bytes and masks, for each input; a refusal leaves both as they were.
pub record KeptOnce : Type 0 where
  pub build : (n : Counts) (l m : List ℕ) (r s : Result ℕ Refusal) (a b : List ℕ) → Builds n l m r a → Builds n l m s b → (r ≡ s) × (a ≡ b)
  pub refill : (n : Counts) (low high : Cell) (byte : ℕ) (l m : List ℕ) (total : ℕ) (r s : Result ℕ Refusal) (l' m' l'' m'' : List ℕ) →
      Refills n low high byte l m total r l' m' → Refills n low high byte l m total s l'' m'' → (r ≡ s) × (l' ≡ l'') × (m' ≡ m'')
  pub build_refused : (n : Counts) (l m : List ℕ) (r : Refusal) (a : List ℕ) → Builds n l m (Err r) a → a ≡ m
  pub refill_refused : (n : Counts) (low high : Cell) (byte : ℕ) (l m : List ℕ) (total : ℕ) (r : Refusal) (l' m' : List ℕ) →
      Refills n low high byte l m total (Err r) l' m' → (l' ≡ l) × (m' ≡ m)
  -- a set is the refill of the box that has its cell alone
  pub set : (n : Counts) (cell : Cell) (byte : ℕ) (l m : List ℕ) (total : ℕ) (r : Result ℕ Refusal) (l' m' : List ℕ) →
      Sets n cell byte l m total r l' m' ↔ Refills n cell cell byte l m total r l' m'

-- ---- masks

-- 2. The bricks of a grid, and the mask of each by its bits: bit x + 4y + 16z of a cell's place in its brick says whether the cell is solid, and a bit
-- of no cell of the grid is 0. A mask has 64 bits. Its ones are as many as its bits that are set, and as many as the solid cells of its brick, counted
-- over all bytes. The ones of all masks are the solid bytes, also where counts are no multiples of 4. Bytes that are solid in the same places have the
-- same masks and the same fresh count.
pub record Masks (n : Counts) (l : List ℕ) : Type 0 where
  pub brick : (x y z : ℕ) → Inside n x y z → (brick_there n x y z ≡ x / 4 + (n.nx + 3) / 4 * (y / 4 + (n.ny + 3) / 4 * (z / 4)))
      × (brick_there n x y z < size (bricks n))
  pub of_cell : (x y z : ℕ) → Inside n x y z →
      (bit_there x y z < 64) × (bit (mask_at n l (brick_there n x y z)) (bit_there x y z) ≡ solid (get_or l (index n x y z) 0))
  pub of_no_cell : (k b : ℕ) → b < 64 → ((x y z : ℕ) → Inside n x y z → brick_there n x y z ≡ k → bit_there x y z ≡ b → ⊥) →
      bit (mask_at n l k) b ≡ false
  pub small : (k : ℕ) → mask_at n l k < 2 ^ 64
  pub ones_are : (k : ℕ) → ones (mask_at n l k) ≡ count (bit (mask_at n l k)) 64
  pub each_brick : shape n (length l) ≡ Ok tt → (k : ℕ) → k < size (bricks n) → ones (mask_at n l k) ≡ solids_in n l k
  pub altogether : shape n (length l) ≡ Ok tt → sum (λ k. ones (mask_at n l k)) (size (bricks n)) ≡ solids l
  pub decided : (l'' : List ℕ) → length l'' ≡ length l → ((i : ℕ) → solid (get_or l'' i 0) ≡ solid (get_or l i 0)) →
      ((k : ℕ) → mask_at n l'' k ≡ mask_at n l k) × (solids l'' ≡ solids l)

-- ---- what a build writes

-- 3. An accepted build: as many masks as were lent; each brick's own at the front, by its number, and behind them the surplus as it was. The total is a
-- fresh count, and it is the ones of the masks that were written.
pub record Built (n : Counts) (l m : List ℕ) (t : ℕ) (m' : List ℕ) : Type 0 where
  pub long : length m' ≡ length m
  pub room : size (bricks n) ≤ length m
  pub front : (k : ℕ) → k < size (bricks n) → get_or m' k 0 ≡ mask_at n l k
  pub surplus : (k : ℕ) → size (bricks n) ≤ k → k < length m → get_or m' k 0 ≡ get_or m k 0
  pub fresh : t ≡ solids l
  pub by_ones : t ≡ sum (λ k. ones (get_or m' k 0)) (size (bricks n))

pub record BuildMeans (n : Counts) (l m : List ℕ) (t : ℕ) (m' : List ℕ) : Type 0 where
  pub accepted : Builds n l m (Ok t) m' → Built n l m t m'

-- ---- what a refill changes

-- (x, y, z) is a cell of the box, both corners included
abbrev pub Named : Cell → Cell → (x y z : ℕ) → Type 0
Named low high x y z =
    ((low.x ≤ℤ pos x) × (pos x ≤ℤ high.x)) × ((low.y ≤ℤ pos y) × (pos y ≤ℤ high.y)) × ((low.z ≤ℤ pos z) × (pos z ≤ℤ high.z))

-- brick number k holds a cell of the box
abbrev pub HoldsNamed : Counts → Cell → Cell → ℕ → Type 0
HoldsNamed n low high k = (x : ℕ) × (y : ℕ) × (z : ℕ) × Named low high x y z × (brick_there n x y z ≡ k)

-- 4. An accepted refill: each cell of the box gets the byte, every other byte is as it was. The masks of the bricks that hold a cell of the box were
-- those of the bytes, and are so again; every other mask, also the surplus, is as it was. The total moves by the ones of those masks, after less before,
-- and so by as much as a fresh count, whatever the total was; it lay between those ones and the number of cells. Where each cell of the box is solid
-- as the byte is, or is not as it is not, no mask moves, nor the total.
pub record Refilled (n : Counts) (low high : Cell) (byte : ℕ) (l m : List ℕ) (total t : ℕ) (l' m' : List ℕ) : Type 0 where
  pub named : (x y z : ℕ) → Inside n x y z → Named low high x y z → get_or l' (index n x y z) 0 ≡ byte
  pub others : (x y z : ℕ) → Inside n x y z → (Named low high x y z → ⊥) → get_or l' (index n x y z) 0 ≡ get_or l (index n x y z) 0
  pub long : (length l' ≡ length l) × (length m' ≡ length m)
  pub was : (k : ℕ) → HoldsNamed n low high k → get_or m k 0 ≡ mask_at n l k
  pub anew : (k : ℕ) → HoldsNamed n low high k → get_or m' k 0 ≡ mask_at n l' k
  pub elsewhere : (k : ℕ) → k < length m → (HoldsNamed n low high k → ⊥) → get_or m' k 0 ≡ get_or m k 0
  -- `ones_in` is over those bricks
  pub holds : (k : ℕ) → (holds_named n (corner low) (corner high) k ≡ true) ↔ HoldsNamed n low high k
  pub by_ones : t + ones_in n (corner low) (corner high) m ≡ total + ones_in n (corner low) (corner high) m'
  pub by_fresh : t + solids l ≡ total + solids l'
  pub between : (ones_in n (corner low) (corner high) m ≤ total) × (total ≤ n.nx * n.ny * n.nz)
  pub same_kind : ((x y z : ℕ) → Inside n x y z → Named low high x y z → solid byte ≡ solid (get_or l (index n x y z) 0)) → (m' ≡ m) × (t ≡ total)

pub record RefillMeans (n : Counts) (low high : Cell) (byte : ℕ) (l m : List ℕ) (total t : ℕ) (l' m' : List ℕ) : Type 0 where
  pub accepted : Refills n low high byte l m total (Ok t) l' m' → Refilled n low high byte l m total t l' m'

-- 5. An accepted set changes one byte. Where the new byte is solid and the old one is, or neither is, no mask moves, nor the total; so the byte that is
-- there already changes nothing.
pub record SetMeans (n : Counts) (cell : Cell) (byte : ℕ) (l m : List ℕ) (total t : ℕ) (l' m' : List ℕ) : Type 0 where
  pub one_byte : Sets n cell byte l m total (Ok t) l' m' → l' ≡ set l (byte_index n cell) byte
  pub same_kind : Sets n cell byte l m total (Ok t) l' m' → solid byte ≡ solid (get_or l (byte_index n cell) 0) → (m' ≡ m) × (t ≡ total)
  pub same_byte : Sets n cell byte l m total (Ok t) l' m' → byte ≡ get_or l (byte_index n cell) 0 → (l' ≡ l) × (m' ≡ m) × (t ≡ total)

-- ---- wrong answers

-- 6. What the contracts shut out, on named inputs: a build that counts near cells; a set that recounts where the handed total is wrong; one that
-- leaves a total that has to move; one that is refused where all is kept, or where a mask elsewhere is stale; a refill without its high corner; a total
-- moved the wrong way; surplus masks cleared; a mask compared on one bit only, and one that says something of a cell beyond the grid.
abbrev pub two_cells : Counts
two_cells = counts 2 1 1

pub record WrongCounts : Type 0 where
  pub near_counted : (m' : List ℕ) → Builds example_counts marked_cells (0 ∷ []) (Ok 6) m' → ⊥
  pub surplus_cleared : (r : Result ℕ Refusal) → Builds two_cells (2 ∷ 0 ∷ []) (7 ∷ 7 ∷ []) r (1 ∷ 0 ∷ []) → ⊥
  -- one clear cell, its mask right, the total 1 too high
  pub recounted : (l' m' : List ℕ) → Sets (counts 1 1 1) (at 0 0 0) 2 (0 ∷ []) (0 ∷ []) 1 (Ok 1) l' m' → ⊥
  pub left_standing : (l' m' : List ℕ) → Sets (counts 1 1 1) (at 0 0 0) 2 (0 ∷ []) (0 ∷ []) 0 (Ok 0) l' m' → ⊥
  pub wrong_way : (l' m' : List ℕ) → Sets two_cells (at 0 0 0) 0 (2 ∷ 0 ∷ []) (1 ∷ []) 1 (Ok 2) l' m' → ⊥
  pub refused_kept : (r : Refusal) (l' m' : List ℕ) → Sets two_cells (at 0 0 0) 0 (2 ∷ 0 ∷ []) (1 ∷ []) 1 (Err r) l' m' → ⊥
  pub high_corner_left_out : (r : Result ℕ Refusal) (m' : List ℕ) → Refills two_cells (at 0 0 0) (at 1 0 0) 2 (0 ∷ 0 ∷ []) (0 ∷ []) 0 r (2 ∷ 0 ∷ []) m' → ⊥
  -- the cell's own bit is right, its neighbour's is not; and a bit of no cell
  pub one_bit_compared : (t : ℕ) (l' m' : List ℕ) → Sets two_cells (at 0 0 0) 0 (2 ∷ 0 ∷ []) (3 ∷ []) 2 (Ok t) l' m' → ⊥
  pub beyond_the_grid : (t : ℕ) (l' m' : List ℕ) → Sets two_cells (at 0 0 0) 0 (2 ∷ 0 ∷ []) (5 ∷ []) 2 (Ok t) l' m' → ⊥
  -- a stale mask of a brick that holds no named cell is not looked at
  pub elsewhere_refused : (r : Refusal) (l' m' : List ℕ) →
      Sets (counts 5 1 1) (at 0 0 0) 2 (0 ∷ 0 ∷ 0 ∷ 0 ∷ 0 ∷ []) (0 ∷ 9 ∷ []) 0 (Err r) l' m' → ⊥
