-- What is claimed of the grid: its layers, near marks and their completeness (SCOPE, G and N). Marks and completeness are claimed over
-- the number k of touching: 2 is by face or edge, 3 by face, edge or corner. Assumes nothing.
use Rattle.std.specs.Prelude.{Bool, Ok, Err, Result, ℕ, ◌+◌, ◌*◌, ◌≤◌, ◌<◌, ◌≡◌, ◌⊎◌, ◌↔◌, true, false, List, [], ◌∷◌, ℤ, pos, nat_abs, length, get_or}
use Rattle.std.specs.Borrow.{Bor}
use Rattle.cells.specs.declared.Counts.{Counts}
use Rattle.cells.specs.declared.Refusal.{Refusal}
use Rattle.cells.specs.declared.Refusal.TheVariants.{Bytes}
use Rattle.cells.specs.Checks.{Verdict}
use Rattle.cells.specs.Parts.{StartsAt}
use Rattle.cells.specs.Touching.{Touches}
use Rattle.grids.specs.declared.LayerPart.{LayerPart}
use Rattle.grids.specs.Grid.{part_at, size, shape, Shapes, index, cell_at, byte_of, clear, solid, GivesLayerPart, GivesLayer}
use Rattle.grids.specs.Marks.{marked, complete, Completes, Marks}
use Rattle.claims.specs.Example.{at, example_counts, example_cells, marked_cells}

-- 1. Each call's contract admits one answer, and marking one final memory, for each input; of a returned layer the bytes and where they lie.
pub record OneAnswer : Type 0 where
  pub by_shape : (n : Counts) (bytes : ℕ) (r s : Verdict) → Shapes n bytes r → Shapes n bytes s → r ≡ s
  pub by_layer_part : (n : Counts) (bytes : ℕ) (z : ℤ) (r s : Result LayerPart Refusal) → GivesLayerPart n bytes z r → GivesLayerPart n bytes z s → r ≡ s
  pub by_layer : (n : Counts) (cells : Bor (List ℕ)) (z : ℤ) (r s : Bor (List ℕ)) → GivesLayer n cells z r → GivesLayer n cells z s →
      (r.now ≡ s.now) × (r.ref_ptr ≡ s.ref_ptr)
  pub by_complete : (n : Counts) (l : List ℕ) (r s : Result Bool Refusal) → Completes n l r → Completes n l s → r ≡ s
  pub by_mark : (n : Counts) (l : List ℕ) (r s : Verdict) (a b : List ℕ) → Marks n l r a → Marks n l s b → (r ≡ s) × (a ≡ b)

-- the cell (x, y, z) lies inside the grid
abbrev pub Inside : Counts → (x y z : ℕ) → Type 0
Inside n x y z = (x < n.nx) × (y < n.ny) × (z < n.nz)

-- 2. What a byte makes of its cell: solid from 2 on, clear at 0.
pub record ByteMeans (b : ℕ) : Type 0 where
  pub is_solid : (solid b ≡ true) ↔ (2 ≤ b)
  pub is_clear : (clear b ≡ true) ↔ (b ≡ 0)

-- 3. Where the shape is fine, each count is 1 to 1,024 and there is a byte for each cell, x fastest, then y, then z: the cell of an index is inside
-- the grid and has that index, and every cell inside the grid is the cell of its index.
pub record BytePlaces (n : Counts) (bytes : ℕ) : Type 0 where
  pub counts : (1 ≤ n.nx) × (n.nx ≤ 1024) × (1 ≤ n.ny) × (n.ny ≤ 1024) × (1 ≤ n.nz) × (n.nz ≤ 1024)
  pub bytes_are : bytes ≡ size n
  pub order : (x y z : ℕ) → index n x y z ≡ x + n.nx * (y + n.ny * z)
  pub inside : (i : ℕ) → i < bytes → (x : ℕ) × (y : ℕ) × (z : ℕ) × Inside n x y z × (index n x y z ≡ i) × (cell_at n i ≡ at x y z)
  pub every : (x y z : ℕ) → Inside n x y z → (index n x y z < bytes) × (cell_at n (index n x y z) ≡ at x y z)

pub record Places (n : Counts) (bytes : ℕ) : Type 0 where
  pub numbered : shape n bytes ≡ Ok tt → BytePlaces n bytes

-- 4. The layer is the caller's own bytes where the partner says, nx·ny of them from z·nx·ny on: byte x + nx·y is that of cell (x, y, z). It is empty
-- exactly when the partner refuses.
pub record Layers (n : Counts) (z : ℤ) (cells layer : Bor (List ℕ)) (part : Result LayerPart Refusal) : Type 0 where
  pub empty : GivesLayerPart n (length cells.now) z part → GivesLayer n cells z layer → (layer.now ≡ []) ↔ ((r : Refusal) × (part ≡ Err r))
  pub from : (start many : ℕ) → GivesLayerPart n (length cells.now) z (Ok (part_at start many)) →
      (start ≡ nat_abs z * (n.nx * n.ny)) × (many ≡ n.nx * n.ny)
  pub of_cells : (start many : ℕ) → GivesLayerPart n (length cells.now) z (Ok (part_at start many)) → GivesLayer n cells z layer →
      (x y : ℕ) → x < n.nx → y < n.ny → get_or layer.now (x + n.nx * y) 0 ≡ byte_of n cells.now (at x y (nat_abs z))
  pub own : (start many : ℕ) → GivesLayerPart n (length cells.now) z (Ok (part_at start many)) → GivesLayer n cells z layer →
      StartsAt start cells layer × (length layer.now ≡ many) × ((i : ℕ) → i < many → get_or layer.now i 0 ≡ get_or cells.now (start + i) 0)

-- 5. Marking changes no solid byte and no cell's solidity; any other byte becomes 1 exactly where its cell touches a solid one, else 0. It makes the
-- marks complete, and done twice is done once.
pub record Marking (k : ℕ) (n : Counts) (l : List ℕ) : Type 0 where
  pub near : (i : ℕ) → i < length l → solid (get_or l i 0) ≡ false →
      (get_or (marked k n l) i 0 ≡ 1) ↔ ((j : ℕ) × (j < length l) × (solid (get_or l j 0) ≡ true) × Touches k (cell_at n i) (cell_at n j))
  pub else_0 : (i : ℕ) → i < length l → solid (get_or l i 0) ≡ false → (get_or (marked k n l) i 0 ≡ 1) ⊎ (get_or (marked k n l) i 0 ≡ 0)
  pub long : length (marked k n l) ≡ length l
  pub keeps : (i : ℕ) → solid (get_or l i 0) ≡ true → get_or (marked k n l) i 0 ≡ get_or l i 0
  pub alike : (i : ℕ) → solid (get_or (marked k n l) i 0) ≡ solid (get_or l i 0)
  pub whole : complete k n (marked k n l) ≡ true
  pub once : marked k n (marked k n l) ≡ marked k n l

-- 6. So the completeness call says yes of what a marking call left, unless it was refused.
pub record MarkedCall (n : Counts) (l : List ℕ) : Type 0 where
  pub says_yes : (r : Verdict) (a : List ℕ) (c : Result Bool Refusal) → Marks n l r a → r ≡ Ok tt → Completes n a c → c ≡ Ok true
  pub refused : (r : Refusal) (a : List ℕ) → Marks n l (Err r) a → a ≡ l

-- 7. Complete: no clear cell touches a solid one; and that is what the completeness call says.
pub record Complete (k : ℕ) (n : Counts) (l : List ℕ) : Type 0 where
  pub means : (complete k n l ≡ true)
      ↔ ((i j : ℕ) → i < length l → j < length l → clear (get_or l i 0) ≡ true → solid (get_or l j 0) ≡ true → Touches k (cell_at n i) (cell_at n j) → ⊥)

pub record SaysComplete (n : Counts) (l : List ℕ) : Type 0 where
  pub yes : Completes n l (Ok true) → complete 3 n l ≡ true
  pub no : Completes n l (Ok false) → complete 3 n l ≡ false

-- 8. What the contracts shut out, on the program's venue and on grids of two layers: a shape of one byte short, none, or one whose bytes are
-- tested before its counts; a marker that touches nothing, one that refuses; complete always, or never; a layer that is empty, or always the
-- first, also where the two layers hold the same bytes.
abbrev pub two_layers : Counts
two_layers = record { nx = 2; ny = 1; nz = 2 }

pub record ShutOut : Type 0 where
  pub one_byte_short : Shapes example_counts 7 (Ok tt) → ⊥
  pub no_shape : (r : Refusal) → Shapes example_counts 8 (Err r) → ⊥
  -- 2 and 3 both apply
  pub bytes_first : Shapes (record { nx = 0; ny = 2; nz = 1 }) 8 (Err Bytes) → ⊥
  pub marks_nothing : (r : Verdict) → Marks example_counts example_cells r example_cells → ⊥
  pub refuses : (r : Refusal) (a : List ℕ) → Marks example_counts example_cells (Err r) a → ⊥
  pub complete_always : Completes example_counts example_cells (Ok true) → ⊥
  pub never_complete : Completes example_counts marked_cells (Ok false) → ⊥
  pub empty_layer : (cells r : Bor (List ℕ)) → cells.now ≡ example_cells → GivesLayer example_counts cells (pos 0) r → r.now ≡ [] → ⊥
  pub first_layer : (cells r : Bor (List ℕ)) → cells.now ≡ 0 ∷ 0 ∷ 0 ∷ 0 ∷ [] → GivesLayer two_layers cells (pos 1) r → r.ref_ptr ≡ cells.ref_ptr → ⊥
  pub first_part : GivesLayerPart two_layers 4 (pos 1) (Ok (part_at 0 2)) → ⊥
  pub no_part : (r : Refusal) → GivesLayerPart two_layers 4 (pos 1) (Err r) → ⊥
