-- SCOPE, G and N: counts, one byte a cell, x fastest, then y, then z; and a layer of it. Assumes nothing.
use Rattle.std.specs.Prelude.{Ok, Err, Result}
use Rattle.cells.specs.declared.Refusal.{Refusal}
use Rattle.std.specs.Prelude.{ℕ, ◌+◌, ◌*◌, ◌/◌, ◌%◌, ◌≡◌, Bool, not, ◌||◌, List, [], ◌⊎◌, ltb, eqb, ℤ, pos, nat_abs, length, get_or, take, drop}
use Rattle.std.specs.Int.Signed.{lt_z, le_z}
use Rattle.cells.specs.declared.Axis.TheVariants.{X, Y, Z}
use Rattle.cells.specs.declared.Cell.{Cell}
use Rattle.cells.specs.declared.Counts.{Counts}
use Rattle.cells.specs.declared.Refusal.TheVariants.{Count, Bytes, Layer}
use Rattle.cells.specs.Checks.{Verdict}
use Rattle.cells.specs.Checks.{refuse_when, ◌then◌, by_verdict}
use Rattle.std.specs.Borrow.{Bor}
use Rattle.cells.specs.Parts.{StartsAt}
use Rattle.cells.specs.Refusals.{Told, told_of}
use Rattle.grids.specs.declared.LayerPart.{LayerPart}

-- SCOPE G1, R2: a count that no grid has
abbrev pub bad_count : ℕ → Bool
bad_count n = eqb n 0 || ltb 1024 n

-- nx·ny·nz
abbrev pub size : Counts → ℕ
size n = n.nx * n.ny * n.nz

-- refusal 2 (x, y, z)
unfoldable pub count_check : Counts → Verdict
count_check n =
    refuse_when (bad_count n.nx) (Count X) then
    refuse_when (bad_count n.ny) (Count Y) then
    refuse_when (bad_count n.nz) (Count Z)

-- refusal 2, then 3
unfoldable pub shape : Counts → ℕ → Verdict
unfolding count_check
shape n bytes = count_check n then refuse_when (not (eqb bytes (size n))) Bytes

-- the contract of the shape call
pub record Shapes (n : Counts) (bytes : ℕ) (r : Verdict) : Type 0 where
  pub says : r ≡ shape n bytes

-- ---- cells and bytes

-- the place of the cell (x, y, z) among the bytes: x fastest, then y, then z
abbrev pub index : Counts → (x y z : ℕ) → ℕ
index n x y z = x + n.nx * (y + n.ny * z)

-- the cell of the byte at i
abbrev pub cell_at : Counts → ℕ → Cell
cell_at n i = record { x = pos (i % n.nx); y = pos (i / n.nx % n.ny); z = pos (i / (n.nx * n.ny)) }

-- the place of a cell's byte
abbrev pub byte_index : Counts → Cell → ℕ
byte_index n c = index n (nat_abs c.x) (nat_abs c.y) (nat_abs c.z)

-- the byte of a cell of the grid (it is asked of no other cell: no coordinate is negative)
abbrev pub byte_of : Counts → List ℕ → Cell → ℕ
byte_of n l c = get_or l (byte_index n c) 0

-- SCOPE G4: what a byte makes of its cell
abbrev pub clear : ℕ → Bool
clear b = eqb b 0

abbrev pub solid : ℕ → Bool
solid b = ltb 1 b

-- ---- a layer

-- SCOPE R4: a z that no layer of the grid has
abbrev pub bad_layer : Counts → ℤ → Bool
bad_layer n z = lt_z z (pos 0) || le_z (pos n.nz) z

-- refusals 2, 3, then 4
unfoldable pub layer_check : Counts → ℕ → ℤ → Verdict
unfolding shape
layer_check n bytes z = shape n bytes then refuse_when (bad_layer n z) Layer

abbrev pub layer_length : Counts → ℕ
layer_length n = n.nx * n.ny

abbrev pub layer_start : Counts → ℤ → ℕ
layer_start n z = nat_abs z * layer_length n

abbrev pub part_at : (start long : ℕ) → LayerPart
part_at start long = record { start = start; long = long }

-- the partner's answer: the part's offset and length, or the refusal
unfoldable pub layer_part : Counts → ℕ → ℤ → Result LayerPart Refusal
unfolding layer_check
layer_part n bytes z = by_verdict Err (Ok (part_at (layer_start n z) (layer_length n))) (layer_check n bytes z)

-- each case of the answer: what is said of a refusal, or the part's offset and length
abbrev pub told_part : Result LayerPart Refusal → Told ⊎ (ℕ × ℕ)
told_part = told_of (λ p. (p.start, p.long))

-- the layer itself: the caller's own nx·ny bytes from z·nx·ny on, or the empty part
abbrev pub bytes_of : Result LayerPart Refusal → List ℕ → List ℕ
bytes_of (Ok p) l = take p.long (drop p.start l)
bytes_of (Err r) l = []

unfoldable pub layer : Counts → List ℕ → ℤ → List ℕ
unfolding layer_part
layer n l z = bytes_of (layer_part n (length l) z) l

-- where it starts in the slice; the empty part stands at the slice's start
abbrev pub start_of : Result LayerPart Refusal → ℕ
start_of (Ok p) = p.start
start_of (Err r) = 0

-- the contracts of the two calls: the partner's answer; the bytes, and where they lie
pub record GivesLayerPart (n : Counts) (bytes : ℕ) (z : ℤ) (r : Result LayerPart Refusal) : Type 0 where
  pub says : r ≡ layer_part n bytes z

pub record GivesLayer (n : Counts) (cells : Bor (List ℕ)) (z : ℤ) (r : Bor (List ℕ)) : Type 0 where
  pub says : r.now ≡ layer n cells.now z
  pub there : StartsAt (start_of (layer_part n (length cells.now) z)) cells r
