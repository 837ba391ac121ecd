-- SCOPE, S: one surveyed value as a quotient and its cell along one axis, over the
-- toolchain's account of IEEE 754 (`lib.Ieee`). Assumes nothing.
use Rattle.std.specs.Prelude.{ℕ, zero, suc, ◌+◌, ◌-◌, ◌≡◌, Bool, true, ◌&&◌, cond, ◌||◌, ◌⊎◌, pos, Float}
use Rattle.std.specs.Float.{binary64}
use Rattle.std.specs.Float.Ieee.{sub, div, lt, le, eq, of_int}

-- a whole number as an f64
abbrev pub as_f64 : ℕ → Float
as_f64 n = of_int binary64 (pos n)

-- SCOPE S2: the quotient q on one axis
abbrev pub quotient : (point origin edge : Float) → Float
quotient point origin edge = div binary64 (sub binary64 point origin) edge

-- SCOPE S5: a q before the axis begins, or behind its far face
abbrev pub outside : ℕ → Float → Bool
outside count q = lt q (as_f64 0) || lt (as_f64 count) q

-- SCOPE S3: q lies in cell number n of the axis
abbrev pub in_cell : Float → ℕ → Bool
in_cell q n = le (as_f64 n) q && lt q (as_f64 (n + 1))

-- SCOPE S13: q lies on the far face of the axis, the upper one of its last cell
abbrev pub on_far_face : ℕ → Float → Bool
on_far_face count q = eq (as_f64 count) q

-- SCOPE S3: the number of the cell where q lies, among those below the count. (0 where there is none: such a q is on the far face, or outside, or
-- NaN, which tested inputs never give.)
unfoldable pub number_below : ℕ → Float → ℕ
number_below zero q = 0
number_below (suc n) q = cond (in_cell q n) n (number_below n q)

-- SCOPE S3, S13: the number of q's cell on an axis of so many cells: on the far face the last one
unfoldable pub cell_number : ℕ → Float → ℕ
unfolding number_below
cell_number count q = cond (on_far_face count q) (count - 1) (number_below count q)

-- SCOPE S3, S13: of the cells of an axis, those below the count, number n has q: q lies in it; or q lies on the far face, and it is the last
abbrev pub Has : ℕ → Float → ℕ → Type 0
Has count q n = (in_cell q n ≡ true) ⊎ ((on_far_face count q ≡ true) × (n + 1 ≡ count))
