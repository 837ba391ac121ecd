-- What is claimed of the 6-line and the 26-line, for every two ends P and Q and every order of preference r of the axes. Assumes nothing.
use Rattle.std.specs.Prelude.{ℕ, suc, ◌+◌, ◌≤◌, ◌<◌, ◌≡◌, ◌↔◌, pos, negsuc, ◌+ℤ◌, ◌-ℤ◌, ◌≤ℤ◌, length, get_or}
use Rattle.std.specs.Int.Signed.{lt_z}
use Rattle.cells.specs.declared.Cell.{Cell}
use Rattle.cells.specs.Touching.{on, apart, Touches}
use Rattle.lines.specs.declared.Order.{Order}
use Rattle.lines.specs.declared.Order.TheVariants.{Yzx}
use Rattle.lines.specs.Steps.{Axis, X, Y, Z, Steps, total, stepped}
use Rattle.lines.specs.Crossings.{next, place, before, InOrder, LastMade, MadeUpto}
use Rattle.lines.specs.Preference.{Preference, prefers, y_z_x}
use Rattle.lines.specs.Lines.{differences, centres, six_cell, six_line, longest, place_26, cell_26, line_26, InLimit}
use Rattle.lines.specs.Segment.{Share, InClosed, InOpen}
use Rattle.lines.specs.Touching.{next_tie}
use Rattle.claims.specs.Example.{at}
use Rattle.lines.specs.Decisions.{decision, e_xy, e_xz, e_zy, values, by_signs, tie_by_signs, doubled, moved_values, shift, lowered}

-- 1. For each number of crossings there is one place such that every crossing made comes before every one not made: the 6-line's.
pub record OnePlace (r : Preference) (D : Steps) : Type 0 where
  pub there : (n : ℕ) → n ≤ total D → InOrder (centres r D) (place (centres r D) n) × (total (place (centres r D) n) ≡ n)
  pub alone : (t : Steps) → InOrder (centres r D) t → (a : Axis) → t a ≡ place (centres r D) (total t) a

-- 1. The 6-line has A+B+C+1 cells, all different; it starts at P and ends at Q, and consecutive cells share a face.
pub record SixLine (r : Preference) (p q : Cell) : Type 0 where
  pub many : length (six_line r p q) ≡ total (differences p q) + 1
  pub numbered : (n : ℕ) → n ≤ total (differences p q) → get_or (six_line r p q) n p ≡ six_cell r p q n
  pub starts : six_cell r p q 0 ≡ p
  pub ends : six_cell r p q (total (differences p q)) ≡ q
  pub different : (m n : ℕ) → six_cell r p q m ≡ six_cell r p q n → m ≡ n
  pub by_face : (n : ℕ) → Touches 1 (six_cell r p q n) (six_cell r p q (suc n))

-- 2. Each of its cells is touched by the closed segment.
pub record Touched (r : Preference) (p q : Cell) : Type 0 where
  pub touched : (n : ℕ) → n ≤ total (differences p q) → (k : ℕ) × (d : ℕ) × Share k d × InClosed p q k d (six_cell r p q n)

-- 3. No cell of the lattice whose open inside meets the segment is missing.
pub record NoneMissing (r : Preference) (p q : Cell) : Type 0 where
  pub found : (k d : ℕ) (c : Cell) → Share k d → InOpen p q k d c → (n : ℕ) × (n ≤ total (differences p q)) × (six_cell r p q n ≡ c)

-- A cell's faces lie half a cell from its centre: on the way from (0,0,0) to (2,0,0) the point at 24 hundredths lies inside P, that at 25 on the face
-- of both cells and inside neither, that at 26 in P no more.
pub record HalfACell : Type 0 where
  pub short_of : InOpen (at 0 0 0) (at 2 0 0) 24 100 (at 0 0 0)
  pub on_the_face : InClosed (at 0 0 0) (at 2 0 0) 25 100 (at 0 0 0) × InClosed (at 0 0 0) (at 2 0 0) 25 100 (at 1 0 0)
  pub not_inside : (InOpen (at 0 0 0) (at 2 0 0) 25 100 (at 0 0 0) → ⊥) × (InOpen (at 0 0 0) (at 2 0 0) 25 100 (at 1 0 0) → ⊥)
  pub past : InClosed (at 0 0 0) (at 2 0 0) 26 100 (at 0 0 0) → ⊥

-- 4. 26-line cell m is the place of the 6-line after all crossings at fractions up to and including m/M. There are M+1 cells, from P to Q; from one
-- to the next each axis moves by 0 or 1, the longest by 1.
pub record TwentySixLine (r : Preference) (p q : Cell) : Type 0 where
  pub upto : (m : ℕ) → 0 < longest (differences p q) → m ≤ longest (differences p q) →
      MadeUpto (centres r (differences p q)) m (longest (differences p q)) (place_26 (differences p q) m)
  pub on_six : (m : ℕ) → m ≤ longest (differences p q) → cell_26 p q m ≡ six_cell r p q (total (place_26 (differences p q) m))
  pub many : length (line_26 p q) ≡ longest (differences p q) + 1
  pub numbered : (m : ℕ) → m ≤ longest (differences p q) → get_or (line_26 p q) m p ≡ cell_26 p q m
  pub starts : cell_26 p q 0 ≡ p
  pub ends : cell_26 p q (longest (differences p q)) ≡ q
  pub by_one : (m : ℕ) (a : Axis) → m < longest (differences p q) → apart (on (cell_26 p q m) a) (on (cell_26 p q (m + 1)) a) ≤ 1
  pub longest_moves : (m : ℕ) (a : Axis) → m < longest (differences p q) → differences p q a ≡ longest (differences p q) →
      apart (on (cell_26 p q m) a) (on (cell_26 p q (m + 1)) a) ≡ 1

-- 5. The cells of the 6-line strictly between 26-line cells m and m+1 differ from cell m on one or two axes, by one.
pub record Skipped (r : Preference) (p q : Cell) : Type 0 where
  pub by_face_or_edge :
      (m n : ℕ) → m < longest (differences p q) → total (place_26 (differences p q) m) < n → n < total (place_26 (differences p q) (m + 1)) →
      Touches 2 (cell_26 p q m) (six_cell r p q n)

-- 6. Which of two axes' next crossings comes first is told by the sign of their decision value with the tie bit: below 1 where a is preferred, below
-- 0 where not. Figure 6's tests on the values lowered for an order pick that order's next crossing, at every place that is not the end; in the order
-- y, z, x these are the values themselves. Their signs and zeros tell the next tie of the touching line. Figure 6's sums move the lowered values too.
pub record Signs (D : Steps) : Type 0 where
  pub tell_with_tie : (r : Preference) (t : Steps) (a b : Axis) → r.rank a < r.rank b → before (centres r D) a (t a) b (t b) ≡ lt_z (decision D t a b) (pos 1)
  pub tell : (r : Preference) (t : Steps) (a b : Axis) → r.rank b < r.rank a → before (centres r D) a (t a) b (t b) ≡ lt_z (decision D t a b) (pos 0)
  pub pick : (o : Order) (t : Steps) → ((a : Axis) → t a ≤ D a) → total t < total D → by_signs (lowered o (values D t)) ≡ next (centres (prefers o) D) t
  pub itself : (t : Steps) → lowered Yzx (values D t) ≡ values D t
  pub tie : (t : Steps) → ((a : Axis) → t a ≤ D a) → total t < total D → tie_by_signs (values D t) ≡ next_tie (centres y_z_x D) t
  pub move : (o : Order) (t : Steps) (n : Axis) → lowered o (values D (stepped t n)) ≡ moved_values (doubled D) n (lowered o (values D t))

-- SCOPE L19: the values stay within 536,821,761 of 0; lowered they reach one further down, to -536,821,762.
pub record SmallValues (p q : Cell) : Type 0 where
  pub small : InLimit p → InLimit q → (t : Steps) → ((a : Axis) → t a ≤ differences p q a) → (a b : Axis) →
      (negsuc 536821760 ≤ℤ decision (differences p q) t a b) × (decision (differences p q) t a b ≤ℤ pos 536821761)
  pub lowered : InLimit p → InLimit q → (t : Steps) → ((a : Axis) → t a ≤ differences p q a) → (o : Order) (a b : Axis) →
      (negsuc 536821761 ≤ℤ (decision (differences p q) t a b -ℤ pos (shift o))) × ((decision (differences p q) t a b -ℤ pos (shift o)) ≤ℤ pos 536821761)

-- 7. The crossing by which the 6-line enters a place is the last of the crossings last made, and it alone is.
pub record Entered (r : Preference) (D : Steps) : Type 0 where
  pub steps : (n : ℕ) → place (centres r D) (suc n) ≡ stepped (place (centres r D) n) (next (centres r D) (place (centres r D) n))
  pub by_last : (n : ℕ) → n < total D → LastMade (centres r D) (place (centres r D) (suc n)) (next (centres r D) (place (centres r D) n))
  pub alone : (t : Steps) (m n : Axis) → LastMade (centres r D) t m → LastMade (centres r D) t n → m ≡ n

-- 8. With a longest, at 26-line cell m < M, b moves exactly when e_ab + B ≥ 0, which is e_ba ≤ B: as SCOPE's values say it, pair by pair.
pub record Moves (D : Steps) (m : ℕ) : Type 0 where
  pub x_y : D X ≡ longest D → (place_26 D (m + 1) Y ≡ place_26 D m Y + 1) ↔ (pos 0 ≤ℤ (e_xy D (place_26 D m) +ℤ pos (D Y)))
  pub x_z : D X ≡ longest D → (place_26 D (m + 1) Z ≡ place_26 D m Z + 1) ↔ (pos 0 ≤ℤ (e_xz D (place_26 D m) +ℤ pos (D Z)))
  pub y_x : D Y ≡ longest D → (place_26 D (m + 1) X ≡ place_26 D m X + 1) ↔ (e_xy D (place_26 D m) ≤ℤ pos (D X))
  pub y_z : D Y ≡ longest D → (place_26 D (m + 1) Z ≡ place_26 D m Z + 1) ↔ (e_zy D (place_26 D m) ≤ℤ pos (D Z))
  pub z_x : D Z ≡ longest D → (place_26 D (m + 1) X ≡ place_26 D m X + 1) ↔ (e_xz D (place_26 D m) ≤ℤ pos (D X))
  pub z_y : D Z ≡ longest D → (place_26 D (m + 1) Y ≡ place_26 D m Y + 1) ↔ (pos 0 ≤ℤ (e_zy D (place_26 D m) +ℤ pos (D Y)))

pub record LongStep (D : Steps) : Type 0 where
  pub moves : (m : ℕ) → m < longest D → Moves D m
