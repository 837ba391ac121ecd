-- Boxes: the test of a box, and a list changed in a box alone. Assumes nothing.
use Prim.Native.Nat.{ℕ, suc, ◌+◌, ◌-◌, ◌*◌, ◌/◌, ◌%◌, ◌≤◌, ◌<◌, max}
use native.Mathlib.Nat.{mul-le-mul_left}
use native.Mathlib.Omega.{arith}
use mathlib.Core.Path.{◌≡◌, refl, sym, ap, ◌∙◌}
use mathlib.Core.Bool.{Bool, true, false, cond, ◌&&◌, and-false}
use mathlib.Core.List.{List}
use lib.Dec.{leb}
use lib.ListN.{length, get_or}
use borrow.Author.Tests.{le-leb, lt-leb, leb-true}
use Rattle.cells.specs.declared.Counts.{Counts}
use Rattle.cells.proofs.Touching.{and_both}
use Rattle.cells.proofs.Tabulate.{tabulate_length, tabulate_at}
use Rattle.grids.specs.Grid.{index}
use Rattle.grids.proofs.Places.{x_at, y_at, z_at, index_of_cell}
use Rattle.bricks.specs.Bricks.{bricks, brick_there}
use Rattle.bricks.specs.declared.Slot.{Slot}
use Rattle.refills.specs.declared.Corners.{Corners}
use Rattle.refills.specs.Boxes.{brick_of, between, in_box, in_box_at, box_put}
use Rattle.refills.specs.Rows.{InCounts, Boxed, In, tall, deep, rows, row_number}

-- ---- tests joined

-- a test that may be skipped where an earlier one fails
pub and_same : (s t u : Bool) → (s ≡ true → t ≡ u) → s && t ≡ s && u
and_same true t u h = h refl
and_same false t u h = refl

-- ---- inside and outside

pub inside_is : (a b x : ℕ) → a ≤ x → x ≤ b → between a b x ≡ true
inside_is a b x h k = rw (le-leb a x h, le-leb x b k)

pub below_is : (a b x : ℕ) → x < a → between a b x ≡ false
below_is a b x h = rw (lt-leb a x h)

pub above_is : (a b x : ℕ) → b < x → between a b x ≡ false
above_is a b x h = rw (lt-leb x b h, and-false)

-- the test and the record say the same
pub in_is : (lo hi : Slot) (x y z : ℕ) → In lo hi x y z → in_box lo hi x y z ≡ true
in_is lo hi x y z h =
    rw (
      inside_is lo.x hi.x x h.across.0 h.across.1,
      inside_is lo.y hi.y y h.up.0 h.up.1,
      inside_is lo.z hi.z z h.deep.0 h.deep.1,
    )

pub is_in : (lo hi : Slot) (x y z : ℕ) → in_box lo hi x y z ≡ true → In lo hi x y z
is_in lo hi x y z e =
    let (ex, eyz) = and_both (between lo.x hi.x x) _ e in
    let (ey, ez) = and_both (between lo.y hi.y y) _ eyz in
    record { across = both lo.x hi.x x ex; up = both lo.y hi.y y ey; deep = both lo.z hi.z z ez }
  where
    both : (a b c : ℕ) → between a b c ≡ true → (a ≤ c) × (c ≤ b)
    both a b c t = let (p, q) = and_both (leb a c) _ t in (leb-true a c p, leb-true c b q)

-- by the number of a cell of the grid
pub in_box_index : (n : Counts) (lo hi : Slot) (x y z : ℕ) → x < n.nx → y < n.ny → in_box_at n lo hi (index n x y z) ≡ in_box lo hi x y z
in_box_index n lo hi x y z hx hy i = in_box lo hi (x_at n x y z hx i) (y_at n x y z hx hy i) (z_at n x y z hx hy i)

-- the number of a cell of a box in the grid passes the test
pub passes : (n : Counts) (lo hi : Slot) → Boxed n lo hi → (x y z k : ℕ) → In lo hi x y z → k ≡ index n x y z → in_box_at n lo hi k ≡ true
passes n lo hi box x y z k i e =
    let bx = box.x in
    let by = box.y in
    let dx = i.across in
    let dy = i.up in
    ap (in_box_at n lo hi) e ∙ in_box_index n lo hi x y z (omega arith) (omega arith) ∙ in_is lo hi x y z i

-- a cell of a box has a row of it
pub row_below : (lo hi : Slot) (x y z : ℕ) → In lo hi x y z → row_number lo hi y z < rows lo hi
row_below lo hi x y z h =
    let up = h.up in
    let dz = h.deep in
    let layers : tall lo hi * suc (z - lo.z) ≤ tall lo hi * deep lo hi = mul-le-mul_left (tall lo hi) (omega arith) in
    omega arith

-- the bricks of a box are a box of the bricks
pub boxed_bricks : (n : Counts) (lo hi : Slot) → Boxed n lo hi → Boxed (bricks n) (brick_of lo) (brick_of hi)
boxed_bricks n lo hi box = record { x = part _ _ _ box.x; y = part _ _ _ box.y; z = part _ _ _ box.z }
  where
    part : (a b c : ℕ) → (a ≤ b) × (b < c) × (c ≤ 1024) → (a / 4 ≤ b / 4) × (b / 4 < (c + 3) / 4) × ((c + 3) / 4 ≤ 1024)
    part a b c h = omega arith

-- ---- corners

-- two corners make a box of the grid that the high one lies in
pub box_of : (n : Counts) (c : Corners) → InCounts n c.hi → Boxed n c.lo c.hi
box_of n c h =
    let (x, y, z) = c.ordered in
    record { x = (x, h.x.0, h.x.1); y = (y, h.y.0, h.y.1); z = (z, h.z.0, h.z.1) }

-- and one cell a box of one
pub box_of_one : (n : Counts) (c : Slot) → InCounts n c → Boxed n c c
box_of_one n c h = record { x = omega (arith, h.x); y = omega (arith, h.y); z = omega (arith, h.z) }

-- of a box that lies in a grid the high corner does
pub high_within : (n : Counts) (lo hi : Slot) → Boxed n lo hi → InCounts n hi
high_within n lo hi h = record { x = (h.x.1, h.x.2); y = (h.y.1, h.y.2); z = (h.z.1, h.z.2) }

-- ---- a list changed in a box

module _ (n : Counts) (lo hi : Slot) (f : ℕ → ℕ) (l : List ℕ) where
  abbrev put : ℕ → ℕ
  put k = cond (in_box_at n lo hi k) (f k) (get_or l k 0)

  pub put_long : length (box_put n lo hi f l) ≡ length l
  put_long = tabulate_length put (length l)

  pub put_inside : (k : ℕ) → k < length l → in_box_at n lo hi k ≡ true → get_or (box_put n lo hi f l) k 0 ≡ f k
  put_inside k lt e = tabulate_at put (length l) k 0 lt ∙ ap (λ (t : Bool). cond t (f k) (get_or l k 0)) e

  pub put_outside : (k : ℕ) → k < length l → in_box_at n lo hi k ≡ false → get_or (box_put n lo hi f l) k 0 ≡ get_or l k 0
  put_outside k lt e = tabulate_at put (length l) k 0 lt ∙ ap (λ (t : Bool). cond t (f k) (get_or l k 0)) e

-- ---- the bricks that hold a cell of a box

-- each brick between those of the corners does
pub brick_holds :
    (n : Counts) (lo hi : Slot) → Boxed n lo hi → (k : ℕ) → in_box_at (bricks n) (brick_of lo) (brick_of hi) k ≡ true →
    (x : ℕ) × (y : ℕ) × (z : ℕ) × In lo hi x y z × (brick_there n x y z ≡ k)
brick_holds n lo hi box k e =
    let b : Counts = bricks n in
    let i = is_in (brick_of lo) (brick_of hi) (k % b.nx) (k / b.nx % b.ny) (k / (b.nx * b.ny)) e in
    let (px, ix, ex) = axis lo.x hi.x (k % b.nx) box.x.0 i.across in
    let (py, iy, ey) = axis lo.y hi.y (k / b.nx % b.ny) box.y.0 i.up in
    let (pz, iz, ez) = axis lo.z hi.z (k / (b.nx * b.ny)) box.z.0 i.deep in
    (px, py, pz, record { across = ix; up = iy; deep = iz }, (λ t. index b (ex t) (ey t) (ez t)) ∙ index_of_cell b k)
  where
    axis : (a c b : ℕ) → a ≤ c → (a / 4 ≤ b) × (b ≤ c / 4) → (p : ℕ) × ((a ≤ p) × (p ≤ c)) × (p / 4 ≡ b)
    axis a c b le h = (max a (4 * b), omega arith, omega arith)

-- and no other
pub holds_brick :
    (n : Counts) (lo hi : Slot) → Boxed n lo hi → (x y z k : ℕ) → In lo hi x y z → brick_there n x y z ≡ k →
    in_box_at (bricks n) (brick_of lo) (brick_of hi) k ≡ true
holds_brick n lo hi box x y z k i e =
    let dx = i.across in
    let dy = i.up in
    let dz = i.deep in
    passes (bricks n) (brick_of lo) (brick_of hi) (boxed_bricks n lo hi box) (x / 4) (y / 4) (z / 4) k
    (record { across = omega arith; up = omega arith; deep = omega arith }) (sym e)
