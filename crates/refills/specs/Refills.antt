-- SCOPE K5, K7, R13, R14, O9: a box is refilled with one byte, the masks of its bricks are made anew, and the total moves as their ones do; and
-- what is refused. A set is the refill of one cell. Assumes nothing.
use Rattle.std.specs.Prelude.{Ok, Err, Result, ℕ, ◌+◌, ◌-◌, ◌*◌, ◌≡◌, Bool, not, ◌&&◌, ◌||◌, List, ltb, eqb, length, get_or}
use Rattle.cells.specs.declared.Refusal.{Refusal}
use Rattle.std.specs.Int.Count.{ones}
use Rattle.std.specs.Int.Signed.{lt_z}
use Rattle.cells.specs.declared.Cell.{Cell}
use Rattle.cells.specs.declared.Counts.{Counts}
use Rattle.cells.specs.declared.End.TheVariants.{P, Q}
use Rattle.cells.specs.declared.Refusal.TheVariants.{Stale, Corners}
use Rattle.cells.specs.Checks.{Verdict, refuse_when, ◌then◌, by_verdict}
use Rattle.grids.specs.Grid.{size}
use Rattle.grids.specs.Inside.{grid_check}
use Rattle.grids.specs.Marks.{any}
use Rattle.bricks.specs.Sums.{sum, digit}
use Rattle.bricks.specs.Bricks.{bricks, mask_at}
use Rattle.bricks.specs.Builds.{bricks_check}
use Rattle.bricks.specs.declared.Slot.{Slot}
use Rattle.refills.specs.Boxes.{corner, brick_of, in_box_at, box_put}

-- ---- what a refill does

-- the bytes: one byte in each cell of the box
unfoldable pub refilled : Counts → Slot → Slot → ℕ → List ℕ → List ℕ
refilled n lo hi byte l = box_put n lo hi (λ _. byte) l

-- brick number k holds a cell of the box
abbrev pub holds_named : Counts → Slot → Slot → ℕ → Bool
holds_named n lo hi k = in_box_at (bricks n) (brick_of lo) (brick_of hi) k

-- the masks: those of such bricks made anew from the bytes l
unfoldable pub remasked : Counts → Slot → Slot → List ℕ → List ℕ → List ℕ
remasked n lo hi l m = box_put (bricks n) (brick_of lo) (brick_of hi) (mask_at n l) m

-- the ones of those masks
unfoldable pub ones_in : Counts → Slot → Slot → List ℕ → ℕ
unfolding sum
ones_in n lo hi m = sum (λ k. digit (holds_named n lo hi k) * ones (get_or m k 0)) (size (bricks n))

-- SCOPE K7: the total moves by the ones after less the ones before
abbrev pub moved : Counts → Slot → Slot → (before after : List ℕ) → ℕ → ℕ
moved n lo hi before after total = total - ones_in n lo hi before + ones_in n lo hi after

-- ---- what is refused

-- SCOPE R14: the low corner is above the high one on some axis
abbrev pub crossed : Cell → Cell → Bool
crossed low high = lt_z high.x low.x || (lt_z high.y low.y || lt_z high.z low.z)

-- 2, 3, 6, then 5 (the low corner is P, the high one Q), then 14
unfoldable pub box_check : Counts → ℕ → ℕ → Cell → Cell → Verdict
unfolding bricks_check
box_check n bytes lent low high =
    bricks_check n bytes lent then grid_check P n low then grid_check Q n high then refuse_when (crossed low high) Corners

-- the lent mask of brick number k is not the one that the bytes give
abbrev pub differs : Counts → List ℕ → List ℕ → ℕ → Bool
differs n l m k = not (eqb (get_or m k 0) (mask_at n l k))

-- some brick with a cell of the box has a lent mask that is not the one that the bytes give
unfoldable pub differs_in : Counts → Slot → Slot → List ℕ → List ℕ → Bool
unfolding any
differs_in n lo hi l m = any (λ k. holds_named n lo hi k && differs n l m k) (size (bricks n))

-- a total is below so many ones, or above so many cells
abbrev pub bad_total : (total ones cells : ℕ) → Bool
bad_total total ones cells = ltb total ones || ltb cells total

-- SCOPE R13: that is so; or the total is less than the ones of the lent masks of such bricks, or more than the number of cells
unfoldable pub stale : Counts → Slot → Slot → List ℕ → List ℕ → ℕ → Bool
unfolding differs_in ones_in
stale n lo hi l m total = differs_in n lo hi l m || bad_total total (ones_in n lo hi m) (size n)

-- 13
abbrev pub stale_check : Counts → Slot → Slot → List ℕ → List ℕ → ℕ → Verdict
stale_check n lo hi l m total = refuse_when (stale n lo hi l m total) Stale

-- ---- one answer and one final memory, by the verdict on the inputs; refused, bytes and masks as they were
pub record Changes (v : Verdict) (n : Counts) (lo hi : Slot) (byte : ℕ) (l m : List ℕ) (total : ℕ) (r : Result ℕ Refusal) (l' m' : List ℕ) : Type 0 where
  pub says : r ≡ by_verdict Err (Ok (moved n lo hi m (remasked n lo hi (refilled n lo hi byte l) m) total)) v
  pub bytes : l' ≡ by_verdict (λ r. l) (refilled n lo hi byte l) v
  pub masks : m' ≡ by_verdict (λ r. m) (remasked n lo hi (refilled n lo hi byte l) m) v

-- the contracts of the two calls: all refusals, 13 last
abbrev pub Refills : Counts → Cell → Cell → ℕ → List ℕ → List ℕ → ℕ → Result ℕ Refusal → List ℕ → List ℕ → Type 0
Refills n low high byte l m total =
    Changes (box_check n (length l) (length m) low high then stale_check n (corner low) (corner high) l m total) n (corner low)
    (corner high) byte l m total

abbrev pub Sets : Counts → Cell → ℕ → List ℕ → List ℕ → ℕ → Result ℕ Refusal → List ℕ → List ℕ → Type 0
Sets n cell = Refills n cell cell
