-- What a refill does to solidity, to the masks and to a fresh count; so what is kept stays kept. Assumes nothing.
use Rattle.std.specs.Prelude.{Ok}
use Prim.Native.Nat.{ℕ, ◌+◌, ◌*◌, ◌/◌, ◌%◌, ◌≤◌, ◌<◌}
use native.Mathlib.Nat.{lt_of_lt_of_le, mul-le-mul_right}
use native.Mathlib.Omega.{arith}
use mathlib.Core.Path.{◌≡◌, refl, sym, subst, ap, ◌∙◌}
use mathlib.Core.Bool.{Bool, true, false, not, ◌&&◌, and-false, true≢false}
use mathlib.Core.List.{List}
use lib.Count.{ones}
use lib.Dec.{ltb}
use lib.ListN.{length, get_or}
use borrow.Author.Tests.{ltb-true, ltb-false, le-ltb, eq-eqb, eqb-true, not-false}
use Rattle.cells.specs.declared.Counts.{Counts}
use Rattle.cells.proofs.Touching.{and_both}
use Rattle.grids.specs.Grid.{shape, size, index, solid}
use Rattle.grids.specs.Inside.{Shaped}
use Rattle.grids.proofs.Any.{not_so, or_neither, any_none, any_false}
use Rattle.grids.proofs.Places.{index_below}
use Rattle.grids.proofs.Shapes.{shaped}
use Rattle.bricks.specs.Sums.{sum, digit}
use Rattle.bricks.specs.Bricks.{bricks, solid_at, mask_of, mask_at, solids}
use Rattle.bricks.specs.Kept.{Kept}
use Rattle.bricks.proofs.Sums.{digit_small, number_same, sum_le, sum_most}
use Rattle.bricks.proofs.Totals.{solid_inside, ones_are_solids}
use Rattle.bricks.specs.declared.Slot.{Slot}
use Rattle.refills.specs.Boxes.{brick_of, in_box}
use Rattle.refills.specs.Refills.{refilled, holds_named, remasked, ones_in, moved, differs, differs_in, bad_total, stale}
use Rattle.refills.proofs.Boxes.{and_same, in_is, is_in, in_box_index, put_long, put_inside, put_outside}
use Rattle.refills.proofs.Moves.{sum_where, sum_named}

-- a total that is not bad lies between
pub total_fits : (total ones cells : ℕ) → bad_total total ones cells ≡ false → (ones ≤ total) × (total ≤ cells)
total_fits total ones cells e = let (low, high) = or_neither (ltb total ones) (ltb cells total) e in (
  ltb-false total ones low,
  ltb-false cells total high,
)

-- ---- masks that are those of the bytes

-- where no such mask differs, each is that of the bytes
pub agrees : (n : Counts) (lo hi : Slot) (l m : List ℕ) → differs_in n lo hi l m ≡ false → (k : ℕ) → k < size (bricks n) →
    holds_named n lo hi k ≡ true → get_or m k 0 ≡ mask_at n l k
unfolding differs_in
agrees n lo hi l m e k lt named =
    let fine = any_false (λ j. holds_named n lo hi j && differs n l m j) (size (bricks n)) k e lt in
    eqb-true (get_or m k 0) (mask_at n l k) (not-false _ (rw named at fine))

-- and each such mask is after it was made anew
pub anew_is :
    (n : Counts) (lo hi : Slot) (l m : List ℕ) → size (bricks n) ≤ length m → (k : ℕ) → k < size (bricks n) → holds_named n lo hi k ≡ true →
    get_or (remasked n lo hi l m) k 0 ≡ mask_at n l k
unfolding remasked
anew_is n lo hi l m room k lt named = put_inside (bricks n) (brick_of lo) (brick_of hi) (mask_at n l) m k (lt_of_lt_of_le lt room) named

-- the ones of such masks by the bytes
pub ones_by :
    (n : Counts) (lo hi : Slot) (l m : List ℕ) → ((k : ℕ) → k < size (bricks n) → holds_named n lo hi k ≡ true → get_or m k 0 ≡ mask_at n l k) →
    ones_in n lo hi m ≡ sum (λ k. digit (holds_named n lo hi k) * ones (mask_at n l k)) (size (bricks n))
unfolding ones_in
ones_by n lo hi l m same =
    sum_named (holds_named n lo hi) (λ k. ones (get_or m k 0)) (λ k. ones (mask_at n l k)) (size (bricks n)) (λ k lt named. ap ones (same k lt named))

-- ---- what a refill does

module _ (n : Counts) (lo hi : Slot) (byte : ℕ) (l : List ℕ) (s : Shaped n (length l)) where
  abbrev after : List ℕ
  after = refilled n lo hi byte l

  pub refilled_long : length after ≡ length l
  unfolding refilled
  refilled_long = put_long n lo hi (λ _. byte) l

  below : (x y z : ℕ) → x < n.nx → y < n.ny → z < n.nz → index n x y z < length l
  below x y z hx hy hz = subst (λ (t : ℕ). index n x y z < t) (sym s.bytes_are) (index_below n x y z hx hy hz)

  -- inside the box a cell of the grid is solid where the byte is
  pub solid_inside_box : (x y z : ℕ) → x < n.nx → y < n.ny → z < n.nz → in_box lo hi x y z ≡ true → solid_at n after x y z ≡ solid byte
  unfolding refilled
  solid_inside_box x y z hx hy hz e =
      solid_inside n after x y z hx hy hz
      ∙ ap solid (put_inside n lo hi (λ _. byte) l (index n x y z) (below x y z hx hy hz) (in_box_index n lo hi x y z hx hy ∙ e))

  -- outside the box all is as it was
  pub solid_outside_box : (x y z : ℕ) → in_box lo hi x y z ≡ false → solid_at n after x y z ≡ solid_at n l x y z
  unfolding refilled
  solid_outside_box x y z e =
      and_same (ltb x n.nx && (ltb y n.ny && ltb z n.nz)) (solid (get_or after (index n x y z) 0)) (solid (get_or l (index n x y z) 0)) (λ t.
      let (inx, yz) = and_both (ltb x n.nx) _ t in
      let (iny, inz) = and_both (ltb y n.ny) _ yz in
      let hx = ltb-true x n.nx inx in
      let hy = ltb-true y n.ny iny in
      let hz = ltb-true z n.nz inz in
      ap solid (put_outside n lo hi (λ _. byte) l (index n x y z) (below x y z hx hy hz) (in_box_index n lo hi x y z hx hy ∙ e)))

  -- and so is the mask of a brick that holds no cell of the box
  pub mask_untouched : (k : ℕ) → holds_named n lo hi k ≡ false → mask_at n after k ≡ mask_at n l k
  unfolding mask_of
  mask_untouched k e =
      number_same _ _ 64 (λ b lt. solid_outside_box _ _ _ (not_so (in_box lo hi _ _ _) (λ t.
      let i = is_in lo hi _ _ _ t in
      true≢false (sym (in_is (brick_of lo) (brick_of hi) _ _ _ (record {
        across = axis lo.x hi.x _ (b % 4) i.across (omega arith);
        up = axis lo.y hi.y _ (b / 4 % 4) i.up (omega arith);
        deep = axis lo.z hi.z _ (b / 16) i.deep (omega arith);
      })) ∙ e))))
    where
      axis : (a c b d : ℕ) → (a ≤ 4 * b + d) × (4 * b + d ≤ c) → d < 4 → (a / 4 ≤ b) × (b ≤ c / 4)
      axis a c b d h lt = omega arith

  -- the ones of the named bricks move by as much as a fresh count
  pub fresh_moves :
      solids after + sum (λ k. digit (holds_named n lo hi k) * ones (mask_at n l k)) (size (bricks n))
      ≡ solids l + sum (λ k. digit (holds_named n lo hi k) * ones (mask_at n after k)) (size (bricks n))
  fresh_moves =
      let same = sum_where (holds_named n lo hi) (λ k. ones (mask_at n after k)) (λ k. ones (mask_at n l k)) (size (bricks n)) (λ k _ e. ap ones
      (mask_untouched k e)) in
      let now = ones_are_solids n after (subst (Shaped n) (sym refilled_long) s) in
      let was = ones_are_solids n l s in
      omega arith

  -- so a total that was accepted moves by as much as a fresh count, whatever it was
  pub total_moves :
      (m : List ℕ) (total : ℕ) → size (bricks n) ≤ length m → stale n lo hi l m total ≡ false →
      moved n lo hi m (remasked n lo hi after m) total + solids l ≡ total + solids after
  unfolding stale
  total_moves m total room e =
      let (none, bad) = or_neither (differs_in n lo hi l m) _ e in
      let (low, _) = total_fits total (ones_in n lo hi m) (size n) bad in
      let was = ones_by n lo hi l m (agrees n lo hi l m none) in
      let now = ones_by n lo hi after (remasked n lo hi after m) (anew_is n lo hi after m room) in
      let fresh = fresh_moves in
      omega arith

-- ---- what is kept

module _ (n : Counts) (lo hi : Slot) (l m : List ℕ) (total : ℕ) (h : Kept n l m total) where
  s : Shaped n (length l)
  s = shaped n (length l) h.grid

  -- the ones of some masks are at most those of all
  ones_below : ones_in n lo hi m ≤ total
  ones_below =
      let some = ones_by n lo hi l m (λ k lt _. h.each k lt) in
      let part = sum_le (λ k. digit (holds_named n lo hi k) * ones (mask_at n l k)) (λ k. ones (mask_at n l k)) (size (bricks n)) (λ k.
      let one = mul-le-mul_right (ones (mask_at n l k)) (digit_small (holds_named n lo hi k)) in omega arith) in
      let all = ones_are_solids n l s in
      let fresh = h.fresh in
      omega arith

  total_below : total ≤ size n
  unfolding solids
  total_below =
      let most = sum_most (λ i. digit (solid (get_or l i 0))) 1 (length l) (λ i. digit_small (solid (get_or l i 0))) in
      let fresh = h.fresh in
      let long = s.bytes_are in
      omega arith

  none_differs : differs_in n lo hi l m ≡ false
  unfolding differs_in
  none_differs =
      any_none (λ k. holds_named n lo hi k && differs n l m k) (size (bricks n)) (λ k lt.
      rw (ap not (eq-eqb (get_or m k 0) (mask_at n l k) (h.each k lt)), and-false))

  -- 13 is never given
  pub kept_agrees : stale n lo hi l m total ≡ false
  unfolding stale
  kept_agrees = rw (none_differs, le-ltb total (ones_in n lo hi m) ones_below, le-ltb (size n) total total_below)

  -- and after a refill all is kept
  pub kept_refilled : (byte : ℕ) → let l' = refilled n lo hi byte l in let m' = remasked n lo hi l' m in Kept n l' m' (moved n lo hi m m' total)
  unfolding remasked
  kept_refilled byte =
      record {
        grid = subst (λ (t : ℕ). shape n t ≡ Ok tt) (sym (refilled_long n lo hi byte l s)) h.grid;
        room = subst (λ (t : ℕ). size (bricks n) ≤ t) (sym (put_long (bricks n) (brick_of lo) (brick_of hi) (mask_at n l') m)) h.room;
        each = λ k lt. each k lt (holds_named n lo hi k) refl;
        fresh =
            let moves = total_moves n lo hi byte l s m total h.room kept_agrees in
            let fresh = h.fresh in
            omega arith;
      }
    where
      l' : List ℕ
      l' = refilled n lo hi byte l

      each : (k : ℕ) → k < size (bricks n) → (t : Bool) → holds_named n lo hi k ≡ t → get_or (remasked n lo hi l' m) k 0 ≡ mask_at n l' k
      each k lt true e = anew_is n lo hi l' m h.room k lt e
      each k lt false e =
          put_outside (bricks n) (brick_of lo) (brick_of hi) (mask_at n l') m k (lt_of_lt_of_le lt h.room) e
          ∙ h.each k lt ∙ sym (mask_untouched n lo hi byte l s k e)
