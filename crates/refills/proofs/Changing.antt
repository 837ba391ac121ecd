-- The ways out of a refill, once its corners are known to lie in the grid: refused 13, or accepted. Assumes nothing.
use Rattle.std.specs.Prelude.{Ok, Err, Some, None, Option}
use Prim.Native.Nat.{ℕ, ◌+◌, ◌-◌, ◌*◌, ◌/◌, ◌^◌, ◌≤◌, ◌<◌}
use native.Mathlib.Nat.{lt_of_lt_of_le}
use native.Mathlib.Omega.{arith}
use mathlib.Core.Path.{◌≡◌, refl, sym, ap, ap₂, ◌∙◌}
use mathlib.Core.Bool.{Bool, true, false, not, ◌||◌}
use mathlib.Core.List.{List}
use lib.Count.{ones}
use lib.ListN.{length, get_or, set}
use lib.Seq.{get_or-set_same}
use borrow.Author.Tests.{eq-eqb, ne_eqb}
use Rattle.cells.specs.declared.Counts.{Counts}
use Rattle.cells.specs.declared.Refusal.TheVariants.{Stale}
use Rattle.grids.specs.Grid.{size, index, solid}
use Rattle.grids.specs.Inside.{Shaped}
use Rattle.grids.proofs.Any.{or_true}
use Rattle.bricks.specs.Sums.{sum, digit, bit}
use Rattle.bricks.specs.Bricks.{bricks, mask_of, mask_at, brick_there, bit_there}
use Rattle.bricks.proofs.Totals.{ones_most}
use Rattle.bricks.specs.declared.Slot.{Slot}
use Rattle.refills.specs.Boxes.{brick_of}
use Rattle.refills.specs.Rows.{Boxed, rows, BoxFilled, box_sum, agreed}
use Rattle.refills.specs.Refills.{refilled, holds_named, remasked, ones_in, differs_in, bad_total, stale, stale_check, Changes}
use Rattle.refills.proofs.Boxes.{boxed_bricks}
use Rattle.refills.proofs.Keeping.{agrees, anew_is}
use Rattle.refills.proofs.BoxRows.{rows_most, box_filled_is}
use Rattle.refills.proofs.Moves.{sum_named, box_sum_where, box_sum_most}
use Rattle.refills.proofs.Single.{put_one, cell_below, there_below, one_sum, one_differs, there_is, mask_turned}
use Rattle.refills.proofs.Agreeing.{some_differs, ones_tells, differs_tells}

-- ---- the ones of the masks, and of the bytes

module _ (n : Counts) (lo hi : Slot) (box : Boxed n lo hi) where
  -- the ones of the box's bricks by the bytes l, as the code sums them
  abbrev pub sum_of : List ℕ → ℕ
  sum_of l = box_sum (bricks n) (brick_of lo) (brick_of hi) (λ k. ones (mask_at n l k)) (rows (brick_of lo) (brick_of hi))

  pub sum_of_most : (l : List ℕ) → sum_of l ≤ 68719476736
  sum_of_most l =
      let few = boxed_bricks n lo hi box in
      let fx = few.x in
      let fy = few.y in
      let fz = few.z in
      omega (
        arith,
        box_sum_most (bricks n) (brick_of lo) (brick_of hi) (λ k. ones (mask_at n l k)) (rows (brick_of lo) (brick_of hi)) (omega arith)
            (λ k. ones_most n l _ _ _),
        rows_most (brick_of lo) (brick_of hi) (omega arith) (omega arith),
      )

  -- masks that are those of the bytes have their ones
  pub ones_are : (l m : List ℕ) → ((k : ℕ) → k < size (bricks n) → holds_named n lo hi k ≡ true → get_or m k 0 ≡ mask_at n l k) →
      sum_of l ≡ ones_in n lo hi m
  unfolding ones_in
  ones_are l m same =
      sym (sum_named (holds_named n lo hi) (λ k. ones (get_or m k 0)) (λ k. ones (mask_at n l k)) (size (bricks n)) (λ k lt named. ap ones
      (same k lt named))
      ∙ box_sum_where (bricks n) (brick_of lo) (brick_of hi) (boxed_bricks n lo hi box) (λ k. ones (mask_at n l k)))

  -- so it is with the masks made anew
  pub ones_anew : (l m : List ℕ) → size (bricks n) ≤ length m → sum_of l ≡ ones_in n lo hi (remasked n lo hi l m)
  ones_anew l m room = ones_are l (remasked n lo hi l m) (anew_is n lo hi l m room)

-- ---- the ways out

module _ (n : Counts) (lo hi : Slot) (byte : ℕ) (l m : List ℕ) (total : ℕ) where
  -- refused, all as it was
  stays : stale n lo hi l m total ≡ true → Changes (stale_check n lo hi l m total) n lo hi byte l m total (Err Stale) l m
  stays e = record { says = rw e; bytes = rw e; masks = rw e }

  pub refused_mask : differs_in n lo hi l m ≡ true → Changes (stale_check n lo hi l m total) n lo hi byte l m total (Err Stale) l m
  unfolding stale
  refused_mask e = stays (rw e)

  pub refused_total :
      (before : ℕ) → before ≡ ones_in n lo hi m → bad_total total before (size n) ≡ true →
      Changes (stale_check n lo hi l m total) n lo hi byte l m total (Err Stale) l m
  unfolding stale
  refused_total before same e =
      stays (ap (λ (t : Bool). differs_in n lo hi l m || t) (ap (λ (b : ℕ). bad_total total b (size n)) (sym same) ∙ e) ∙ or_true
      (differs_in n lo hi l m))

  -- accepted: the bytes and the masks as they are to be, and the ones before and after
  pub accepted :
      (before after : ℕ) (l' m' : List ℕ) → differs_in n lo hi l m ≡ false → before ≡ ones_in n lo hi m → bad_total total before (size n) ≡ false →
      l' ≡ refilled n lo hi byte l → m' ≡ remasked n lo hi l' m → after ≡ ones_in n lo hi m' →
      Changes (stale_check n lo hi l m total) n lo hi byte l m total (Ok (total - before + after)) l' m'
  unfolding stale
  accepted before after l' m' none same fits bytes masks anew =
      let fine : stale n lo hi l m total ≡ false = ap₂ (λ (s t : Bool). s || t) none (ap (λ (b : ℕ). bad_total total b (size n)) (sym same) ∙ fits) in
      let is : m' ≡ remasked n lo hi (refilled n lo hi byte l) m = masks ∙ ap (λ (q : List ℕ). remasked n lo hi q m) bytes in
      record {
        says = rw fine (ap₂ (λ (a b : ℕ). Ok (total - a + b)) same (anew ∙ ap (ones_in n lo hi) is));
        bytes = rw fine bytes;
        masks = rw fine is;
      }

-- ---- of a box, as the code goes through it

module _ (n : Counts) (lo hi : Slot) (box : Boxed n lo hi) (l m : List ℕ) where
  abbrev answered : (Option ℕ) → Type 0
  answered a = a ≡ agreed (some_differs n l m (brick_of lo) (brick_of hi)) (sum_of n lo hi box l)

  -- the test found a mask that differs
  pub box_differs : answered None → differs_in n lo hi l m ≡ true
  unfolding differs_in
  box_differs e = differs_tells (some_differs n l m (brick_of lo) (brick_of hi)) (sum_of n lo hi box l) e

  -- or none, and the ones are those of the masks
  pub box_agrees : (before : ℕ) → answered (Some before) → (differs_in n lo hi l m ≡ false) × (before ≡ ones_in n lo hi m)
  unfolding differs_in
  box_agrees before e =
      let (none, sum) = ones_tells (some_differs n l m (brick_of lo) (brick_of hi)) before (sum_of n lo hi box l) e in
      (none, sum ∙ ones_are n lo hi box l m (agrees n lo hi l m none))

  -- what the two fills leave
  pub box_refilled : (byte : ℕ) (l' : List ℕ) → BoxFilled n lo hi (λ _. byte) (rows lo hi) l l' → l' ≡ refilled n lo hi byte l
  unfolding refilled
  box_refilled byte l' f = box_filled_is n lo hi box (λ _. byte) l l' f

  pub box_remasked :
      (l' m' : List ℕ) → BoxFilled (bricks n) (brick_of lo) (brick_of hi) (mask_at n l') (rows (brick_of lo) (brick_of hi)) m m' →
      m' ≡ remasked n lo hi l' m
  unfolding remasked
  box_remasked l' m' f = box_filled_is (bricks n) (brick_of lo) (brick_of hi) (boxed_bricks n lo hi box) (mask_at n l') m m' f

-- ---- of one cell, as the code sets it

module _ (n : Counts) (at : Slot) (box : Boxed n at at) (l m : List ℕ) (s : Shaped n (length l)) where
  abbrev mask_here : List ℕ → ℕ
  mask_here k = mask_of n k (at.x / 4) (at.y / 4) (at.z / 4)

  module _ (k mask : ℕ) (ek : k ≡ brick_there n at.x at.y at.z) (em : mask ≡ mask_here l) where
    is_mask : mask ≡ mask_at n l (brick_there n at.x at.y at.z)
    is_mask = em ∙ sym (there_is n at box l)

    -- the lent mask is not that of the bytes
    pub cell_differs : (get_or m k 0 ≡ mask → ⊥) → differs_in n at at l m ≡ true
    cell_differs ne =
        one_differs n at box l m ∙ ap not (ne_eqb _ _ (λ e. ne (ap (λ (j : ℕ). get_or m j 0) ek ∙ e ∙ sym is_mask)))

    module _ (same : get_or m k 0 ≡ mask) where
      there_same : get_or m (brick_there n at.x at.y at.z) 0 ≡ mask
      there_same = ap (λ (j : ℕ). get_or m j 0) (sym ek) ∙ same

      -- it is
      cell_agrees : differs_in n at at l m ≡ false
      cell_agrees = one_differs n at box l m ∙ ap not (eq-eqb _ _ (there_same ∙ is_mask))

      pub cell_ones : (old : ℕ) → old ≡ ones mask → old ≡ ones_in n at at m
      cell_ones old e = e ∙ ap ones (sym there_same) ∙ sym (one_sum n at box m)

      -- accepted: the two stores
      pub cell_set :
          (byte total i b turned old new : ℕ) → size (bricks n) ≤ length m → i ≡ index n at.x at.y at.z → b ≡ bit_there at.x at.y at.z →
          turned + digit (bit mask b) * 2 ^ b ≡ mask + digit (solid byte) * 2 ^ b → old ≡ ones mask → bad_total total old (size n) ≡ false →
          new ≡ ones turned →
          Changes (stale_check n at at l m total) n at at byte l m total (Ok (total - old + new)) (set l i byte) (set m k turned)
      unfolding refilled remasked
      cell_set byte total i b turned old new room ei eb moved eo fits en =
          let there : ℕ = brick_there n at.x at.y at.z in
          let below : there < length m = lt_of_lt_of_le (there_below n at box) room in
          let is : turned ≡ mask_at n (refilled n at at byte l) there = mask_turned n at box l s byte mask turned em (rw eb at moved) ∙ sym
          (there_is n at box (refilled n at at byte l)) in
          let bytes : set l i byte ≡ refilled n at at byte l = ap (λ (j : ℕ). set l j byte) ei ∙ put_one n at box (λ _. byte) l byte
          (cell_below n at box l s) refl in
          let anew : set m there turned ≡ remasked n at at (refilled n at at byte l) m =
          put_one (bricks n) (brick_of at) (boxed_bricks n at at box) (mask_at n (refilled n at at byte l)) m turned below is in
          accepted n at at byte l m total old new (set l i byte) (set m k turned) cell_agrees (cell_ones old eo) fits bytes
          (ap (λ (j : ℕ). set m j turned) ek ∙ anew ∙ ap (λ (q : List ℕ). remasked n at at q m) (sym bytes))
          (en ∙ ap ones (sym (get_or-set_same m there turned 0 below)) ∙ sym (one_sum n at box (set m there turned)) ∙ ap (λ (j : ℕ). ones_in n at at
          (set m j turned)) (sym ek))
