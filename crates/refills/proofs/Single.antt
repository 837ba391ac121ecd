-- A box of one cell: the refill of it is one store of a byte, and one of the mask with the cell's bit turned. Assumes nothing.
use Prim.Native.Nat.{ℕ, ◌+◌, ◌*◌, ◌/◌, ◌%◌, ◌^◌, ◌<◌}
use native.Mathlib.Nat.{add_right_cancel}
use native.Mathlib.Decide.{ℕ_discrete}
use native.Mathlib.Omega.{arith}
use mathlib.Core.Path.{◌≡◌, refl, sym, subst, ap, ap₂, ◌∙◌}
use mathlib.Core.Bool.{Bool, true, cond, ◌&&◌}
use mathlib.Core.List.{List}
use lib.Count.{ones}
use lib.Dec.{eqb}
use lib.ListN.{length, get_or, set, length-set}
use lib.Seq.{get_or-set_same, get_or-set_other}
use borrow.Author.Tests.{eq-eqb, ne_eqb, eqb-true}
use Rattle.cells.specs.declared.Counts.{Counts}
use Rattle.cells.proofs.Touching.{and_both}
use Rattle.cells.proofs.Tabulate.{is_tabulate}
use Rattle.grids.specs.Grid.{size, index, solid}
use Rattle.grids.specs.Inside.{Shaped}
use Rattle.grids.specs.Marks.{any}
use Rattle.grids.proofs.Any.{not_so, same_test, any_some, any_which}
use Rattle.grids.proofs.Places.{index_below, index_of_cell}
use Rattle.bricks.specs.Sums.{digit, bit}
use Rattle.bricks.specs.Bricks.{bricks, solid_in, mask_of, mask_at, brick_there, bit_there}
use Rattle.bricks.proofs.Sums.{sum_moved, sum_single, bit_number}
use Rattle.bricks.proofs.CellBits.{bit_small, bit_is, only_bit}
use Rattle.bricks.proofs.Totals.{mask_at_is}
use Rattle.bricks.specs.declared.Slot.{Slot}
use Rattle.refills.specs.Boxes.{brick_of, in_box, in_box_at, box_put}
use Rattle.refills.specs.Rows.{Boxed}
use Rattle.refills.specs.Refills.{refilled, holds_named, ones_in, differs, differs_in}
use Rattle.refills.proofs.Boxes.{in_is, is_in, passes, boxed_bricks}
use Rattle.refills.proofs.Keeping.{solid_inside_box, solid_outside_box}

-- ---- one number of a grid

module _ (n : Counts) (at : Slot) (box : Boxed n at at) where
  abbrev here : ℕ
  here = index n at.x at.y at.z

  -- the box has the number of its cell, and no other
  pub one_named : (k : ℕ) → in_box_at n at at k ≡ eqb k here
  one_named k = same_test (in_box_at n at at k) (eqb k here) only there
    where
      there : eqb k here ≡ true → in_box_at n at at k ≡ true
      there e = passes n at at box at.x at.y at.z k (record { across = omega arith; up = omega arith; deep = omega arith }) (eqb-true k here e)

      only : in_box_at n at at k ≡ true → eqb k here ≡ true
      only e =
          let i = is_in at at _ _ _ e in
          let dx = i.across in
          let dy = i.up in
          let dz = i.deep in
          let ex : k % n.nx ≡ at.x = omega arith in
          let ey : k / n.nx % n.ny ≡ at.y = omega arith in
          let ez : k / (n.nx * n.ny) ≡ at.z = omega arith in
          eq-eqb k here (sym (index_of_cell n k) ∙ (λ i. index n (ex i) (ey i) (ez i)))

  pub cell_below : (l : List ℕ) → Shaped n (length l) → here < length l
  cell_below l s =
      let x = box.x in
      let y = box.y in
      let z = box.z in
      subst (λ (t : ℕ). here < t) (sym s.bytes_are) (index_below n at.x at.y at.z (omega arith) (omega arith) (omega arith))

  -- so a list put into it is one store
  pub put_one : (f : ℕ → ℕ) (l : List ℕ) (v : ℕ) → here < length l → v ≡ f here → set l here v ≡ box_put n at at f l
  put_one f l v below is = is_tabulate _ (length l) 0 (set l here v) (length-set l here v) (λ k _. each k)
    where
      each : (k : ℕ) → get_or (set l here v) k 0 ≡ cond (in_box_at n at at k) (f k) (get_or l k 0)
      each k =
          elim (ℕ_discrete k here) [
            | yes e ↦ rw (one_named k, eq-eqb k here e, e) (get_or-set_same l here v 0 below ∙ is)
            | no ne ↦ rw (one_named k, ne_eqb k here ne) (get_or-set_other l here k v 0 ne)
          ]

-- ---- its brick

module _ (n : Counts) (at : Slot) (box : Boxed n at at) where
  abbrev there : ℕ
  there = brick_there n at.x at.y at.z

  pub there_below : there < size (bricks n)
  there_below =
      let few = boxed_bricks n at at box in
      let x = few.x in
      let y = few.y in
      let z = few.z in
      index_below (bricks n) (at.x / 4) (at.y / 4) (at.z / 4) (omega arith) (omega arith) (omega arith)

  -- the masks of the named bricks are that of this one
  pub one_sum : (m : List ℕ) → ones_in n at at m ≡ ones (get_or m there 0)
  unfolding ones_in
  one_sum m =
      sum_single (holds_named n at at) (λ k. ones (get_or m k 0)) (size (bricks n)) there there_below (one_named (bricks n) (brick_of at)
      (boxed_bricks n at at box))

  pub one_differs : (l m : List ℕ) → differs_in n at at l m ≡ differs n l m there
  unfolding differs_in
  one_differs l m = same_test (any test (size (bricks n))) (differs n l m there) down up
    where
      test : ℕ → Bool
      test k = holds_named n at at k && differs n l m k

      down : any test (size (bricks n)) ≡ true → differs n l m there ≡ true
      down e =
          let (k, lt, t) = any_which test (size (bricks n)) e in
          let (named, wrong) = and_both (holds_named n at at k) _ t in
          let is = eqb-true k there (sym (one_named (bricks n) (brick_of at) (boxed_bricks n at at box) k) ∙ named) in
          subst (λ (j : ℕ). differs n l m j ≡ true) is wrong

      up : differs n l m there ≡ true → any test (size (bricks n)) ≡ true
      up wrong =
          any_some test (size (bricks n)) there there_below
          (rw (one_named (bricks n) (brick_of at) (boxed_bricks n at at box) there, eq-eqb there there refl) wrong)

  -- ---- its mask, with the cell's bit turned

  abbrev bit_here : ℕ
  bit_here = bit_there at.x at.y at.z

  abbrev bits : List ℕ → ℕ → Bool
  bits l = solid_in n l (at.x / 4) (at.y / 4) (at.z / 4)

  -- the mask of the brick's number is that of its coordinates
  pub there_is : (l : List ℕ) → mask_at n l there ≡ mask_of n l (at.x / 4) (at.y / 4) (at.z / 4)
  there_is l =
      let few = boxed_bricks n at at box in
      let x = few.x in
      let y = few.y in
      mask_at_is n l (at.x / 4) (at.y / 4) (at.z / 4) (omega arith) (omega arith)

  -- no other bit has the cell
  one_bit : (b : ℕ) → in_box at at (4 * (at.x / 4) + b % 4) (4 * (at.y / 4) + b / 4 % 4) (4 * (at.z / 4) + b / 16) ≡ true → b ≡ bit_here
  one_bit b e =
      let i = is_in at at _ _ _ e in
      let ix = i.across in
      let iy = i.up in
      let iz = i.deep in
      only_bit at.x at.y at.z b (omega arith) (omega arith) (omega arith)

  module _ (l : List ℕ) (s : Shaped n (length l)) (byte : ℕ) where
    abbrev next : List ℕ
    next = refilled n at at byte l

    bit_now : bits next bit_here ≡ solid byte
    bit_now =
        let x = box.x in
        let y = box.y in
        let z = box.z in
        bit_is n next at.x at.y at.z
        ∙ solid_inside_box n at at byte l s at.x at.y at.z (omega arith) (omega arith) (omega arith)
        (in_is at at at.x at.y at.z (record { across = omega arith; up = omega arith; deep = omega arith }))

    bit_other : (b : ℕ) → (b ≡ bit_here → ⊥) → bits next b ≡ bits l b
    bit_other b ne = solid_outside_box n at at byte l s _ _ _ (not_so (in_box at at _ _ _) (λ e. ne (one_bit b e)))

    -- the mask with its bit turned is that of the bytes after
    pub mask_turned :
        (mask turned : ℕ) → mask ≡ mask_of n l (at.x / 4) (at.y / 4) (at.z / 4) →
        turned + digit (bit mask bit_here) * 2 ^ bit_here ≡ mask + digit (solid byte) * 2 ^ bit_here → turned ≡ mask_of n next (at.x / 4) (at.y / 4)
        (at.z / 4)
    unfolding mask_of
    mask_turned mask turned e moved =
        let was : bit mask bit_here ≡ bits l bit_here = ap (λ (t : ℕ). bit t bit_here) e ∙ bit_number (bits l) 64 bit_here (bit_small at.x at.y
        at.z) in
        let others = sum_moved (λ b. digit (bits next b) * 2 ^ b) (λ b. digit (bits l b) * 2 ^ b) 64 bit_here (bit_small at.x at.y at.z)
        (λ b _ ne.
        ap (λ (t : Bool). digit t * 2 ^ b) (bit_other b ne)) in
        add_right_cancel (digit (bits l bit_here) * 2 ^ bit_here)
        (ap (λ (t : Bool). turned + digit t * 2 ^ bit_here) (sym was) ∙ moved
        ∙ ap₂ (λ (t : ℕ) (u : Bool). t + digit u * 2 ^ bit_here) e (sym bit_now) ∙ sym others)
