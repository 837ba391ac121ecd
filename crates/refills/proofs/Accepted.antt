-- What an accepted refill says, from its contract; and that a refusal before 13 is never 13. Assumes nothing.
use Rattle.std.specs.Prelude.{Ok, Err}
use Prim.Native.Nat.{ℕ, ◌<◌}
use native.Mathlib.Decide.{dec_lt}
use native.Mathlib.Omega.{arith}
use mathlib.Core.Path.{◌≡◌, refl, sym, subst, ap, ◌∙◌}
use mathlib.Core.Bool.{Bool, true, false, cond, not}
use mathlib.Core.List.{List}
use lib.ListN.{length, get_or, set, get_or-eq_default}
use lib.Seq.{set-get_or}
use lib.Dec.{ltb, eqb}
use borrow.Author.Tests.{eqb-true}
use Rattle.cells.specs.declared.Axis.TheVariants.{X, Y, Z}
use Rattle.cells.specs.declared.Cell.{Cell}
use Rattle.cells.specs.declared.Counts.{Counts}
use Rattle.cells.specs.declared.End.{End}
use Rattle.cells.specs.declared.End.TheVariants.{P, Q}
use Rattle.cells.specs.declared.Refusal.TheVariants.{Count, Bytes, OffGrid, Room, Stale, Corners}
use Rattle.cells.specs.Checks.{Verdict, ◌then◌, by_verdict}
use Rattle.cells.specs.Refusals.{told}
use Rattle.cells.proofs.Tabulate.{is_tabulate}
use Rattle.cells.proofs.Checks.{by_fine, fine_first, fine_rest, passed, NotBy, not_then, not_first, not_when}
use Rattle.grids.specs.Grid.{bad_count, size, count_check, shape, byte_index, solid}
use Rattle.grids.specs.Inside.{off_axis, grid_check}
use Rattle.grids.proofs.Any.{or_neither}
use Rattle.grids.proofs.Marking.{SameSolid}
use Rattle.bricks.specs.declared.Slot.{Slot}
use Rattle.bricks.specs.Bricks.{bricks, mask_at}
use Rattle.bricks.specs.Builds.{bricks_check}
use Rattle.bricks.proofs.CellBits.{masks_alike}
use Rattle.bricks.proofs.Bricked.{brick_below}
use Rattle.refills.specs.Boxes.{corner, in_box_at, box_put}
use Rattle.refills.specs.Rows.{Boxed}
use Rattle.refills.specs.Refills.{holds_named, refilled, remasked, ones_in, moved, crossed, box_check, differs_in, stale, stale_check, Refills, Sets}
use Rattle.refills.proofs.Boxes.{put_long, put_inside, put_outside, brick_holds}
use Rattle.refills.proofs.Checked.{counts_shaped, boxed}
use Rattle.refills.proofs.Keeping.{total_fits, agrees}
use Rattle.refills.proofs.Single.{one_named, put_one, cell_below}

-- the verdict is fine, and what the three equations then say
pub record Accepted (n : Counts) (low high : Cell) (byte : ℕ) (l m : List ℕ) (total t : ℕ) (l' m' : List ℕ) : Type 0 where
  pub checked : box_check n (length l) (length m) low high ≡ Ok tt
  pub right : stale n (corner low) (corner high) l m total ≡ false
  pub bytes : l' ≡ refilled n (corner low) (corner high) byte l
  pub masks : m' ≡ remasked n (corner low) (corner high) l' m
  pub total_is : t ≡ moved n (corner low) (corner high) m m' total

pub accepted_says :
    (n : Counts) (low high : Cell) (byte : ℕ) (l m : List ℕ) (total t : ℕ) (l' m' : List ℕ) → Refills n low high byte l m total (Ok t) l' m' →
    Accepted n low high byte l m total t l' m'
accepted_says n low high byte l m total t l' m' c =
    let lo = corner low in
    let hi = corner high in
    let first = box_check n (length l) (length m) low high in
    let v = first then stale_check n lo hi l m total in
    let (fine, is) = by_fine Err v (Ok (moved n lo hi m (remasked n lo hi (refilled n lo hi byte l) m) total))
    (λ r no. let z : ◌≡◌ {A = ℕ} 0 1 = cc no in omega arith) (sym c.says) in
    let bytes : l' ≡ refilled n lo hi byte l = c.bytes ∙ ap (by_verdict (λ r. l) (refilled n lo hi byte l)) fine in
    let anew : m' ≡ remasked n lo hi (refilled n lo hi byte l) m = c.masks ∙ ap (by_verdict (λ r. m) (remasked n lo hi
    (refilled n lo hi byte l) m)) fine in
    let sum : moved n lo hi m (remasked n lo hi (refilled n lo hi byte l) m) total ≡ t = cc is in
    record {
      checked = fine_first first _ fine;
      right = passed _ _ (fine_rest first _ fine);
      bytes = bytes;
      masks = anew ∙ ap (λ (q : List ℕ). remasked n lo hi q m) (sym bytes);
      total_is = sym sum ∙ ap (λ (q : List ℕ). moved n lo hi m q total) (sym anew);
    }

-- ---- an accepted refill of cells whose solidity stays

module _ (n : Counts) (low high : Cell) (byte : ℕ) (l m : List ℕ) (total t : ℕ) (l' m' : List ℕ) (a : Accepted n low high byte l m total t l' m')
    (kind : (i : ℕ) → i < length l → in_box_at n (corner low) (corner high) i ≡ true → solid byte ≡ solid (get_or l i 0)) where
  abbrev lo : Slot
  lo = corner low

  abbrev hi : Slot
  hi = corner high

  alike : SameSolid l' l
  unfolding refilled
  alike =
      record {
        long = ap length a.bytes ∙ put_long n lo hi (λ _. byte) l;
        alike = λ i. ap (λ (q : List ℕ). solid (get_or q i 0)) a.bytes ∙ at_byte i;
      }
    where
      at_byte : (i : ℕ) → solid (get_or (box_put n lo hi (λ _. byte) l) i 0) ≡ solid (get_or l i 0)
      at_byte i = elim (dec_lt i (length l)) [
        | yes lt ↦ by_box (in_box_at n lo hi i) lt refl
        | no ge ↦ ap solid (get_or-eq_default (box_put n lo hi (λ _. byte) l) 0 (omega (arith, put_long n lo hi (λ _. byte) l)) ∙ sym
            (get_or-eq_default l 0 (omega arith)))
      ]
        where
          by_box : (b : Bool) → i < length l → in_box_at n lo hi i ≡ b → solid (get_or (box_put n lo hi (λ _. byte) l) i 0) ≡ solid (get_or l i 0)
          by_box true lt e = ap solid (put_inside n lo hi (λ _. byte) l i lt e) ∙ kind i lt e
          by_box false lt e = ap solid (put_outside n lo hi (λ _. byte) l i lt e)

  -- the masks stay
  pub same_masks : m' ≡ m
  unfolding remasked stale
  same_masks = a.masks ∙ sym (is_tabulate _ (length m) 0 m refl (λ k _. as_was k (holds_named n lo hi k) refl))
    where
      none : differs_in n lo hi l m ≡ false
      none = (or_neither (differs_in n lo hi l m) _ a.right).0

      as_was : (k : ℕ) (b : Bool) → holds_named n lo hi k ≡ b → get_or m k 0 ≡ cond (holds_named n lo hi k) (mask_at n l' k) (get_or m k 0)
      as_was k true e =
          let box = boxed n (length l) (length m) low high a.checked in
          let (x, y, z, i, at) = brick_holds n lo hi box k e in
          let bx = box.x in
          let by = box.y in
          let bz = box.z in
          let dx = i.across in
          let dy = i.up in
          let dz = i.deep in
          let lt = subst (λ (j : ℕ). j < size (bricks n)) at (brick_below n x y z (omega arith) (omega arith) (omega arith)) in
          rw e (agrees n lo hi l m none k lt e ∙ sym (masks_alike n l' l alike k))
      as_was k false e = rw e refl

  -- and the total
  pub same_total : t ≡ total
  unfolding stale
  same_total =
      let (_, bad) = or_neither (differs_in n lo hi l m) _ a.right in
      let (few, _) = total_fits total (ones_in n lo hi m) (size n) bad in
      a.total_is ∙ ap (λ (q : List ℕ). moved n lo hi m q total) same_masks ∙ omega arith

-- ---- an accepted set

module _ (n : Counts) (cell : Cell) (byte : ℕ) (l m : List ℕ) (total t : ℕ) (l' m' : List ℕ) (c : Sets n cell byte l m total (Ok t) l' m') where
  a : Accepted n cell cell byte l m total t l' m'
  a = accepted_says n cell cell byte l m total t l' m' c

  box : Boxed n (corner cell) (corner cell)
  box = boxed n (length l) (length m) cell cell a.checked

  below : byte_index n cell < length l
  below = cell_below n (corner cell) box l (counts_shaped n (length l) (length m) cell cell a.checked)

  -- one byte is stored
  pub one_byte : l' ≡ set l (byte_index n cell) byte
  unfolding refilled
  one_byte = a.bytes ∙ sym (put_one n (corner cell) box (λ _. byte) l byte below refl)

  -- where the cell's solidity stays, no mask moves, nor the total
  pub same_cell : solid byte ≡ solid (get_or l (byte_index n cell) 0) → (m' ≡ m) × (t ≡ total)
  same_cell same =
      let kind : (i : ℕ) → i < length l → in_box_at n (corner cell) (corner cell) i ≡ true → solid byte ≡ solid (get_or l i 0) = λ i lt e. same ∙ ap (λ
      (k : ℕ). solid (get_or l k 0)) (sym (eqb-true i _ (sym (one_named n (corner cell) box i) ∙ e))) in
      (same_masks n cell cell byte l m total t l' m' a kind, same_total n cell cell byte l m total t l' m' a kind)

  pub same_bytes : byte ≡ get_or l (byte_index n cell) 0 → l' ≡ l
  same_bytes e = one_byte ∙ ap (λ (v : ℕ). set l (byte_index n cell) v) e ∙ set-get_or l (byte_index n cell) 0

-- ---- 13 comes from the masks and the total alone

ends_not : (e : End) (n : Counts) (c : Cell) → NotBy 13 (grid_check e n c)
ends_not e n c =
    not_first 13 (off_axis c.x n.nx) (OffGrid e X) _ (λ q. omega (arith, q))
    (not_first 13 (off_axis c.y n.ny) (OffGrid e Y) _ (λ q. omega (arith, q))
    (not_when 13 (off_axis c.z n.nz) (OffGrid e Z) (λ q. omega (arith, q))))

counts_not : (n : Counts) → NotBy 13 (count_check n)
unfolding count_check
counts_not n =
    not_first 13 (bad_count n.nx) (Count X) _ (λ q. omega (arith, q))
    (not_first 13 (bad_count n.ny) (Count Y) _ (λ q. omega (arith, q)) (not_when 13 (bad_count n.nz) (Count Z) (λ q. omega (arith, q))))

bricks_not : (n : Counts) (bytes lent : ℕ) → NotBy 13 (bricks_check n bytes lent)
unfolding bricks_check shape
bricks_not n bytes lent =
    not_then 13 (shape n bytes) _
    (not_then 13 (count_check n) _ (counts_not n) (not_when 13 (not (eqb bytes (size n))) Bytes (λ q. omega (arith, q))))
    (not_when 13 (ltb lent (size (bricks n))) Room (λ q. omega (arith, q)))

box_not : (n : Counts) (bytes lent : ℕ) (low high : Cell) → NotBy 13 (box_check n bytes lent low high)
unfolding box_check
box_not n bytes lent low high =
    not_then 13 (bricks_check n bytes lent) _ (bricks_not n bytes lent)
    (not_then 13 (grid_check P n low) _ (ends_not P n low)
    (not_then 13 (grid_check Q n high) _ (ends_not Q n high) (not_when 13 (crossed low high) Corners (λ q. omega (arith, q)))))

-- a refusal 13 says that they do not agree
pub stale_says :
    (n : Counts) (low high : Cell) (byte : ℕ) (l m : List ℕ) (total : ℕ) (l' m' : List ℕ) → Refills n low high byte l m total
    (Err Stale) l' m' →
    stale n (corner low) (corner high) l m total ≡ false → ⊥
stale_says n low high byte l m total l' m' c right =
    go (box_check n (length l) (length m) low high) (box_not n (length l) (length m) low high) _ (rw right at c.says)
  where
    go : (v : Verdict) → NotBy 13 v → (x : ℕ) → Err Stale ≡ by_verdict Err (Ok x) (v then (Ok tt)) → ⊥
    go (Ok _) other x e = let z : ◌≡◌ {A = ℕ} 0 1 = cc e in omega arith
    go (Err r) other x e = let same : Stale ≡ r = cc e in other (sym (ap (λ u. (told u).number) same))
