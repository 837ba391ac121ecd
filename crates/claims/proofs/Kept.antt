-- The claims about the counts that are kept, each from its laws. Assumes nothing.
use Rattle.std.specs.Prelude.{Ok, Err}
use Prim.Native.Nat.{ℕ, ◌+◌, ◌*◌, ◌/◌, ◌%◌, ◌≤◌, ◌<◌}
use native.Mathlib.Omega.{arith}
use mathlib.Core.Path.{◌≡◌, refl, sym, subst, ap, ◌∙◌}
use mathlib.Core.Bool.{true, false}
use mathlib.Core.List.{List}
use lib.Count.{ones}
use lib.IntN.{ℤ, pos, nat_abs}
use lib.ListN.{length, get_or}
use lib.Signed.{◌≤ℤ◌}
use Rattle.cells.specs.declared.Axis.TheVariants.{X, Y, Z}
use Rattle.cells.specs.declared.Cell.{Cell}
use Rattle.cells.specs.declared.Counts.{Counts}
use Rattle.cells.specs.declared.Refusal.{Refusal}
use Rattle.cells.specs.declared.Refusal.TheVariants.{Stale}
use Rattle.cells.specs.Checks.{◌then◌, by_verdict}
use Rattle.cells.proofs.Checks.{by_fine, by_refusal}
use Rattle.cells.proofs.Signed.{abs_is, ≤ℤ_is}
use Rattle.grids.specs.Grid.{count_check, shape, size, index, solid}
use Rattle.grids.specs.Inside.{off_axis, InGrid}
use Rattle.grids.specs.Marks.{any}
use Rattle.grids.proofs.Any.{not_so, or_neither}
use Rattle.grids.proofs.Inside.{inside_parts}
use Rattle.grids.proofs.Marking.{SameSolid}
use Rattle.grids.proofs.Places.{index_below, index_of_cell}
use Rattle.grids.proofs.Shapes.{shaped}
use Rattle.bricks.specs.declared.Slot.{Slot}
use Rattle.bricks.specs.Sums.{sum}
use Rattle.bricks.specs.Bricks.{bricks, mask_of, mask_at, solids}
use Rattle.bricks.specs.Builds.{bricks_check, built, Builds}
use Rattle.bricks.proofs.Bricked.{brick_below}
use Rattle.bricks.proofs.Building.{shape_fine, masks_lent, built_long, built_front, built_surplus}
use Rattle.bricks.proofs.Sums.{sum_same}
use Rattle.bricks.proofs.CellBits.{bit_small, cell_bit, no_cell_bit, mask_small, ones_set, masks_alike, solids_alike}
use Rattle.bricks.proofs.Totals.{ones_are_solids, ones_of_brick}
use Rattle.refills.specs.Boxes.{corner, brick_of, in_box, in_box_at}
use Rattle.refills.specs.Rows.{Boxed, In}
use Rattle.refills.specs.Refills.{refilled, holds_named, remasked, ones_in, moved, box_check, differs_in, stale, stale_check}
use Rattle.refills.proofs.Accepted.{Accepted, accepted_says, same_masks, same_total, one_byte, same_cell, same_bytes}
use Rattle.refills.proofs.Boxes.{in_is, is_in, in_box_index, brick_holds, holds_brick, put_long, put_inside, put_outside}
use Rattle.refills.proofs.Checked.{bricks_fine, low_in, high_in, counts_shaped, boxed}
use Rattle.refills.proofs.Keeping.{total_fits, agrees, anew_is, total_moves}
use Rattle.claims.specs.Kept.{KeptOnce, Masks, Built, BuildMeans, Named, HoldsNamed, Refilled, RefillMeans, SetMeans, WrongCounts}
use Rattle.claims.proofs.Grids.{one}

-- a total is no refusal
pub not_refused : (t : ℕ) (r : Refusal) → Err r ≡ Ok t → ⊥
not_refused t r e = let z : ◌≡◌ {A = ℕ} 0 1 = cc e in omega arith

pub not_total : (t : ℕ) (r : Refusal) → Ok t ≡ Err r → ⊥
not_total t r e = not_refused t r (sym e)

-- ---- one answer

pub kept_once : KeptOnce
kept_once =
    record {
      build = λ n l m r s a b p q. (one r s p.says q.says, one a b p.holds q.holds);
      refill = λ n low high byte l m total r s l' m' l'' m'' p q.
          (one r s p.says q.says, one l' l'' p.bytes q.bytes, one m' m'' p.masks q.masks);
      build_refused = λ n l m r a c.
          by_refusal Err (bricks_check n (length l) (length m)) (Ok (solids l)) (built n l m) (not_total _ r) (sym c.says)
          c.holds;
      refill_refused = λ n low high byte l m total r l' m' c.
          let lo = corner low in
          let hi = corner high in
          let v = box_check n (length l) (length m) low high then stale_check n lo hi l m total in
          let after = refilled n lo hi byte l in
          let t = Ok (moved n lo hi m (remasked n lo hi after m) total) in (
            by_refusal Err v t after (not_total _ r) (sym c.says) c.bytes,
            by_refusal Err v t (remasked n lo hi after m) (not_total _ r) (sym c.says) c.masks,
          );
      set = λ n cell byte l m total r l' m'. (λ c. c, λ c. c);
    }

-- ---- masks

pub masks : (n : Counts) (l : List ℕ) → Masks n l
masks n l =
    record {
      brick = λ x y z h. (refl, brick_below n x y z h.0 h.1 h.2);
      of_cell = λ x y z h. (bit_small x y z, cell_bit n l x y z h.0 h.1 h.2);
      of_no_cell = λ k b lt none. no_cell_bit n l k b lt (λ x y z hx hy hz. none x y z (hx, hy, hz));
      small = mask_small n l;
      ones_are = ones_set n l;
      each_brick = λ fine k lt. ones_of_brick n l k (shaped n (length l) fine) lt;
      altogether = λ fine. ones_are_solids n l (shaped n (length l) fine);
      decided = λ l'' long alike.
          let same : SameSolid l'' l = record { long = long; alike = alike } in (masks_alike n l'' l same, solids_alike n l'' l same);
    }

-- ---- a build

module _ (n : Counts) (l m : List ℕ) (t : ℕ) (m' : List ℕ) (c : Builds n l m (Ok t) m') where
  -- what is told of it: its tests are passed, and with them its total and its masks are those of the definition
  pub build_says : (bricks_check n (length l) (length m) ≡ Ok tt) × (t ≡ solids l) × (m' ≡ built n l m)
  build_says =
      let v = bricks_check n (length l) (length m) in
      let (fine, is) = by_fine Err v (Ok (solids l)) (not_refused t) (sym c.says) in
      (fine, cc is, c.holds ∙ ap (by_verdict (λ r. m) (built n l m)) fine)

  build_done : Built n l m t m'
  build_done =
      let (fine, total, there) = build_says in
      let room = masks_lent n (length l) (length m) fine in
      let front : (k : ℕ) → k < size (bricks n) → get_or m' k 0 ≡ mask_at n l k =
      λ k lt. ap (λ (q : List ℕ). get_or q k 0) there ∙ built_front n l m room k lt in
      record {
        long = ap length there ∙ built_long n l m;
        room = room;
        front = front;
        surplus = λ k ge lt. ap (λ (q : List ℕ). get_or q k 0) there ∙ built_surplus n l m k ge lt;
        fresh = total;
        by_ones = total ∙ sym (ones_are_solids n l (shaped n (length l) (shape_fine n (length l) (length m) fine)))
            ∙ sum_same _ _ (size (bricks n)) (λ k lt. sym (ap ones (front k lt)));
      }

pub build_means : (n : Counts) (l m : List ℕ) (t : ℕ) (m' : List ℕ) → BuildMeans n l m t m'
build_means n l m t m' = record { accepted = build_done n l m t m' }

-- ---- a refill

-- the cells of the box, by signed numbers and by natural ones
module _ (n : Counts) (low high : Cell) (lows : InGrid n low) (highs : InGrid n high) where
  axis_in : (a b : ℤ) (count x : ℕ) → off_axis a count ≡ false → off_axis b count ≡ false → (a ≤ℤ pos x) × (pos x ≤ℤ b) → (nat_abs a ≤ x) × (x ≤ nat_abs b)
  axis_in a b count x ina inb h =
      let (da, ua) = inside_parts a count ina in
      let (db, ub) = inside_parts b count inb in
      let ea = abs_is a in
      let eb = abs_is b in
      (omega (arith, (≤ℤ_is a (pos x)).0 h.0), omega (arith, (≤ℤ_is (pos x) b).0 h.1))

  in_axis : (a b : ℤ) (count x : ℕ) → off_axis a count ≡ false → off_axis b count ≡ false → (nat_abs a ≤ x) × (x ≤ nat_abs b) → (a ≤ℤ pos x) × (pos x ≤ℤ b)
  in_axis a b count x ina inb h =
      let (da, ua) = inside_parts a count ina in
      let (db, ub) = inside_parts b count inb in
      let ea = abs_is a in
      let eb = abs_is b in
      ((≤ℤ_is a (pos x)).1 (omega arith), (≤ℤ_is (pos x) b).1 (omega arith))

  named_in : (x y z : ℕ) → Named low high x y z → In (corner low) (corner high) x y z
  named_in x y z h =
      record {
        across = axis_in low.x high.x n.nx x (lows.inside X) (highs.inside X) h.0;
        up = axis_in low.y high.y n.ny y (lows.inside Y) (highs.inside Y) h.1;
        deep = axis_in low.z high.z n.nz z (lows.inside Z) (highs.inside Z) h.2;
      }

  in_named : (x y z : ℕ) → In (corner low) (corner high) x y z → Named low high x y z
  in_named x y z i = (
    in_axis low.x high.x n.nx x (lows.inside X) (highs.inside X) i.across,
    in_axis low.y high.y n.ny y (lows.inside Y) (highs.inside Y) i.up,
    in_axis low.z high.z n.nz z (lows.inside Z) (highs.inside Z) i.deep,
  )

-- the bricks that hold a cell of the box
module _ (n : Counts) (bytes lent : ℕ) (low high : Cell) (e : box_check n bytes lent low high ≡ Ok tt) where
  lows : InGrid n low
  lows = low_in n bytes lent low high e

  highs : InGrid n high
  highs = high_in n bytes lent low high e

  box : Boxed n (corner low) (corner high)
  box = boxed n bytes lent low high e

  pub holds_is : (k : ℕ) → HoldsNamed n low high k → (holds_named n (corner low) (corner high) k ≡ true) × (k < size (bricks n))
  holds_is k (x, y, z, named, at) =
      let i = named_in n low high lows highs x y z named in
      let bx = box.x in
      let by = box.y in
      let bz = box.z in
      let dx = i.across in
      let dy = i.up in
      let dz = i.deep in (
        holds_brick n (corner low) (corner high) box x y z k i at,
        subst (λ (j : ℕ). j < size (bricks n)) at (brick_below n x y z (omega arith) (omega arith) (omega arith)),
      )

  pub is_holds : (k : ℕ) → holds_named n (corner low) (corner high) k ≡ true → HoldsNamed n low high k
  is_holds k t = let (x, y, z, i, at) = brick_holds n (corner low) (corner high) box k t in (x, y, z, in_named n low high lows highs x y z i, at)

module _ (n : Counts) (low high : Cell) (byte : ℕ) (l m : List ℕ) (total t : ℕ) (l' m' : List ℕ) (a : Accepted n low high byte l m total t l' m') where
  abbrev lo : Slot
  lo = corner low

  abbrev hi : Slot
  hi = corner high

  refill_done : Refilled n low high byte l m total t l' m'
  unfolding refilled remasked stale
  refill_done =
      let s = counts_shaped n (length l) (length m) low high a.checked in
      let room = masks_lent n (length l) (length m) (bricks_fine n (length l) (length m) low high a.checked) in
      let (none, bad) = or_neither (differs_in n lo hi l m) _ a.right in
      let (few, most) = total_fits total (ones_in n lo hi m) (size n) bad in
      record {
        named = λ x y z h named.
            ap (λ (q : List ℕ). get_or q (index n x y z) 0) a.bytes
            ∙ put_inside n lo hi (λ _. byte) l (index n x y z) (cell_there x y z h)
            (in_box_index n lo hi x y z h.0 h.1 ∙ in_is lo hi x y z (named_in n low high lows' highs' x y z named));
        others = λ x y z h out.
            ap (λ (q : List ℕ). get_or q (index n x y z) 0) a.bytes
            ∙ put_outside n lo hi (λ _. byte) l (index n x y z) (cell_there x y z h)
            (in_box_index n lo hi x y z h.0 h.1
            ∙ not_so (in_box lo hi x y z) (λ e. out (in_named n low high lows' highs' x y z (is_in lo hi x y z e))));
        long = (
          ap length a.bytes ∙ put_long n lo hi (λ _. byte) l,
          ap length a.masks ∙ put_long (bricks n) (brick_of lo) (brick_of hi) (mask_at n l') m,
        );
        was = λ k holds. let (named, lt) = holds_is n (length l) (length m) low high a.checked k holds in agrees n lo hi l m none k lt named;
        anew = λ k holds.
            let (named, lt) = holds_is n (length l) (length m) low high a.checked k holds in
            ap (λ (q : List ℕ). get_or q k 0) a.masks ∙ anew_is n lo hi l' m room k lt named;
        elsewhere = λ k lt out.
            ap (λ (q : List ℕ). get_or q k 0) a.masks
            ∙ put_outside (bricks n) (brick_of lo) (brick_of hi) (mask_at n l') m k lt
            (not_so (holds_named n lo hi k) (λ e. out (is_holds n (length l) (length m) low high a.checked k e)));
        holds = λ k.
            (is_holds n (length l) (length m) low high a.checked k, λ h. (holds_is n (length l) (length m) low high a.checked k h).0);
        by_ones = ap (λ (u : ℕ). u + ones_in n lo hi m) a.total_is ∙ omega arith;
        by_fresh =
            ap (λ (u : ℕ). u + solids l) (a.total_is ∙ ap (λ (q : List ℕ). moved n lo hi m q total) (a.masks ∙ ap (λ
            (q : List ℕ). remasked n lo hi q m) a.bytes))
            ∙ total_moves n lo hi byte l s m total room a.right ∙ ap (λ (q : List ℕ). total + solids q) (sym a.bytes);
        between = (few, most);
        same_kind = λ kind.
            (same_masks n low high byte l m total t l' m' a (by_number kind), same_total n low high byte l m total t l' m' a (by_number kind));
      }
    where
      lows' : InGrid n low
      lows' = low_in n (length l) (length m) low high a.checked

      highs' : InGrid n high
      highs' = high_in n (length l) (length m) low high a.checked

      by_number :
          ((x y z : ℕ) → (x < n.nx) × (y < n.ny) × (z < n.nz) → Named low high x y z → solid byte ≡ solid (get_or l (index n x y z) 0)) →
          (i : ℕ) → i < length l → in_box_at n lo hi i ≡ true → solid byte ≡ solid (get_or l i 0)
      by_number kind i lt e =
          let s = counts_shaped n (length l) (length m) low high a.checked in
          let b = boxed n (length l) (length m) low high a.checked in
          let bx = b.x in
          let by = b.y in
          let bz = b.z in
          let h = is_in lo hi _ _ _ e in
          let dx = h.across in
          let dy = h.up in
          let dz = h.deep in
          kind (i % n.nx) (i / n.nx % n.ny) (i / (n.nx * n.ny)) (omega arith, omega arith, omega arith) (in_named n low high lows' highs' _ _ _ h)
          ∙ ap (λ (k : ℕ). solid (get_or l k 0)) (index_of_cell n i)

      cell_there : (x y z : ℕ) → (x < n.nx) × (y < n.ny) × (z < n.nz) → index n x y z < length l
      cell_there x y z h =
          subst (λ (q : ℕ). index n x y z < q) (sym (counts_shaped n (length l) (length m) low high a.checked).bytes_are)
          (index_below n x y z h.0 h.1 h.2)

pub refill_means :
    (n : Counts) (low high : Cell) (byte : ℕ) (l m : List ℕ) (total t : ℕ) (l' m' : List ℕ) → RefillMeans n low high byte l m total t l' m'
refill_means n low high byte l m total t l' m' =
    record { accepted = λ c. refill_done n low high byte l m total t l' m' (accepted_says n low high byte l m total t l' m' c) }

pub set_means : (n : Counts) (cell : Cell) (byte : ℕ) (l m : List ℕ) (total t : ℕ) (l' m' : List ℕ) → SetMeans n cell byte l m total t l' m'
set_means n cell byte l m total t l' m' =
    record {
      one_byte = λ c. one_byte n cell byte l m total t l' m' c;
      same_kind = λ c same. same_cell n cell byte l m total t l' m' c same;
      same_byte = λ c e.
          let (masks, total_is) = same_cell n cell byte l m total t l' m' c (ap solid e) in
          (same_bytes n cell byte l m total t l' m' c e, masks, total_is);
    }

-- ---- wrong answers

pub wrong_counts : WrongCounts
unfolding bricks_check shape count_check box_check stale differs_in any ones_in sum mask_of solids refilled remasked built ones
wrong_counts =
    record {
      near_counted = λ m' c. let z : ◌≡◌ {A = ℕ} 6 1 = cc c.says in omega arith;
      surplus_cleared = λ r c. let z : ◌≡◌ {A = ℕ} 0 7 = ap (λ (q : List ℕ). get_or q 1 0) c.holds in omega arith;
      recounted = λ l' m' c. let z : ◌≡◌ {A = ℕ} 1 2 = cc c.says in omega arith;
      left_standing = λ l' m' c. let z : ◌≡◌ {A = ℕ} 0 1 = cc c.says in omega arith;
      wrong_way = λ l' m' c. let z : ◌≡◌ {A = ℕ} 2 0 = cc c.says in omega arith;
      refused_kept = λ r l' m' c. not_refused 0 r c.says;
      high_corner_left_out = λ r m' c. let z : ◌≡◌ {A = ℕ} 0 2 = ap (λ (q : List ℕ). get_or q 1 0) c.bytes in omega arith;
      one_bit_compared = λ t l' m' c. not_total t Stale c.says;
      beyond_the_grid = λ t l' m' c. not_total t Stale c.says;
      elsewhere_refused = λ r l' m' c. not_refused 1 r c.says;
    }
