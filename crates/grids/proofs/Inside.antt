-- What lies inside a grid: its coordinates and bytes, and that just the ends inside pass refusal 5. Assumes nothing.
use Rattle.std.specs.Prelude.{Ok}
use mathlib.Core.Path.{◌≡◌, sym, ◌∙◌, subst}
use mathlib.Core.Bool.{false}
use Prim.Native.Nat.{ℕ, ◌^◌, ◌≤◌, ◌<◌}
use native.Mathlib.Omega.{arith}
use lib.Dec.{T}
use lib.IntN.{ℤ, pos, nat_abs}
use lib.Signed.{lt_z, le_z, non_neg}
use mir.Syntax.{w32}
use mir.Val.{Fits}
use Rattle.cells.specs.declared.Axis.{Axis}
use Rattle.cells.specs.declared.Axis.TheVariants.{X, Y, Z}
use Rattle.cells.specs.declared.End.{End}
use Rattle.cells.specs.declared.End.TheVariants.{P, Q}
use Rattle.cells.specs.declared.Cell.{Cell}
use Rattle.cells.specs.declared.Counts.{Counts}
use Rattle.cells.specs.declared.Refusal.TheVariants.{OffGrid}
use Rattle.cells.specs.Checks.{refuse_when}
use Rattle.cells.specs.Touching.{on}
use Rattle.cells.proofs.Checks.{fine_first, fine_rest, passed}
use Rattle.cells.proofs.Signed.{up, dn, same_number, one_sided, abs_is, lt_z_false, le_z_false, le_lt_z, lt_le_z}
use Rattle.cells.proofs.Machine.{held}
use Rattle.cells.proofs.Held.{held_nat, cast_32}
use Rattle.grids.specs.Grid.{shape, index, cell_at, byte_index}
use Rattle.grids.specs.Inside.{count_on, off_axis, InGrid, grid_check, walk_check, Shaped}
use Rattle.grids.proofs.Any.{or_neither}
use Rattle.grids.proofs.Places.{cell_at_index, index_below}

-- ---- the test of a coordinate that is not below 0 by what is left of it without the count

-- ---- inside

-- a coordinate inside an axis, by parts
pub inside_parts : (z : ℤ) (count : ℕ) → off_axis z count ≡ false → (dn z ≡ 0) × (up z < count)
inside_parts z count h =
    let (lo, hi) = or_neither (lt_z z (pos 0)) (le_z (pos count) z) h in
    let o = one_sided z in
    let a = lt_z_false z (pos 0) lo in
    let b = le_z_false (pos count) z hi in
    (omega arith, omega arith)

pub parts_inside : (z : ℤ) (count : ℕ) → dn z ≡ 0 → up z < count → off_axis z count ≡ false
parts_inside z count d u = simp (le_lt_z z (pos 0) (omega arith), lt_le_z (pos count) z (omega arith))

-- a coordinate inside an axis, as a natural number
pub inside_below : (z : ℤ) (count : ℕ) → off_axis z count ≡ false → nat_abs z < count
inside_below z count h = let (d, u) = inside_parts z count h in omega (arith, abs_is z)

pub counts_most : (n : Counts) {bytes : ℕ} → Shaped n bytes → (a : Axis) → count_on n a ≤ 1024
counts_most n s X = s.x.most
counts_most n s Y = s.y.most
counts_most n s Z = s.z.most

-- a coordinate inside an axis of a grid is such a number
module _ (z : ℤ) (count : ℕ) (most : count ≤ 1024) (h : off_axis z count ≡ false) where
  pub inside_nat : z ≡ pos (nat_abs z)
  inside_nat = same_number z (pos (nat_abs z)) (omega (arith, abs_is z, inside_parts z count h))

  inside_small : nat_abs z < 2 ^ 31
  inside_small = omega (arith, abs_is z, inside_parts z count h)

  pub inside_held : held z ≡ z
  inside_held = held_nat z (nat_abs z) inside_nat inside_small ∙ sym inside_nat

  pub inside_cast : T (non_neg (held z)) × Fits w32 (nat_abs (held z))
  inside_cast = cast_32 z (nat_abs z) inside_nat inside_small

-- its byte is one of the grid's
pub byte_below : (n : Counts) (bytes : ℕ) → Shaped n bytes → (c : Cell) → InGrid n c → byte_index n c < bytes
byte_below n bytes s c h =
    subst (λ b. byte_index n c < b) (sym s.bytes_are)
    (index_below n (nat_abs c.x) (nat_abs c.y) (nat_abs c.z) (inside_below c.x n.nx (h.inside X))
    (inside_below c.y n.ny (h.inside Y)) (inside_below c.z n.nz (h.inside Z)))

-- a cell of the grid is the cell of its index
pub record Indexed (n : Counts) (bytes : ℕ) (c : Cell) : Type 0 where
  pub below : index n (nat_abs c.x) (nat_abs c.y) (nat_abs c.z) < bytes
  pub is : cell_at n (index n (nat_abs c.x) (nat_abs c.y) (nat_abs c.z)) ≡ c

-- a coordinate that is not below 0 is its absolute value
not_negative : (z : ℤ) (count : ℕ) → off_axis z count ≡ false → (pos (nat_abs z) ≡ z) × (nat_abs z < count)
not_negative z count h =
    let (d, u) = inside_parts z count h in
    (same_number (pos (nat_abs z)) z (omega (arith, abs_is z)), omega (arith, abs_is z))

pub indexed : (n : Counts) (bytes : ℕ) (c : Cell) → Shaped n bytes → InGrid n c → Indexed n bytes c
indexed n bytes c s h =
    let (ex, x) = not_negative c.x n.nx (h.inside X) in
    let (ey, y) = not_negative c.y n.ny (h.inside Y) in
    let (ez, z) = not_negative c.z n.nz (h.inside Z) in
    record {
      below = rw s.bytes_are (index_below n (nat_abs c.x) (nat_abs c.y) (nat_abs c.z) x y z);
      is = cell_at_index n (nat_abs c.x) (nat_abs c.y) (nat_abs c.z) x y ∙ (λ i. record { x = ex i; y = ey i; z = ez i });
    }

-- ---- ends that passed

pub check_inside : (e : End) (n : Counts) (c : Cell) → grid_check e n c ≡ Ok tt → InGrid n c
check_inside e n c h =
    let x = fine_first (refuse_when (off_axis c.x n.nx) (OffGrid e X)) _ h in
    let yz = fine_rest (refuse_when (off_axis c.x n.nx) (OffGrid e X)) _ h in
    let y = fine_first (refuse_when (off_axis c.y n.ny) (OffGrid e Y)) _ yz in
    let z = fine_rest (refuse_when (off_axis c.y n.ny) (OffGrid e Y)) _ yz in
    record { inside = all (passed _ _ x) (passed _ _ y) (passed _ _ z) }
  where
    all : off_axis c.x n.nx ≡ false → off_axis c.y n.ny ≡ false → off_axis c.z n.nz ≡ false → (a : Axis) →
        off_axis (on c a) (count_on n a) ≡ false
    all x y z X = x
    all x y z Y = y
    all x y z Z = z

-- what an accepted walk knows
pub record Accepted (n : Counts) (bytes : ℕ) (p q : Cell) : Type 0 where
  pub shaped : shape n bytes ≡ Ok tt
  pub p_in : InGrid n p
  pub q_in : InGrid n q

pub accepted : (n : Counts) (bytes : ℕ) (p q : Cell) → walk_check n bytes p q ≡ Ok tt → Accepted n bytes p q
unfolding walk_check
accepted n bytes p q h =
    let ends = fine_rest (shape n bytes) _ h in
    record {
      shaped = fine_first (shape n bytes) _ h;
      p_in = check_inside P n p (fine_first (grid_check P n p) _ ends);
      q_in = check_inside Q n q (fine_rest (grid_check P n p) _ ends);
    }

-- and the other way: ends inside are not refused
inside_fine : (e : End) (n : Counts) (c : Cell) → InGrid n c → grid_check e n c ≡ Ok tt
inside_fine e n c h = rw (h.inside X, h.inside Y, h.inside Z)

pub walk_fine : (n : Counts) (bytes : ℕ) (p q : Cell) → Accepted n bytes p q → walk_check n bytes p q ≡ Ok tt
unfolding walk_check
walk_fine n bytes p q a = rw (a.shaped, inside_fine P n p a.p_in, inside_fine Q n q a.q_in)
