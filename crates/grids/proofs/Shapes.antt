-- What a fine shape says: the bounds of every later call. Assumes nothing.
use Rattle.std.specs.Prelude.{Ok}
use Prim.Native.Nat.{ℕ, suc, ◌+◌, ◌*◌, ◌≤◌, ◌<◌}
use native.Mathlib.Nat.{mul-le-mul, mul-le-mul_left, mul_assoc, pos_of_ne-zero}
use native.Mathlib.Omega.{arith}
use mathlib.Core.Path.{◌≡◌, refl, ◌∙◌}
use mathlib.Core.Bool.{Bool, true, false, true≢false, ◌||◌}
use lib.Dec.{ltb, eqb}
use borrow.Author.Tests.{ltb-false, eqb-true, eqb-false, not-false}
use Rattle.cells.specs.declared.Axis.TheVariants.{X, Y}
use Rattle.cells.specs.declared.Counts.{Counts}
use Rattle.cells.specs.declared.Refusal.TheVariants.{Count}
use Rattle.cells.specs.Checks.{refuse_when}
use Rattle.cells.proofs.Checks.{fine_first, fine_rest, each_fine, passed}
use Rattle.grids.specs.Grid.{bad_count, size, count_check, shape}
use Rattle.grids.specs.Inside.{Good, Counted, Shaped}

pub good_count : (n : ℕ) → bad_count n ≡ false → Good n
good_count n h = go (eqb n 0) refl h
  where
    go : (b : Bool) → eqb n 0 ≡ b → (b || ltb 1024 n) ≡ false → Good n
    go true e h = absurd (true≢false h)
    go false e h = record { some = pos_of_ne-zero (eqb-false n 0 e); most = ltb-false 1024 n h }

-- ---- a fine shape

pub counted : (n : Counts) → count_check n ≡ Ok tt → Counted n
unfolding count_check
counted n e =
    let (x, yz) = each_fine (refuse_when (bad_count n.nx) (Count X)) _ e in
    let (y, z) = each_fine (refuse_when (bad_count n.ny) (Count Y)) _ yz in
    record { x = good_count n.nx (passed _ _ x); y = good_count n.ny (passed _ _ y); z = good_count n.nz (passed _ _ z) }

-- a grid whose shape is fine has passed the test of the counts
pub shape_counts : (n : Counts) (bytes : ℕ) → shape n bytes ≡ Ok tt → count_check n ≡ Ok tt
unfolding shape
shape_counts n bytes e = fine_first (count_check n) _ e

pub shaped : (n : Counts) (bytes : ℕ) → shape n bytes ≡ Ok tt → Shaped n bytes
unfolding shape
shaped n bytes e =
    let g = counted n (fine_first (count_check n) _ e) in
    let gx = g.x in
    let gy = g.y in
    let gz = g.z in
    let b = eqb-true bytes (size n) (not-false _ (passed _ _ (fine_rest (count_check n) _ e))) in
    let per : n.nx * n.ny ≤ 1024 * 1024 = mul-le-mul gx.most gy.most in
    record {
      x = gx;
      y = gy;
      z = gz;
      bytes_are = b;
      by_rows = b ∙ mul_assoc n.nx n.ny n.nz;
      layer_most = per;
      rows_most = mul-le-mul gy.most gz.most;
      size_most = mul-le-mul per gz.most;
      layer_some = mul-le-mul gx.some gy.some;
    }

-- row r lies within the bytes
pub row_within : (n : Counts) (bytes r : ℕ) → Shaped n bytes → r < n.ny * n.nz → n.nx * r + n.nx ≤ bytes
row_within n bytes r s h =
    let rows : n.nx * suc r ≤ n.nx * (n.ny * n.nz) = mul-le-mul_left n.nx h in
    omega (arith, s.by_rows)
