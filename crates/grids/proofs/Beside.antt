-- SCOPE G5 over natural coordinates: a cell that is not solid touches a solid one exactly when some cell of the grid at most 1 away on every
-- axis is solid. Assumes nothing.
use Prim.Native.Nat.{ℕ, ◌+◌, ◌*◌, ◌-◌, ◌/◌, ◌%◌, ◌≤◌, ◌<◌}
use native.Mathlib.Omega.{arith}
use mathlib.Core.Path.{◌≡◌, sym, subst, ap, ◌∙◌}
use mathlib.Core.Bool.{true, false, ◌&&◌, true≢false}
use mathlib.Core.List.{List}
use lib.IntN.{pos, ◌-ℤ◌}
use lib.ListN.{length, get_or}
use Rattle.cells.specs.declared.Axis.{Axis}
use Rattle.cells.specs.declared.Axis.TheVariants.{X, Y, Z}
use Rattle.cells.specs.declared.Cell.{Cell}
use Rattle.cells.specs.declared.Counts.{Counts}
use Rattle.cells.specs.Touching.{on, apart, axes_apart, Touches, touching}
use Rattle.cells.proofs.Signed.{abs_is, diff_is, one_sided}
use Rattle.cells.proofs.Touching.{and_both, touching_iff}
use Rattle.grids.specs.Grid.{index, cell_at, solid}
use Rattle.grids.specs.Marks.{touches_solid}
use Rattle.grids.proofs.Any.{any_some, any_which}
use Rattle.grids.specs.Inside.{Shaped}
use Rattle.grids.proofs.Places.{cell_at_index, index_of_cell, index_below, x_below, y_below, z_below}

-- the distance of two natural coordinates
pub apart_is : (a b : ℕ) → apart (pos a) (pos b) ≡ (a - b) + (b - a)
apart_is a b = omega (arith, abs_is (pos b -ℤ pos a), diff_is (pos b) (pos a), one_sided (pos b -ℤ pos a))

-- b is below n and at most 1 away from a
pub record Next (a b n : ℕ) : Type 0 where
  pub inside : b < n
  pub up : b ≤ a + 1
  pub down : a ≤ b + 1

-- some cell of the grid at most 1 away on every axis is solid
pub record SolidBeside (n : Counts) (l : List ℕ) (x y z : ℕ) : Type 0 where
  pub x' : ℕ
  pub y' : ℕ
  pub z' : ℕ
  pub on_x : Next x x' n.nx
  pub on_y : Next y y' n.ny
  pub on_z : Next z z' n.nz
  pub is_solid : solid (get_or l (index n x' y' z') 0) ≡ true

next_of : (a b n : ℕ) → b < n → apart (pos a) (pos b) ≤ 1 → Next a b n
next_of a b n h near =
    record { inside = h; up = omega (arith, apart_is a b); down = omega (arith, apart_is a b) }

next_apart : {a b n : ℕ} → Next a b n → apart (pos a) (pos b) ≤ 1
next_apart {a} {b} h = omega (arith, apart_is a b)

module _ (n : Counts) (l : List ℕ) (s : Shaped n (length l)) where
  -- what a touched cell has beside it
  pub touches_beside : (k i : ℕ) → touches_solid k n l (cell_at n i) ≡ true → SolidBeside n l (i % n.nx) (i / n.nx % n.ny) (i / (n.nx * n.ny))
  unfolding touches_solid
  touches_beside k i e =
      let (j, h, both) = any_which _ (length l) e in
      let (hard, near) = and_both _ _ both in
      let t = (touching_iff k (cell_at n i) (cell_at n j)).0 near in
      record {
        x' = j % n.nx;
        y' = j / n.nx % n.ny;
        z' = j / (n.nx * n.ny);
        on_x = next_of _ _ _ (x_below n (length l) s j h) (t.by_one X);
        on_y = next_of _ _ _ (y_below n (length l) s j h) (t.by_one Y);
        on_z = next_of _ _ _ (z_below n (length l) s j h) (t.by_one Z);
        is_solid = rw (index_of_cell n j) hard;
      }

  -- a solid cell beside one that is not solid touches it
  pub beside_touches : (i : ℕ) → solid (get_or l i 0) ≡ false → SolidBeside n l (i % n.nx) (i / n.nx % n.ny) (i / (n.nx * n.ny)) →
      touches_solid 3 n l (cell_at n i) ≡ true
  unfolding touches_solid
  beside_touches i soft b =
      any_some (λ j. solid (get_or l j 0) && touching 3 (cell_at n i) (cell_at n j)) (length l) j below
      (rw b.is_solid ((touching_iff 3 (cell_at n i) (cell_at n j)).1
      (rw (cell_at_index n b.x' b.y' b.z' b.on_x.inside b.on_y.inside) touch)))
    where
      j : ℕ
      j = index n b.x' b.y' b.z'

      below : j < length l
      below = subst (λ (t : ℕ). j < t) (sym s.bytes_are) (index_below n b.x' b.y' b.z' b.on_x.inside b.on_y.inside b.on_z.inside)

      there : Cell
      there = record { x = pos b.x'; y = pos b.y'; z = pos b.z' }

      by_one : (a : Axis) → apart (on (cell_at n i) a) (on there a) ≤ 1
      by_one X = next_apart b.on_x
      by_one Y = next_apart b.on_y
      by_one Z = next_apart b.on_z

      same : axes_apart (cell_at n i) there ≡ 0 → ⊥
      same e =
          let ex : i % n.nx ≡ b.x' = omega (arith, apart_is (i % n.nx) b.x') in
          let ey : i / n.nx % n.ny ≡ b.y' = omega (arith, apart_is (i / n.nx % n.ny) b.y') in
          let ez : i / (n.nx * n.ny) ≡ b.z' = omega (arith, apart_is (i / (n.nx * n.ny)) b.z') in
          true≢false (sym b.is_solid ∙ ap (λ (t : ℕ). solid (get_or l t 0)) (rw (sym ex, sym ey, sym ez) (index_of_cell n i)) ∙ soft)

      some : (m : ℕ) → (m ≡ 0 → ⊥) → 1 ≤ m
      some m ne = native.Mathlib.Nat.pos_of_ne-zero ne

      touch : Touches 3 (cell_at n i) there
      touch = record { by_one = by_one; differing = some _ same; within = omega arith }
