-- A row's window tells which of the row's cells touch a solid one. Assumes nothing.
use Prim.Native.Nat.{ℕ, zero, suc, ◌+◌, ◌*◌, ◌/◌, ◌%◌, ◌≤◌, ◌<◌}
use native.Mathlib.Nat.{le_refl, mul-le-mul_left, mod-lt, div-lt_iff_lt-mul, mul_comm}
use native.Mathlib.Numerals.{add-one}
use native.Mathlib.Omega.{arith}
use native.Mathlib.Decide.{dec_lt}
use mathlib.Core.Path.{◌≡◌, sym, ap, ◌∙◌}
use mathlib.Core.Bool.{Bool, true, false, ◌&&◌, true≢false, ◌||◌}
use mathlib.Core.Logic.{⊎_elim}
use mathlib.Core.List.{List}
use lib.ListN.{length, get_or}
use Rattle.cells.specs.declared.Counts.{Counts}
use Rattle.grids.specs.Grid.{index, clear, solid}
use Rattle.marks.specs.declared.Three.{Three}
use Rattle.marks.specs.Rows.{of_three, lowest, highest, nearby, starts, Within, in_rows, in_column, Shows, SolidWhere, Framed, beside, gap_by}
use Rattle.grids.proofs.Any.{or_true, or_either, any_zero, any_more}
use Rattle.grids.specs.Inside.{Shaped}
use Rattle.grids.proofs.Beside.{Next, SolidBeside}

-- ---- one of three

module _ (p : ℕ → Bool) (a b c : ℕ) where
  three_either : {T : Type 0} → (p a ≡ true → T) → (p b ≡ true → T) → (p c ≡ true → T) → of_three p a b c ≡ true → T
  three_either f g h e = ⊎_elim (λ d. ⊎_elim f g (or_either (p a) (p b) d)) h (or_either (p a || p b) (p c) e)

  -- a number from a to c is one of the three where these lie close
  three_some : (k : ℕ) → a ≤ k → k ≤ c → b ≤ a + 1 → c ≤ b + 1 → p k ≡ true → of_three p a b c ≡ true
  three_some k lo hi ab bc e =
      elim (dec_lt k b) [
        | yes lt ↦ rw (moved a (omega arith))
        | no ge ↦ elim (dec_lt b k) [
          | yes gt ↦ rw (moved c (omega arith)) (or_true (p a || p b))
          | no le ↦ rw (moved b (omega arith))
              (ap (λ (t : Bool). t || p c) (or_true (p a)))
        ]
      ]
    where
      moved : (m : ℕ) → k ≡ m → p m ≡ true
      moved m q = rw (sym q) e

nearby_which : (p : ℕ → Bool) (y n : ℕ) → y < n → nearby p y n ≡ true → (k : ℕ) × Next y k n × (p k ≡ true)
nearby_which p y n h =
    three_either p (lowest y) y (highest y n)
    (λ e. (lowest y, record { inside = omega arith; up = omega arith; down = omega arith }, e))
    (λ e. (y, record { inside = h; up = omega arith; down = omega arith }, e))
    (λ e. (highest y n, record { inside = omega arith; up = omega arith; down = omega arith }, e))

nearby_some : (p : ℕ → Bool) (y n k : ℕ) → Next y k n → p k ≡ true → nearby p y n ≡ true
nearby_some p y n k h =
    let a = h.inside in let b = h.up in let c = h.down in
    three_some p (lowest y) y (highest y n) k (omega arith) (omega arith) (omega arith) (omega arith)

nearby_same : (p q : ℕ → Bool) (y n : ℕ) → ((k : ℕ) → p k ≡ q k) → nearby p y n ≡ nearby q y n
nearby_same p q y n same = rw (same (lowest y), same y, same (highest y n))

-- ---- rows beside a row, layers beside a layer

pub starts_within : (from per y n : ℕ) → y < n → Within (starts from per y n) per (from + per * n)
starts_within from per y n h = record { low_fits = fits (lowest y) (omega arith); mid_fits = fits y h; high_fits = fits (highest y n) (omega arith) }
  where
    fits : (k : ℕ) → k < n → from + per * k + per ≤ from + per * n
    fits k lt = let upto : per * suc k ≤ per * n = mul-le-mul_left per lt in omega arith

-- fewer bytes of each row lie within more
pub within_as : {rows : Three} {nx bytes : ℕ} (fewer more : ℕ) → fewer ≤ nx → bytes ≤ more → Within rows nx bytes → Within rows fewer more
within_as fewer more le ge h =
    let l = h.low_fits in
    let m = h.mid_fits in
    let t = h.high_fits in
    record { low_fits = omega arith; mid_fits = omega arith; high_fits = omega arith }

-- ---- what a window shows

-- p, then q too
pub solid_then : {p : ℕ → Bool} (q : ℕ → Bool) {nx : ℕ} {a b : List ℕ} → SolidWhere p nx a → Shows (λ x. solid (get_or a (x + 1) 0) || q x) nx a b →
    SolidWhere (λ x. p x || q x) nx b
solid_then q h k = λ x lt. k.over x lt ∙ ap (λ (t : Bool). t || q x) (h x lt)

-- the same of two passes from one window to the next
pub shows_then : {p : ℕ → Bool} (q : ℕ → Bool) {nx : ℕ} {a b c : List ℕ} → Shows p nx a b → Shows (λ x. solid (get_or b (x + 1) 0) || q x) nx b c →
    Shows (λ x. p x || q x) nx a c
shows_then q h k =
    record {
      long = k.long ∙ h.long;
      over = λ x lt. k.over x lt ∙ ap (λ (t : Bool). t || q x) (h.over x lt);
      before = k.before ∙ h.before;
      after = λ j lt. k.after j lt ∙ h.after j lt;
    }

pub no_gap_yet : (w l : List ℕ) (from : ℕ) → gap_by w l from 0 ≡ false
unfolding gap_by
no_gap_yet w l from = any_zero _

pub one_cell_more : (w l : List ℕ) (from x : ℕ) → gap_by w l from (x + 1) ≡ gap_by w l from x || (clear (get_or l (from + x) 0) && beside w x)
unfolding gap_by
one_cell_more w l from x = any_more _ x

-- ---- the rows beside row r

module _ (n : Counts) (l : List ℕ) (s : Shaped n (length l)) (r : ℕ) (below : r < n.ny * n.nz) where
  -- it is row y of layer z
  pub row_y : r % n.ny < n.ny
  row_y = mod-lt r s.y.some

  pub row_z : r / n.ny < n.nz
  row_z = (div-lt_iff_lt-mul s.y.some).1 (rw (mul_comm n.nz n.ny) below)

  -- the layers beside its layer lie within the bytes, and in each of them the rows beside it
  pub layers_within : Within (starts 0 (n.nx * n.ny) (r / n.ny) n.nz) (n.nx * n.ny) (length l)
  layers_within = within_as _ _ (le_refl _) (omega (arith, s.bytes_are)) (starts_within 0 (n.nx * n.ny) (r / n.ny) n.nz row_z)

  pub rows_within : (from : ℕ) → from + n.nx * n.ny ≤ length l → Within (starts from n.nx (r % n.ny) n.ny) n.nx (length l)
  rows_within from h = within_as _ _ (le_refl _) h (starts_within from n.nx (r % n.ny) n.ny row_y)

  -- three rows of three layers
  pub column_is : (x : ℕ) → nearby (λ z. in_rows l (starts (0 + n.nx * n.ny * z) n.nx (r % n.ny) n.ny) x) (r / n.ny) n.nz ≡ in_column n l r x
  unfolding in_column in_rows
  column_is x = nearby_same _ _ (r / n.ny) n.nz (λ z. nearby_same _ _ (r % n.ny) n.ny (λ y. ap (λ (i : ℕ). solid (get_or l i 0)) (place y z)))
    where
      place : (y z : ℕ) → 0 + n.nx * n.ny * z + n.nx * y + x ≡ index n x y z
      place y z = omega arith

  -- the byte of a cell is solid
  solid_at : (x z y : ℕ) → Bool
  solid_at x z y = solid (get_or l (index n x y z) 0)

  column_beside : (x x' : ℕ) → Next x x' n.nx → in_column n l r x' ≡ true → SolidBeside n l x (r % n.ny) (r / n.ny)
  unfolding in_column solid_at
  column_beside x x' near e =
      let (z, hz, f) = nearby_which (λ z. nearby (solid_at x' z) (r % n.ny) n.ny) (r / n.ny) n.nz row_z e in
      let (y, hy, g) = nearby_which (solid_at x' z) (r % n.ny) n.ny row_y f in
      record { x' = x'; y' = y; z' = z; on_x = near; on_y = hy; on_z = hz; is_solid = g }

  beside_column : {x : ℕ} (b : SolidBeside n l x (r % n.ny) (r / n.ny)) → in_column n l r b.x' ≡ true
  unfolding in_column solid_at
  beside_column b =
      nearby_some (λ z. nearby (solid_at b.x' z) (r % n.ny) n.ny) (r / n.ny) n.nz b.z' b.on_z
      (nearby_some (solid_at b.x' b.z') (r % n.ny) n.ny b.y' b.on_y b.is_solid)

  module _ (w : List ℕ) (sees : SolidWhere (in_column n l r) n.nx w) (framed : Framed n.nx w) where
    -- where a window has a solid byte, a column of the row has one
    window_has : (k : ℕ) → k ≤ n.nx + 1 → solid (get_or w k 0) ≡ true → (x : ℕ) × (k ≡ x + 1) × (x < n.nx) × (in_column n l r x ≡ true)
    window_has zero le e = absurd (true≢false (sym e ∙ framed.left))
    window_has (suc x) le e = elim (dec_lt x n.nx)
        [ yes lt ↦ (x, omega arith, lt, sym (sees x lt) ∙ rw (add-one x) e) | no ge ↦ absurd (none (omega arith)) ]
      where
        none : suc x ≡ n.nx + 1 → ⊥
        none q = true≢false (sym e ∙ rw q framed.right)

    pub window_beside : (x : ℕ) → x < n.nx → beside w x ≡ true → SolidBeside n l x (r % n.ny) (r / n.ny)
    window_beside x lt =
        three_either (λ k. solid (get_or w k 0)) x (x + 1) (x + 2) (at x (omega arith) (omega arith)) (at (x + 1) (omega arith) (omega arith))
        (at (x + 2) (omega arith) (omega arith))
      where
        at : (k : ℕ) → x ≤ k → k ≤ x + 2 → solid (get_or w k 0) ≡ true → SolidBeside n l x (r % n.ny) (r / n.ny)
        at k lo hi g =
            let (x', e, inside, c) = window_has k (omega arith) g in
            column_beside x x' (record { inside = inside; up = omega arith; down = omega arith }) c

    pub beside_window : (x : ℕ) → SolidBeside n l x (r % n.ny) (r / n.ny) → beside w x ≡ true
    beside_window x b =
        let up = b.on_x.up in let down = b.on_x.down in
        three_some (λ k. solid (get_or w k 0)) x (x + 1) (x + 2) (b.x' + 1) (omega arith) (omega arith) (omega arith) (omega arith)
        (sees b.x' b.on_x.inside ∙ beside_column b)
