-- The spot of a place: across a face lies the spot of the next place, every sum on the way fits, and every spot has its byte. Assumes nothing.
use mathlib.Core.Path.{◌≡◌, refl, sym, ap, ap₂, ◌∙◌, subst, fun_ext}
use mathlib.Core.Bool.{Bool, true, false, cond}
use mathlib.Core.List.{List}
use Prim.Native.Nat.{ℕ, ◌+◌, ◌*◌, ◌≤◌, ◌<◌}
use native.Mathlib.Omega.{arith}
use native.Mathlib.Nat.{add-zero, lt_of_lt_of_le}
use native.Mathlib.Numerals.{add-one}
use lib.IntN.{ℤ, pos, negsuc, nat_abs, ◌+ℤ◌, ◌-ℤ◌}
use lib.Signed.{le_z}
use lib.ListN.{get_or}
use Rattle.cells.specs.declared.Cell.{Cell}
use Rattle.cells.specs.declared.Counts.{Counts}
use Rattle.cells.specs.Touching.{on}
use Rattle.cells.specs.Small.{Small}
use Rattle.cells.proofs.Signed.{dn, same_number, one_sided, sum_is, diff_is, abs_is, le_le_z}
use Rattle.cells.proofs.Machine.{parts_small, nat_small}
use Rattle.lines.specs.Steps.{Axis, X, Y, Z, Steps, at, total}
use Rattle.lines.specs.Towards.{towards}
use Rattle.lines.specs.Crossings.{next, place}
use Rattle.lines.specs.Lines.{differences, cell_of, six_cell, InLimit, in_limit}
use Rattle.lines.specs.Decisions.{moved_values}
use Rattle.lines.proofs.Steps.{bump}
use Rattle.lines.proofs.Fractions.{place_start, place_suc, place_on, place_total}
use Rattle.lines.proofs.Centres.{centres_good}
use Rattle.lines.proofs.Cells.{limited_difference, cell_on, six_is}
use Rattle.lines.proofs.Signs.{lowered_moves}
use Rattle.tripod.specs.Tripod.{NextFace}
use Rattle.tripod.proofs.Laws.{lowered_small, doubled_small}
use Rattle.grids.specs.Grid.{index, cell_at, byte_of, byte_index}
use Rattle.grids.specs.Inside.{Shaped, count_on, InGrid, off_axis}
use Rattle.grids.proofs.Places.{x_below, y_below, z_below}
use Rattle.grids.proofs.Inside.{inside_parts, counts_most, byte_below, indexed}
use Rattle.walks.proofs.Inside.{cell_inside}
use Rattle.routes.specs.declared.Route.{Route}
use Rattle.routes.specs.declared.Spot.{Spot}
use Rattle.routes.specs.Route.{stride, strides, stride_on, Planned, preference, course, SpotAt, HasByte, byte_of_spot, crossed_spot, CanCross}

-- ---- cells of the grid

-- a coordinate inside an axis lies within the limit
near_limit : (z : ℤ) (count : ℕ) → count ≤ 1024 → off_axis z count ≡ false → in_limit z ≡ true
near_limit z count most h =
    let (d, u) = inside_parts z count h in
    simp (le_le_z (negsuc 8191) z (omega arith), le_le_z z (pos 8191) (omega arith))

pub grid_limit : (n : Counts) {bytes : ℕ} → Shaped n bytes → (c : Cell) → InGrid n c → InLimit c
grid_limit n s c h = record { limit = λ a. near_limit (on c a) (count_on n a) (counts_most n s a) (h.inside a) }

-- the cell of a byte lies within the limit
pub byte_limit : (n : Counts) (bytes : ℕ) → Shaped n bytes → (i : ℕ) → i < bytes → InLimit (cell_at n i)
byte_limit n bytes s i h = record { limit = at_axis }
  where
    within : (v : ℕ) → v < 1024 → in_limit (pos v) ≡ true
    within v lt = simp (le_le_z (pos v) (pos 8191) (omega arith))

    at_axis : (a : Axis) → in_limit (on (cell_at n i) a) ≡ true
    at_axis X = within _ (lt_of_lt_of_le (x_below n bytes s i h) s.x.most)
    at_axis Y = within _ (lt_of_lt_of_le (y_below n bytes s i h) s.y.most)
    at_axis Z = within _ (lt_of_lt_of_le (z_below n bytes s i h) s.z.most)

-- ---- a step of the byte's place

-- from i to i', w further on or back
abbrev moved_by : Bool → (w i i' : ℕ) → Type 0
moved_by true w i i' = i' ≡ i + w
moved_by false w i i' = i ≡ i' + w

-- a coordinate moves by one
coordinate_next : (p q : ℤ) (count i : ℕ) → off_axis p count ≡ false → off_axis (towards p q i) count ≡ false →
    off_axis (towards p q (i + 1)) count ≡ false → moved_by (le_z p q) 1 (nat_abs (towards p q i)) (nat_abs (towards p q (i + 1)))
coordinate_next p q count i hp h h' =
    go (le_z p q) (inside_parts p count hp).0 (inside_parts (towards p q i) count h).0 (inside_parts (towards p q (i + 1)) count h').0
  where
    go :
        (t : Bool) → dn p ≡ 0 → dn (cond t (p +ℤ pos i) (p -ℤ pos i)) ≡ 0 → dn (cond t (p +ℤ pos (i + 1)) (p -ℤ pos (i + 1))) ≡ 0 →
        moved_by t 1 (nat_abs (cond t (p +ℤ pos i) (p -ℤ pos i))) (nat_abs (cond t (p +ℤ pos (i + 1)) (p -ℤ pos (i + 1))))
    go true d e f = omega (arith, abs_is (p +ℤ pos i), abs_is (p +ℤ pos (i + 1)), sum_is p (pos i), sum_is p (pos (i + 1)))
    go false d e f = omega (arith, abs_is (p -ℤ pos i), abs_is (p -ℤ pos (i + 1)), diff_is p (pos i), diff_is p (pos (i + 1)))

-- and the byte's place by its stride
x_moves : (t : Bool) (n : Counts) (x x' y z : ℕ) → moved_by t 1 x x' → moved_by t 1 (index n x y z) (index n x' y z)
x_moves true n x x' y z e = rw e (omega arith)
x_moves false n x x' y z e = rw e (omega arith)

y_moves : (t : Bool) (n : Counts) (x y y' z : ℕ) → moved_by t 1 y y' → moved_by t n.nx (index n x y z) (index n x y' z)
y_moves true n x y y' z e = rw e (omega arith)
y_moves false n x y y' z e = rw e (omega arith)

z_moves : (t : Bool) (n : Counts) (x y z z' : ℕ) → moved_by t 1 z z' → moved_by t (n.nx * n.ny) (index n x y z) (index n x y z')
z_moves true n x y z z' e = rw e (omega arith)
z_moves false n x y z z' e = rw e (omega arith)

stride_moves : (t : Bool) (w i i' : ℕ) → moved_by t w i i' → pos i +ℤ cond t (pos w) (pos 0 -ℤ pos w) ≡ pos i'
stride_moves true w i i' e = same_number _ _ (omega (arith, sum_is (pos i) (pos w)))
stride_moves false w i i' e = same_number _ _ (omega (arith, sum_is (pos i) (pos 0 -ℤ pos w), diff_is (pos 0) (pos w)))

pub stride_small : (p q : ℤ) (w : ℕ) → w ≤ 1048576 → Small (stride p q w)
stride_small p q w h = go (le_z p q)
  where
    go : (t : Bool) → Small (cond t (pos w) (pos 0 -ℤ pos w))
    go true = nat_small w (omega arith)
    go false =
        let s = diff_is (pos 0) (pos w) in
        let o = one_sided (pos 0 -ℤ pos w) in
        parts_small (pos 0 -ℤ pos w) (omega arith) (omega arith)

module _ (bytes : ℕ) (k : Route) (plan : Planned bytes k) where
  abbrev D : Steps
  D = differences k.p k.q

  pub p_limit : InLimit k.p
  p_limit = grid_limit k.n plan.shaped k.p plan.p_in

  pub q_limit : InLimit k.q
  q_limit = grid_limit k.n plan.shaped k.q plan.q_in

  pub short_at : (a : Axis) → D a ≤ 16383
  short_at = limited_difference k.p k.q p_limit q_limit

  -- a place between the ends
  inside : (t : Steps) → ((a : Axis) → t a ≤ D a) → InGrid k.n (cell_of k.p k.q t)
  inside = cell_inside k.n k.p k.q plan.p_in plan.q_in

  -- one coordinate of it
  coordinate : (t : Steps) (n : Axis) → ((a : Axis) → bump t n a ≤ D a) → (a : Axis) → bump t n a ≡ t a + 1 →
      moved_by (le_z (on k.p a) (on k.q a)) 1 (nat_abs (towards (on k.p a) (on k.q a) (t a))) (nat_abs (towards (on k.p a) (on k.q a) (t a + 1)))
  coordinate t n le a e =
      coordinate_next (on k.p a) (on k.q a) (count_on k.n a) (t a) (plan.p_in.inside a)
      (subst (λ z. off_axis z (count_on k.n a) ≡ false) (cell_on k.p k.q t a) ((inside t (λ b. omega (arith, le b))).inside a))
      (subst (λ z. off_axis z (count_on k.n a) ≡ false) (cell_on k.p k.q (bump t n) a ∙ ap (towards (on k.p a) (on k.q a)) e)
      ((inside (bump t n) le).inside a))

  -- a coordinate that stays
  kept : (t : Steps) (a : Axis) → nat_abs (towards (on k.p a) (on k.q a) (t a)) ≡ nat_abs (towards (on k.p a) (on k.q a) (t a + 0))
  kept t a = ap (λ i. nat_abs (towards (on k.p a) (on k.q a) i)) (sym (add-zero (t a)))

  -- the byte's place across a face along n
  pub index_next : (t : Steps) (n : Axis) → ((a : Axis) → bump t n a ≤ D a) →
      pos (byte_index k.n (cell_of k.p k.q t)) +ℤ stride_on (strides k.n k.p k.q) n ≡ pos
      (byte_index k.n (cell_of k.p k.q (bump t n)))
  index_next t X le =
      stride_moves (le_z k.p.x k.q.x) 1 _ _ (x_moves (le_z k.p.x k.q.x) k.n _ _ _ _ (coordinate t X le X refl))
      ∙ ap₂ (λ y z. pos (index k.n (nat_abs (towards k.p.x k.q.x (t X + 1))) y z)) (kept t Y) (kept t Z)
  index_next t Y le =
      stride_moves (le_z k.p.y k.q.y) k.n.nx _ _ (y_moves (le_z k.p.y k.q.y) k.n _ _ _ _ (coordinate t Y le Y refl))
      ∙ ap₂ (λ x z. pos (index k.n x (nat_abs (towards k.p.y k.q.y (t Y + 1))) z)) (kept t X) (kept t Z)
  index_next t Z le =
      stride_moves (le_z k.p.z k.q.z) (k.n.nx * k.n.ny) _ _ (z_moves (le_z k.p.z k.q.z) k.n _ _ _ _ (coordinate t Z le Z refl))
      ∙ ap₂ (λ x y. pos (index k.n x y (nat_abs (towards k.p.z k.q.z (t Z + 1))))) (kept t X) (kept t Y)

  -- across a face along n lies the spot of the place one step further
  pub spot_crossed : (t : Steps) (s : Spot) (n : Axis) → ((a : Axis) → bump t n a ≤ D a) → SpotAt k t s → SpotAt k (bump t n) (crossed_spot k n s)
  spot_crossed t s n le h =
      record {
        index = ap₂ (λ i w. i +ℤ stride_on w n) h.index plan.moves ∙ index_next t n le;
        value = ap₂ (λ d e. moved_values d n e) plan.twice h.value ∙ sym (lowered_moves k.order D t n);
      }

  few : bytes ≤ 1073741824
  few = omega (arith, plan.shaped.bytes_are, plan.shaped.size_most)

  -- every spot has its byte
  pub spot_byte : (t : Steps) (s : Spot) → ((a : Axis) → t a ≤ D a) → SpotAt k t s → HasByte bytes s.at
  spot_byte t s le h =
      record {
        index = byte_index k.n (cell_of k.p k.q t);
        is = h.index;
        below = byte_below k.n bytes plan.shaped (cell_of k.p k.q t) (inside t le);
        few = few;
      }

  -- whose number tells the cell
  pub spot_cell : (t : Steps) (at : ℤ) → ((a : Axis) → t a ≤ D a) → at ≡ pos (byte_index k.n (cell_of k.p k.q t)) →
      cell_at k.n (nat_abs at) ≡ cell_of k.p k.q t
  spot_cell t at le is =
      ap (λ z. cell_at k.n (nat_abs z)) is ∙ (indexed k.n bytes (cell_of k.p k.q t) plan.shaped (inside t le)).is

  -- it is the cell's
  pub byte_is : (l : List ℕ) (t : Steps) (s : Spot) → SpotAt k t s → byte_of_spot l s ≡ byte_of k.n l (cell_of k.p k.q t)
  byte_is l t s h = ap (λ z. get_or l (nat_abs z) 0) h.index

  -- and every sum of a step fits
  pub can_cross : (t : Steps) (s : Spot) → ((a : Axis) → t a ≤ D a) → SpotAt k t s → CanCross s k
  can_cross t s le h =
      record {
        at = rw h.index (nat_small _ (lt_of_lt_of_le (byte_below k.n bytes plan.shaped (cell_of k.p k.q t) (inside t le)) few));
        x = rw plan.moves (stride_small k.p.x k.q.x 1 (omega arith));
        y = rw plan.moves (stride_small k.p.y k.q.y k.n.nx (omega (arith, plan.shaped.x.most)));
        z = rw plan.moves (stride_small k.p.z k.q.z (k.n.nx * k.n.ny) plan.shaped.layer_most);
        values = rw h.value (lowered_small D t short_at le k.order);
        twice = rw plan.twice (doubled_small D short_at);
      }

  -- ---- the 6-line

  -- P has number 0
  pub at_first : (s : Spot) → SpotAt k (at 0 0 0) s → SpotAt k (place (course k) 0) s
  at_first s = subst (λ t. SpotAt k t s) (fun_ext no_steps)
    where
      no_steps : (a : Axis) → at 0 0 0 a ≡ place (course k) 0 a
      no_steps X = sym (place_start (course k) X)
      no_steps Y = sym (place_start (course k) Y)
      no_steps Z = sym (place_start (course k) Z)

  -- the byte of a number's spot is that of its cell
  pub six_byte : (l : List ℕ) (m : ℕ) (s : Spot) → SpotAt k (place (course k) m) s →
      byte_of_spot l s ≡ byte_of k.n l (six_cell (preference k) k.p k.q m)
  six_byte l m s h = byte_is l (place (course k) m) s h ∙ ap (byte_of k.n l) (sym (six_is (preference k) k.p k.q m))

  pub place_within : (m : ℕ) → m ≤ total D → (a : Axis) → place (course k) m a ≤ D a
  place_within m le = (place_on (course k) (centres_good (preference k) D) m le).1

  -- across the next face lies the next place
  pub six_turn : (m : ℕ) (s : Spot) (n : Axis) → m < total D → SpotAt k (place (course k) m) s → NextFace s.e n →
      SpotAt k (place (course k) (m + 1)) (crossed_spot k n s)
  six_turn m s n lt h face =
      let t = place (course k) m in
      let e : n ≡ next (course k) t = face.comes_first k.order D t (place_within m (omega arith)) (omega (arith, place_total (course k) m)) h.value in
      let is : bump t n ≡ place (course k) (m + 1) = ap (bump t) e ∙ sym (place_suc (course k) m) ∙ ap (place (course k)) (sym (add-one m)) in
      subst (λ u. SpotAt k u (crossed_spot k n s)) is (spot_crossed t s n (λ a. subst (λ u. u a ≤ D a) (sym is) (place_within (m + 1) (omega arith) a)) h)
