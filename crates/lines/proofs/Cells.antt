-- The 6-line and the 26-line as cells: step space carried over to the lattice, for every two ends and any order of preference. Assumes nothing.
use mathlib.Core.Path.{◌≡◌, refl, sym, ap, ap₂, ◌∙◌, fun_ext}
use mathlib.Core.Bool.{Bool, true, false, cond}
use Prim.Native.Nat.{ℕ, zero, suc, ◌+◌, ◌-◌, ◌*◌, ◌≤◌, ◌<◌}
use native.Mathlib.Omega.{arith}
use lib.IntN.{ℤ, pos, negsuc, ◌+ℤ◌, ◌-ℤ◌}
use lib.Signed.{le_z}
use lib.ListN.{length, get_or}
use Rattle.cells.specs.declared.Cell.{Cell}
use Rattle.cells.specs.declared.Face.TheVariants as Face
use Rattle.cells.specs.Faces.{put_on, back_across}
use Rattle.cells.specs.Tabulate.{tabulate}
use Rattle.cells.specs.Touching.{on, apart, differ, Touches}
use Rattle.cells.proofs.Tabulate.{tabulate_length, tabulate_at}
use Rattle.cells.proofs.Touching.{and_both}
use Rattle.cells.proofs.Signed.{up, dn, one_sided, diff_is, abs_is, le_z_true}
use Rattle.lines.specs.Steps.{Axis, X, Y, Z, Steps, total, same}
use Rattle.lines.specs.Crossings.{Course, upper, next, place}
use Rattle.lines.specs.Preference.{Preference, y_z_x}
use Rattle.lines.specs.Towards.{towards}
use Rattle.lines.specs.Lines.{differences, cell_of, face_along, centres, six_cell, six_line, longest}
use Rattle.lines.specs.Lines.{place_26, cell_26, line_26, in_limit, InLimit, number_26}
use Rattle.lines.specs.Segment.{Share, InClosed, InOpen}
use Rattle.lines.proofs.Steps.{bump, total_bump, same_self, Cmp, here, other, cmp}
use Rattle.lines.proofs.Merge.{Next, Choice}
use Rattle.lines.proofs.Fractions.{Before, Good, InClosedSteps, InOpenSteps, next_rule, place_start, place_total}
use Rattle.lines.proofs.Fractions.{place_suc, place_on, place_end, start_touched, entered_touched, none_left_out}
use Rattle.lines.proofs.Centres.{centres_good, longest_most, is_place_26, skipped_26, moved_start, moved_end, moved_longest, moved_grows, moved_by_one}
use Rattle.lines.proofs.Towards.{towards_start, towards_end, towards_apart, towards_back, Passed, open_passed, passed_closed, centre_open}

-- ---- cells by axis

pub same_cell : (c d : Cell) → ((a : Axis) → on c a ≡ on d a) → c ≡ d
same_cell c d e = λ i. record { x = e X i; y = e Y i; z = e Z i }

pub cell_on : (p q : Cell) (t : Steps) (a : Axis) → on (cell_of p q t) a ≡ towards (on p a) (on q a) (t a)
cell_on p q t X = refl
cell_on p q t Y = refl
cell_on p q t Z = refl

-- two places of a line are as far apart as their steps
pub cells_apart : (p q : Cell) (s t : Steps) (a : Axis) → apart (on (cell_of p q s) a) (on (cell_of p q t) a) ≡ (s a - t a) + (t a - s a)
cells_apart p q s t a = ap₂ apart (cell_on p q s a) (cell_on p q t a) ∙ towards_apart (on p a) (on q a) (s a) (t a)

-- the steps from P to a place of the line
pub steps_made : (p q : Cell) (t : Steps) → differences p (cell_of p q t) ≡ t
steps_made p q t = fun_ext (λ a. ap₂ apart (sym (towards_start (on p a) (on q a))) (cell_on p q t a) ∙ towards_apart (on p a) (on q a) 0 (t a)
    ∙ less_nothing (t a))
  where
    less_nothing : (i : ℕ) → (0 - i) + (i - 0) ≡ i
    less_nothing i = omega arith

-- the face of an axis, crossed back from the place that lies one step along this axis, leads to the place itself
pub stepped_back : (p q : Cell) (t : Steps) (n : Axis) → back_across (face_along p q n) (cell_of p q (bump t n)) ≡ cell_of p q t
stepped_back p q t n = go (le_z (on p n) (on q n)) (towards_back (on p n) (on q n) (t n))
  where
    c : Cell
    c = cell_of p q (bump t n)

    here_on : on c n ≡ towards (on p n) (on q n) (t n + 1)
    here_on = cell_on p q (bump t n) n ∙ ap (λ k. towards (on p n) (on q n) (t n + k)) (same_self n)

    others : (a : Axis) → same n a ≡ 0 → on c a ≡ on (cell_of p q t) a
    others a e = cell_on p q (bump t n) a ∙ ap (towards (on p a) (on q a)) (omega (arith, e)) ∙ sym (cell_on p q t a)

    put : (n : Axis) (v : ℤ) → v ≡ on (cell_of p q t) n → ((a : Axis) → same n a ≡ 0 → on c a ≡ on (cell_of p q t) a) → put_on c n v ≡ cell_of p q t
    put X v e o = λ i. record { x = e i; y = o Y refl i; z = o Z refl i }
    put Y v e o = λ i. record { x = o X refl i; y = e i; z = o Z refl i }
    put Z v e o = λ i. record { x = o X refl i; y = o Y refl i; z = e i }

    go : (b : Bool) →
        cond b (towards (on p n) (on q n) (t n + 1) -ℤ pos 1) (towards (on p n) (on q n) (t n + 1) +ℤ pos 1) ≡ towards (on p n) (on q n) (t n) →
        back_across (cond b (Face.Plus n) (Face.Minus n)) c ≡ cell_of p q t
    go true e = put n _ (ap (λ v. v -ℤ pos 1) here_on ∙ e ∙ sym (cell_on p q t n)) others
    go false e = put n _ (ap (λ v. v +ℤ pos 1) here_on ∙ e ∙ sym (cell_on p q t n)) others

pub cell_start : (p q : Cell) (t : Steps) → ((a : Axis) → t a ≡ 0) → cell_of p q t ≡ p
cell_start p q t z = same_cell (cell_of p q t) p (λ a. cell_on p q t a ∙ ap (towards (on p a) (on q a)) (z a) ∙ towards_start (on p a) (on q a))

pub cell_end : (p q : Cell) (t : Steps) → ((a : Axis) → t a ≡ differences p q a) → cell_of p q t ≡ q
cell_end p q t z = same_cell (cell_of p q t) q (λ a. cell_on p q t a ∙ ap (towards (on p a) (on q a)) (z a) ∙ towards_end (on p a) (on q a))

-- a cell has one place
pub cell_tells : (p q : Cell) (s t : Steps) → cell_of p q s ≡ cell_of p q t → (a : Axis) → s a ≡ t a
cell_tells p q s t e a =
    let z : apart (on (cell_of p q s) a) (on (cell_of p q t) a) ≡ apart (on (cell_of p q s) a) (on (cell_of p q s) a) = ap
    (λ c. apart (on (cell_of p q s) a) (on c a)) (sym e) in
    omega (arith, cells_apart p q s t a, cells_apart p q s s a)

-- a place that is k steps further on, at most one on each axis, with k from 1 on, touches by k
pub further_touches :
    (p q : Cell) (s t : Steps) (k : ℕ) → ((a : Axis) → (s a ≤ t a) × (t a ≤ s a + 1)) → total s + 1 ≤ total t → total t ≤ total s + k →
    Touches k (cell_of p q s) (cell_of p q t)
further_touches p q s t k one some most =
    let x = moved X in
    let y = moved Y in
    let z = moved Z in
    record { by_one = λ a. omega (arith, cells_apart p q s t a, one a); differing = omega arith; within = omega arith }
  where
    moved : (a : Axis) → s a + differ (on (cell_of p q s) a) (on (cell_of p q t) a) ≡ t a
    moved a = omega (arith, cells_apart p q s t a, one a)

module _ (r : Preference) (p q : Cell) where
  abbrev D : Steps
  D = differences p q

  abbrev C : Course
  C = centres r D

  abbrev G : Good C
  G = centres_good r D

  -- cell number n is the cell of place number n
  pub six_is : (n : ℕ) → six_cell r p q n ≡ cell_of p q (place C n)
  unfolding six_cell
  six_is n = refl

  pub six_line_is : six_line r p q ≡ tabulate (six_cell r p q) (total D + 1)
  unfolding six_line
  six_line_is = refl

  -- ---- law 1

  pub six_start : six_cell r p q 0 ≡ p
  six_start = six_is 0 ∙ cell_start p q (place C 0) (place_start C)

  pub six_end : six_cell r p q (total D) ≡ q
  six_end = six_is (total D) ∙ cell_end p q (place C (total D)) (place_end C G)

  pub six_length : length (six_line r p q) ≡ total D + 1
  six_length = ap length six_line_is ∙ tabulate_length (six_cell r p q) (total D + 1)

  pub six_numbered : (n : ℕ) → n ≤ total D → get_or (six_line r p q) n p ≡ six_cell r p q n
  unfolding six_line
  six_numbered n le = tabulate_at (six_cell r p q) (total D + 1) n p (omega arith)

  pub six_different : (m n : ℕ) → six_cell r p q m ≡ six_cell r p q n → m ≡ n
  six_different m n e =
      let s = cell_tells p q (place C m) (place C n) (sym (six_is m) ∙ e ∙ six_is n) in
      omega (arith, place_total C m, place_total C n, s X, s Y, s Z)

  pub six_by_face : (n : ℕ) → Touches 1 (six_cell r p q n) (six_cell r p q (suc n))
  six_by_face n =
      let t = place C n in
      let a = next C t in
      rw (six_is n, six_is (suc n), place_suc C n)
      (further_touches p q t (bump t a) 1 (λ b. one (cmp a b)) (omega (arith, total_bump t a)) (omega (arith, total_bump t a)))
    where
      one : {a b : Axis} → Cmp a b → (place C n b ≤ bump (place C n) a b) × (bump (place C n) a b ≤ place C n b + 1)
      one {a} here = omega (arith, same_self a)
      one (other e f) = omega arith

  -- one step back across the face by which cell suc n is entered lies cell n
  pub six_back : (n : ℕ) → back_across (face_along p q (next C (place C n))) (six_cell r p q (suc n)) ≡ six_cell r p q n
  six_back n = rw (six_is n, six_is (suc n), place_suc C n) (stepped_back p q (place C n) (next C (place C n)))

  -- ---- law 2

  pub closed_cell : (k d : ℕ) (t : Steps) → InClosedSteps C k d t → InClosed p q k d (cell_of p q t)
  closed_cell k d t h =
      record {
        from = λ a. rw (cell_on p q t a) (passed_closed (on p a) (on q a) (t a) k d (omega (arith, h.from a)) (omega (arith, h.upto a))).0;
        upto = λ a. rw (cell_on p q t a) (passed_closed (on p a) (on q a) (t a) k d (omega (arith, h.from a)) (omega (arith, h.upto a))).1;
      }

  -- cell suc n is touched at the crossing by which it is entered
  pub six_entered : (n : ℕ) → n < total D →
      let a : Axis = next C (place C n) in
      Share (upper C a (place C n a)) (2 * D a) × InClosed p q (upper C a (place C n a)) (2 * D a) (six_cell r p q (suc n))
  unfolding Choice Next
  six_entered n lt =
      let t = place C n in
      let a = next C t in
      let (on_line, wi) = place_on C G n (omega arith) in
      let nx : Next D (Before C) t a = next_rule C G t wi (omega (arith, place_total C n)) in (
        record { some = omega (arith, nx.0); most = omega (arith, nx.0) },
        rw (six_is (suc n), place_suc C n) (closed_cell (upper C a (t a)) (2 * D a) (bump t a) (entered_touched C G t a wi on_line nx)),
      )

  pub six_touched : (n : ℕ) → n ≤ total D → (k : ℕ) × (d : ℕ) × Share k d × InClosed p q k d (six_cell r p q n)
  six_touched zero le =
      (0, 1, record { some = omega arith; most = omega arith }, rw (six_is 0) (closed_cell 0 1 (place C 0) (start_touched C G 1 (place C 0) (place_start C))))
  six_touched (suc n) le =
      let (share, there) = six_entered n (omega arith) in
      (upper C (next C (place C n)) (place C n (next C (place C n))), 2 * D (next C (place C n)), share, there)

  -- ---- law 3, whose premise is met: the centre of P lies inside P

  pub centre_inside : (d : ℕ) → 0 < d → InOpen p q 0 d p
  centre_inside d some =
      record { from = λ a. (centre_open (on p a) (on q a) d some).0; upto = λ a. (centre_open (on p a) (on q a) d some).1 }

  pub six_misses_none : (k d : ℕ) (c : Cell) → Share k d → InOpen p q k d c → (n : ℕ) × (n ≤ total D) × (six_cell r p q n ≡ c)
  six_misses_none k d c s h =
      let w = none_left_out C G k d t s.some s.most inside in
      (total t, omega (arith, w.0 X, w.0 Y, w.0 Z), six_is (total t) ∙ ap (cell_of p q) (sym (fun_ext w.1)) ∙ is_c)
    where
      passed : (a : Axis) → Passed (on p a) (on q a) (on c a) k d 1
      passed a = open_passed (on p a) (on q a) (on c a) k d (h.from a) (h.upto a)

      t : Steps
      t a = (passed a).t

      inside : InOpenSteps C k d t
      inside = record { from = λ a. omega (arith, (passed a).from); upto = λ a. omega (arith, (passed a).upto) }

      is_c : cell_of p q t ≡ c
      is_c = same_cell (cell_of p q t) c (λ a. cell_on p q t a ∙ sym (passed a).is)

  -- ---- laws 4 and 5

  pub is_26 : (m : ℕ) → cell_26 p q m ≡ cell_of p q (place_26 D m)
  unfolding cell_26
  is_26 m = refl

  pub six_at_26 : (m : ℕ) → m ≤ longest D → cell_26 p q m ≡ six_cell r p q (number_26 p q m)
  six_at_26 m le = is_26 m ∙ ap (cell_of p q) (fun_ext (is_place_26 D r m le)) ∙ sym (six_is (number_26 p q m))

  pub skipped_touches : (m n : ℕ) → m < longest D → number_26 p q m < n → n < number_26 p q (m + 1) → Touches 2 (cell_26 p q m) (six_cell r p q n)
  skipped_touches m n lt lo hi =
      let s = skipped_26 D r m n lt lo hi in
      rw (is_26 m, six_is n) (further_touches p q (place_26 D m) (place C n) 2 s.0 s.1 s.2)

-- ---- the 26-line alone

module _ (p q : Cell) where
  abbrev D' : Steps
  D' = differences p q

  pub start_26 : cell_26 p q 0 ≡ p
  start_26 = is_26 y_z_x p q 0 ∙ cell_start p q (place_26 D' 0) (λ a. moved_start (longest D') (D' a))

  pub end_26 : cell_26 p q (longest D') ≡ q
  end_26 = is_26 y_z_x p q (longest D') ∙ cell_end p q (place_26 D' (longest D')) (λ a. moved_end (longest D') (D' a) (longest_most D' a))

  pub line_26_is : line_26 p q ≡ tabulate (cell_26 p q) (longest D' + 1)
  unfolding line_26
  line_26_is = refl

  pub length_26 : length (line_26 p q) ≡ longest D' + 1
  length_26 = ap length line_26_is ∙ tabulate_length (cell_26 p q) (longest D' + 1)

  pub numbered_26 : (m : ℕ) → m ≤ longest D' → get_or (line_26 p q) m p ≡ cell_26 p q m
  unfolding line_26
  numbered_26 m le = tabulate_at (cell_26 p q) (longest D' + 1) m p (omega arith)

  -- from m to m + 1
  moves_26 : (m : ℕ) (a : Axis) → apart (on (cell_26 p q m) a) (on (cell_26 p q (m + 1)) a) ≡
      (place_26 D' m a - place_26 D' (m + 1) a) + (place_26 D' (m + 1) a - place_26 D' m a)
  moves_26 m a = rw (is_26 y_z_x p q m, is_26 y_z_x p q (m + 1)) (cells_apart p q (place_26 D' m) (place_26 D' (m + 1)) a)

  pub moves_by_one_26 : (m : ℕ) (a : Axis) → m < longest D' → apart (on (cell_26 p q m) a) (on (cell_26 p q (m + 1)) a) ≤ 1
  moves_by_one_26 m a lt =
      omega (
        arith,
        moves_26 m a,
        moved_grows (longest D') (D' a) (longest_most D' a) (omega arith) m,
        moved_by_one (longest D') (D' a) (longest_most D' a) (omega arith) m,
      )

  pub longest_moves_26 : (m : ℕ) (a : Axis) → m < longest D' → D' a ≡ longest D' → apart (on (cell_26 p q m) a) (on (cell_26 p q (m + 1)) a) ≡ 1
  longest_moves_26 m a lt e =
      moves_26 m a ∙ rw (at m (omega arith), at (m + 1) (omega arith)) (omega arith)
    where
      at : (k : ℕ) → k ≤ longest D' → place_26 D' k a ≡ k
      at k le = rw e (moved_longest (longest D') k le)

-- within the coordinate limit no difference is above 16,383
pub limited_difference : (p q : Cell) → InLimit p → InLimit q → (a : Axis) → differences p q a ≤ 16383
limited_difference p q hp hq a =
    let (u, v) = limited (on p a) (hp.limit a) in
    let (u', v') = limited (on q a) (hq.limit a) in
    omega (arith, abs_is (on q a -ℤ on p a), diff_is (on q a) (on p a), one_sided (on q a -ℤ on p a))
  where
    limited : (z : ℤ) → in_limit z ≡ true → (dn z ≤ 8192 + up z) × (up z ≤ 8191 + dn z)
    limited z h =
        let (lo, hi) = and_both (le_z (negsuc 8191) z) (le_z z (pos 8191)) h in
        (omega (arith, le_z_true (negsuc 8191) z lo), omega (arith, le_z_true z (pos 8191) hi))
