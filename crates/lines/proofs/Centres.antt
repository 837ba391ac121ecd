-- The lines of SCOPE in step space: crossings at (1 + 2i) / (2D), any order of preference; the 26-line by the floor formula. Assumes nothing.
use mathlib.Core.Path.{◌≡◌, refl, ap, fun_ext}
use mathlib.Core.Logic.{◌⊎◌, inl, inr, ◌↔◌}
use Prim.Native.Nat.{ℕ, zero, suc, ◌+◌, ◌*◌, ◌/◌, ◌≤◌, ◌<◌, max}
use native.Mathlib.Omega.{arith, by_contra, both_ways}
use native.Mathlib.Nat.{div-eq_of_lt-le}
use native.Mathlib.Decide.{dec_le}
use Rattle.lines.specs.Steps.{Axis, X, Y, Z, Steps, total}
use Rattle.lines.specs.Crossings.{Course, place, MadeUpto}
use Rattle.lines.specs.Preference.{Preference, y_z_x}
use Rattle.lines.specs.Lines.{centres, longest, moved_26, place_26}
use Rattle.lines.proofs.Steps.{lt_or_ge, total_lt}
use Rattle.lines.proofs.Merge.{Within, OnLine, fewer_is_below}
use Rattle.lines.proofs.Fractions.{Before, Good, after, laws, place_on, place_total}
use Rattle.lines.proofs.Fractions.{on_is_place, after_iff, after_within, after_upto, upto_on}

pub centres_good : (r : Preference) (D : Steps) → Good (centres r D)
centres_good r D =
    record {
      steps = omega arith;
      starts = λ a. omega arith;
      inside = λ a p. omega arith;
      ends = λ a. omega arith;
      axis = r.axis;
      ranked = r.ranked;
    }

-- ---- the longest difference

pub longest_most : (D : Steps) (a : Axis) → D a ≤ longest D
longest_most D X = omega arith
longest_most D Y = omega arith
longest_most D Z = omega arith

pub longest_axis : (D : Steps) → (a : Axis) × (D a ≡ longest D)
longest_axis D =
    elim (dec_le (max (D X) (D Y)) (D Z)) [
      | yes h ↦ (Z, omega arith)
      | no h ↦ elim (dec_le (D X) (D Y)) [ yes k ↦ (Y, omega arith) | no k ↦ (X, omega arith) ]
    ]

-- ---- the floor formula on one axis

-- the formula is the threshold m over M
moved_after : (r : Preference) (D : Steps) (M m : ℕ) (a : Axis) → 0 < M → moved_26 M (D a) m ≡ after (centres r D) m M a
unfolding moved_26 after
moved_after r D zero m a some = absurd (omega arith)
moved_after r D (suc n) m a some = ap (λ v. v / (2 * suc n)) (omega arith)

-- a face was crossed by cell m exactly where its fraction is at most m over M
pub moved_iff : (M D m i : ℕ) → 0 < M → (i < moved_26 M D m) ↔ ((1 + 2 * i) * M ≤ m * (2 * D))
moved_iff M D m i some = rw (moved_after y_z_x (λ a. D) M m X some) (after_iff (centres y_z_x (λ a. D)) (centres_good y_z_x (λ a. D)) m M X i some)

pub moved_start : (M D : ℕ) → moved_26 M D 0 ≡ 0
unfolding moved_26
moved_start zero D = refl
moved_start (suc n) D = div-eq_of_lt-le (2 * suc n) (omega arith) (omega arith)

-- the longest axis moves by one in each cell
pub moved_longest : (M m : ℕ) → m ≤ M → moved_26 M M m ≡ m
unfolding moved_26
moved_longest zero m le = omega arith
moved_longest (suc n) m le = div-eq_of_lt-le (2 * suc n) (omega arith) (omega arith)

pub moved_end : (M D : ℕ) → D ≤ M → moved_26 M D M ≡ D
unfolding moved_26
moved_end zero D le = omega arith
moved_end (suc n) D le = div-eq_of_lt-le (2 * suc n) (omega arith) (omega arith)

-- it does not pass the difference
pub moved_within : (M D m : ℕ) → m ≤ M → moved_26 M D m ≤ D
moved_within M D m le = go (lt_or_ge 0 M)
  where
    go : (0 < M) ⊎ (M ≤ 0) → moved_26 M D m ≤ D
    go (inl some) = rw (moved_after y_z_x (λ a. D) M m X some) (after_within (centres y_z_x (λ a. D)) (centres_good y_z_x (λ a. D)) m M some le X)
    go (inr none) =
        let z : m ≡ 0 = omega arith in
        rw z (omega (arith, moved_start M D))

module _ (M D : ℕ) (fits : D ≤ M) (some : 0 < M) where
  pub moved_grows : (m : ℕ) → moved_26 M D m ≤ moved_26 M D (m + 1)
  moved_grows m =
      by_contra (moved_26 M D m) (moved_26 M D (m + 1)) (λ p.
      let k : ℕ = moved_26 M D (m + 1) in
      let h : (1 + 2 * k) * M ≤ m * (2 * D) = (moved_iff M D m k some).0 p in
      let g : k < k = (moved_iff M D (m + 1) k some).1 (omega arith) in
      omega arith)

  pub moved_by_one : (m : ℕ) → moved_26 M D (m + 1) ≤ moved_26 M D m + 1
  moved_by_one m =
      by_contra (moved_26 M D (m + 1)) (moved_26 M D m + 1) (λ p.
      let k : ℕ = moved_26 M D m in
      let h : (1 + 2 * (k + 1)) * M ≤ (m + 1) * (2 * D) = (moved_iff M D (m + 1) (k + 1) some).0 p in
      let g : k < k = (moved_iff M D m k some).1 (omega arith) in
      omega arith)

  -- with k the cells moved by cell m, cell m + 1 moves exactly where face k + 1 is crossed by then
  pub moves_iff : (m : ℕ) → (moved_26 M D (m + 1) ≡ moved_26 M D m + 1) ↔ ((2 * moved_26 M D m + 1) * M ≤ 2 * (m + 1) * D)
  moves_iff m =
      let i = moved_iff M D (m + 1) (moved_26 M D m) some in
      (λ e. omega (arith, i.0 (omega arith)), λ h. both_ways _ _ (moved_by_one m) (omega (arith, i.1 (omega arith))))

  pub else_stays : (m : ℕ) → 2 * (m + 1) * D < (2 * moved_26 M D m + 1) * M → moved_26 M D (m + 1) ≡ moved_26 M D m
  else_stays m lt =
      both_ways _ _
      (by_contra (moved_26 M D (m + 1)) (moved_26 M D m) (λ p. omega (arith, (moves_iff m).0 (both_ways _ _ (moved_by_one m) (omega arith)))))
      (moved_grows m)

  -- the cells moved are the way to cell m, rounded to the nearest
  pub moved_near : (m : ℕ) → (2 * moved_26 M D m * M ≤ 2 * m * D + M) × (2 * m * D < (2 * moved_26 M D m + 1) * M)
  moved_near m = (
    near (moved_26 M D m) (λ j. (moved_iff M D m j some).0),
    by_contra (suc (2 * m * D)) ((2 * moved_26 M D m + 1) * M) (λ h. omega (arith, (moved_iff M D m (moved_26 M D m) some).1 (omega arith))),
  )
    where
      near : (k : ℕ) → ((j : ℕ) → j < k → (1 + 2 * j) * M ≤ m * (2 * D)) → 2 * k * M ≤ 2 * m * D + M
      near zero h = omega arith
      near (suc j) h = omega (arith, h j (omega arith))

-- ---- the 26-line and the 6-line

module _ (D : Steps) where
  abbrev M : ℕ
  M = longest D

  pub within_26 : (m : ℕ) → m ≤ M → Within D (place_26 D m)
  within_26 m le a = moved_within M (D a) m le

  -- it has made just the crossings at fractions up to and including m over M
  pub upto_26 : (r : Preference) (m : ℕ) → 0 < M → m ≤ M → MadeUpto (centres r D) m M (place_26 D m)
  upto_26 r m some le = rw (fun_ext (λ a. moved_after r D M m a some)) (after_upto (centres r D) (centres_good r D) m M some le)

  module _ (r : Preference) where
    abbrev C : Course
    C = centres r D

    abbrev G : Good C
    G = centres_good r D

    pub on_26 : (m : ℕ) → m ≤ M → OnLine D (Before C) (place_26 D m)
    unfolding OnLine
    on_26 m le = go (lt_or_ge 0 M)
      where
        go : (0 < M) ⊎ (M ≤ 0) → OnLine D (Before C) (place_26 D m)
        go (inl some) = upto_on C G m M (place_26 D m) some (upto_26 r m some le)
        go (inr none) = λ a b i j p q real. absurd (omega (arith, longest_most D b))

    -- 26-line cell m is a place of the 6-line
    pub is_place_26 : (m : ℕ) → m ≤ M → (a : Axis) → place_26 D m a ≡ place C (total (place_26 D m)) a
    is_place_26 m le = on_is_place C G (place_26 D m) (within_26 m le) (on_26 m le)

    -- a place of the 6-line from 26-line cell m to m + 1 lies between them on every axis
    pub between_26 :
        (m n : ℕ) → m < M → total (place_26 D m) ≤ n → n ≤ total (place_26 D (m + 1)) →
        (a : Axis) → (place_26 D m a ≤ place C n a) × (place C n a ≤ place_26 D (m + 1) a) × (place_26 D (m + 1) a ≤ place_26 D m a + 1)
    between_26 m n lt lo hi a =
        let some : 0 < M = omega arith in
        let s : Steps = place_26 D m in
        let u : Steps = place_26 D (m + 1) in
        let ws : Within D s = within_26 m (omega arith) in
        let wu : Within D u = within_26 (m + 1) (omega arith) in
        let w = place_on C G n (omega (arith, wu X, wu Y, wu Z)) in
        let e = place_total C n in (
          fewer_is_below D (Before C) (laws C G) s (place C n) ws w.1 (on_26 m (omega arith)) w.0 (omega arith) a,
          fewer_is_below D (Before C) (laws C G) (place C n) u w.1 wu w.0 (on_26 (m + 1) (omega arith)) (omega arith) a,
          moved_by_one M (D a) (longest_most D a) some m,
        )

    -- strictly between them it has moved, from cell m, by one on one axis or on two
    pub skipped_26 :
        (m n : ℕ) → m < M → total (place_26 D m) < n → n < total (place_26 D (m + 1)) →
        ((a : Axis) → (place_26 D m a ≤ place C n a) × (place C n a ≤ place_26 D m a + 1)) ×
        (total (place_26 D m) + 1 ≤ total (place C n)) × (total (place C n) ≤ total (place_26 D m) + 2)
    skipped_26 m n lt lo hi =
        let b = between_26 m n lt (omega arith) (omega arith) in
        let e = place_total C n in
        (λ a. omega (arith, b a), omega arith, omega (arith, b X, b Y, b Z))

  -- each cell of the 26-line lies further on
  pub grows_26 : (m : ℕ) → m < M → total (place_26 D m) < total (place_26 D (m + 1))
  grows_26 m lt =
      let (a, e) = longest_axis D in
      total_lt (place_26 D m) (place_26 D (m + 1)) a (λ b. moved_grows M (D b) (longest_most D b) (omega arith) m)
      (rw e (omega (arith, moved_longest M m (omega arith), moved_longest M (m + 1) (omega arith))))
