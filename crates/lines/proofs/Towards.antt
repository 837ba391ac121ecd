-- One axis, in both directions: coordinates moved from p towards q, and where the segment lies among them. This is the one place where signs
-- are looked at. Assumes nothing.
use mathlib.Core.Path.{◌≡◌, refl, ap}
use mathlib.Core.Logic.{◌⊎◌, inl, inr, ⊎_elim, ◌↔◌}
use mathlib.Core.Bool.{Bool, true, false, cond}
use Prim.Native.Nat.{ℕ, ◌+◌, ◌-◌, ◌*◌, ◌≤◌, ◌<◌}
use native.Mathlib.Omega.{arith, by_contra}
use native.Mathlib.Nat.{mul-le-mul_left}
use lib.IntN.{ℤ, pos, ◌+ℤ◌, ◌-ℤ◌, ◌*ℤ◌}
use lib.Signed.{le_z, ◌≤ℤ◌, ◌<ℤ◌}
use Rattle.cells.specs.Touching.{apart}
use Rattle.cells.proofs.Signed.{up, dn, same_number, one_sided, sum_is, diff_is, times_up, times_dn, abs_is, le_z_true, le_z_false, ≤ℤ_is, <ℤ_is}
use Rattle.lines.specs.Towards.{towards}
use Rattle.lines.specs.Segment.{point, lower_face, upper_face}

-- With u and v the two parts of a number, in the order in which p lies before q: q is p and the difference, and i cells towards q is p and i.
-- So what is proved of the one direction holds of the other.
pub record Along (u v : ℤ → ℕ) (p q : ℤ) : Type 0 where
  pub tells : (a b : ℤ) → u a + v b ≡ u b + v a → a ≡ b
  pub end : u q + v p ≡ u p + v q + apart p q
  pub over : u (q -ℤ p) ≡ apart p q
  pub back : v (q -ℤ p) ≡ 0
  pub steps : (i : ℕ) → u (towards p q i) + v p ≡ u p + v (towards p q i) + i

pub along : (p q : ℤ) → Along up dn p q ⊎ Along dn up p q
along p q = go (le_z p q) refl
  where
    parts : up (q -ℤ p) + (dn q + up p) ≡ dn (q -ℤ p) + (up q + dn p)
    parts = diff_is q p

    go : (t : Bool) → le_z p q ≡ t → Along up dn p q ⊎ Along dn up p q
    go true e =
        let h = le_z_true p q e in
        let s = one_sided (q -ℤ p) in
        let d = abs_is (q -ℤ p) in
        inl (record {
          tells = same_number;
          end = omega (arith, parts);
          over = omega (arith, parts);
          back = omega (arith, parts);
          steps = λ i. rw e (omega (arith, sum_is p (pos i)));
        })
    go false e =
        let h = le_z_false p q e in
        let s = one_sided (q -ℤ p) in
        let d = abs_is (q -ℤ p) in
        inr (record {
          tells = λ a b k. same_number a b (omega arith);
          end = omega (arith, parts);
          over = omega (arith, parts);
          back = omega (arith, parts);
          steps = λ i. rw e (omega (arith, diff_is p (pos i)));
        })

-- what holds in the order of the way, whichever it is
pub either_way : {A : Type 0} (p q : ℤ) → ((u v : ℤ → ℕ) → Along u v p q → A) → A
either_way p q f = ⊎_elim (λ w. f up dn w) (λ w. f dn up w) (along p q)

pub towards_start : (p q : ℤ) → towards p q 0 ≡ p
towards_start p q = either_way p q (λ u v w. w.tells (towards p q 0) p (omega (arith, w.steps 0)))

pub towards_end : (p q : ℤ) → towards p q (apart p q) ≡ q
towards_end p q = either_way p q (λ u v w. w.tells (towards p q (apart p q)) q (omega (arith, w.steps (apart p q), w.end)))

-- two cells of the way are as far apart as their steps
pub towards_apart : (p q : ℤ) (i j : ℕ) → apart (towards p q i) (towards p q j) ≡ (i - j) + (j - i)
towards_apart p q i j =
    let c = towards p q i in
    let d = towards p q j in
    let e = diff_is d c in
    let f = one_sided (d -ℤ c) in
    let g = abs_is (d -ℤ c) in
    ⊎_elim (λ w. omega (arith, w.steps i, w.steps j)) (λ w. omega (arith, w.steps i, w.steps j)) (along p q)

-- one cell back, against the way: from i + 1 cells towards q to i of them
pub towards_back : (p q : ℤ) (i : ℕ) → cond (le_z p q) (towards p q (i + 1) -ℤ pos 1) (towards p q (i + 1) +ℤ pos 1) ≡ towards p q i
towards_back p q i = go (le_z p q)
  where
    go : (t : Bool) → cond t (cond t (p +ℤ pos (i + 1)) (p -ℤ pos (i + 1)) -ℤ pos 1) (cond t (p +ℤ pos (i + 1)) (p -ℤ pos (i + 1)) +ℤ pos 1) ≡
        cond t (p +ℤ pos i) (p -ℤ pos i)
    go true = same_number _ _ (omega (arith, diff_is (p +ℤ pos (i + 1)) (pos 1), sum_is p (pos (i + 1)), sum_is p (pos i)))
    go false = same_number _ _ (omega (arith, sum_is (p -ℤ pos (i + 1)) (pos 1), diff_is p (pos (i + 1)), diff_is p (pos i)))

-- ---- the segment among the cells of one axis

-- The point at n over d lies between the two faces of c, by parts; s is 1 where strictly, else 0. First as the faces lie in space, then in the
-- order of the way, from p on.
record Between (p q c : ℤ) (n d s : ℕ) : Type 0 where
  lower : up (lower_face d c) + dn (point p q n d) + s ≤ up (point p q n d) + dn (lower_face d c)
  upper : up (point p q n d) + dn (upper_face d c) + s ≤ up (upper_face d c) + dn (point p q n d)

record Span (u v : ℤ → ℕ) (p q c : ℤ) (n d s : ℕ) : Type 0 where
  near : 2 * d * (u c + v p) + s ≤ 2 * d * (u p + v c) + 2 * n * apart p q + d
  far : 2 * d * (u p + v c) + 2 * n * apart p q + s ≤ 2 * d * (u c + v p) + d

module _ (p q c : ℤ) (n d s : ℕ) where
  point_is : up (point p q n d) + 2 * d * dn p + 2 * n * dn (q -ℤ p) ≡ dn (point p q n d) + 2 * d * up p + 2 * n * up (q -ℤ p)
  point_is =
      omega (
        arith,
        sum_is (pos (2 * d) *ℤ p) (pos (2 * n) *ℤ (q -ℤ p)),
        times_up (2 * d) p,
        times_dn (2 * d) p,
        times_up (2 * n) (q -ℤ p),
        times_dn (2 * n) (q -ℤ p),
      )

  lower_is : up (lower_face d c) + 2 * d * dn c + d ≡ dn (lower_face d c) + 2 * d * up c
  lower_is = omega (arith, diff_is (pos (2 * d) *ℤ c) (pos d), times_up (2 * d) c, times_dn (2 * d) c)

  upper_is : up (upper_face d c) + 2 * d * dn c ≡ dn (upper_face d c) + 2 * d * up c + d
  upper_is = omega (arith, sum_is (pos (2 * d) *ℤ c) (pos d), times_up (2 * d) c, times_dn (2 * d) c)

  -- from the lower face to the point, and from the point to the upper face
  lower_gap :
      (up (lower_face d c) + dn (point p q n d)) + (2 * d * (up p + dn c) + 2 * n * up (q -ℤ p) + d) ≡
      (up (point p q n d) + dn (lower_face d c)) + (2 * d * (up c + dn p) + 2 * n * dn (q -ℤ p))
  lower_gap = omega (arith, point_is, lower_is)

  upper_gap :
      (up (point p q n d) + dn (upper_face d c)) + (2 * d * (up c + dn p) + 2 * n * dn (q -ℤ p) + d) ≡
      (up (upper_face d c) + dn (point p q n d)) + (2 * d * (up p + dn c) + 2 * n * up (q -ℤ p))
  upper_gap = omega (arith, point_is, upper_is)

  -- the way to the point is n over d of the difference, in the order of the way
  way_is : {u v : ℤ → ℕ} → Along u v p q → (2 * n * u (q -ℤ p) ≡ 2 * n * apart p q) × (2 * n * v (q -ℤ p) ≡ 0)
  way_is w = (ap (λ k. 2 * n * k) w.over, rw w.back (omega arith))

  rising : Along up dn p q → Between p q c n d s ↔ Span up dn p q c n d s
  rising w = (λ b. omega (arith, lower_gap, upper_gap, way_is w), λ b. omega (arith, lower_gap, upper_gap, way_is w))

  falling : Along dn up p q → Between p q c n d s ↔ Span dn up p q c n d s
  falling w = (λ b. omega (arith, lower_gap, upper_gap, way_is w), λ b. omega (arith, lower_gap, upper_gap, way_is w))

-- a cell that has the point lies t cells from p towards q, and the point within half a cell of it; s is 1 where it is inside, else 0
pub record Passed (p q c : ℤ) (n d s : ℕ) : Type 0 where
  pub t : ℕ
  pub is : c ≡ towards p q t
  pub from : 2 * t * d + s ≤ 2 * n * apart p q + d
  pub upto : 2 * n * apart p q + s ≤ (2 * t + 1) * d

module _ (u v : ℤ → ℕ) (p q c : ℤ) (n d : ℕ) (w : Along u v p q) where
  -- times 2d, in the order of the way
  scaled : (t : ℕ) → u c + v p ≡ u p + v c + t → 2 * d * (u c + v p) ≡ 2 * d * (u p + v c) + 2 * t * d
  scaled t e = omega (arith, ap (λ k. 2 * d * k) e)

  span_passed : (s : ℕ) → 0 < d + s → Span u v p q c n d s → Passed p q c n d s
  span_passed s some b =
      let ahead : u p + v c ≤ u c + v p = by_contra (u p + v c) (u c + v p) (λ l. omega (arith, mul-le-mul_left (2 * d) l)) in
      let t : ℕ = u c + v p - (u p + v c) in
      let m = scaled t (omega arith) in
      record { t = t; is = w.tells c (towards p q t) (omega (arith, w.steps t)); from = omega arith; upto = omega arith }

  passed_span : (t : ℕ) → c ≡ towards p q t → 2 * t * d ≤ 2 * n * apart p q + d → 2 * n * apart p q ≤ (2 * t + 1) * d → Span u v p q c n d 0
  passed_span t e lo hi =
      let m = scaled t (rw e (w.steps t)) in
      record { near = omega arith; far = omega arith }

between_passed : (p q c : ℤ) (n d s : ℕ) → 0 < d + s → Between p q c n d s → Passed p q c n d s
between_passed p q c n d s some b =
    ⊎_elim (λ w. span_passed up dn p q c n d w s some ((rising p q c n d s w).0 b)) (λ w. span_passed dn up p q c n d w s some ((falling p q c n d s w).0 b))
    (along p q)

pub open_passed : (p q c : ℤ) (n d : ℕ) → lower_face d c <ℤ point p q n d → point p q n d <ℤ upper_face d c → Passed p q c n d 1
open_passed p q c n d l h =
    between_passed p q c n d 1 (omega arith)
    (record { lower = omega (arith, (<ℤ_is (lower_face d c) (point p q n d)).0 l); upper = omega (arith, (<ℤ_is (point p q n d) (upper_face d c)).0 h) })

pub closed_passed : (p q c : ℤ) (n d : ℕ) → 0 < d → lower_face d c ≤ℤ point p q n d → point p q n d ≤ℤ upper_face d c → Passed p q c n d 0
closed_passed p q c n d some l h =
    between_passed p q c n d 0 (omega arith)
    (record { lower = omega (arith, (≤ℤ_is (lower_face d c) (point p q n d)).0 l); upper = omega (arith, (≤ℤ_is (point p q n d) (upper_face d c)).0 h) })

-- t cells from p towards q, with the point at most half a cell away, the closed cell has the point
pub passed_closed :
    (p q : ℤ) (t n d : ℕ) → 2 * t * d ≤ 2 * n * apart p q + d → 2 * n * apart p q ≤ (2 * t + 1) * d →
    (lower_face d (towards p q t) ≤ℤ point p q n d) × (point p q n d ≤ℤ upper_face d (towards p q t))
passed_closed p q t n d lo hi =
    let b = ⊎_elim (λ w. (rising p q c n d 0 w).1 (passed_span up dn p q c n d w t refl lo hi))
    (λ w. (falling p q c n d 0 w).1 (passed_span dn up p q c n d w t refl lo hi)) (along p q) in
    ((≤ℤ_is (lower_face d c) (point p q n d)).1 (omega (arith, b.lower)), (≤ℤ_is (point p q n d) (upper_face d c)).1 (omega (arith, b.upper)))
  where
    c : ℤ
    c = towards p q t

-- the centre of p lies strictly between the faces of p
pub centre_open : (p q : ℤ) (d : ℕ) → 0 < d → (lower_face d p <ℤ point p q 0 d) × (point p q 0 d <ℤ upper_face d p)
centre_open p q d some = (
  (<ℤ_is (lower_face d p) (point p q 0 d)).1 (omega (arith, lower_gap p q p 0 d 0)),
  (<ℤ_is (point p q 0 d) (upper_face d p)).1 (omega (arith, upper_gap p q p 0 d 0)),
)
