-- The decision values: their signs, with the tie bit, tell the order of two crossings under any preference; lowered by the order's shift, figure 6's tests
-- on them pick the next crossing in both orders of the rules; a step moves them by figure 6's sums; they stay small; and they make the 26-line too.
-- Assumes nothing.
use mathlib.Core.Path.{◌≡◌, refl, sym, ap, ap₂, ◌∙◌}
use mathlib.Core.Logic.{⊎_elim, ◌↔◌}
use mathlib.Core.Bool.{Bool, true, false, cond}
use Prim.Native.Nat.{ℕ, ◌+◌, ◌*◌, ◌≤◌, ◌<◌}
use native.Mathlib.Omega.{arith}
use native.Mathlib.Nat.{mul-le-mul}
use lib.Dec.{ltb}
use lib.IntN.{ℤ, pos, negsuc, ◌+ℤ◌, ◌-ℤ◌}
use lib.Signed.{lt_z, ◌≤ℤ◌}
use borrow.Author.Tests.{lt-ltb, le-ltb}
use Rattle.cells.proofs.Signed.{same_number, one_sided, sum_is, diff_is, lt_lt_z, le_lt_z, lt_z_true, lt_z_false, ≤ℤ_is}
use Rattle.lines.specs.declared.Tripod.{Tripod}
use Rattle.lines.specs.Steps.{Axis, X, Y, Z, Steps, total, same}
use Rattle.lines.specs.declared.Order.{Order}
use Rattle.lines.specs.declared.Order.TheVariants.{Yzx, Xzy}
use Rattle.lines.specs.Crossings.{Course, before, next}
use Rattle.lines.specs.Preference.{Preference, prefers}
use Rattle.lines.specs.Lines.{centres, longest, place_26}
use Rattle.lines.specs.Decisions.{decision, values, by_signs, doubled, moved_values, shift, lowered, raised}
use Rattle.lines.proofs.Steps.{same_self, lt_or_ge, bump, open_axis}
use Rattle.lines.proofs.Merge.{Within, Next, Choice, Leads, itself, leads_trans, leader_is_next, next_unique}
use Rattle.lines.proofs.Fractions.{Before, ahead, before_test, laws, next_rule, before_leads, other_leads}
use Rattle.lines.proofs.Centres.{centres_good, longest_most, moved_longest, moves_iff}

-- ---- the sign law

-- a difference is below h exactly where its first number is below the second and h
below_test : (p q h : ℕ) → lt_z (pos p -ℤ pos q) (pos h) ≡ ltb p (q + h)
below_test p q h =
    ⊎_elim
    (λ l. lt_lt_z (pos p -ℤ pos q) (pos h) (omega (arith, diff_is (pos p) (pos q))) ∙ sym (lt-ltb p (q + h) l))
    (λ g. le_lt_z (pos p -ℤ pos q) (pos h) (omega (arith, diff_is (pos p) (pos q))) ∙ sym (le-ltb p (q + h) g))
    (lt_or_ge p (q + h))

-- which one's next crossing comes first is told by the sign of their decision value, with the tie bit
pub sign_tells : (r : Preference) (D t : Steps) (a b : Axis) →
    before (centres r D) a (t a) b (t b) ≡ lt_z (decision D t a b) (pos (ahead (r.rank a) (r.rank b)))
sign_tells r D t a b =
    before_test (centres r D) a b (t a) (t b)
    ∙ halves ((1 + 2 * t a) * (2 * D b)) ((1 + 2 * t b) * (2 * D a)) (D b * (2 * t a + 1)) (D a * (2 * t b + 1)) (r.rank a) (r.rank b)
    (omega arith) (omega arith)
    ∙ sym (below_test (D b * (2 * t a + 1)) (D a * (2 * t b + 1)) (ahead (r.rank a) (r.rank b)))
  where
    halves : (x y p q k s : ℕ) → x ≡ 2 * p → y ≡ 2 * q → ltb x (y + ahead k s) ≡ ltb p (q + ahead k s)
    halves x y p q k s e f =
        ⊎_elim
        (λ l. lt-ltb x (y + ahead k s) (omega arith) ∙ sym (lt-ltb p (q + ahead k s) l))
        (λ g. le-ltb x (y + ahead k s) (omega arith) ∙ sym (le-ltb p (q + ahead k s) g))
        (lt_or_ge p (q + ahead k s))

-- ---- figure 6

pub same_values : {v w : Tripod} → v.xy ≡ w.xy → v.xz ≡ w.xz → v.zy ≡ w.zy → v ≡ w
same_values p q s = λ i. record { xy = p i; xz = q i; zy = s i }

-- a value that a number was taken off beforehand is tested against 0
lowered_test : (z : ℤ) (h : ℕ) → lt_z (z -ℤ pos h) (pos 0) ≡ lt_z z (pos h)
lowered_test z h = go (lt_z z (pos h)) refl
  where
    go : (t : Bool) → lt_z z (pos h) ≡ t → lt_z (z -ℤ pos h) (pos 0) ≡ t
    go true e = lt_lt_z (z -ℤ pos h) (pos 0) (omega (arith, diff_is z (pos h), lt_z_true z (pos h) e))
    go false e = le_lt_z (z -ℤ pos h) (pos 0) (omega (arith, diff_is z (pos h), lt_z_false z (pos h) e))

-- of a pair of axes the first goes ahead in a tie where the order's shift is 1, the second where it is 0
pub record Tied (o : Order) (a b : Axis) : Type 0 where
  pub first : ahead ((prefers o).rank a) ((prefers o).rank b) ≡ shift o
  pub second : ahead ((prefers o).rank b) ((prefers o).rank a) + shift o ≡ 1

-- so it is with the three pairs of figure 6
pub tied_xy : (o : Order) → Tied o X Y
tied_xy Yzx = record { first = refl; second = refl }
tied_xy Xzy = record { first = refl; second = refl }

pub tied_xz : (o : Order) → Tied o X Z
tied_xz Yzx = record { first = refl; second = refl }
tied_xz Xzy = record { first = refl; second = refl }

pub tied_zy : (o : Order) → Tied o Z Y
tied_zy Yzx = record { first = refl; second = refl }
tied_zy Xzy = record { first = refl; second = refl }

-- the tests of figure 6 on the lowered values pick the next crossing of their order, at every place that is not the end
module _ (o : Order) (D t : Steps) where
  abbrev C : Course
  C = centres (prefers o) D

  tells : (a b : Axis) → Tied o a b → before C a (t a) b (t b) ≡ lt_z (decision D t a b -ℤ pos (shift o)) (pos 0)
  tells a b e = sign_tells (prefers o) D t a b ∙ ap (λ h. lt_z (decision D t a b) (pos h)) e.first ∙ sym (lowered_test (decision D t a b) (shift o))

  pub signs_pick : total t < total D → Next D (Before C) t (by_signs (lowered o (values D t)))
  signs_pick lt =
      go (lt_z (lowered o (values D t)).xy (pos 0)) (lt_z (lowered o (values D t)).xz (pos 0)) (lt_z (lowered o (values D t)).zy (pos 0))
      (tells X Y (tied_xy o)) (tells X Z (tied_xz o)) (tells Z Y (tied_zy o))
    where
      first : (n : Axis) → Leads D (Before C) t n X → Leads D (Before C) t n Y → Leads D (Before C) t n Z → Next D (Before C) t n
      first n x y z = leader_is_next D (Before C) (laws C (centres_good (prefers o) D)) t n (open_axis t D lt).0 all (open_axis t D lt).1
        where
          all : (b : Axis) → Leads D (Before C) t n b
          all X = x
          all Y = y
          all Z = z

      then : {a b d : Axis} → Leads D (Before C) t a b → Leads D (Before C) t b d → Leads D (Before C) t a d
      then = leads_trans D (Before C) (laws C (centres_good (prefers o) D)) t

      wins : (a b : Axis) → before C a (t a) b (t b) ≡ true → Leads D (Before C) t a b
      wins = before_leads C (centres_good (prefers o) D) t

      loses : (a b : Axis) → same a b ≡ 0 → before C a (t a) b (t b) ≡ false → Leads D (Before C) t b a
      loses = other_leads C (centres_good (prefers o) D) t

      go :
          (p q s : Bool) → before C X (t X) Y (t Y) ≡ p → before C X (t X) Z (t Z) ≡ q → before C Z (t Z) Y (t Y) ≡ s →
          Next D (Before C) t (cond p (cond q X Z) (cond s Z Y))
      go true true s p q _ = first X itself (wins X Y p) (wins X Z q)
      go true false s p q _ = first Z (loses X Z refl q) (then (loses X Z refl q) (wins X Y p)) itself
      go false q true p _ s = first Z (then (wins Z Y s) (loses X Y refl p)) (wins Z Y s) itself
      go false q false p _ s = first Y (loses X Y refl p) itself (loses Z Y refl s)

  pub figure_6_is_next : Within D t → total t < total D → by_signs (lowered o (values D t)) ≡ next C t
  unfolding Choice
  figure_6_is_next wi lt =
      next_unique D (Before C) (laws C (centres_good (prefers o) D)) t _ _ (signs_pick lt) (next_rule C (centres_good (prefers o) D) t wi lt)

-- what was taken off is put back
pub raised_back : (o : Order) (v : Tripod) → raised o (lowered o v) ≡ v
raised_back o v = same_values (back v.xy) (back v.xz) (back v.zy)
  where
    back : (z : ℤ) → (z -ℤ pos (shift o)) +ℤ pos (shift o) ≡ z
    back z = same_number _ _ (omega (arith, sum_is (z -ℤ pos (shift o)) (pos (shift o)), diff_is z (pos (shift o))))

-- in the order y, z, x nothing is
pub lowered_none : (v : Tripod) → lowered Yzx v ≡ v
lowered_none v = same_values (none v.xy) (none v.xz) (none v.zy)
  where
    none : (z : ℤ) → z -ℤ pos 0 ≡ z
    none z = same_number _ _ (omega (arith, diff_is z (pos 0)))

-- ---- the sums

plus : (p q n : ℕ) → pos (p + n) -ℤ pos q ≡ (pos p -ℤ pos q) +ℤ pos n
plus p q n = same_number _ _ (omega (arith, sum_is (pos p -ℤ pos q) (pos n), diff_is (pos p) (pos q), diff_is (pos (p + n)) (pos q)))

minus : (p q n : ℕ) → pos p -ℤ pos (q + n) ≡ (pos p -ℤ pos q) -ℤ pos n
minus p q n = same_number _ _ (omega (arith, diff_is (pos p -ℤ pos q) (pos n), diff_is (pos p) (pos q), diff_is (pos p) (pos (q + n))))

-- an odd multiple where its axis was stepped along, and where another was
stepped_on : (D i s : ℕ) → s ≡ 1 → D * (2 * (i + s) + 1) ≡ D * (2 * i + 1) + 2 * D
stepped_on D i s e = rw e (omega arith)

kept : (D i s : ℕ) → s ≡ 0 → D * (2 * (i + s) + 1) ≡ D * (2 * i + 1)
kept D i s e = rw e (omega arith)

abbrev less : ℕ → ℕ → ℤ
less p q = pos p -ℤ pos q

module _ (D t : Steps) (a b : Axis) where
  -- a step along the first axis of a pair adds twice the second's difference
  pub first_adds : same a b ≡ 0 → decision D (bump t a) a b ≡ decision D t a b +ℤ pos (2 * D b)
  first_adds e = ap₂ less (stepped_on (D b) (t a) _ (same_self a)) (kept (D a) (t b) _ e) ∙ plus (D b * (2 * t a + 1)) (D a * (2 * t b + 1)) (2 * D b)

  -- one along the second takes away twice the first's
  pub second_takes : same b a ≡ 0 → decision D (bump t b) a b ≡ decision D t a b -ℤ pos (2 * D a)
  second_takes e = ap₂ less (kept (D b) (t a) _ e) (stepped_on (D a) (t b) _ (same_self b)) ∙ minus (D b * (2 * t a + 1)) (D a * (2 * t b + 1)) (2 * D a)

  -- one along the third axis does nothing
  pub third_keeps : (n : Axis) → same n a ≡ 0 → same n b ≡ 0 → decision D (bump t n) a b ≡ decision D t a b
  third_keeps n e f = ap₂ less (kept (D b) (t a) _ e) (kept (D a) (t b) _ f)

-- a step moves the values by the sums of figure 6
pub step_moves : (D t : Steps) (n : Axis) → values D (bump t n) ≡ moved_values (doubled D) n (values D t)
step_moves D t X = same_values (first_adds D t X Y refl) (first_adds D t X Z refl) (third_keeps D t Z Y X refl refl)
step_moves D t Y = same_values (second_takes D t X Y refl) (third_keeps D t X Z Y refl refl) (second_takes D t Z Y refl)
step_moves D t Z = same_values (third_keeps D t X Y Z refl refl) (second_takes D t X Z refl) (first_adds D t Z Y refl)

-- and the lowered ones by the same
pub lowered_moves : (o : Order) (D t : Steps) (n : Axis) → lowered o (values D (bump t n)) ≡ moved_values (doubled D) n (lowered o (values D t))
lowered_moves o D t n = ap (lowered o) (step_moves D t n) ∙ past n (values D t)
  where
    up_past : (z : ℤ) (m : ℕ) → (z +ℤ pos m) -ℤ pos (shift o) ≡ (z -ℤ pos (shift o)) +ℤ pos m
    up_past z m =
        same_number _ _ (omega (arith, sum_is z (pos m), diff_is (z +ℤ pos m) (pos (shift o)), diff_is z (pos (shift o)), sum_is (z -ℤ pos (shift o)) (pos m)))

    down_past : (z : ℤ) (m : ℕ) → (z -ℤ pos m) -ℤ pos (shift o) ≡ (z -ℤ pos (shift o)) -ℤ pos m
    down_past z m =
        same_number _ _ (omega (
          arith,
          diff_is z (pos m),
          diff_is (z -ℤ pos m) (pos (shift o)),
          diff_is z (pos (shift o)),
          diff_is (z -ℤ pos (shift o)) (pos m),
        ))

    past : (n : Axis) (v : Tripod) → lowered o (moved_values (doubled D) n v) ≡ moved_values (doubled D) n (lowered o v)
    past X v = same_values (up_past v.xy (2 * D Y)) (up_past v.xz (2 * D Z)) refl
    past Y v = same_values (down_past v.xy (2 * D X)) refl (down_past v.zy (2 * D Z))
    past Z v = same_values refl (down_past v.xz (2 * D X)) (up_past v.zy (2 * D Y))

-- ---- the bound

pub shift_most : (o : Order) → shift o ≤ 1
shift_most Yzx = omega arith
shift_most Xzy = omega arith

-- within the coordinate limit differences are at most 16,383, and the values lie between -536,821,761 and 536,821,761; lowered, they reach one further
-- down
pub stays_small :
    (D t : Steps) (a b : Axis) → D a ≤ 16383 → D b ≤ 16383 → t a ≤ D a → t b ≤ D b →
    (negsuc 536821760 ≤ℤ decision D t a b) × (decision D t a b ≤ℤ pos 536821761)
stays_small D t a b ha hb la lb =
    let u = product (D b) (t a) hb (omega arith) in
    let v = product (D a) (t b) ha (omega arith) in
    let e = diff_is (pos (D b * (2 * t a + 1))) (pos (D a * (2 * t b + 1))) in
    let f = one_sided (decision D t a b) in
    ((≤ℤ_is (negsuc 536821760) (decision D t a b)).1 (omega arith), (≤ℤ_is (decision D t a b) (pos 536821761)).1 (omega arith))
  where
    product : (d i : ℕ) → d ≤ 16383 → i ≤ 16383 → d * (2 * i + 1) ≤ 536821761
    product d i h k = mul-le-mul {m₂ = 32767} h (omega arith)

-- ---- the 26-line by the same values

module _ (D : Steps) (a b : Axis) (m : ℕ) (long : D a ≡ longest D) (lt : m < longest D) where
  -- b moves exactly where its next crossing lies at most at (m + 1) over M
  b_moves : (place_26 D (m + 1) b ≡ place_26 D m b + 1) ↔ ((2 * place_26 D m b + 1) * D a ≤ 2 * (m + 1) * D b)
  b_moves = rw long (moves_iff (longest D) (D b) (longest_most D b) (omega arith) m)

  long_at : place_26 D m a ≡ m
  long_at = rw long (moved_longest (longest D) m (omega arith))

  -- what the products are at cell m
  at_m : D b * (2 * place_26 D m a + 1) ≡ D b * (2 * m + 1)
  at_m = ap (λ v. D b * (2 * v + 1)) long_at

  -- with a longest, b moves exactly where e_ab + B ≥ 0
  pub first_longest : (place_26 D (m + 1) b ≡ place_26 D m b + 1) ↔ (pos 0 ≤ℤ (decision D (place_26 D m) a b +ℤ pos (D b)))
  first_longest =
      let e = decision D (place_26 D m) a b in
      let f = diff_is (pos (D b * (2 * place_26 D m a + 1))) (pos (D a * (2 * place_26 D m b + 1))) in
      let g = sum_is e (pos (D b)) in
      let k = ≤ℤ_is (pos 0) (e +ℤ pos (D b)) in
      (λ h. k.1 (omega (arith, b_moves.0 h, at_m)), λ h. b_moves.1 (omega (arith, k.0 h, at_m)))

  -- with a longest and second in the pair, b moves exactly where e_ba ≤ B
  pub second_longest : (place_26 D (m + 1) b ≡ place_26 D m b + 1) ↔ (decision D (place_26 D m) b a ≤ℤ pos (D b))
  second_longest =
      let e = decision D (place_26 D m) b a in
      let f = diff_is (pos (D a * (2 * place_26 D m b + 1))) (pos (D b * (2 * place_26 D m a + 1))) in
      let k = ≤ℤ_is e (pos (D b)) in
      (λ h. k.1 (omega (arith, b_moves.0 h, at_m)), λ h. b_moves.1 (omega (arith, k.0 h, at_m)))
