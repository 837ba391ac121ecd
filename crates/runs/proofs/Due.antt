-- What is due on the shorter axes, and the third value: how they follow from the tripod's and go back to them, what a long step does to them, and
-- that they are small. Assumes nothing.
use mathlib.Core.Path.{◌≡◌, refl, sym, ap, ◌∙◌}
use mathlib.Core.Bool.{Bool, true, false, cond}
use Prim.Native.Nat.{ℕ, ◌+◌, ◌*◌, ◌≤◌, ◌<◌}
use native.Mathlib.Omega.{arith}
use lib.IntN.{ℤ, pos, ◌+ℤ◌, ◌-ℤ◌}
use lib.Signed.{le_z}
use Rattle.cells.specs.Small.{Small}
use Rattle.cells.proofs.Signed.{same_number, one_sided, sum_is, diff_is}
use Rattle.cells.proofs.Machine.{parts_small}
use Rattle.lines.specs.Steps.{Axis, X, Y, Z, Steps, same}
use Rattle.lines.specs.Lines.{longest, place_26}
use Rattle.lines.specs.Decisions.{decision}
use Rattle.lines.proofs.Signs.{first_adds, second_takes, third_keeps}
use Rattle.tripod.specs.Tripod.{bit}
use Rattle.tripod.proofs.Laws.{decision_most, longest_goes, first_goes}
use Rattle.tripod.proofs.Leap.{where_to, where_at}
use Rattle.runs.specs.Run.{v_of, w_of, due_on, by_sign}

-- ---- what is due, from the tripod's values and back

-- the pair in the other order: B - e_bu
other_order : (p q n : ℕ) → pos n -ℤ (pos q -ℤ pos p) ≡ (pos p -ℤ pos q) +ℤ pos n
other_order p q n =
    same_number _ _
    (omega (arith, diff_is (pos n) (pos q -ℤ pos p), diff_is (pos q) (pos p), sum_is (pos p -ℤ pos q) (pos n), diff_is (pos p) (pos q)))

other_back : (p q n : ℕ) → pos n -ℤ ((pos p -ℤ pos q) +ℤ pos n) ≡ pos q -ℤ pos p
other_back p q n =
    same_number _ _
    (omega (arith, diff_is (pos n) ((pos p -ℤ pos q) +ℤ pos n), sum_is (pos p -ℤ pos q) (pos n), diff_is (pos p) (pos q), diff_is (pos q) (pos p)))

module _ (D t : Steps) (u b : Axis) where
  pub turned : pos (D b) -ℤ decision D t b u ≡ due_on D t u b
  turned = other_order (D b * (2 * t u + 1)) (D u * (2 * t b + 1)) (D b)

  pub turned_back : pos (D b) -ℤ due_on D t u b ≡ decision D t b u
  turned_back = other_back (D b * (2 * t u + 1)) (D u * (2 * t b + 1)) (D b)

  pub taken_back : due_on D t u b -ℤ pos (D b) ≡ decision D t u b
  taken_back =
      let e = decision D t u b in
      same_number _ _ (omega (arith, diff_is (e +ℤ pos (D b)) (pos (D b)), sum_is e (pos (D b))))

  -- at a place within short differences
  pub due_small : ((a : Axis) → D a ≤ 16383) → ((a : Axis) → t a ≤ D a) → Small (due_on D t u b)
  due_small short le =
      let e = decision D t u b in
      let m = decision_most D t short le u b in
      let s = sum_is e (pos (D b)) in
      let o = one_sided (e +ℤ pos (D b)) in
      parts_small (e +ℤ pos (D b)) (omega (arith, short b)) (omega (arith, short b))

-- ---- steps that are made where `go` says so

pub nothing_more : (z : ℤ) → z +ℤ pos 0 ≡ z
nothing_more z = same_number _ _ (omega (arith, sum_is z (pos 0)))

module _ (D t : Steps) (a b : Axis) where
  where_adds : (go : Bool) → same a b ≡ 0 → decision D (where_to go a t) a b ≡ decision D t a b +ℤ cond go (pos (2 * D b)) (pos 0)
  where_adds true e = first_adds D t a b e
  where_adds false e = sym (nothing_more (decision D t a b))

  where_takes : (go : Bool) → same b a ≡ 0 → decision D (where_to go b t) a b ≡ decision D t a b +ℤ cond go (pos 0 -ℤ pos (2 * D a)) (pos 0)
  where_takes true e = second_takes D t a b e ∙ less (decision D t a b) (2 * D a)
    where
      less : (z : ℤ) (n : ℕ) → z -ℤ pos n ≡ z +ℤ (pos 0 -ℤ pos n)
      less z n = same_number _ _ (omega (arith, diff_is z (pos n), sum_is z (pos 0 -ℤ pos n), diff_is (pos 0) (pos n)))
  where_takes false e = sym (nothing_more (decision D t a b))

  where_keeps : (go : Bool) (n : Axis) → same n a ≡ 0 → same n b ≡ 0 → decision D (where_to go n t) a b ≡ decision D t a b
  where_keeps true n e f = third_keeps D t a b n e f
  where_keeps false n e f = refl

-- no two of the three axes are the same
record Apart (u v w : Axis) : Type 0 where
  pub uv : same u v ≡ 0
  pub uw : same u w ≡ 0
  pub vu : same v u ≡ 0
  pub vw : same v w ≡ 0
  pub wu : same w u ≡ 0
  pub wv : same w v ≡ 0

three_apart : (u : Axis) → Apart u (v_of u) (w_of u)
three_apart X = record { uv = refl; uw = refl; vu = refl; vw = refl; wu = refl; wv = refl }
three_apart Y = record { uv = refl; uw = refl; vu = refl; vw = refl; wu = refl; wv = refl }
three_apart Z = record { uv = refl; uw = refl; vu = refl; vw = refl; wu = refl; wv = refl }

-- ---- the long step from 26-line cell m

-- a move takes back what the step along u adds
move_taken : (go : Bool) (e : ℤ) (n x y : ℕ) → ((e +ℤ pos x) +ℤ cond go (pos 0 -ℤ pos y) (pos 0)) +ℤ pos n ≡ (e +ℤ pos n) +ℤ cond go (pos x -ℤ pos y) (pos x)
move_taken true e n x y =
    same_number _ _
    (omega (
      arith,
      sum_is ((e +ℤ pos x) +ℤ (pos 0 -ℤ pos y)) (pos n),
      sum_is (e +ℤ pos x) (pos 0 -ℤ pos y),
      sum_is e (pos x),
      diff_is (pos 0) (pos y),
      sum_is (e +ℤ pos n) (pos x -ℤ pos y),
      sum_is e (pos n),
      diff_is (pos x) (pos y),
    ))
move_taken false e n x y =
    same_number _ _
    (omega (
      arith,
      sum_is ((e +ℤ pos x) +ℤ pos 0) (pos n),
      sum_is (e +ℤ pos x) (pos 0),
      sum_is e (pos x),
      sum_is (e +ℤ pos n) (pos x),
      sum_is e (pos n),
    ))

module _ (D : Steps) (u : Axis) (long : D u ≡ longest D) (m : ℕ) (lt : m < longest D) where
  abbrev v : Axis
  v = v_of u

  abbrev w : Axis
  w = w_of u

  abbrev t : Steps
  t = place_26 D m

  abbrev due : Axis → ℤ
  due b = due_on D t u b

  abbrev twice : Axis → ℤ
  twice a = pos (2 * D a)

  -- whether an axis moves
  abbrev pub goes : Axis → Bool
  goes b = le_z (pos 0) (due b)

  -- the place after the step along u, then v, then w
  abbrev after_u : Steps
  after_u = where_to true u t

  abbrev pub after_v : Steps
  after_v = where_to (goes v) v after_u

  abbrev pub after_w : Steps
  after_w = where_to (goes w) w after_v

  pub leads_to : (a : Axis) → after_w a ≡ place_26 D (m + 1) a
  leads_to a =
      parts
      ∙ sums u a t (place_26 D (m + 1)) (bit (goes v)) (bit (goes w)) (longest_goes D m lt u long) (first_goes D m lt u v long) (first_goes D m lt u w long)
    where
      parts : after_w a ≡ t a + same u a + bit (goes v) * same v a + bit (goes w) * same w a
      parts = omega (arith, where_at true u t a, where_at (goes v) v after_u a, where_at (goes w) w after_v a)

      sums :
          (u a : Axis) (t t' : Steps) (f g : ℕ) → t' u ≡ t u + 1 → t' (v_of u) ≡ t (v_of u) + f → t' (w_of u) ≡ t (w_of u) + g →
          t a + same u a + f * same (v_of u) a + g * same (w_of u) a ≡ t' a
      sums X X t t' f g p q r = omega arith
      sums X Y t t' f g p q r = omega arith
      sums X Z t t' f g p q r = omega arith
      sums Y X t t' f g p q r = omega arith
      sums Y Y t t' f g p q r = omega arith
      sums Y Z t t' f g p q r = omega arith
      sums Z X t t' f g p q r = omega arith
      sums Z Y t t' f g p q r = omega arith
      sums Z Z t t' f g p q r = omega arith

  -- what is due on an axis, from its decision value
  due_moves :
      (b : Axis) → decision D after_w u b ≡ (decision D t u b +ℤ twice b) +ℤ cond (goes b) (pos 0 -ℤ twice u) (pos 0) →
      due_on D after_w u b ≡ due b +ℤ by_sign (due b) (twice b -ℤ twice u) (twice b)
  due_moves b is = ap (λ z. z +ℤ pos (D b)) is ∙ move_taken (goes b) (decision D t u b) (D b) (2 * D b) (2 * D u)

  pub v_moves : due_on D after_w u v ≡ due v +ℤ by_sign (due v) (twice v -ℤ twice u) (twice v)
  v_moves =
      let k = three_apart u in
      due_moves v
      (where_keeps D after_v u v (goes w) w k.wu k.wv
      ∙ where_takes D after_u u v (goes v) k.vu
      ∙ ap (λ z. z +ℤ cond (goes v) (pos 0 -ℤ twice u) (pos 0)) (where_adds D t u v true k.uv))

  pub w_moves : due_on D after_w u w ≡ due w +ℤ by_sign (due w) (twice w -ℤ twice u) (twice w)
  w_moves =
      let k = three_apart u in
      due_moves w
      (where_takes D after_v u w (goes w) k.wu
      ∙ ap (λ z. z +ℤ cond (goes w) (pos 0 -ℤ twice u) (pos 0)) (where_keeps D after_u u w (goes v) v k.vu k.vw ∙ where_adds D t u w true k.uw))

  -- the third value, by the same two signs
  pub third_by_v : decision D after_v w v ≡ decision D t w v +ℤ by_sign (due v) (pos 0 -ℤ twice w) (pos 0)
  third_by_v =
      let k = three_apart u in
      where_takes D after_u w v (goes v) k.vw
      ∙ ap (λ z. z +ℤ cond (goes v) (pos 0 -ℤ twice w) (pos 0)) (where_keeps D t w v true u k.uw k.uv)

  pub third_by_w : decision D after_w w v ≡ decision D after_v w v +ℤ by_sign (due w) (twice v) (pos 0)
  third_by_w = where_adds D after_v w v (goes w) (three_apart u).wv
