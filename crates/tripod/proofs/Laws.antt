-- Laws that the tripod's functions rest on: coordinates within the limit, values that stay small, and what the tests of signs say.
-- Assumes nothing.
use mathlib.Core.Path.{◌≡◌, refl, sym, ap, ap₂, ◌∙◌, fun_ext, subst}
use mathlib.Core.Logic.{◌↔◌, ◌≢◌}
use mathlib.Core.Bool.{Bool, true, false}
use Prim.Native.Nat.{ℕ, ◌+◌, ◌*◌, ◌≤◌, ◌<◌}
use native.Mathlib.Omega.{arith}
use lib.IntN.{ℤ, pos, negsuc, ◌+ℤ◌, ◌-ℤ◌}
use lib.Signed.{le_z, lt_z, ◌≤ℤ◌}
use Rattle.cells.specs.declared.Cell.{Cell}
use Rattle.cells.specs.Small.{Small}
use Rattle.cells.proofs.Touching.{and_both}
use Rattle.cells.proofs.Signed.{up, dn, one_sided, diff_is, le_z_true, le_le_z, lt_lt_z, le_lt_z, ≤ℤ_is}
use mir.Syntax.{w32}
use mir.Val.{SFits, to_z, of_z}
use Rattle.cells.proofs.Machine.{parts_small, nat_small, nat_held, held, held_is, small_held, small_sum, small_diff}
use Rattle.lines.specs.declared.Order.{Order}
use Rattle.lines.specs.declared.Tripod.{Tripod}
use Rattle.lines.specs.Steps.{Axis, X, Y, Z, Steps}
use Rattle.lines.specs.Lines.{longest, place_26, differences, in_limit, InLimit}
use Rattle.lines.specs.Decisions.{decision, values, doubled, by_signs, tie_by_signs, shift, lowered}
use Rattle.lines.proofs.Cells.{limited_difference}
use Rattle.lines.proofs.Centres.{longest_most, moved_grows, moved_by_one, moved_longest}
use Rattle.lines.proofs.Signs.{figure_6_is_next, shift_most, stays_small, first_longest, second_longest}
use Rattle.lines.proofs.TieSigns.{tie_by_signs_is}
use Rattle.tripod.specs.declared.Diffs.{Diffs}
use Rattle.cells.specs.declared.Each.{Each}
use Rattle.tripod.specs.Tripod.{steps, Short, SmallTripod, SmallDoubled, NextFace, NextTie, LongMoves, bit, moves_on}

-- ---- coordinates

pub limit_parts : (z : ℤ) → in_limit z ≡ true → (dn z ≤ 8192 + up z) × (up z ≤ 8191 + dn z)
limit_parts z h =
    let (lo, hi) = and_both (le_z (negsuc 8191) z) (le_z z (pos 8191)) h in
    (omega (arith, le_z_true (negsuc 8191) z lo), omega (arith, le_z_true z (pos 8191) hi))

pub limit_small : (z : ℤ) → in_limit z ≡ true → Small z
limit_small z h =
    let l = limit_parts z h in
    let o = one_sided z in
    parts_small z (omega arith) (omega arith)

pub short_at : (d : Diffs) → Short d → (n : Axis) → steps d n ≤ 16383
short_at d h X = h.a
short_at d h Y = h.b
short_at d h Z = h.c

-- three coordinates' differences are the differences of the ends, and short
pub measured_is :
    (p q : Cell) (d : Diffs) → InLimit p → InLimit q → d.a ≡ differences p q X → d.b ≡ differences p q Y → d.c ≡ differences p q Z →
    (steps d ≡ differences p q) × Short d
measured_is p q d hp hq ea eb ec = (fun_ext same, record { a = below X ea; b = below Y eb; c = below Z ec })
  where
    same : (n : Axis) → steps d n ≡ differences p q n
    same X = ea
    same Y = eb
    same Z = ec

    below : {k : ℕ} (n : Axis) → k ≡ differences p q n → k ≤ 16383
    below n e = omega (arith, limited_difference p q hp hq n)

-- ---- the values

-- at a place within short differences the values may be added
module _ (D t : Steps) (short : (a : Axis) → D a ≤ 16383) (le : (a : Axis) → t a ≤ D a) where
  pub decision_most : (a b : Axis) → (up (decision D t a b) ≤ 536821761) × (dn (decision D t a b) ≤ 536821761)
  decision_most a b =
      let (lo, hi) = stays_small D t a b (short a) (short b) (le a) (le b) in
      let l = (≤ℤ_is (negsuc 536821760) (decision D t a b)).0 lo in
      let h = (≤ℤ_is (decision D t a b) (pos 536821761)).0 hi in
      let o = one_sided (decision D t a b) in
      (omega arith, omega arith)

  pub decision_small : (a b : Axis) → Small (decision D t a b)
  decision_small a b = let m = decision_most a b in parts_small (decision D t a b) (omega arith) (omega arith)

  pub place_small : SmallTripod (values D t)
  place_small = record { xy = decision_small X Y; xz = decision_small X Z; zy = decision_small Z Y }

  -- lowered they still may
  lowered_decision : (o : Order) (a b : Axis) → Small (decision D t a b -ℤ pos (shift o))
  lowered_decision o a b =
      let m = decision_most a b in
      let e = diff_is (decision D t a b) (pos (shift o)) in
      let f = one_sided (decision D t a b -ℤ pos (shift o)) in
      parts_small (decision D t a b -ℤ pos (shift o)) (omega (arith, shift_most o)) (omega (arith, shift_most o))

  pub lowered_small : (o : Order) → SmallTripod (lowered o (values D t))
  lowered_small o = record { xy = lowered_decision o X Y; xz = lowered_decision o X Z; zy = lowered_decision o Z Y }

pub doubled_small : (D : Steps) → ((a : Axis) → D a ≤ 16383) → SmallDoubled (doubled D)
doubled_small D short = record { a2 = small X; b2 = small Y; c2 = small Z }
  where
    small : (a : Axis) → Small (pos (2 * D a))
    small a = record { small = omega (arith, short a) }

-- SCOPE L6: at P the values are the differences of two short differences, `e_xy = B - A`
module _ (b a : ℕ) (hb : b ≤ 16383) (ha : a ≤ 16383) where
  first_is : to_z w32 b -ℤ to_z w32 a ≡ pos (b * (2 * 0 + 1)) -ℤ pos (a * (2 * 0 + 1))
  first_is =
      let eb : b ≡ b * (2 * 0 + 1) = omega arith in
      let ea : a ≡ a * (2 * 0 + 1) = omega arith in
      ap₂ ◌-ℤ◌ (nat_held b (omega arith) ∙ ap pos eb) (nat_held a (omega arith) ∙ ap pos ea)

  pub first_fits : SFits w32 (to_z w32 b -ℤ to_z w32 a)
  first_fits = rw (nat_held b (omega arith), nat_held a (omega arith)) (small_diff (pos b) (pos a) (nat_small b (omega arith)) (nat_small a (omega arith)))

  pub first_held : to_z w32 (of_z w32 (to_z w32 b -ℤ to_z w32 a)) ≡ pos (b * (2 * 0 + 1)) -ℤ pos (a * (2 * 0 + 1))
  first_held = held_is _ first_fits ∙ first_is

-- the signs of figure 6 give the next face
pub by_signs_next : (e : Tripod) → NextFace e (by_signs e)
by_signs_next e = record { comes_first = λ o D t le lt h. ap by_signs h ∙ figure_6_is_next o D t le lt }

-- ---- the long step

-- a test that says whether an axis moves tells what it adds
moves_bit : (t : Bool) (D : Steps) (m : ℕ) (b : Axis) → m < longest D → (t ≡ true) ↔ (place_26 D (m + 1) b ≡ place_26 D m b + 1) →
    place_26 D (m + 1) b ≡ place_26 D m b + bit t
moves_bit true D m b lt i = i.0 refl
moves_bit false D m b lt i =
    let some : 0 < longest D = omega arith in
    let g = moved_grows (longest D) (D b) (longest_most D b) some m in
    let h = moved_by_one (longest D) (D b) (longest_most D b) some m in
    let stays : place_26 D (m + 1) b ≢ place_26 D m b + 1 = λ e. absurd (let z : ◌≡◌ {A = ℕ} 0 1 = ap bit (i.1 e) in omega arith) in
    omega arith

-- a comparison of signed numbers as a test
le_test : (a b : ℤ) → (le_z a b ≡ true) ↔ (a ≤ℤ b)
le_test a b = (λ h. (≤ℤ_is a b).1 (le_z_true a b h), λ h. le_le_z a b ((≤ℤ_is a b).0 h))

module _ (D : Steps) (m : ℕ) (lt : m < longest D) where
  -- the longest axis moves
  pub longest_goes : (a : Axis) → D a ≡ longest D → place_26 D (m + 1) a ≡ place_26 D m a + 1
  longest_goes a long = rw long (rw (moved_longest (longest D) m (omega arith), moved_longest (longest D) (m + 1) (omega arith)))

  -- the other of a pair, the longest first: by e_ab + B
  pub first_goes : (a b : Axis) → D a ≡ longest D → place_26 D (m + 1) b ≡ place_26 D m b + bit (le_z (pos 0) (decision D (place_26 D m) a b +ℤ pos (D b)))
  first_goes a b long =
      let i = first_longest D a b m long lt in
      let k = le_test (pos 0) (decision D (place_26 D m) a b +ℤ pos (D b)) in
      moves_bit (le_z (pos 0) (decision D (place_26 D m) a b +ℤ pos (D b))) D m b lt (λ t. i.1 (k.0 t), λ e. k.1 (i.0 e))

  -- the longest second: by e_ba against B
  pub second_goes : (a b : Axis) → D a ≡ longest D → place_26 D (m + 1) b ≡ place_26 D m b + bit (le_z (decision D (place_26 D m) b a) (pos (D b)))
  second_goes a b long =
      let i = second_longest D a b m long lt in
      let k = le_test (decision D (place_26 D m) b a) (pos (D b)) in
      moves_bit (le_z (decision D (place_26 D m) b a) (pos (D b))) D m b lt (λ t. i.1 (k.0 t), λ e. k.1 (i.0 e))

-- the tests of a long step, the longest axis being a
abbrev pub by_long : Axis → Steps → Tripod → Each Bool
by_long X D e = record { x = true; y = le_z (pos 0) (e.xy +ℤ pos (D Y)); z = le_z (pos 0) (e.xz +ℤ pos (D Z)) }
by_long Y D e = record { x = le_z e.xy (pos (D X)); y = true; z = le_z e.zy (pos (D Z)) }
by_long Z D e = record { x = le_z e.xz (pos (D X)); y = le_z (pos 0) (e.zy +ℤ pos (D Y)); z = true }

pub by_long_goes : (a : Axis) (D : Steps) (e : Tripod) → D a ≡ longest D → LongMoves D e (by_long a D e)
by_long_goes a D e long =
    record {
      go_on = λ m lt h b. subst (λ v. place_26 D (m + 1) b ≡ place_26 D m b + moves_on (by_long a D v) b) (sym h) (goes m lt a b long);
    }
  where
    goes : (m : ℕ) → m < longest D → (a b : Axis) → D a ≡ longest D → place_26 D (m + 1) b ≡ place_26 D m b + moves_on (by_long a D (values D (place_26 D m))) b
    goes m lt X X long = longest_goes D m lt X long
    goes m lt X Y long = first_goes D m lt X Y long
    goes m lt X Z long = first_goes D m lt X Z long
    goes m lt Y X long = second_goes D m lt Y X long
    goes m lt Y Y long = longest_goes D m lt Y long
    goes m lt Y Z long = second_goes D m lt Y Z long
    goes m lt Z X long = second_goes D m lt Z X long
    goes m lt Z Y long = first_goes D m lt Z Y long
    goes m lt Z Z long = longest_goes D m lt Z long

-- a value and a short difference as the machine holds them
module _ (e : ℤ) (n : ℕ) (he : Small e) (hn : n ≤ 16383) where
  n_held : to_z w32 n ≡ pos n
  n_held = nat_held n (omega arith)

  pub plus_fits : SFits w32 (held e +ℤ to_z w32 n)
  plus_fits = rw (small_held e he, n_held) (small_sum e (pos n) he (nat_small n (omega arith)))

  pub plus_test : le_z (pos 0) (held (held e +ℤ to_z w32 n)) ≡ le_z (pos 0) (e +ℤ pos n)
  plus_test = ap (le_z (pos 0)) (held_is (held e +ℤ to_z w32 n) plus_fits ∙ ap₂ ◌+ℤ◌ (small_held e he) n_held)

  pub most_test : le_z (held e) (to_z w32 n) ≡ le_z e (pos n)
  most_test = ap₂ le_z (small_held e he) n_held

-- a value and a shift, which is at most 1
module _ (e : ℤ) (n : ℕ) (he : Small e) (most : n ≤ 1) where
  t_held : to_z w32 n ≡ pos n
  t_held = nat_held n (omega arith)

  t_small : Small (pos n)
  t_small = nat_small n (omega arith)

  pub sum_shift_fits : SFits w32 (held e +ℤ to_z w32 n)
  sum_shift_fits = rw (small_held e he, t_held) (small_sum e (pos n) he t_small)

  pub diff_shift_fits : SFits w32 (held e -ℤ to_z w32 n)
  diff_shift_fits = rw (small_held e he, t_held) (small_diff e (pos n) he t_small)

-- n being the shift t
pub sum_shift_held : (e : ℤ) (n t : ℕ) → Small e → n ≡ t → n ≤ 1 → held (held e +ℤ to_z w32 n) ≡ e +ℤ pos t
sum_shift_held e n t he is most =
    held_is (held e +ℤ to_z w32 n) (sum_shift_fits e n he most) ∙ ap₂ ◌+ℤ◌ (small_held e he) (t_held e n he most ∙ ap pos is)

pub diff_shift_held : (e : ℤ) (n t : ℕ) → Small e → n ≡ t → n ≤ 1 → held (held e -ℤ to_z w32 n) ≡ e -ℤ pos t
diff_shift_held e n t he is most =
    held_is (held e -ℤ to_z w32 n) (diff_shift_fits e n he most) ∙ ap₂ ◌-ℤ◌ (small_held e he) (t_held e n he most ∙ ap pos is)

-- ---- a value that is read back as it is

-- below 0, or not
pub negative : (z : ℤ) → SFits w32 z → up (held z) < dn (held z) → lt_z z (pos 0) ≡ true
negative z f h = let e = held_is z f in lt_lt_z z (pos 0) (omega (arith, ap up e, ap dn e))

pub not_negative : (z : ℤ) → SFits w32 z → dn (held z) ≤ up (held z) → lt_z z (pos 0) ≡ false
not_negative z f h = let e = held_is z f in le_lt_z z (pos 0) (omega (arith, ap up e, ap dn e))

-- above 0, or not
pub positive : (z : ℤ) → SFits w32 z → dn (held z) < up (held z) → lt_z (pos 0) z ≡ true
positive z f h = let e = held_is z f in lt_lt_z (pos 0) z (omega (arith, ap up e, ap dn e))

pub not_positive : (z : ℤ) → SFits w32 z → up (held z) ≤ dn (held z) → lt_z (pos 0) z ≡ false
not_positive z f h = let e = held_is z f in le_lt_z (pos 0) z (omega (arith, ap up e, ap dn e))

-- the tie that the signs and zeros give is the one that comes next
pub by_signs_tie : (e : Tripod) → NextTie e (tie_by_signs e)
by_signs_tie e = record { comes_first = λ D t wi lt is. ap tie_by_signs is ∙ tie_by_signs_is D t wi lt }
