-- The place of a hit: of the crossings last made, the one that is last in the order is that by which the 6-line entered the cell. Assumes nothing.
use mathlib.Core.Path.{◌≡◌, refl, ap, ap₂, ◌∙◌}
use mathlib.Core.Bool.{Bool, true, false, cond, ◌&&◌}
use Prim.Native.Nat.{ℕ, zero, suc, ◌+◌, ◌-◌, ◌*◌, ◌≤◌, ◌<◌}
use native.Mathlib.Omega.{arith}
use native.Mathlib.Decide.{dec_lt}
use lib.Dec.{ltb}
use borrow.Author.Tests.{lt-ltb, le-leb, lt-leb, eq-eqb, ne_eqb}
use Rattle.cells.specs.declared.Cell.{Cell}
use Rattle.lines.specs.declared.Order.{Order}
use Rattle.lines.specs.Steps.{Axis, X, Y, Z, Steps, total, same}
use Rattle.lines.specs.Preference.{prefers}
use Rattle.lines.specs.Crossings.{Course, next, place, LastMade}
use Rattle.lines.specs.Lines.{differences, centres}
use Rattle.lines.specs.Decisions.{shift}
use Rattle.lines.proofs.Fractions.{Before, ahead, before_true, place_total, entered_by_last}
use Rattle.lines.proofs.Centres.{centres_good}
use Rattle.lines.proofs.Signs.{Tied, tied_xy, tied_xz, tied_zy}
use Rattle.walks.specs.Answers.{entered_at}
use Rattle.places.specs.Entered.{numerator, behind, last_axis, place_along, place_at_p, entered}

-- the upper number of crossing i, counted from 0
numerator_suc : (i : ℕ) → numerator (suc i) ≡ 1 + 2 * i
numerator_suc i = omega arith

less_one : (i : ℕ) → suc i - 1 ≡ i
less_one i = omega arith

and_no : (b : Bool) → (b && false) ≡ false
and_no true = refl
and_no false = refl

-- ---- the test of two axes, by the crossings last made on each

module _ (o : Order) (D t : Steps) where
  abbrev C : Course
  C = centres (prefers o) D

  -- whether the crossing last made on a comes after the one on b
  abbrev after : Axis → Axis → Bool
  after a b = behind (numerator (t a)) (D a) (numerator (t b)) (D b) (shift o)

  -- where a is the first axis of its pair and has the last crossing of all
  first_is_last : (a b : Axis) → Tied o a b → LastMade C t a → same a b ≡ 0 → after a b ≡ true
  unfolding Before
  first_is_last a b pair h e =
      elim (dec_lt 0 (t b)) [
        | yes some ↦ by (t b) (t a) (D a) (D b) (shift o) (ahead ((prefers o).rank b) ((prefers o).rank a)) some h.some
            (before_true C b a (t b - 1) (t a - 1) (h.last b e some)) pair.second
        | no none ↦ unmade (t b) (t a) (omega arith) h.some
      ]
    where
      unmade : (i j : ℕ) → i ≡ 0 → 0 < j → behind (numerator j) (D a) (numerator i) (D b) (shift o) ≡ true
      unmade i j z some = rw z (simp (lt-ltb 0 (numerator j) (omega arith), le-leb (0 * D a + 0) (numerator j * D b) (omega arith)))

      by : (i j d f h x : ℕ) → 0 < i → 0 < j → (1 + 2 * (i - 1)) * (2 * d) < (1 + 2 * (j - 1)) * (2 * f) + x → x + h ≡ 1 →
          behind (numerator j) d (numerator i) f h ≡ true
      by zero j d f h x si sj lt sum = elim si [ ]
      by (suc i) zero d f h x si sj lt sum = elim sj [ ]
      by (suc i) (suc j) d f h x si sj lt sum =
          let k = simp less_one at lt in
          let le : numerator (suc i) * d + h ≤ numerator (suc j) * f = rw (numerator_suc i, numerator_suc j) (omega arith) in
          simp (
            lt-ltb 0 (numerator (suc j)) (omega arith),
            ne_eqb (numerator (suc i)) 0 (λ z. omega arith),
            le-leb (numerator (suc i) * d + h) (numerator (suc j) * f) le,
          )

  -- and where b is the second and has it
  second_is_last : (a b : Axis) → Tied o a b → LastMade C t b → same b a ≡ 0 → after a b ≡ false
  unfolding Before
  second_is_last a b pair h e =
      elim (dec_lt 0 (t a)) [
        | yes some ↦ by (t a) (t b) (D b) (D a) (shift o) (ahead ((prefers o).rank a) ((prefers o).rank b)) some h.some
            (before_true C a b (t a - 1) (t b - 1) (h.last a e some)) pair.first
            (omega (arith, pair.second))
        | no none ↦ unmade (t a) (omega arith)
      ]
    where
      unmade : (i : ℕ) → i ≡ 0 → behind (numerator i) (D a) (numerator (t b)) (D b) (shift o) ≡ false
      unmade i z = rw z refl

      by : (i j d f h x : ℕ) → 0 < i → 0 < j → (1 + 2 * (i - 1)) * (2 * d) < (1 + 2 * (j - 1)) * (2 * f) + x → x ≡ h → h ≤ 1 →
          behind (numerator i) f (numerator j) d h ≡ false
      by zero j d f h x si sj lt is most = elim si [ ]
      by (suc i) zero d f h x si sj lt is most = elim sj [ ]
      by (suc i) (suc j) d f h x si sj lt is most =
          let k = simp less_one at lt in
          let gt : numerator (suc i) * d < numerator (suc j) * f + h = rw (numerator_suc i, numerator_suc j) (omega arith) in
          simp (ne_eqb (numerator (suc j)) 0 (λ z. omega arith), lt-leb (numerator (suc j) * f + h) (numerator (suc i) * d) gt)
          (and_no (ltb 0 (numerator (suc i))))

  -- the axis that the tests find has the last crossing
  pub last_axis_is : (n : Axis) → LastMade C t n → last_axis o D t ≡ n
  last_axis_is X h = simp (first_is_last X Y (tied_xy o) h refl, first_is_last X Z (tied_xz o) h refl)
  last_axis_is Z h =
      ap₂ (λ b c. cond (after X Y && b) X (cond c Z Y)) (second_is_last X Z (tied_xz o) h refl) (first_is_last Z Y (tied_zy o) h refl)
      ∙ ap (λ b. cond b X Z) (and_no (after X Y))
  last_axis_is Y h =
      ap₂ (λ b c. cond (b && after X Z) X (cond c Z Y)) (second_is_last X Y (tied_xy o) h refl) (second_is_last Z Y (tied_zy o) h refl)

-- so the place found at place number s is that of the definition
pub entered_is : (o : Order) (p q : Cell) (s : ℕ) → s ≤ total (differences p q) →
    entered p q o (differences p q) (place (centres (prefers o) (differences p q)) s) ≡ entered_at (prefers o) p q s
unfolding entered
entered_is o p q zero le =
    let c = centres (prefers o) (differences p q) in
    ap (λ b. cond b place_at_p (place_along p q (differences p q) (place c 0) (last_axis o (differences p q) (place c 0))))
    (eq-eqb (total (place c 0)) 0 (place_total c 0))
entered_is o p q (suc s) le =
    let c = centres (prefers o) (differences p q) in
    let t = place c (suc s) in
    ap (λ b. cond b place_at_p (place_along p q (differences p q) t (last_axis o (differences p q) t)))
    (ne_eqb (total t) 0 (λ e. omega (arith, place_total c (suc s))))
    ∙ ap (place_along p q (differences p q) t) (last_axis_is o (differences p q) t (next c (place c s))
    (entered_by_last c (centres_good (prefers o) (differences p q)) s (omega arith)))
