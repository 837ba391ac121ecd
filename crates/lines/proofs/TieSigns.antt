-- The signs and zeros of the decision values tell the next tie, at every place that is not the end. Assumes nothing.
use mathlib.Core.Path.{◌≡◌, refl, sym, ap, ap₂, ◌∙◌}
use mathlib.Core.Bool.{Bool, true, false, cond}
use Prim.Native.Nat.{ℕ, suc, ◌+◌, ◌*◌, ◌≤◌, ◌<◌}
use native.Mathlib.Omega.{arith, by_contra}
use native.Mathlib.Nat.{mul-le-mul_left}
use lib.IntN.{pos, ◌-ℤ◌}
use lib.Signed.{lt_z}
use Rattle.cells.proofs.Signed.{diff_is, lt_z_true, lt_z_false}
use Rattle.lines.specs.Steps.{Axis, X, Y, Z, Steps, total}
use Rattle.lines.specs.Crossings.{Course, next}
use Rattle.lines.specs.Preference.{y_z_x}
use Rattle.lines.specs.Lines.{centres}
use Rattle.lines.specs.Decisions.{e_xy, e_xz, e_zy, values, tie_by_signs}
use Rattle.lines.specs.Touching.{tied, tie_of, next_tie}
use Rattle.lines.proofs.Merge.{Within}
use Rattle.lines.proofs.Fractions.{Good}
use Rattle.lines.proofs.Centres.{centres_good}
use Rattle.lines.proofs.Touching.{Leading, tied_leads, leads_tied, leads_too, next_leads}

module _ (D t : Steps) (wi : Within D t) (lt : total t < total D) where
  abbrev C : Course
  C = centres y_z_x D

  abbrev G : Good C
  G = centres_good y_z_x D

  -- Where the next crossing of a lies no later than that of b, either of which need not be there: it is there where that of b is
  has_too : (a b : Axis) → D b * (2 * t a + 1) ≤ D a * (2 * t b + 1) → t b < D b → t a < D a
  has_too a b le more =
      by_contra (suc (t a)) (D a) (λ none.
      let past : D a ≤ t a = omega arith in
      omega (arith, mul-le-mul_left (D a) more, mul-le-mul_left (D b) past))

  -- it ties where that of b does
  ties_too : (a b : Axis) → D b * (2 * t a + 1) ≤ D a * (2 * t b + 1) → Leading C t b → Leading C t a
  ties_too a b le l = leads_too C G t b a l (has_too a b le l.has) (omega arith)

  -- and where it lies before, that of b does not
  out : (a b : Axis) → D b * (2 * t a + 1) < D a * (2 * t b + 1) → Leading C t b → ⊥
  out a b less l = omega (arith, l.first a (has_too a b (omega arith) l.has))

  in_tie : (a : Axis) → Leading C t a → tied C t a ≡ true
  in_tie = leads_tied C t

  not_in : (a : Axis) → (Leading C t a → ⊥) → tied C t a ≡ false
  not_in a never = go (tied C t a) refl
    where
      go : (b : Bool) → tied C t a ≡ b → b ≡ false
      go true e = absurd (never (tied_leads C t a e))
      go false e = refl

  -- some axis ties: where two do not, the third does; where x is not among them, y or z, and so on
  leader : (Leading C t X → ⊥) → (Leading C t Y → ⊥) → (Leading C t Z → ⊥) → ⊥
  leader x y z = go (next C t) (next_leads C G t wi lt)
    where
      go : (n : Axis) → Leading C t n → ⊥
      go X l = x l
      go Y l = y l
      go Z l = z l

  ties : (a : Axis) → ((Leading C t a → ⊥) → ⊥) → tied C t a ≡ true
  ties a must = go (tied C t a) refl
    where
      go : (b : Bool) → tied C t a ≡ b → b ≡ true
      go true e = refl
      go false e = absurd (must (λ l. none e (in_tie a l)))
        where
          none : {b : Bool} → b ≡ false → b ≡ true → ⊥
          none {b} e f = let z : ◌≡◌ {A = ℕ} 0 1 = ap (λ b. cond b 1 0) (sym e ∙ f) in omega arith

  named : {x y z : Bool} → tied C t X ≡ x → tied C t Y ≡ y → tied C t Z ≡ z → tie_of x y z ≡ next_tie C t
  named {x} {y} {z} ex ey ez = sym (ap₂ (λ a b. tie_of a b (tied C t Z)) ex ey ∙ ap (tie_of x y) ez)

  -- what a test of a value says of its two axes
  less_than : (p q : ℕ) → lt_z (pos p -ℤ pos q) (pos 0) ≡ true → p < q
  less_than p q h = omega (arith, lt_z_true (pos p -ℤ pos q) (pos 0) h, diff_is (pos p) (pos q))

  not_less : (p q : ℕ) → lt_z (pos p -ℤ pos q) (pos 0) ≡ false → q ≤ p
  not_less p q h = omega (arith, lt_z_false (pos p -ℤ pos q) (pos 0) h, diff_is (pos p) (pos q))

  more_than : (p q : ℕ) → lt_z (pos 0) (pos p -ℤ pos q) ≡ true → q < p
  more_than p q h = omega (arith, lt_z_true (pos 0) (pos p -ℤ pos q) h, diff_is (pos p) (pos q))

  not_more : (p q : ℕ) → lt_z (pos 0) (pos p -ℤ pos q) ≡ false → p ≤ q
  not_more p q h = omega (arith, lt_z_false (pos 0) (pos p -ℤ pos q) h, diff_is (pos p) (pos q))

  -- the six ways out
  x_alone : D Y * (2 * t X + 1) < D X * (2 * t Y + 1) → D Z * (2 * t X + 1) < D X * (2 * t Z + 1) → tie_of true false false ≡ next_tie C t
  x_alone xy xz =
      let y = out X Y xy in
      let z = out X Z xz in
      named (ties X (λ x. leader x y z)) (not_in Y y) (not_in Z z)

  z_alone : (Leading C t X → ⊥) → (Leading C t Y → ⊥) → tie_of false false true ≡ next_tie C t
  z_alone x y = named (not_in X x) (not_in Y y) (ties Z (leader x y))

  -- two that lie no later than each other, and not the third
  two_tie : (a b d : Axis) → ((Leading C t a → ⊥) → (Leading C t b → ⊥) → (Leading C t d → ⊥) → ⊥) → (Leading C t d → ⊥) →
      D b * (2 * t a + 1) ≤ D a * (2 * t b + 1) → D a * (2 * t b + 1) ≤ D b * (2 * t a + 1) →
      (tied C t a ≡ true) × (tied C t b ≡ true) × (tied C t d ≡ false)
  two_tie a b d some d-out le ge = (
    ties a (λ none. some none (λ l. none (ties_too a b le l)) d-out),
    ties b (λ none. some (λ l. none (ties_too b a ge l)) none d-out),
    not_in d d-out,
  )

  pub tie_by_signs_is : tie_by_signs (values D t) ≡ next_tie C t
  tie_by_signs_is =
      go (lt_z (e_xy D t) (pos 0)) (lt_z (e_xz D t) (pos 0)) (lt_z (e_zy D t) (pos 0)) (lt_z (pos 0) (e_xy D t)) (lt_z (pos 0) (e_xz D t)) (lt_z (pos 0) (e_zy D t))
      refl refl refl refl refl refl
    where
      go :
          (xy xz zy xy' xz' zy' : Bool) → lt_z (e_xy D t) (pos 0) ≡ xy → lt_z (e_xz D t) (pos 0) ≡ xz → lt_z (e_zy D t) (pos 0) ≡ zy →
          lt_z (pos 0) (e_xy D t) ≡ xy' → lt_z (pos 0) (e_xz D t) ≡ xz' → lt_z (pos 0) (e_zy D t) ≡ zy' →
          cond xy (cond xz (tie_of true false false) (cond xz' (tie_of false false true) (tie_of true false true)))
          (cond zy (tie_of false false true) (cond zy' (cond xy' (tie_of false true false) (tie_of true true false))
          (cond xy' (tie_of false true true) (tie_of true true true)))) ≡ next_tie C t
      go true true zy xy' xz' zy' a b c d e f = x_alone (less_than _ _ a) (less_than _ _ b)
      go true false zy xy' true zy' a b c d e f = z_alone (out Z X (more_than _ _ e)) (out X Y (less_than _ _ a))
      go true false zy xy' false zy' a b c d e f =
          let (x, z, y) = two_tie X Z Y (λ x z y. leader x y z) (out X Y (less_than _ _ a)) (not_more _ _ e) (not_less _ _ b) in
          named x y z
      go false xz true xy' xz' zy' a b c d e f =
          let y = out Z Y (less_than _ _ c) in
          z_alone (λ l. y (ties_too Y X (not_less _ _ a) l)) y
      go false xz false true xz' true a b c d e f =
          let x = out Y X (more_than _ _ d) in
          let z = out Y Z (more_than _ _ f) in
          named (not_in X x) (ties Y (λ y. leader x y z)) (not_in Z z)
      go false xz false false xz' true a b c d e f =
          let (x, y, z) = two_tie X Y Z leader (out Y Z (more_than _ _ f)) (not_more _ _ d) (not_less _ _ a) in
          named x y z
      go false xz false true xz' false a b c d e f =
          let (z, y, x) = two_tie Z Y X (λ z y x. leader x y z) (out Y X (more_than _ _ d)) (not_more _ _ f) (not_less _ _ c) in
          named x y z
      go false xz false false xz' false a b c d e f =
          let x_y = ties_too X Y (not_more _ _ d) in
          let y_x = ties_too Y X (not_less _ _ a) in
          let z_y = ties_too Z Y (not_more _ _ f) in
          let y_z = ties_too Y Z (not_less _ _ c) in
          let y = ties Y (λ none. leader (λ l. none (y_x l)) none (λ l. none (y_z l))) in
          let l = tied_leads C t Y y in
          named (in_tie X (x_y l)) y (in_tie Z (z_y l))
