-- How the code finds the place of a hit and its face, from the steps made: of the crossings last made on each axis, the one that is last in the order.
-- No promise rests on this file: SCOPE's place is `place_of` of `walks`, and this is equal to it (`proofs/Entering.antt`). Assumes nothing.
use Rattle.std.specs.Prelude.{ℕ, ◌+◌, ◌-◌, ◌*◌, Bool, cond, ◌&&◌, ltb, leb, eqb}
use Rattle.cells.specs.declared.Cell.{Cell}
use Rattle.cells.specs.declared.Face.TheVariants as Face
use Rattle.lines.specs.declared.Order.{Order}
use Rattle.lines.specs.Steps.{Axis, X, Y, Z, Steps, total}
use Rattle.lines.specs.Decisions.{shift}
use Rattle.lines.specs.Lines.{face_along}
use Rattle.walks.specs.declared.Place.{Place}
use Rattle.places.specs.declared.Last.{Last}

-- SCOPE L3: 2i-1, the upper number of the crossing last made, over face i; 0 where there is none
abbrev pub numerator : ℕ → ℕ
numerator i = 2 * i - 1

-- the shift counts where a crossing was made
abbrev pub added : (j shift : ℕ) → ℕ
added j shift = cond (eqb j 0) 0 shift

-- a crossing was made, at i over 2a, and none at j over 2b, or one at a fraction that is no greater; with a shift of 1, that is less
abbrev pub behind : (i a j b shift : ℕ) → Bool
behind i a j b shift = ltb 0 i && leb (j * a + added j shift) (i * b)

module _ (o : Order) (D t : Steps) where
  -- the last crossing made is that of x: of equal fractions that of x is the last in the order y, z, x, and the first in the order x, z, y
  abbrev pub x_is_last : Bool
  x_is_last =
      behind (numerator (t X)) (D X) (numerator (t Y)) (D Y) (shift o) && behind (numerator (t X)) (D X) (numerator (t Z)) (D Z) (shift o)

  -- and where it is not, it is that of z, or of y
  abbrev pub z_is_last : Bool
  z_is_last = behind (numerator (t Z)) (D Z) (numerator (t Y)) (D Y) (shift o)

  -- which axis was crossed last, by these two answers
  abbrev pub last_made : Last
  last_made = record { x = x_is_last; z = z_is_last }

-- of what x, y and z have, that of the axis crossed last
abbrev pub of_last : {A : Type 0} → Last → A → A → A → A
of_last w a b c = cond w.x a (cond w.z c b)

-- the axis of the last crossing made
abbrev pub last_axis : Order → Steps → Steps → Axis
last_axis o D t = of_last (last_made o D t) X Y Z

-- SCOPE W5, W8: the fraction and the face of the crossing last made along an axis
abbrev pub place_along : Cell → Cell → Steps → Steps → Axis → Place
place_along p q D t a = record { num = numerator (t a); den = 2 * D a; face = face_along p q a }

-- the place where no step was made
abbrev pub place_at_p : Place
place_at_p = record { num = 0; den = 1; face = Face.None }

-- SCOPE W5, W8: the place of a hit, from the steps t made: that of P where there are none, else that of the last crossing
unfoldable pub entered : Cell → Cell → Order → Steps → Steps → Place
entered p q o D t = cond (eqb (total t) 0) place_at_p (place_along p q D t (last_axis o D t))
