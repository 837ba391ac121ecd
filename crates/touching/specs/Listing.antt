-- What the list keeps from tie to tie, and what its steps ask and promise. No promise to users rests on this file. Assumes nothing.
use Rattle.std.specs.Prelude.{ℕ, ◌+◌, ◌*◌, ◌≤◌, ◌≡◌, List, [], ◌∷◌, map, ℤ}
use Rattle.cells.specs.declared.Cell.{Cell}
use Rattle.lines.specs.declared.Doubled.{Doubled}
use Rattle.lines.specs.declared.Tie.{Tie}
use Rattle.lines.specs.declared.Tripod.{Tripod}
use Rattle.lines.specs.Steps.{Steps}
use Rattle.lines.specs.Crossings.{Course}
use Rattle.lines.specs.Preference.{y_z_x}
use Rattle.lines.specs.Lines.{centres}
use Rattle.lines.specs.Decisions.{moved_values}
use Rattle.tripod.specs.Tripod.{SmallTripod, SmallDoubled, NextTie}
use Rattle.lists.specs.declared.six.SixWay.{SixWay}
use Rattle.lists.specs.declared.six.SixSpot.{SixSpot}
use Rattle.lists.specs.Kept.{crossed_six, CanCrossSix, put3}
use Rattle.touching.specs.declared.list.Past.{Past}
use Rattle.touching.specs.Passing.{of_tie, tie_end, CanTie, tie_size, tie_faces}

-- cells stored one after the other, from a place of the slice on
unfoldable pub put_cells : List ℤ → ℕ → List Cell → List ℤ
put_cells l at [] = l
put_cells l at (c ∷ k) = put_cells (put3 l at c) (at + 3) k

abbrev pub cells_of : List SixSpot → List Cell
cells_of = map (λ s. s.at)

-- every sum of a tie's steps fits
abbrev pub CanTieSix : SixWay → Tie → SixSpot → Type 0
CanTieSix w = CanTie (λ s. CanCrossSix s w) (crossed_six w)

-- there is room for the cells of the next tie
pub record CanPut (room at : ℕ) (w : SixWay) (s : SixSpot) : Type 0 where
  pub fits : (tie : Tie) → NextTie s.e tie → (at + 3 * tie_size tie ≤ room) × CanTieSix w tie s

-- they are stored, and the spot behind it is found
pub record Put (entry : List ℤ) (at : ℕ) (w : SixWay) (s : SixSpot) (r : Past SixSpot) (exit : List ℤ) : Type 0 where
  pub tie : Tie
  pub next : NextTie s.e tie
  pub stored : exit ≡ put_cells entry at (cells_of (of_tie (crossed_six w) tie s))
  pub spot : r.behind ≡ tie_end (crossed_six w) tie s
  pub cells : r.cells ≡ tie_size tie
  pub faces : r.faces ≡ tie_faces tie

-- ---- by the values alone

-- the crossings of a line by its differences
abbrev pub course_of : Steps → Course
course_of D = centres y_z_x D

pub record CanCount (twice : Doubled) (e : Tripod) : Type 0 where
  pub small : SmallDoubled twice
  pub fits : (tie : Tie) → NextTie e tie → CanTie SmallTripod (moved_values twice) tie e

pub record Counted (twice : Doubled) (e : Tripod) (r : Past Tripod) : Type 0 where
  pub tie : Tie
  pub next : NextTie e tie
  pub values : r.behind ≡ tie_end (moved_values twice) tie e
  pub cells : r.cells ≡ tie_size tie
  pub faces : r.faces ≡ tie_faces tie
