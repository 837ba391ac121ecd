-- SCOPE, M: the touching line between the centres of two cells, every cell whose closed cube meets the segment. Assumes nothing.
use Rattle.std.specs.Prelude.{ℕ, zero, suc, ◌+◌, ◌*◌, Bool, true, false, cond, not, ◌&&◌, ◌||◌, List, [], ◌∷◌, ◌++◌, map, ltb, leb, eqb}
use Rattle.cells.specs.declared.Cell.{Cell}
use Rattle.lines.specs.declared.Tie.{Tie}
use Rattle.lines.specs.declared.Tie.TheVariants.{One, Two, Three}
use Rattle.lines.specs.Steps.{Axis, X, Y, Z, Steps, at, total}
use Rattle.lines.specs.Crossings.{Course, upper, has_more}
use Rattle.lines.specs.Preference.{y_z_x}
use Rattle.lines.specs.Lines.{differences, cell_of, centres}

-- ---- ties

-- at place t the next crossing of b lies at no smaller a fraction than that of a, or b has none left
abbrev pub no_later : Course → Steps → (a b : Axis) → Bool
no_later c t a b = not (has_more c t b) || leb (upper c a (t a) * c.lower b) (upper c b (t b) * c.lower a)

-- SCOPE M2: the next crossing of a is one of the next tie, which may be of one axis, of two or of three: no axis has one left at a smaller fraction
unfoldable pub tied : Course → Steps → Axis → Bool
tied c t a = has_more c t a && (no_later c t a X && (no_later c t a Y && no_later c t a Z))

-- the steps of that tie: one along each of its axes
unfoldable pub tie_steps : Course → Steps → Steps
unfolding tied
tie_steps c t = at (cond (tied c t X) 1 0) (cond (tied c t Y) 1 0) (cond (tied c t Z) 1 0)

-- its axes by name. Where a crossing is left some axis ties, so the last case is none.
abbrev pub tie_of : (x y z : Bool) → Tie
tie_of false true false = One Y
tie_of false false true = One Z
tie_of true false false = One X
tie_of false true true = Two Y Z
tie_of true true false = Two Y X
tie_of true false true = Two Z X
tie_of true true true = Three
tie_of false false false = Three

abbrev pub next_tie : Course → Steps → Tie
next_tie c t = tie_of (tied c t X) (tied c t Y) (tied c t Z)

-- the place that so many steps further on lies
unfoldable pub further : Steps → Steps → Steps
further t s = at (t X + s X) (t Y + s Y) (t Z + s Z)

-- ---- the cells of a tie

-- SCOPE M3: by one step, then by two, then by three; among equals y before z before x: y, z, x, yz, yx, zx, yzx
abbrev pub ways : List Steps
ways = at 0 1 0 ∷ at 0 0 1 ∷ at 1 0 0 ∷ at 0 1 1 ∷ at 1 1 0 ∷ at 1 0 1 ∷ at 1 1 1 ∷ []

-- the steps s are all among e
abbrev pub among : (s e : Steps) → Bool
among s e = leb (s X) (e X) && (leb (s Y) (e Y) && leb (s Z) (e Z))

-- a cell of the line: the place before a tie, and those of the steps of the tie that lead from there to the cell. For P there are none.
pub record Visit : Type 0 where
  pub from : Steps
  pub by : Steps

-- the cells that steps among e lead to from t, in the order of a list of ways
abbrev pub visits_by : (t e : Steps) → List Steps → List Visit
visits_by t e [] = []
visits_by t e (s ∷ l) = cond (among s e) (record { from = t; by = s } ∷ visits_by t e l) (visits_by t e l)

-- SCOPE M1, M3: the cells of so many ties, one tie after the other, from t on
unfoldable pub visits_from : Course → (ties : ℕ) → Steps → List Visit
unfolding tie_steps further
visits_from c zero t = []
visits_from c (suc ties) t = visits_by t (tie_steps c t) ways ++ visits_from c ties (further t (tie_steps c t))

-- P, and the cells of every tie: there are no more ties than crossings, and after the last crossing a tie has no cells
unfoldable pub visits : Course → List Visit
unfolding visits_from
visits c = record { from = at 0 0 0; by = at 0 0 0 } ∷ visits_from c (total c.count) (at 0 0 0)

-- ---- the line

-- where the steps lead
abbrev pub visited : Visit → Steps
visited v = further v.from v.by

abbrev pub visit_cell : Cell → Cell → Visit → Cell
visit_cell p q v = cell_of p q (visited v)

-- the crossings are those of SCOPE L3; which axis a rule prefers plays no part
abbrev pub crossings : Cell → Cell → Course
crossings p q = centres y_z_x (differences p q)

-- SCOPE M1
unfoldable pub touching_line : Cell → Cell → List Cell
unfolding visits further
touching_line p q = map (visit_cell p q) (visits (crossings p q))

-- ---- the crossing by which a cell is reached

-- SCOPE M6: the first axis, in the order y, z, x, among some steps
abbrev pub first_axis : Steps → Axis
first_axis s = cond (ltb 0 (s Y)) Y (cond (ltb 0 (s Z)) Z X)

-- P is reached by none
abbrev pub is_start : Visit → Bool
is_start v = eqb (total v.by) 0

-- its fraction: 0 over 1 for P, else that of the next crossing of this axis
abbrev pub visit_upper : Course → Visit → ℕ
visit_upper c v = cond (is_start v) 0 (upper c (first_axis v.by) (v.from (first_axis v.by)))

abbrev pub visit_lower : Course → Visit → ℕ
visit_lower c v = cond (is_start v) 1 (c.lower (first_axis v.by))
