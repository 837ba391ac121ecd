-- What the search for a cell asks for and keeps. These are terms of internal contracts; no answer of a public call is defined by them.
-- Assumes nothing.
use Rattle.std.specs.Prelude.{ℕ, ◌-◌, ◌≤◌, ◌<◌, ◌≡◌, true, false, Float}
use Rattle.std.specs.Float.Ieee.{lt, le}
use Rattle.cells.specs.declared.Counts.{Counts}
use Rattle.survey.specs.declared.Point.{Point}
use Rattle.survey.specs.declared.Span.{Span}
use Rattle.survey.specs.Quotient.{as_f64, outside}

-- a count from 1 to 1,024, and a q from 0 on that is not outside
pub record Inside (count : ℕ) (q : Float) : Type 0 where
  pub some : 0 < count
  pub small : count ≤ 1024
  pub from : le (as_f64 0) q ≡ true
  pub within : outside count q ≡ false

-- the same on the three axes
pub record AllInside (n : Counts) (q : Point) : Type 0 where
  pub x : Inside n.nx q.x
  pub y : Inside n.ny q.y
  pub z : Inside n.nz q.z

-- r is a shorter part of the span s, starts at or below q, and ends above q unless it ends where s does
pub record Closer (q : Float) (s r : Span) : Type 0 where
  pub from : le (as_f64 r.lo) q ≡ true
  pub upto : r.hi < s.hi → lt q (as_f64 r.hi) ≡ true
  pub rising : r.lo < r.hi
  pub within : r.hi ≤ s.hi
  pub shorter : r.hi - r.lo < s.hi - s.lo
