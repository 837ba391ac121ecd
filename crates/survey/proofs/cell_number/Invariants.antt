use Prim.Native.Nat.{◌-◌, ◌≤◌, ◌<◌}
use mathlib.Core.Path.{◌≡◌}
use mathlib.Core.Bool.{true}
use lib.Ieee.{le, lt}
use Rattle.survey.specs.Quotient.{as_f64}
use Rattle.survey.proofs.cell_number.Given as goal

abbrev pub invariant-loop-s : goal.invariant-loop-s
invariant-loop-s l = (l.s.lo < l.s.hi) × (l.s.hi ≤ l.count) × (le (as_f64 l.s.lo) l.q ≡ true) × (l.s.hi < l.count → lt l.q (as_f64 l.s.hi) ≡ true)

abbrev pub decreases-loop-s : goal.decreases-loop-s
decreases-loop-s l = l.s.hi - l.s.lo
