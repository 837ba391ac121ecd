use Prim.Native.Nat.{ℕ, ◌+◌}
use mathlib.Core.Path.{◌≡◌}
use mathlib.Core.Bool.{Bool}
use mathlib.Core.List.{List}
use lib.ListN.{get_or}
use Rattle.grids.specs.Grid.{solid}
use Rattle.bricks.specs.Sums.{number_of}
use Rattle.bricks.proofs.few_bits.Given as goal

-- the test for each bit
abbrev pub bits_from : List ℕ → ℕ → ℕ → Bool
bits_from cells from d = solid (get_or cells (from + d) 0)

abbrev pub invariant-loop-d : goal.invariant-loop-d
invariant-loop-d l = l.bits ≡ number_of (bits_from l.cells l.from) l.d
