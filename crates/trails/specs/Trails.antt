-- SCOPE W15: the trail, the cells on which the adaptive walk stands, in order, and the call that lists it. Refusals: 2, 3, then 5, as of every walk; then 6, as
-- of every list. Assumes nothing.
use Rattle.std.specs.Prelude.{Result}
use Rattle.cells.specs.declared.Refusal.{Refusal}
use Rattle.std.specs.Prelude.{ℕ, List, ℤ, length}
use Rattle.cells.specs.declared.Cell.{Cell}
use Rattle.cells.specs.declared.Counts.{Counts}
use Rattle.cells.specs.declared.Manner.{Manner}
use Rattle.lists.specs.Lists.{Lists}
use Rattle.grids.specs.Inside.{walk_check}
use Rattle.walks.specs.declared.Walker.TheVariants.{Adaptive}
use Rattle.walks.specs.Walks.{cells_of}

abbrev pub trail : Manner → Counts → List ℕ → (p q : Cell) → List Cell
trail how n l p q = cells_of Adaptive how n l p q

-- the contract of the call
abbrev pub AdaptiveCells : Manner → Counts → List ℕ → (p q : Cell) → List ℤ → Result ℕ Refusal → List ℤ → Type 0
AdaptiveCells how n l p q = Lists (trail how n l p q) (walk_check n (length l) p q)
