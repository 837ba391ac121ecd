-- Marks that are complete at k are what makes long steps safe. Assumes nothing.
use Rattle.std.specs.Prelude.{Ok}
use mathlib.Core.Path.{◌≡◌, sym, subst₂}
use mathlib.Core.Bool.{true}
use mathlib.Core.List.{List}
use Prim.Native.Nat.{ℕ}
use lib.ListN.{length}
use Rattle.cells.specs.declared.Counts.{Counts}
use Rattle.cells.specs.Touching.{Touches}
use Rattle.grids.specs.Grid.{shape}
use Rattle.grids.specs.Marks.{complete}
use Rattle.grids.proofs.Marking.{complete_iff}
use Rattle.grids.proofs.Shapes.{shaped}
use Rattle.walks.specs.Safe.{NoClearTouches}
use Rattle.grids.proofs.Inside.{indexed}

pub complete_safe : (k : ℕ) (n : Counts) (l : List ℕ) → shape n (length l) ≡ Ok tt → complete k n l ≡ true → NoClearTouches k n l
complete_safe k n l fine whole =
    record {
      none = λ c d hc hd clear-c solid-d touch.
          let s = shaped n (length l) fine in
          let i = indexed n (length l) c s hc in
          let j = indexed n (length l) d s hd in
          (complete_iff k n l).0 whole _ _ i.below j.below clear-c solid-d (subst₂ (Touches k) (sym i.is) (sym j.is) touch);
    }
