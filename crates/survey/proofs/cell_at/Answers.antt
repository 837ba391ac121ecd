-- `survey::cell_at` meets its contract: each number is below its count, at most 1,024, so that it fits an i32 and reads back as itself.
-- Assumes nothing.
use Prim.Native.Nat.{ℕ}
use mathlib.Core.Path.{◌≡◌, ap, ◌∙◌}
use native.Mathlib.Omega.{arith}
use lib.IntN.{pos}
use lib.Ieee.{Float}
use mir.Syntax.{w32}
use mir.Val.{to_z, SFits}
use mir.ValLaws.{to_z-of_z}
use Rattle.survey.specs.Quotient.{cell_number}
use Rattle.survey.specs.Search.{Inside}
use Rattle.survey.proofs.Numbers.{number_in}
use Rattle.survey.proofs.cell_at.Goals as goal

-- a cell's number as the code has it, r, fits an i32 and reads back as itself
fits : (count r : ℕ) (q : Float) → Inside count q → r ≡ cell_number count q → SFits w32 (pos r)
fits count r q h e = let l = h.small in record { sfits = omega (arith, (number_in count q h).0) }

reads_back : (count r : ℕ) (q : Float) → Inside count q → r ≡ cell_number count q → to_z w32 r ≡ pos (cell_number count q)
reads_back count r q h e = to_z-of_z w32 (pos r) (fits count r q h e) ∙ ap pos e

pub overflow_cast-x : goal.overflow_cast-x
overflow_cast-x c = fits _ _ _ c.requires.x c.cell_number-x.ensures

pub overflow_cast-y : goal.overflow_cast-y
overflow_cast-y c = fits _ _ _ c.requires.y c.cell_number-y.ensures

pub overflow_cast-z : goal.overflow_cast-z
overflow_cast-z c = fits _ _ _ c.requires.z c.cell_number-z.ensures

pub returns : goal.returns
returns c =
    let pre = c.requires in
    rw (
      reads_back _ _ _ pre.x c.cell_number-x.ensures,
      reads_back _ _ _ pre.y c.cell_number-y.ensures,
      reads_back _ _ _ pre.z c.cell_number-z.ensures,
    )
