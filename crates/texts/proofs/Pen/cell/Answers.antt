-- `texts::Pen::cell` meets its contract: three numbers, each with its space, one behind the other. Assumes nothing.
use native.Mathlib.Omega.{arith}
use Rattle.texts.proofs.Pieces.{then_writes}
use Rattle.texts.proofs.Signs.{of_held}
use borrow.Author.Rules.{rules}
use Rattle.texts.proofs.Pen.cell.Goals as goal

pub returns : goal.returns
returns c =
    let cell = c.args.c in
    let put-x = of_held cell.x (search rules) c.signed.ensures in
    let put-y = of_held cell.y (search rules) c.signed-2.ensures in
    let put-z = of_held cell.z (search rules) c.signed-3.ensures in
    then_writes (omega arith) (then_writes (omega arith) put-x put-y) put-z
