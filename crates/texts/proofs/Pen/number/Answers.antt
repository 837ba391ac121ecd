-- `texts::Pen::number` meets its contract: the digits are the fewest that hold the number, so they are its decimal text. Assumes nothing.
use mathlib.Core.Path.{ap, ◌∙◌}
use mathlib.Core.List.{[], ◌∷◌, ◌++◌}
use native.Mathlib.Omega.{arith}
use Rattle.texts.proofs.Pieces.{same_written}
use Rattle.texts.proofs.Decimal.{fewest_digits}
use Rattle.texts.proofs.Pen.number.Goals as goal

pub returns : goal.returns
returns c =
    let d = c.decimal-k.ensures in
    same_written (ap (λ l. l ++ (c.args.after ∷ [])) (d.digits ∙ fewest_digits c.args.n c.decimal-k.result d.len)) (omega arith) c.word.ensures
