-- `texts::Pen::walk` meets its contract: the pair's number and then the letter, each with its space. Assumes nothing.
use native.Mathlib.Omega.{arith}
use Rattle.texts.proofs.Pieces.{then_writes}
use Rattle.texts.proofs.Pen.walk.Goals as goal

pub returns : goal.returns
returns c = then_writes (omega arith) c.number.ensures c.word.ensures
