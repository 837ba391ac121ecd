-- `texts::Pen::last` meets its contract: the word with its space, then the number with its line feed. Assumes nothing.
use mathlib.Core.Path.{refl}
use native.Mathlib.Omega.{arith}
use Rattle.texts.proofs.Pieces.{then_writes, same_written}
use Rattle.texts.proofs.Pen.last.Goals as goal

pub returns : goal.returns
returns c = same_written refl (omega arith) (then_writes (omega arith) c.word.ensures c.number.ensures)
