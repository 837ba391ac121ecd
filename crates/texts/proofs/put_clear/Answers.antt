-- `texts::put_clear` meets its contract: what the line begins with, then the word and the number that end it. Assumes nothing.
use native.Mathlib.Omega.{arith}
use borrow.Author.Rules.{rules}
use Rattle.texts.proofs.Pieces.{ends_line, clear_pieces}
use Rattle.texts.proofs.put_clear.Goals as goal

pub returns-clause-puts : goal.returns-clause-puts
returns-clause-puts c = ends_line (clear_pieces c.args.k c.args.letter c.args.reads) (search rules) (omega arith) c.walk.ensures c.last.ensures
