-- `texts::put_pair_refused` meets its contract: the pair's number, then what is said of a refusal. Assumes nothing.
use native.Mathlib.Omega.{arith}
use borrow.Author.Rules.{rules}
use Rattle.texts.proofs.Pieces.{ends_line, pair_pieces}
use Rattle.texts.proofs.put_pair_refused.Goals as goal

pub returns : goal.returns
returns c = ends_line (pair_pieces c.args.k c.args.number) (search rules) (omega arith) c.number.ensures c.last.ensures
