-- `texts::put_venue_refused` meets its contract: the letter G, then what is said of a refusal. Assumes nothing.
use native.Mathlib.Omega.{arith}
use borrow.Author.Rules.{rules}
use Rattle.texts.proofs.Pieces.{ends_line, venue_pieces}
use Rattle.texts.proofs.put_venue_refused.Goals as goal

pub returns : goal.returns
returns c = ends_line (venue_pieces c.args.number) (search rules) (omega arith) c.word.ensures c.last.ensures
