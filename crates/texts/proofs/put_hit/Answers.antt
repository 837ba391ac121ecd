-- `texts::put_hit` meets its contract: what the line begins with, the word, the cell, the code, the reads, and the face that ends it. Assumes nothing.
use native.Mathlib.Omega.{arith}
use borrow.Author.Rules.{rules}
use Rattle.texts.proofs.Pieces.{then_writes, ends_line, hit_pieces}
use Rattle.texts.proofs.put_hit.Goals as goal

pub returns-clause-puts : goal.returns-clause-puts
returns-clause-puts c =
    let a = c.args in
    ends_line (hit_pieces a.k a.letter a.c a.code a.reads a.face)
    (search rules)
    (omega arith)
    (then_writes (omega arith)
    (then_writes (omega arith)
    (then_writes (omega arith)
    (then_writes (omega arith) c.walk.ensures c.word.ensures)
    c.cell.ensures)
    c.number.ensures)
    c.number-2.ensures)
    c.face.ensures
