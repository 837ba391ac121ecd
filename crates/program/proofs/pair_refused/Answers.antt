-- `program::pair_refused` meets its contract: the line of the refusal's number, and what that number leads on to. Assumes nothing.
use mathlib.Core.Path.{sym}
use Rattle.program.proofs.Front.{front}
use Rattle.program.proofs.pair_refused.Goals as goal

pub returns : goal.returns
returns c =
    let number = c.number-number.ensures.says in
    rw (sym number) (front c.put_pair_refused.ensures c.after_refusal.ensures)
