-- `survey::halved` meets its contract: the middle lies strictly between the ends, and a q that is not below it is at least it, since q is a number.
-- Assumes nothing.
use native.Mathlib.Omega.{arith}
use Rattle.survey.proofs.Whole.{at_least}
use Rattle.survey.proofs.Order.{compared}
use Rattle.survey.proofs.halved.Goals as goal

pub returns-else-q-mid : goal.returns-else-q-mid
returns-else-q-mid c =
    let a = c.args in
    let from = c.requires.0 in
    record {
      from = at_least a.q _ (omega arith) (compared _ a.q from) c.if-q-mid.false;
      upto = λ l. absurd (omega arith);
      rising = omega arith;
      within = omega arith;
      shorter = omega arith;
    }
