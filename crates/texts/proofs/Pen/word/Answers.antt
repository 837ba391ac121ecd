-- `texts::Pen::word` meets its contract: the word and the byte after it are stored one behind the other. Assumes nothing.
use mathlib.Core.Path.{refl}
use native.Mathlib.Omega.{arith}
use lib.ListN.{length}
use Rattle.texts.specs.Writing.{Writes}
use Rattle.texts.proofs.Pieces.{then_writes}
use Rattle.texts.proofs.Pen.word.Goals as goal

pub returns : goal.returns
returns c =
    let a = c.args in
    let first : Writes a.word.now (length a.word.now) a.self.now _ =
    record { puts = record { says = refl; holds = c.put.ensures }; fits = omega arith; long = omega arith; same = refl } in
    then_writes (omega arith) first c.byte.ensures
