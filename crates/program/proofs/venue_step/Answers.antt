-- `program::venue_step` meets its contract: the line of the refusal's number, and the end. Assumes nothing.
use mathlib.Core.Path.{refl, sym}
use Rattle.program.specs.Program.{venue_said, Says}
use Rattle.program.proofs.Front.{front, counts}
use Rattle.program.proofs.Frames.{venue_said_of}
use Rattle.program.proofs.venue_step.Goals as goal

pub returns-in-Err : goal.returns-in-Err
returns-in-Err c =
    let said : Says (venue_said c.args.frame.now) c.args.text.now _ _ =
    rw (venue_said_of c.args.frame.now, sym c.in-Err.ensures, sym c.number.ensures.says) (front c.put_venue_refused.ensures refl) in
    record { says = said; count = counts said }
