-- `program::walk_lines` meets its contract: each line stands right behind the one before it. Assumes nothing.
use mathlib.Core.Path.{refl}
use native.Mathlib.Omega.{arith}
use Rattle.program.specs.Program.{plain_letter, adaptive_letter}
use Rattle.program.proofs.Front.{front}
use Rattle.program.proofs.Lines.{no_line, and_line}
use Rattle.program.proofs.Walked.{walkable}
use Rattle.program.proofs.walk_lines.Goals as goal

pub returns : goal.returns
returns c =
    let k = c.args.k in
    let one = and_line k plain_letter (omega arith) (no_line k) c.walk_line-next.ensures.puts c.in_ok-plain.ensures.says in
    let both = and_line k adaptive_letter (omega arith) one c.walk_line.ensures.puts c.in_ok-adaptive.ensures.says in
    rw (walkable {e = c.args.e} _ c.in_ok-plain.ensures) (front both.puts refl)
