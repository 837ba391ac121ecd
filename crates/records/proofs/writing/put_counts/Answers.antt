-- `records::writing::put_counts` meets its contract: three numbers of two bytes, one stored behind the other. Assumes nothing.
use mathlib.Core.Path.{refl}
use mathlib.Core.List.{◌++◌}
use native.Mathlib.Omega.{arith}
use Rattle.buffers.specs.Numbers.{two}
use Rattle.buffers.proofs.Over.{then_over}
use Rattle.records.proofs.writing.put_counts.Goals as goal

pub returns : goal.returns
returns c =
    let n = c.args.n in
    let room = c.requires.3 in
    then_over c.args.at (two n.nx ++ two n.ny) _ c.args.out.now (omega arith)
    (then_over c.args.at (two n.nx) _ c.args.out.now (omega arith) c.put_two.ensures refl c.put_two-2.ensures)
    refl c.put_two-3.ensures
