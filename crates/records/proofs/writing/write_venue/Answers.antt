-- `records::writing::write_venue` meets its contract: where the check is fine, the head and then the cells are stored. Assumes nothing.
use Prim.Native.Nat.{◌+◌}
use mathlib.Core.Path.{sym, ap}
use Rattle.records.proofs.WriteTests.{wrote}
use Rattle.records.proofs.writing.write_venue.Goals as goal

pub returns : goal.returns
returns c =
    let a = c.args in
    wrote a.n a.cells.now a.out.now (sym c.in_ok-write_check.ensures) (ap (λ h. 4 + h) c.venue_head-start.ensures) c.put_head.ensures
    c.put.ensures
