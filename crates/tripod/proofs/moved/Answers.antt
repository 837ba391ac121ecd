-- `tripod::moved` meets its contract: small numbers have sums and differences that fit and are read back as they are. Assumes nothing.
use Rattle.cells.proofs.Machine.{small_held, sum_held, diff_held}
use Rattle.lines.proofs.Signs.{same_values}
use Rattle.tripod.proofs.moved.Goals as goal

pub returns-in-X : goal.returns-in-X
returns-in-X c =
    let (e, d) = c.requires in
    rw c.in-X.is
    (same_values (sum_held _ _ e.xy d.b2) (sum_held _ _ e.xz d.c2) (small_held _ e.zy))

pub returns-in-Y : goal.returns-in-Y
returns-in-Y c =
    let (e, d) = c.requires in
    rw c.in-Y.is
    (same_values (diff_held _ _ e.xy d.a2) (small_held _ e.xz) (diff_held _ _ e.zy d.c2))

pub returns-in-Z : goal.returns-in-Z
returns-in-Z c =
    let (e, d) = c.requires in
    rw c.in-Z.is
    (same_values (small_held _ e.xy) (diff_held _ _ e.xz d.a2) (sum_held _ _ e.zy d.b2))
