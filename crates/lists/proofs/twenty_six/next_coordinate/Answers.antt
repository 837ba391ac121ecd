-- `lists::twenty_six::next_coordinate` meets its contract: the test is that of what is due, and the sums of small numbers fit. Assumes nothing.
use mathlib.Core.Path.{ap}
use native.Mathlib.Omega.{arith}
use lib.IntN.{pos}
use Rattle.cells.proofs.Signed.{up, dn, le_z_true, lt_z_true, le_le_z}
use Rattle.cells.proofs.Machine.{small_held, sum_held}
use Rattle.lists.proofs.twenty_six.next_coordinate.Goals as goal

pub returns-then-c-ge0 : goal.returns-then-c-ge0
returns-then-c-ge0 c =
    let k = c.requires in
    let due = c.args.c.due in
    let e = small_held due k.due in
    rw (le_le_z (pos 0) due (omega (arith, le_z_true, lt_z_true, ap up e, ap dn e)))
    (λ i. record { at = sum_held _ _ k.at k.by i; due = sum_held _ _ k.due k.go i })
