use Prim.Native.Nat.{◌*◌}
use Rattle.lines.specs.Preference.{order_of, prefers}
use Rattle.lines.specs.Lines.{six_cell}
use Rattle.lines.specs.Crossings.{place}
use Rattle.lists.specs.Kept.{SixSpotAt}
use Rattle.lists.proofs.Filling.{Filling, C}
use Rattle.lists.proofs.six.fill6.Given as goal

abbrev pub invariant-loop-m : goal.invariant-loop-m
invariant-loop-m l =
    let p = l.segment.p in
    let q = l.segment.q in
    let o = order_of l.fn.rule p q in
    Filling (six_cell (prefers o) p q) l.crossings l.initial.out l.out l.m (3 * l.m) × SixSpotAt o p q (place (C o p q) l.m) l.s
