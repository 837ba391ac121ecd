-- `tripod::comes_before` meets its contract: the library's order of triples asks the first two, then the second, then the last. Assumes nothing.
use Rattle.std.proofs.Common.{rules, Less, Equal, Greater, Some, is_lt}
use Rattle.std.specs.Ordering.{is_some_and, partial_ordering_then}
use mathlib.Core.Path.{◌≡◌, refl}
use mathlib.Core.Bool.{Bool, true, false, cond}
use lib.Signed.{lt_z}
use Rattle.cells.proofs.Machine.{held_is}
use Rattle.lines.specs.Preference.{comes_before}
use Rattle.tripod.proofs.comes_before.Goals as goal

-- how the library's order asks, by the two tests of each pair
asked : (a a' b b' c c' : Bool) → let order = λ (s t : Bool). Some (cond s Less (cond t Greater Equal)) in
    is_some_and is_lt (partial_ordering_then (partial_ordering_then (order a a') (order b b')) (order c c'))
    ≡ cond a true (cond a' false (cond b true (cond b' false (cond c true (cond c' false false)))))
asked true a' b b' c c' = refl
asked false true b b' c c' = refl
asked false false true b' c c' = refl
asked false false false true c c' = refl
asked false false false false true c' = refl
asked false false false false false true = refl
asked false false false false false false = refl

pub returns : goal.returns
unfolding comes_before
returns c =
    let p = c.args.p in
    let q = c.args.q in
    rw (c.lt.ensures, held_is p.x (search rules), held_is p.y (search rules), held_is p.z (search rules), held_is q.x (search rules), held_is q.y (search rules), held_is q.z (search rules))
    (asked (lt_z p.z q.z) (lt_z q.z p.z) (lt_z p.y q.y) (lt_z q.y p.y) (lt_z p.x q.x) (lt_z q.x p.x))
