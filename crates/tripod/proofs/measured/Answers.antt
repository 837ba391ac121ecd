-- `tripod::measured` meets its contract: one difference for each axis, of ends within the limit. Assumes nothing.
use mathlib.Core.Path.{◌≡◌, ◌∙◌, ap, ap₂}
use mathlib.Core.Bool.{true}
use Rattle.cells.specs.declared.Cell.{Cell}
use Rattle.cells.specs.Touching.{on, apart}
use Rattle.cells.proofs.Machine.{held, small_held}
use Rattle.lines.specs.Steps.{Axis, X, Y, Z}
use Rattle.lines.specs.Lines.{in_limit, InLimit, differences}
use Rattle.tripod.proofs.Laws.{limit_small, measured_is}
use Rattle.tripod.proofs.measured.Goals as goal

-- an end's coordinate is read back as it is
as_is : (p : Cell) → InLimit p → (a : Axis) → held (on p a) ≡ on p a
as_is p h a = small_held (on p a) (limit_small (on p a) (h.limit a))

in_limits : (p q : Cell) → InLimit p → InLimit q → (a : Axis) → (in_limit (held (on p a)) ≡ true) × (in_limit (held (on q a)) ≡ true)
in_limits p q hp hq a = (ap in_limit (as_is p hp a) ∙ hp.limit a, ap in_limit (as_is q hq a) ∙ hq.limit a)

difference_of : (p q : Cell) → InLimit p → InLimit q → (a : Axis) → apart (held (on p a)) (held (on q a)) ≡ differences p q a
difference_of p q hp hq a = ap₂ apart (as_is p hp a) (as_is q hq a)

pub difference-a-requires : goal.difference-a-requires
difference-a-requires c = in_limits c.args.p c.args.q c.requires.0 c.requires.1 X

pub difference-b-requires : goal.difference-b-requires
difference-b-requires c = in_limits c.args.p c.args.q c.requires.0 c.requires.1 Y

pub difference-c-requires : goal.difference-c-requires
difference-c-requires c = in_limits c.args.p c.args.q c.requires.0 c.requires.1 Z

pub returns : goal.returns
returns c =
    let p = c.args.p in
    let q = c.args.q in
    let (hp, hq) = c.requires in
    measured_is p q _ hp hq
    (c.difference-a.ensures ∙ difference_of p q hp hq X)
    (c.difference-b.ensures ∙ difference_of p q hp hq Y)
    (c.difference-c.ensures ∙ difference_of p q hp hq Z)
