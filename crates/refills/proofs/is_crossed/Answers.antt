-- `refills::is_crossed` meets its contract: a test for each axis, in the definition's order. Assumes nothing.
use mathlib.Core.Path.{refl, sym, ◌∙◌}
use mathlib.Core.Bool.{true≢false}
use borrow.Author.Rules.{rules}
use Rattle.cells.proofs.Machine.{lt_held}
use Rattle.refills.proofs.is_crossed.Goals as goal
use Rattle.refills.proofs.is_crossed.Goals.{then-high-low, else-high-low}

pub returns-then-high-low-2 : goal.returns-then-high-low-2
returns-then-high-low-2 c =
    let a = c.args in
    let one = c.if-high-low-2.true in
    one ∙ elim c.if-high-low.branch [
      | then-high-low w ↦ sym (rw (lt_held a.high.x a.low.x (search rules) (search rules) w.if-high-low.true))
      | else-high-low w ↦ sym (rw (
        lt_held a.high.x a.low.x (search rules) (search rules) w.if-high-low.false,
        lt_held a.high.y a.low.y (search rules) (search rules) (sym w.value-is ∙ one),
      ))
    ]

pub returns-else-high-low-2 : goal.returns-else-high-low-2
returns-else-high-low-2 c =
    let a = c.args in
    let none = c.if-high-low-2.false in
    elim c.if-high-low.branch [
      | then-high-low w ↦ absurd (true≢false (sym w.if-high-low.true ∙ sym w.value-is ∙ none))
      | else-high-low w ↦ rw (
        lt_held a.high.x a.low.x (search rules) (search rules) w.if-high-low.false,
        lt_held a.high.y a.low.y (search rules) (search rules) (sym w.value-is ∙ none),
        sym (lt_held a.high.z a.low.z (search rules) (search rules) refl),
      )
    ]
