-- `texts::Pen::signed` meets its contract: a minus where the number is below 0, and then its size. Assumes nothing.
use mathlib.Core.Path.{sym, ap, ◌∙◌}
use mathlib.Core.List.{[], ◌∷◌, ◌++◌}
use native.Mathlib.Omega.{arith}
use Rattle.texts.specs.Text.{decimal, minus}
use Rattle.texts.proofs.Pieces.{then_writes, same_written}
use Rattle.texts.proofs.Signs.{minus_first, no_minus}
use Rattle.texts.proofs.Pen.signed.Goals as goal
use Rattle.texts.proofs.Pen.signed.Goals.{then-v-lt0, else-v-lt0}

pub returns : goal.returns
returns c =
    let a = c.args in
    let size = c.unsigned_abs.ensures.value in
    elim c.if-v-lt0.branch [
      | then-v-lt0 w ↦
          let text = ap (λ n. minus ∷ decimal n) size ∙ sym (minus_first a.v c.ranges.v w.if-v-lt0.true) in
          same_written (ap (λ l. l ++ (a.after ∷ [])) text) (omega arith) (then_writes (omega arith) w.byte.ensures (rw w.self-is at c.number.ensures))
      | else-v-lt0 w ↦
          let text = ap decimal size ∙ sym (no_minus a.v c.ranges.v w.if-v-lt0.false) in
          same_written (ap (λ l. l ++ (a.after ∷ [])) text) (omega arith) (rw w.self-is at c.number.ensures)
    ]
