-- `places::place_after` meets its contract: what is chosen is that of the axis crossed last. Assumes nothing.
use mathlib.Core.Path.{◌≡◌, ap, ◌∙◌}
use Prim.Native.Nat.{ℕ, ◌*◌}
use borrow.Author.Tests.{ne_eqb}
use Rattle.lines.specs.Lines.{face_along}
use Rattle.lines.specs.Steps.{X, Y, Z}
use Rattle.tripod.specs.declared.Diffs.{Diffs}
use Rattle.tripod.specs.Tripod.{steps}
use Rattle.places.specs.declared.Last.{Last}
use Rattle.places.specs.Entered.{numerator, of_last, entered}
use Rattle.places.proofs.Chosen.{of_last_at}
use Rattle.places.proofs.place_after.Goals as goal

-- the number of the axis crossed last
chosen : (d : Diffs) (w : Last) {r : ℕ} → r ≡ of_last w d.a d.b d.c → r ≡ steps d (of_last w X Y Z)
chosen d w e = e ∙ of_last_at (steps d) w

pub returns : goal.returns
unfolding entered
returns c =
    let w = c.last_made-w.result in
    let n = ap (λ v. of_last v X Y Z) c.last_made-w.ensures in
    let num = c.numerator_of.ensures
    ∙ ap numerator (chosen c.args.t w c.of_last.ensures ∙ ap (steps c.args.t) n) in
    let den = chosen c.args.d w c.of_last-2.ensures ∙ ap (steps c.args.d) n in
    let face = c.last_face.ensures ∙ ap (face_along c.args.p c.args.q) n in
    rw (ne_eqb _ _ (λ e. c.if-total-eq0.false (c.total.ensures ∙ e)))
    (λ i. record { num = num i; den = 2 * den i; face = face i })
