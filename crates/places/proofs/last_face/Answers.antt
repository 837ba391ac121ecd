-- `places::last_face` meets its contract: whether the line rises is that of the axis crossed last. Assumes nothing.
use mathlib.Core.Path.{ap₂, ◌∙◌}
use mathlib.Core.Bool.{cond}
use lib.Signed.{le_z}
use borrow.Author.Rules.{rules}
use Rattle.cells.specs.declared.Face.TheVariants as Face
use Rattle.cells.specs.Touching.{on}
use Rattle.cells.proofs.Machine.{held_is}
use Rattle.places.proofs.Chosen.{of_last_at}
use Rattle.places.proofs.last_face.Goals as goal

pub returns : goal.returns
returns c =
    let p = c.args.p in
    let q = c.args.q in
    let held = rw (held_is p.x (search rules), held_is q.x (search rules), held_is p.y (search rules), held_is q.y (search rules), held_is p.z (search rules), held_is q.z (search rules)) at c.of_last-rising.ensures in
    let rising = held ∙ of_last_at (λ n. le_z (on p n) (on q n)) c.args.w in
    c.face_of.ensures ∙ ap₂ (λ b n. cond b (Face.Plus n) (Face.Minus n)) rising c.of_last.ensures
