-- `lists::twenty_six::paces_of` meets its contract: the ends' coordinates are read back as they are. Assumes nothing.
use mathlib.Core.Path.{◌≡◌, ap, ap₂, ◌∙◌}
use Prim.Native.Nat.{ℕ}
use lib.IntN.{ℤ}
use mir.Syntax.{w32}
use mir.Val.{SFits}
use borrow.Author.Rules.{rules}
use Rattle.cells.proofs.Machine.{held, held_is}
use Rattle.lists.specs.declared.twenty_six.Pace.{Pace}
use Rattle.lists.specs.Kept.{pace}
use Rattle.lists.proofs.twenty_six.paces_of.Goals as goal

-- what the call on an axis answered, of the ends themselves
pace_is : (p q : ℤ) (D : ℕ) {M last : ℕ} {r : Pace} → SFits w32 p → SFits w32 q → last ≡ M → r ≡ pace (held p) (held q) D last → r ≡ pace p q D M
pace_is p q D {M} {last} f g e h = h ∙ ap₂ (λ u v. pace u v D last) (held_is p f) (held_is q g) ∙ ap (pace p q D) e

pub returns : goal.returns
returns c =
    let p = c.args.segment.p in
    let q = c.args.segment.q in
    let d = c.args.segment.d in
    let e = c.requires in
    λ i. record {
      x = pace_is p.x q.x d.a (search rules) (search rules) e c.pace_of.ensures i;
      y = pace_is p.y q.y d.b (search rules) (search rules) e c.pace_of-2.ensures i;
      z = pace_is p.z q.z d.c (search rules) (search rules) e c.pace_of-3.ensures i;
    }
