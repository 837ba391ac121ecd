-- `runs::run_spot_of` meets its contract: a value and a short difference have a sum and a difference that fit. Assumes nothing.
use mathlib.Core.Path.{sym, ap, ◌∙◌}
use borrow.Author.Rules.{rules}
use Rattle.cells.proofs.Machine.{held_is, small_held}
use Rattle.tripod.specs.Tripod.{steps}
use Rattle.runs.specs.Run.{run_spot}
use Rattle.runs.proofs.Sums.{plus_held, less_held}
use Rattle.runs.proofs.run_spot_of.Goals as goal

pub returns-in-X : goal.returns-in-X
returns-in-X c =
    let (e, d) = c.requires in
    (λ i. record {
      at = held_is c.args.s.at (search rules) i;
      v = plus_held _ _ e.xy d.b i;
      w = plus_held _ _ e.xz d.c i;
      wv = small_held _ e.zy i;
    })
    ∙ ap (λ u. run_spot u (steps c.args.d) c.args.s) (sym c.in-X.is)

pub returns-in-Y : goal.returns-in-Y
returns-in-Y c =
    let (e, d) = c.requires in
    (λ i. record {
      at = held_is c.args.s.at (search rules) i;
      v = less_held _ _ e.zy d.c i;
      w = less_held _ _ e.xy d.a i;
      wv = small_held _ e.xz i;
    })
    ∙ ap (λ u. run_spot u (steps c.args.d) c.args.s) (sym c.in-Y.is)

pub returns-in-Z : goal.returns-in-Z
returns-in-Z c =
    let (e, d) = c.requires in
    (λ i. record {
      at = held_is c.args.s.at (search rules) i;
      v = plus_held _ _ e.zy d.b i;
      w = less_held _ _ e.xz d.a i;
      wv = small_held _ e.xy i;
    })
    ∙ ap (λ u. run_spot u (steps c.args.d) c.args.s) (sym c.in-Z.is)
