-- `runs::spot_of` meets its contract: what is due and a short difference have differences that fit. Assumes nothing.
use mathlib.Core.Path.{sym, ap, ◌∙◌}
use borrow.Author.Rules.{rules}
use Rattle.cells.proofs.Machine.{held_is}
use Rattle.tripod.specs.Tripod.{steps}
use Rattle.runs.specs.Run.{spot_back}
use Rattle.runs.proofs.Sums.{back_held, less_held}
use Rattle.runs.proofs.spot_of.Goals as goal

pub returns-in-X : goal.returns-in-X
returns-in-X c =
    let (e, d) = c.requires in
    (λ i. record {
      at = held_is c.args.s.at (search rules) i;
      e = record {
        xy = back_held _ _ e.v d.b i;
        xz = back_held _ _ e.w d.c i;
        zy = held_is c.args.s.wv (search rules) i;
      };
    })
    ∙ ap (λ u. spot_back u (steps c.args.d) c.args.s) (sym c.in-X.is)

pub returns-in-Y : goal.returns-in-Y
returns-in-Y c =
    let (e, d) = c.requires in
    (λ i. record {
      at = held_is c.args.s.at (search rules) i;
      e = record {
        xy = less_held _ _ e.w d.a i;
        xz = held_is c.args.s.wv (search rules) i;
        zy = less_held _ _ e.v d.c i;
      };
    })
    ∙ ap (λ u. spot_back u (steps c.args.d) c.args.s) (sym c.in-Y.is)

pub returns-in-Z : goal.returns-in-Z
returns-in-Z c =
    let (e, d) = c.requires in
    (λ i. record {
      at = held_is c.args.s.at (search rules) i;
      e = record {
        xy = held_is c.args.s.wv (search rules) i;
        xz = less_held _ _ e.w d.a i;
        zy = back_held _ _ e.v d.b i;
      };
    })
    ∙ ap (λ u. spot_back u (steps c.args.d) c.args.s) (sym c.in-Z.is)
