-- `touching::list::put_tie` meets its contract: each case stores the cells of the tie that it is in. Assumes nothing.
use mathlib.Core.Path.{refl, ap, ◌∙◌, subst}
use Rattle.lines.specs.declared.Tie.TheVariants.{One}
use Rattle.tripod.specs.Tripod.{NextTie}
use Rattle.lists.specs.Kept.{put3}
use Rattle.touching.specs.Listing.{put_cells}
use Rattle.touching.proofs.list.put_tie.Goals as goal
use Rattle.touching.proofs.list.put_tie.Goals.{In-One, In-Three, In-Two}

-- the tie of each case
one : (c : In-One) → NextTie c.args.s.e (One c.in-One.n)
one c = subst (NextTie _) c.in-One.is c.next_tie.ensures

pub returns-in-One : goal.returns-in-One
unfolding put_cells
returns-in-One c =
    let spot = c.crossed-spot.ensures in
    let a = c.args in
    record {
      tie = One _;
      next = one ((goal.at.returns-in-One c).In-One);
      stored = c.put.ensures ∙ ap (λ s. put3 a.out.now a.at s.at) spot;
      spot = spot;
      cells = refl;
      faces = refl;
    }
