-- `runs::long_step` meets its contract: v's numbers are moved, then w's from there. Assumes nothing.
use mathlib.Core.Path.{◌≡◌, sym, ap, ◌∙◌, subst}
use borrow.Author.Rules.{rules}
use Rattle.cells.proofs.Machine.{held, held_is}
use Rattle.runs.specs.Run.{of_v, of_w, moved_by, CanMove}
use Rattle.runs.proofs.Sums.{held_triple, triple_held}
use Rattle.runs.proofs.long_step.Goals as goal
use Rattle.runs.proofs.long_step.Goals.{After-moved_by-v}

-- v has moved
past_v : (c : After-moved_by-v) → c.moved_by-v.result ≡ moved_by c.args.k.v (of_v c.args.s)
past_v c = c.moved_by-v.ensures ∙ ap (moved_by c.args.k.v) (triple_held (of_v c.args.s) c.requires.v.from)

-- what w is moved from
from_there : (c : After-moved_by-v) →
    record { at = held c.moved_by-v.result.at; due = held c.args.s.w; wv = held c.moved_by-v.result.wv } ≡ of_w c.args.k c.args.s
from_there c =
    ap (λ t. held_triple (record { at = t.at; due = c.args.s.w; wv = t.wv })) (past_v c) ∙ triple_held (of_w c.args.k c.args.s) c.requires.w.from

pub moved_by-w-requires : goal.moved_by-w-requires
moved_by-w-requires c = subst (CanMove c.args.k.w) (sym (from_there ((goal.at.moved_by-w-requires c).After-moved_by-v))) c.requires.w

pub returns : goal.returns
returns c =
    let earlier = goal.at.returns c in
    let w = c.moved_by-w.ensures ∙ ap (moved_by c.args.k.w) (from_there earlier.After-moved_by-v) in
    λ i. record {
      at = (held_is _ (search rules) ∙ ap (λ t. t.at) w) i;
      v = (held_is _ (search rules) ∙ ap (λ t. t.due) (past_v earlier.After-moved_by-v)) i;
      w = (held_is _ (search rules) ∙ ap (λ t. t.due) w) i;
      wv = (held_is _ (search rules) ∙ ap (λ t. t.wv) w) i;
    }
