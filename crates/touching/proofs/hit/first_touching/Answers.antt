-- `touching::hit::first_touching` meets its contract: a refusal is the verdict's, and an accepted walk answers along its route. Assumes nothing.
use Rattle.std.specs.Prelude.{Ok, Err}
use mathlib.Core.Path.{◌≡◌, sym, ap, ◌∙◌}
use lib.ListN.{length}
use Rattle.cells.specs.Checks.{by_verdict}
use Rattle.lines.specs.Preference.{order_of}
use Rattle.lines.specs.Touching.{visits, crossings}
use Rattle.grids.specs.Inside.{walk_check}
use Rattle.walks.specs.Walks.{hit_at}
use Rattle.routes.proofs.Accepting.{ends_enclosed, route_planned, of_route}
use Rattle.touching.specs.Touching.{walking, found_in, first_touching}
use Rattle.touching.proofs.hit.first_touching.Goals as goal
use Rattle.touching.proofs.hit.first_touching.Goals.{In_ok-check_walk}

-- where the call has passed its tests
fine : (c : In_ok-check_walk) → let a = c.args in walk_check a.n (length a.cells.now) a.p a.q ≡ Ok tt
fine c = sym c.check_walk.ensures ∙ c.in_ok-check_walk.was

pub route_of-requires : goal.route_of-requires
route_of-requires c = ends_enclosed _ _ _ _ (fine c)

pub invariant_of-lane : goal.invariant_of-lane
invariant_of-lane c = record { planned = route_planned _ _ _ _ (fine ((goal.at.invariant_of-lane c).In_ok-check_walk)) _ _ c.route_of.ensures }

pub touching_answer-requires : goal.touching_answer-requires
unfolding order_of
touching_answer-requires c = c.route_of.ensures.order

pub returns : goal.returns
unfolding first_touching
returns c =
    let a = c.args in
    record {
      says =
          ap Ok (c.touching_answer.ensures
          ∙ of_route _ _ _ _ _ c.route_of.ensures
          (λ m p q o. found_in (hit_at (walking a.start) m a.cells.now p) m a.cells.now p q 0 (visits (crossings p q))))
          ∙ sym (ap (by_verdict Err _) (fine ((goal.at.returns c).In_ok-check_walk)));
    }
