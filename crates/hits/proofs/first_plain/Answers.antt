-- `hits::first_plain` meets its contract: a refusal is the verdict's, and an accepted walk answers along its route. Assumes nothing.
use Rattle.std.specs.Prelude.{Ok}
use Rattle.std.proofs.lemmas.Result.{err_from_is_err_and}
use mathlib.Core.Path.{◌≡◌, sym, ◌∙◌}
use lib.ListN.{length}
use Rattle.walks.specs.declared.Walker.TheVariants.{Plain}
use Rattle.grids.specs.Inside.{walk_check}
use Rattle.routes.proofs.Accepting.{ends_enclosed, route_planned}
use Rattle.hits.proofs.Answering.{refused_finds, found_finds}
use Rattle.hits.proofs.first_plain.Goals as goal
use Rattle.hits.proofs.first_plain.Goals.{In_ok-check_walk}

-- where the call has passed its tests
fine : (c : In_ok-check_walk) → let a = c.args in walk_check a.n (length a.cells.now) a.p a.q ≡ Ok tt
fine c = sym c.check_walk.ensures ∙ c.in_ok-check_walk.was

pub route_of-requires : goal.route_of-requires
route_of-requires c = ends_enclosed _ _ _ _ (fine c)

pub invariant_of-lane : goal.invariant_of-lane
invariant_of-lane c = record { planned = route_planned _ _ _ _ (fine ((goal.at.invariant_of-lane c).In_ok-check_walk)) _ _ c.route_of.ensures }

pub returns-in_err-check_walk : goal.returns-in_err-check_walk
returns-in_err-check_walk c =
    let a = c.args in
    let p = err_from_is_err_and c.from_residual.result c.from_residual.ensures.1 in
    rw (p.1, p.2) (refused_finds Plain a.how a.n a.cells.now a.p a.q (sym c.check_walk.ensures ∙ c.in_err-check_walk.was))

pub returns : goal.returns
returns c =
    let a = c.args in
    found_finds Plain a.how a.n a.cells.now a.p a.q c.route_of.result (fine ((goal.at.returns c).In_ok-check_walk)) c.route_of.ensures c.plain_answer.ensures
