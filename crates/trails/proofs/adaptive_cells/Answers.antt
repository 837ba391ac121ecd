-- `trails::adaptive_cells` meets its contract: a refusal is the verdict's, and an accepted call lists along its route. Assumes nothing.
use Rattle.std.specs.Prelude.{Ok}
use Rattle.std.proofs.lemmas.Result.{err_from_is_err_and}
use mathlib.Core.Path.{◌≡◌, sym, ◌∙◌, subst₂}
use lib.ListN.{length}
use Rattle.lines.specs.Preference.{prefers}
use Rattle.grids.specs.Inside.{walk_check}
use Rattle.walks.specs.declared.Walker.TheVariants.{Adaptive}
use Rattle.walks.specs.Walks.{walk_of}
use Rattle.routes.proofs.Accepting.{ends_enclosed, route_planned, of_route}
use Rattle.lists.specs.Lists.{Lists}
use Rattle.lists.proofs.Front.{refused_first}
use Rattle.trails.specs.Trails.{trail}
use Rattle.trails.proofs.adaptive_cells.Goals as goal
use Rattle.trails.proofs.adaptive_cells.Goals.{In_ok-check_walk}

-- where the call has passed its tests
fine : (c : In_ok-check_walk) → let a = c.args in walk_check a.n (length a.cells.now) a.p a.q ≡ Ok tt
fine c = sym c.check_walk.ensures ∙ c.in_ok-check_walk.was

pub route_of-requires : goal.route_of-requires
route_of-requires c = ends_enclosed _ _ _ _ (fine c)

pub invariant_of-lane : goal.invariant_of-lane
invariant_of-lane c = record { planned = route_planned _ _ _ _ (fine ((goal.at.invariant_of-lane c).In_ok-check_walk)) _ _ c.route_of.ensures }

pub returns-in_err-check_walk : goal.returns-in_err-check_walk
returns-in_err-check_walk c =
    let a = c.args in
    let p = err_from_is_err_and c.from_residual.result c.from_residual.ensures.1 in
    rw (p.1, p.2) (refused_first (trail a.how a.n a.cells.now a.p a.q) _ a.out.now _ (sym c.check_walk.ensures ∙ c.in_err-check_walk.was))

pub returns : goal.returns
returns c =
    let a = c.args in
    subst₂ (λ line first. Lists line first a.out.now c.list_along.result c.list_along.new.out)
    (of_route _ _ _ _ _ c.route_of.ensures (λ m p q o. walk_of Adaptive (record { start = a.how.start; preference = prefers o }) m a.cells.now p q))
    (sym (fine ((goal.at.returns c).In_ok-check_walk))) c.list_along.ensures
