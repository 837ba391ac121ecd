-- `trails::list_along` meets its contract: the walk's reads are how many cells there are; with room for them they are filled in. Assumes nothing.
use Rattle.std.specs.Prelude.{Ok}
use mathlib.Core.Path.{◌≡◌, refl, sym, ap, ◌∙◌, subst}
use native.Mathlib.Omega.{arith}
use lib.ListN.{length}
use Rattle.lists.specs.Lists.{filled, Lists}
use Rattle.lists.proofs.Front.{refused_room, listed_all}
use Rattle.trails.specs.Standing.{stand_cells, walked, CanList}
use Rattle.trails.proofs.Along.{can_list, walked_is, walked_long}
use Rattle.trails.proofs.list_along.Goals as goal
use Rattle.trails.proofs.list_along.Goals.{After-walk_adaptive-count}

-- as many cells as the walk reads
long : (c : After-walk_adaptive-count) →
    let a = c.args in
    length (walked a.lane.cells.now a.lane.route a.how.start) ≡ c.walk_adaptive-count.result.reads
long c = let a = c.args in walked_long a.lane.cells.now a.lane.route a.how.start ∙ sym c.walk_adaptive-count.ensures.reads

pub returns-then-out-count : goal.returns-then-out-count
returns-then-out-count c =
    refused_room _ (Ok tt) c.args.out.now refl
    (omega (arith, long ((goal.at.returns-then-out-count c).After-walk_adaptive-count), c.if-out-count.true))

pub fill-requires : goal.fill-requires
fill-requires c =
    let l = c.args.lane.cells.now in
    let k = c.args.lane.route in
    (subst (CanList l k) (sym c.walk_adaptive-count.ensures.reads) (can_list l k c.args.how.start), c.if-out-count.false)

pub returns : goal.returns
returns c =
    let earlier = goal.at.returns c in
    let a = c.args in
    let l = a.lane.cells.now in
    let k = a.lane.route in
    let line = walked l k a.how.start in
    let reads = c.walk_adaptive-count.ensures.reads in
    subst (λ n. Lists line (Ok tt) a.out.now (Ok n) c.fill.new.out) (long earlier.After-walk_adaptive-count)
    (listed_all line (Ok tt) a.out.now _ refl (omega (arith, long earlier.After-walk_adaptive-count, c.if-out-count.false))
    (c.fill.ensures ∙ ap (λ n. filled (stand_cells l k n) a.out.now) reads
    ∙ ap (λ x. filled x a.out.now) (sym (walked_is l k a.how.start))))
