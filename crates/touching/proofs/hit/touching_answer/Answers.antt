-- `touching::hit::touching_answer` meets its contract: the answer is worked out from where the walk hit, or it is clear. Assumes nothing.
use Prim.Native.Nat.{ℕ}
use mathlib.Core.Path.{◌≡◌, refl, sym, ap, ◌∙◌, subst}
use mathlib.Core.Bool.{Bool, true, false, cond}
use mathlib.Core.List.{List}
use lib.IntN.{ℤ}
use native.Mathlib.Omega.{arith}
use mir.Syntax.{w32}
use mir.Val.{SFits}
use lib.ListN.{length}
use Rattle.cells.specs.declared.Start.{Start}
use Rattle.cells.proofs.Machine.{held, held_is, nat_fits}
use Rattle.lines.specs.declared.Tripod.{Tripod}
use Rattle.walks.specs.declared.FirstHit.TheVariants as FirstHit
use Rattle.routes.specs.declared.Route.{Route}
use Rattle.routes.specs.Route.{Planned, HasByte}
use Rattle.hits.specs.Answer.{answer_from}
use Rattle.touching.specs.Looking.{told_from, found_along}
use Rattle.touching.proofs.Finding.{told_planned}
use Rattle.touching.proofs.hit.touching_answer.Goals as goal
use Rattle.touching.proofs.hit.touching_answer.Goals.{After-walk_touching-t}

-- the answer does not hang on the values of the spot
by_place : (start : Start) (l : List ℕ) (k : Route) (at : ℤ) (e f : Tripod) (reads : ℕ) →
    answer_from start l k (record { spot = record { at = at; e = e }; reads = reads }) ≡ answer_from start l k (record { spot = record { at = at; e = f }; reads = reads })
unfolding answer_from
by_place start l k at e f reads = refl

-- what the walk says, by whether it hit
says : (c : After-walk_touching-t) (hit : Bool) → c.walk_touching-t.result.hit ≡ hit →
    let r = c.walk_touching-t.result in
    cond hit (answer_from c.args.how.start c.args.lane.cells.now (told_from c.args.lane.route) (record { spot = r.spot; reads = r.reads })) (FirstHit.Clear r.reads) ≡
    found_along c.args.how.start c.args.lane.cells.now c.args.lane.route
says c hit is =
    let r = c.walk_touching-t.result in
    ap (λ b. cond b (answer_from c.args.how.start c.args.lane.cells.now (told_from c.args.lane.route) (record { spot = r.spot; reads = r.reads })) (FirstHit.Clear r.reads))
    (sym is) ∙ c.walk_touching-t.ensures.answers

-- the place of the byte is read back as it is
at_same : (c : After-walk_touching-t) → held c.walk_touching-t.result.spot.at ≡ c.walk_touching-t.result.spot.at
at_same c =
    let b = c.walk_touching-t.ensures.byte in
    held_is _ (subst (SFits w32) (sym b.is) (nat_fits b.index (omega (arith, b.below, b.few))))

pub invariant_of-told : goal.invariant_of-told
invariant_of-told c =
    record {
      planned =
          subst (Planned (length c.args.lane.cells.now)) (sym c.told_from.ensures)
          (told_planned c.args.lane.cells.now c.args.lane.route c.args.lane.planned);
    }

pub answer_of-requires : goal.answer_of-requires
answer_of-requires c =
    subst (HasByte (length c.args.lane.cells.now)) (sym (at_same ((goal.at.answer_of-requires c).After-walk_touching-t))) c.walk_touching-t.ensures.byte

pub returns-then-t : goal.returns-then-t
returns-then-t c =
    let earlier = goal.at.returns-then-t c in
    let r = c.walk_touching-t.result in
    c.answer_of.ensures
    ∙ by_place c.args.how.start c.args.lane.cells.now c.told_from.result (held r.spot.at) _ r.spot.e r.reads
    ∙ ap (λ at. answer_from c.args.how.start c.args.lane.cells.now c.told_from.result
    (record { spot = record { at = at; e = r.spot.e }; reads = r.reads })) (at_same earlier.After-walk_touching-t)
    ∙ ap (λ k. answer_from c.args.how.start c.args.lane.cells.now k (record { spot = r.spot; reads = r.reads })) c.told_from.ensures
    ∙ says earlier.After-walk_touching-t true c.if-t.true

pub returns : goal.returns
returns c = says ((goal.at.returns c).After-walk_touching-t) false c.if-t.false
