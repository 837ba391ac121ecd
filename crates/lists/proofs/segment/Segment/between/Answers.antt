-- `lists::segment::Segment::between` meets its contract: where both ends have passed they lie within the limit, and are measured. Assumes nothing.
use mathlib.Core.Path.{◌≡◌, sym, ◌∙◌}
use Rattle.std.specs.Prelude.{Ok}
use Rattle.lists.specs.Lists.{ends_check}
use Rattle.lists.proofs.Front.{ends_fine}
use Rattle.lists.proofs.segment.Segment.between.Goals as goal
use Rattle.lists.proofs.segment.Segment.between.Goals.{In_ok-check_ends}

-- where both ends have passed
fine : (c : In_ok-check_ends) → ends_check c.args.p c.args.q ≡ Ok tt
fine c = sym c.check_ends.ensures ∙ c.in_ok-check_ends.was

pub measured-requires : goal.measured-requires
measured-requires c = ends_fine _ _ (fine c)

pub invariant_of-result : goal.invariant_of-result
invariant_of-result c =
    let (hp, hq) = ends_fine _ _ (fine ((goal.at.invariant_of-result c).In_ok-check_ends)) in
    record { measured = record { p_in = hp; q_in = hq; is = c.measured.ensures.0; short = c.measured.ensures.1 } }
