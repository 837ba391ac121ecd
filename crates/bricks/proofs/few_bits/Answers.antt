-- After d turns the word has the bits of the first d cells. Assumes nothing.
use native.Mathlib.Omega.{arith}
use Rattle.bricks.proofs.Words.{grown, grown_fits, one_number}
use Rattle.bricks.proofs.few_bits.Goals as goal
use Rattle.bricks.proofs.few_bits.Invariants.{bits_from}

pub overflow_add-bits : goal.overflow_add-bits
overflow_add-bits c =
    let bits = bits_from c.args.cells.now c.args.from in
    grown_fits bits c.loop-d.d 1 _ _ (omega arith) c.loop-d.invariant (one_number bits c.loop-d.d _ c.one.ensures.0)

pub loop-d-preserved : goal.loop-d-preserved
loop-d-preserved c =
    let bits = bits_from c.args.cells.now c.args.from in
    grown bits c.loop-d.d 1 _ _ (omega arith) c.loop-d.invariant (one_number bits c.loop-d.d _ c.one.ensures.0)
