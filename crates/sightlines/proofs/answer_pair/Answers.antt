-- `sightlines::answer_pair` meets its contract: what comes next is what the pair's step says, or nothing. Assumes nothing.
use Rattle.sightlines.proofs.answer_pair.Goals as goal

pub returns : goal.returns
returns c = c.written.ensures c.args.k c.pair_step-step.ensures.count.1
