-- `hits::adaptive_answer` meets its contract: the walk stops where the definition's ends, and the answer is worked out from there. Assumes nothing.
use Rattle.walks.specs.declared.Walker.TheVariants.{Adaptive}
use Rattle.hits.proofs.Answering.{stop_byte, stop_found}
use Rattle.hits.proofs.adaptive_answer.Goals as goal

pub answer_of-requires : goal.answer_of-requires
answer_of-requires c = stop_byte Adaptive c.args.how.start c.args.lane.cells.now c.args.lane.route c.args.lane.planned _ c.walk_adaptive-stop.ensures

pub returns : goal.returns
returns c = stop_found Adaptive c.args.how.start c.args.lane.cells.now c.args.lane.route c.args.lane.planned _ c.walk_adaptive-stop.ensures c.answer_of.ensures
