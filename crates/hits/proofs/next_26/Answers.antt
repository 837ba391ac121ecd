-- `hits::next_26` meets its contract: a run where the byte is 0, else the faces to the next cell. Assumes nothing.
use Rattle.hits.proofs.Turns.{turn_byte}
use Rattle.hits.proofs.next_26.Goals as goal

pub byte_at-requires : goal.byte_at-requires
byte_at-requires c = turn_byte _ _ _ _ _ _ _ c.requires.0
