-- How the answer of the calls that keep counts is flattened for C: what SCOPE says of it, as numbers. Assumes nothing.
use Rattle.std.specs.Prelude.{Ok, Err, Result, ℕ}
use Rattle.cells.specs.declared.Refusal.{Refusal}
use Rattle.structs.specs.declared.brick_answers.OatTally.{OatTally}
use Rattle.structs.specs.Refusals.{accepted, flat_refusal}

abbrev pub flat_tally : Result ℕ Refusal → OatTally
flat_tally (Ok many) = record { said = accepted; total = many }
flat_tally (Err r) = record { said = flat_refusal r; total = 0 }
