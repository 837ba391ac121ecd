-- How the answer of a list call is flattened for C: what SCOPE says of it, as numbers. Assumes nothing.
use Rattle.std.specs.Prelude.{Ok, Err, Result, ℕ}
use Rattle.cells.specs.declared.Refusal.{Refusal}
use Rattle.structs.specs.declared.line_answers.OatListed.{OatListed}
use Rattle.structs.specs.Refusals.{accepted, flat_refusal}

abbrev pub flat_listed : Result ℕ Refusal → OatListed
flat_listed (Ok n) = record { said = accepted; count = n }
flat_listed (Err r) = record { said = flat_refusal r; count = 0 }
