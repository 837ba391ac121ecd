-- How the answers of marking, completeness and layers are flattened for C: what SCOPE says of them, as numbers. Assumes nothing.
use Rattle.std.specs.Prelude.{Bool, true, false, Ok, Err, Result}
use Rattle.cells.specs.declared.Refusal.{Refusal}
use Rattle.cells.specs.Checks.{Verdict}
use Rattle.grids.specs.declared.LayerPart.{LayerPart}
use Rattle.structs.specs.declared.grid_answers.OatVerdict.{OatVerdict}
use Rattle.structs.specs.declared.grid_answers.OatComplete.{OatComplete}
use Rattle.structs.specs.declared.grid_answers.OatPart.{OatPart}
use Rattle.structs.specs.Refusals.{accepted, flat_refusal}

abbrev pub flat_verdict : Verdict → OatVerdict
flat_verdict (Ok _) = record { said = accepted }
flat_verdict (Err r) = record { said = flat_refusal r }

abbrev pub flat_complete : Result Bool Refusal → OatComplete
flat_complete (Ok true) = record { said = accepted; yes = 1 }
flat_complete (Ok false) = record { said = accepted; yes = 0 }
flat_complete (Err r) = record { said = flat_refusal r; yes = 0 }

abbrev pub flat_part : Result LayerPart Refusal → OatPart
flat_part (Ok p) = record { said = accepted; offset = p.start; length = p.long }
flat_part (Err r) = record { said = flat_refusal r; offset = 0; length = 0 }
