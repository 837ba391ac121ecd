-- How the answers of reading and writing a record are flattened for C: what SCOPE says of them, as numbers. Assumes nothing.
use Rattle.std.specs.Prelude.{Result, Ok, Err, ℕ, pos}
use Rattle.cells.specs.declared.Refusal.{Refusal}
use Rattle.records.specs.declared.venues.Venue.{Venue}
use Rattle.records.specs.declared.pairs.Pair.{Pair}
use Rattle.cells.specs.declared.Rule.{Rule}
use Rattle.cells.specs.declared.Rule.TheVariants.{One, Two}
use Rattle.structs.specs.declared.record_answers.OatVenue.{OatVenue}
use Rattle.structs.specs.declared.record_answers.OatPair.{OatPair}
use Rattle.structs.specs.declared.record_answers.OatWritten.{OatWritten}
use Rattle.structs.specs.Refusals.{accepted, flat_refusal}

abbrev pub flat_venue : Result Venue Refusal → OatVenue
flat_venue (Ok v) =
    record { said = accepted; nx = v.counts.nx; ny = v.counts.ny; nz = v.counts.nz; offset = v.start; length = v.long }
flat_venue (Err r) =
    record {
      said = flat_refusal r;
      nx = 0;
      ny = 0;
      nz = 0;
      offset = 0;
      length = 0;
    }

-- a rule's number
abbrev pub rule_number : Rule → ℕ
rule_number One = 1
rule_number Two = 2

abbrev pub flat_pair : Result Pair Refusal → OatPair
flat_pair (Ok e) =
    record {
      said = accepted;
      px = e.p.x;
      py = e.p.y;
      pz = e.p.z;
      qx = e.q.x;
      qy = e.q.y;
      qz = e.q.z;
      rule = rule_number e.rule;
    }
flat_pair (Err r) =
    record {
      said = flat_refusal r;
      px = pos 0;
      py = pos 0;
      pz = pos 0;
      qx = pos 0;
      qy = pos 0;
      qz = pos 0;
      rule = 0;
    }

abbrev pub flat_written : Result ℕ Refusal → OatWritten
flat_written (Ok many) = record { said = accepted; written = many }
flat_written (Err r) = record { said = flat_refusal r; written = 0 }
