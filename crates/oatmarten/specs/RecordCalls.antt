-- The contracts of reading and writing a record for C: each struct is the flattening of an answer that meets the call's own contract. Assumes nothing.
use Rattle.std.specs.Prelude.{ℕ, List}
use Rattle.cells.specs.declared.Counts.{Counts}
use Rattle.structs.specs.declared.record_answers.OatVenue.{OatVenue}
use Rattle.structs.specs.declared.record_answers.OatPair.{OatPair}
use Rattle.structs.specs.declared.record_answers.OatWritten.{OatWritten}
use Rattle.records.specs.Venues.{ReadsVenue}
use Rattle.records.specs.Pairs.{ReadsPair}
use Rattle.records.specs.Writing.{WritesVenue}
use Rattle.oatmarten.specs.Flattening.{Flattens}
use Rattle.structs.specs.RecordAnswers.{flat_venue, flat_pair, flat_written}

abbrev pub FlatReadsVenue : List ℕ → OatVenue → Type 0
FlatReadsVenue bytes = Flattens flat_venue (ReadsVenue bytes)

abbrev pub FlatReadsPair : List ℕ → OatPair → Type 0
FlatReadsPair bytes = Flattens flat_pair (ReadsPair bytes)

abbrev pub FlatWritesVenue : Counts → List ℕ → List ℕ → OatWritten → List ℕ → Type 0
FlatWritesVenue n cells entry r exit = Flattens flat_written (λ a. WritesVenue n cells entry a exit) r
