-- SCOPE, V and T: writing a venue. Assumes nothing.
use Rattle.std.specs.Prelude.{Result, Ok, Err, ℕ, ◌+◌, ◌≡◌, List, [], ◌∷◌, ◌++◌, ◌⊎◌, ltb, length, drop}
use Rattle.buffers.specs.Numbers.{two, four}
use Rattle.cells.specs.declared.Refusal.{Refusal}
use Rattle.cells.specs.declared.Counts.{Counts}
use Rattle.cells.specs.declared.Refusal.TheVariants.{Room}
use Rattle.cells.specs.Checks.{Verdict, refuse_when, ◌then◌, by_verdict}
use Rattle.cells.specs.Refusals.{Told, told_of}
use Rattle.grids.specs.Grid.{size, shape}
use Rattle.records.specs.Venues.{venue_head, cells_from}

-- the version that is written
abbrev pub written_version : ℕ
written_version = 1

-- SCOPE V2: the three counts as six bytes
abbrev pub count_bytes : Counts → List ℕ
count_bytes n = (two n.nx ++ two n.ny) ++ two n.nz

-- SCOPE V2: what stands before the cells: the length, the version and the counts
abbrev pub head_bytes : ℕ → Counts → List ℕ
head_bytes version n = (four (venue_head version + size n) ++ (version ∷ [])) ++ count_bytes n

-- SCOPE V2: how many bytes the whole record has
abbrev pub record_length : Counts → ℕ
record_length n = cells_from written_version + size n

-- SCOPE V9: 2, 3, then 6 where the room is too short for the record
unfoldable pub write_check : Counts → ℕ → ℕ → Verdict
write_check n bytes room = shape n bytes then refuse_when (ltb room (record_length n)) Room

-- SCOPE V10: the record, and behind it the room as it was
abbrev pub after_writing : Counts → List ℕ → List ℕ → List ℕ
after_writing n cells entry = head_bytes written_version n ++ (cells ++ drop (record_length n) entry)

-- SCOPE V10, O1: the contract of the writing call: one answer, how many bytes it wrote, and one final memory; refused, the memory as it was
pub record WritesVenue (n : Counts) (cells entry : List ℕ) (r : Result ℕ Refusal) (exit : List ℕ) : Type 0 where
  pub says : r ≡ by_verdict Err (Ok (record_length n)) (write_check n (length cells) (length entry))
  pub holds : exit ≡ by_verdict (λ r. entry) (after_writing n cells entry) (write_check n (length cells) (length entry))

-- each case of the answer: what is said of a refusal, or the number of bytes written
abbrev pub told_written : Result ℕ Refusal → Told ⊎ ℕ
told_written = told_of (λ n. n)
