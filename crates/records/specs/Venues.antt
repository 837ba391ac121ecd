-- SCOPE, V and T: reading a venue. Assumes nothing.
use Rattle.std.specs.Prelude.{Result, Ok, Err, ℕ, ◌+◌, ◌-◌, ◌≡◌, Bool, not, List, [], ◌⊎◌, ltb, eqb, take, drop}
use Rattle.std.specs.Borrow.{Bor}
use Rattle.buffers.specs.Numbers.{two_at}
use Rattle.cells.specs.declared.Refusal.{Refusal}
use Rattle.cells.specs.declared.Counts.{Counts}
use Rattle.cells.specs.declared.Refusal.TheVariants.{Record, Version}
use Rattle.cells.specs.Checks.{Verdict, refuse_when, ◌then◌, by_verdict}
use Rattle.cells.specs.Parts.{StartsAt}
use Rattle.cells.specs.Refusals.{Told, told_of}
use Rattle.grids.specs.Grid.{shape}
use Rattle.records.specs.declared.venues.Venue.{Venue}
use Rattle.records.specs.Heads.{length_field, announced, version_of, whole_check}

-- the versions of a venue's record
unfoldable pub venue_version : ℕ → Bool
venue_version version = eqb version 1

-- what stands between the length and the cells: the version, and nx, ny, nz in two bytes each
unfoldable pub venue_head : ℕ → ℕ
venue_head version = 7

-- where the cells start
abbrev pub cells_from : ℕ → ℕ
cells_from version = length_field + venue_head version

-- the six bytes before the cells
abbrev pub counts_from : ℕ → ℕ
counts_from version = cells_from version - 6

-- three counts in two bytes each, from i on
abbrev pub counts_at : List ℕ → ℕ → Counts
counts_at s i = record { nx = two_at s i; ny = two_at s (i + 2); nz = two_at s (i + 4) }

-- the counts, and where the cells stand
abbrev pub venue_in : List ℕ → Venue
venue_in s =
    record {
      counts = counts_at s (counts_from (version_of s));
      start = cells_from (version_of s);
      long = announced s - venue_head (version_of s);
    }

-- SCOPE V4, V5, V6: 10; 11; 10 where the length is too short for the head; then 2, and 3 where it does not fit the counts
unfoldable pub venue_check : List ℕ → Verdict
venue_check s =
    whole_check s then
    refuse_when (not (venue_version (version_of s))) Version then
    refuse_when (ltb (announced s) (venue_head (version_of s))) Record then
    shape (venue_in s).counts (venue_in s).long

-- SCOPE V8: the answer, the counts and where the cells stand, or a refusal
unfoldable pub venue_read : List ℕ → Result Venue Refusal
venue_read s = by_verdict Err (Ok (venue_in s)) (venue_check s)

-- the part itself, empty where the venue is refused
abbrev pub part_of : Result Venue Refusal → List ℕ → List ℕ
part_of (Ok v) s = take v.long (drop v.start s)
part_of (Err r) s = []

-- what the partner call returns
unfoldable pub venue_cells : List ℕ → List ℕ
venue_cells s = part_of (venue_read s) s

-- where it starts among the bytes; the empty part stands at their start
abbrev pub start_of : Result Venue Refusal → ℕ
start_of (Ok v) = v.start
start_of (Err r) = 0

-- the contracts of the two calls: the answer; the cells, and where they lie
pub record ReadsVenue (s : List ℕ) (r : Result Venue Refusal) : Type 0 where
  pub says : r ≡ venue_read s

pub record GivesCells (bytes r : Bor (List ℕ)) : Type 0 where
  pub says : r.now ≡ venue_cells bytes.now
  pub there : StartsAt (start_of (venue_read bytes.now)) bytes r

-- each case of the answer: what is said of a refusal, or the counts and the part's offset and length
abbrev pub told_venue : Result Venue Refusal → Told ⊎ (Counts × ℕ × ℕ)
told_venue = told_of (λ v. (v.counts, v.start, v.long))
