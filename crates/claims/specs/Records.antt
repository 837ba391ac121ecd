-- What is claimed of venue and pair records: for all answers that meet the calls' contracts. Assumes nothing.
use Rattle.std.specs.Prelude.{Result, Ok, Err, ℕ, ◌+◌, ◌*◌, ◌≤◌, ◌<◌, ◌≡◌, ◌↔◌, ◌⊎◌, List, [], ◌∷◌, ◌++◌, pos, ◌-ℤ◌, length, get_or, take, replicate}
use Rattle.std.specs.Borrow.{Bor}
use Rattle.buffers.specs.Numbers.{two_at, four_at, AllBytes}
use Rattle.cells.specs.declared.Counts.{Counts}
use Rattle.cells.specs.declared.Refusal.{Refusal}
use Rattle.cells.specs.declared.Refusal.TheVariants.{Bytes, NoRule}
use Rattle.cells.specs.declared.Rule.TheVariants.{One, Two}
use Rattle.cells.specs.Parts.{StartsAt}
use Rattle.grids.specs.Grid.{size, count_check, shape}
use Rattle.records.specs.declared.venues.Venue.{Venue}
use Rattle.records.specs.declared.pairs.Pair.{Pair}
use Rattle.records.specs.Heads.{announced, version_of}
use Rattle.records.specs.Venues.{counts_at, ReadsVenue, GivesCells}
use Rattle.records.specs.Pairs.{signed, ReadsPair}
use Rattle.records.specs.Writing.{WritesVenue}
use Rattle.claims.specs.Example.{example_counts, example_cells}

-- 1. One answer and one final memory for each input; of the cells the bytes and where they lie; a refusal writes nothing.
pub record OneAnswer : Type 0 where
  pub venue : (s : List ℕ) (r t : Result Venue Refusal) → ReadsVenue s r → ReadsVenue s t → r ≡ t
  pub cells : (bytes a b : Bor (List ℕ)) → GivesCells bytes a → GivesCells bytes b → (a.now ≡ b.now) × (a.ref_ptr ≡ b.ref_ptr)
  pub pair : (s : List ℕ) (r t : Result Pair Refusal) → ReadsPair s r → ReadsPair s t → r ≡ t
  pub written : (n : Counts) (cells entry : List ℕ) (r t : Result ℕ Refusal) (x y : List ℕ) → WritesVenue n cells entry r x → WritesVenue n cells entry t y →
      (r ≡ t) × (x ≡ y)
  pub untouched : (n : Counts) (cells entry : List ℕ) (r : Refusal) (x : List ℕ) → WritesVenue n cells entry (Err r) x → x ≡ entry

-- 2. What reading accepts, in SCOPE's numbers: a venue v of these bytes, and a pair e: of version 1 and length 13, which means rule 1; or of version 2
-- and length 14, whose last byte, 1 or 2, is the rule's number.
pub record Right (s : List ℕ) (v : Venue) : Type 0 where
  pub whole : 4 + announced s ≤ length s
  pub version : version_of s ≡ 1
  pub length_is : announced s ≡ 7 + size v.counts
  pub counts_are : v.counts ≡ record { nx = two_at s 5; ny = two_at s 7; nz = two_at s 9 }
  pub shape_is : shape v.counts (size v.counts) ≡ Ok tt
  pub part : (v.start ≡ 11) × (v.long ≡ size v.counts)

pub record RightPair (s : List ℕ) (e : Pair) : Type 0 where
  pub whole : 4 + announced s ≤ length s
  pub version : ((version_of s ≡ 1) × (announced s ≡ 13) × (e.rule ≡ One))
      ⊎ ((version_of s ≡ 2) × (announced s ≡ 14) × (((get_or s 17 0 ≡ 1) × (e.rule ≡ One)) ⊎ ((get_or s 17 0 ≡ 2) × (e.rule ≡ Two))))
  pub p_is : e.p ≡ record { x = signed (two_at s 5); y = signed (two_at s 7); z = signed (two_at s 9) }
  pub q_is : e.q ≡ record { x = signed (two_at s 11); y = signed (two_at s 13); z = signed (two_at s 15) }

-- just these are accepted
pub record Accepted (s : List ℕ) : Type 0 where
  pub venue : (v : Venue) → ReadsVenue s (Ok v) ↔ Right s v
  pub pair : (e : Pair) → ReadsPair s (Ok e) ↔ RightPair s e

-- SCOPE V6: 3 for a length that does not fit the counts, of a whole record of version 1, long enough for its head, with counts that pass.
pub record LengthTested (s : List ℕ) : Type 0 where
  pub three : 4 + announced s ≤ length s → version_of s ≡ 1 → 7 ≤ announced s → count_check (counts_at s 5) ≡ Ok tt →
      (announced s ≡ 7 + size (counts_at s 5) → ⊥) → ReadsVenue s (Err Bytes)

-- 3. The cells are the caller's own bytes, where reading says; never empty, so the empty part means refused.
pub record ThePart (bytes part : Bor (List ℕ)) : Type 0 where
  pub accepted : (v : Venue) → ReadsVenue bytes.now (Ok v) → GivesCells bytes part →
      StartsAt v.start bytes part × (length part.now ≡ v.long) × (1 ≤ length part.now)
  pub refused : (r : Refusal) → ReadsVenue bytes.now (Err r) → GivesCells bytes part → part.now ≡ []

-- 4. A venue written and read back is the same counts and the same cells, whatever bytes follow it; also as it stands in the lent memory, before
-- the bytes that stayed.
pub record SameVenue (n : Counts) (cells : List ℕ) (bytes part : Bor (List ℕ)) (r : Result Venue Refusal) : Type 0 where
  pub read : r ≡ Ok (record { counts = n; start = 11; long = length cells })
  pub same_cells : part.now ≡ cells
  pub there : StartsAt 11 bytes part

pub record ReadBack (n : Counts) (cells entry : List ℕ) : Type 0 where
  pub same : (exit : List ℕ) (k : ℕ) → WritesVenue n cells entry (Ok k) exit → (rest : List ℕ) (bytes part : Bor (List ℕ)) (r : Result Venue Refusal) →
      bytes.now ≡ take k exit ++ rest → ReadsVenue bytes.now r → GivesCells bytes part → SameVenue n cells bytes part r
  pub in_place : (exit : List ℕ) (k : ℕ) → WritesVenue n cells entry (Ok k) exit → (bytes part : Bor (List ℕ)) (r : Result Venue Refusal) →
      bytes.now ≡ exit → ReadsVenue bytes.now r → GivesCells bytes part → SameVenue n cells bytes part r

-- 5. What reading accepts, writing gives back: the record's own bytes, into room that is just enough.
pub record WrittenBack (bytes part : Bor (List ℕ)) : Type 0 where
  pub same : AllBytes bytes.now → (v : Venue) → ReadsVenue bytes.now (Ok v) → GivesCells bytes part →
      (entry : List ℕ) → length entry ≡ 4 + announced bytes.now → (w : Result ℕ Refusal) (exit : List ℕ) → WritesVenue v.counts part.now entry w exit →
      (w ≡ Ok (4 + announced bytes.now)) × (exit ≡ take (4 + announced bytes.now) bytes.now)

-- 6. Bytes after a record are not looked at: s is as long as its first four bytes say.
pub record NotLookedAt (s rest : List ℕ) : Type 0 where
  pub venue : length s ≡ 4 + announced s → (r t : Result Venue Refusal) → ReadsVenue s r → ReadsVenue (s ++ rest) t → r ≡ t
  pub cells : length s ≡ 4 + announced s → (short long a b : Bor (List ℕ)) → short.now ≡ s → long.now ≡ s ++ rest → GivesCells short a → GivesCells long b →
      (a.now ≡ b.now) × ((start : ℕ) × StartsAt start short a × StartsAt start long b)
  pub pair : length s ≡ 4 + announced s → (r t : Result Pair Refusal) → ReadsPair s r → ReadsPair (s ++ rest) t → r ≡ t

-- SCOPE V1: four bytes make a number, the most significant first; of two bytes' numbers the upper half stands for those below 0.
pub record NumbersRead : Type 0 where
  pub four : (a b c d : ℕ) (s : List ℕ) → four_at (a ∷ b ∷ c ∷ d ∷ s) 0 ≡ 16777216 * a + 65536 * b + 256 * c + d
  pub upwards : (v : ℕ) → v < 32768 → signed v ≡ pos v
  pub downwards : (v : ℕ) → 32768 ≤ v → signed v ≡ pos v -ℤ pos 65536

-- ---- named inputs

-- SCOPE: `0000000F 01 0004 0002 0001 0000000000020000`
abbrev pub example_venue : List ℕ
example_venue = 0 ∷ 0 ∷ 0 ∷ 15 ∷ 1 ∷ 0 ∷ 4 ∷ 0 ∷ 2 ∷ 0 ∷ 1 ∷ example_cells

-- SCOPE: `0000000D 01 0000 0000 0000 0003 0001 0000`
abbrev pub example_pair : List ℕ
example_pair = 0 ∷ 0 ∷ 0 ∷ 13 ∷ 1 ∷ 0 ∷ 0 ∷ 0 ∷ 0 ∷ 0 ∷ 0 ∷ 0 ∷ 3 ∷ 0 ∷ 1 ∷ 0 ∷ 0 ∷ []

-- a pair of version 2, from (3,1,0) to (0,0,0), with a byte for the rule: `0000000E 02 0003 0001 0000 0000 0000 0000` and that byte
abbrev pub pair_by : ℕ → List ℕ
pair_by rule = 0 ∷ 0 ∷ 0 ∷ 14 ∷ 2 ∷ 0 ∷ 3 ∷ 0 ∷ 1 ∷ 0 ∷ 0 ∷ 0 ∷ 0 ∷ 0 ∷ 0 ∷ 0 ∷ 0 ∷ rule ∷ []

-- room for the example and one byte more
abbrev pub example_room : List ℕ
example_room = replicate 20 99

-- ---- wrong answers

-- Q's x is `FFFF`, -1
abbrev pub minus_one_pair : List ℕ
minus_one_pair = 0 ∷ 0 ∷ 0 ∷ 13 ∷ 1 ∷ 0 ∷ 0 ∷ 0 ∷ 0 ∷ 0 ∷ 0 ∷ 255 ∷ 255 ∷ 0 ∷ 1 ∷ 0 ∷ 0 ∷ []

-- the example's pair, called version 2; and, as version 1, with a byte more, 1
abbrev pub second_of_13 : List ℕ
second_of_13 = 0 ∷ 0 ∷ 0 ∷ 13 ∷ 2 ∷ 0 ∷ 0 ∷ 0 ∷ 0 ∷ 0 ∷ 0 ∷ 0 ∷ 3 ∷ 0 ∷ 1 ∷ 0 ∷ 0 ∷ []

abbrev pub first_of_14 : List ℕ
first_of_14 = 0 ∷ 0 ∷ 0 ∷ 14 ∷ 1 ∷ 0 ∷ 0 ∷ 0 ∷ 0 ∷ 0 ∷ 0 ∷ 0 ∷ 3 ∷ 0 ∷ 1 ∷ 0 ∷ 0 ∷ 1 ∷ []

-- the example, called version 2
abbrev pub version_2 : List ℕ
version_2 = 0 ∷ 0 ∷ 0 ∷ 15 ∷ 2 ∷ 0 ∷ 4 ∷ 0 ∷ 2 ∷ 0 ∷ 1 ∷ example_cells

-- a reader that refuses the example, one that reads another version; the whole record, or nothing, given for the cells, or another part; a pair
-- refused, or its coordinates taken as unsigned; a version 2 pair of rule 2 read as rule 1, one of length 13 and a version 1 pair of length 14 read; one
-- of the rule byte 3 read, or refused otherwise than by 12; a writer that leaves the memory as it was, one that writes into room of one byte short
pub record WrongRecords : Type 0 where
  pub refuser : (r : Refusal) → ReadsVenue example_venue (Err r) → ⊥
  pub other_version : (v : Venue) → ReadsVenue version_2 (Ok v) → ⊥
  pub whole_part : (bytes part : Bor (List ℕ)) → bytes.now ≡ example_venue → GivesCells bytes part → part.now ≡ example_venue → ⊥
  pub empty_part : (bytes part : Bor (List ℕ)) → bytes.now ≡ example_venue → GivesCells bytes part → part.now ≡ [] → ⊥
  pub part_elsewhere : (bytes part : Bor (List ℕ)) → bytes.now ≡ example_venue → GivesCells bytes part → part.ref_ptr ≡ bytes.ref_ptr → ⊥
  pub pair_refuser : (r : Refusal) → ReadsPair example_pair (Err r) → ⊥
  pub unsigned : (e : Pair) → ReadsPair minus_one_pair (Ok e) → e.q.x ≡ pos 65535 → ⊥
  pub two_as_one : (e : Pair) → ReadsPair (pair_by 2) (Ok e) → e.rule ≡ One → ⊥
  pub second_short : (e : Pair) → ReadsPair second_of_13 (Ok e) → ⊥
  pub first_long : (e : Pair) → ReadsPair first_of_14 (Ok e) → ⊥
  pub not_twelve : (r : Result Pair Refusal) → ReadsPair (pair_by 3) r → (r ≡ Err NoRule → ⊥) → ⊥
  pub idle_writer : (r : Result ℕ Refusal) → WritesVenue example_counts example_cells example_room r example_room → ⊥
  pub short_writer : (exit : List ℕ) → WritesVenue example_counts example_cells (replicate 18 99) (Ok 19) exit → ⊥
