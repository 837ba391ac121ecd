-- SCOPE, V and T: what a venue's and a pair's record begin with, four bytes, the length of what follows, and then the
-- version; bytes after the record are not looked at. Lengths and places are functions of the version. Assumes nothing.
use Rattle.std.specs.Prelude.{ℕ, ◌+◌, List, ltb, eqb, length, get_or}
use Rattle.buffers.specs.Numbers.{four_at}
use Rattle.cells.specs.declared.Refusal.TheVariants.{Record}
use Rattle.cells.specs.Checks.{Verdict, refuse_when, ◌then◌}

-- SCOPE V2, V3: how many bytes the length itself has
abbrev pub length_field : ℕ
length_field = 4

-- the length that is announced
abbrev pub announced : List ℕ → ℕ
announced s = four_at s 0

-- the byte after it
abbrev pub version_of : List ℕ → ℕ
version_of s = get_or s length_field 0

-- SCOPE V4: 10 where the record is cut short, and where its length is 0
unfoldable pub whole_check : List ℕ → Verdict
whole_check s =
    refuse_when (ltb (length s) length_field) Record then
    refuse_when (eqb (announced s) 0) Record then
    refuse_when (ltb (length s) (length_field + announced s)) Record
