-- SCOPE, V and T: the program's limits, its refusals, and what it does after them, as rows: its whole input and output.
-- Beside the starred cases. Assumes nothing.
use Rattle.std.specs.Prelude.{ℕ, List, [], ◌∷◌, ◌++◌, replicate}
use Rattle.claims.specs.Records.{example_venue, example_pair, pair_by, second_of_13, version_2}
use Rattle.claims.specs.Program.{marked_venue}
use Rattle.claims.specs.Starred.{Row, writes}

-- ---- records

-- a venue of 0 by 1 by 1, and one of 1 by 1 by 1 without its byte
abbrev pub no_count : List ℕ
no_count = 0 ∷ 0 ∷ 0 ∷ 7 ∷ 1 ∷ 0 ∷ 0 ∷ 0 ∷ 1 ∷ 0 ∷ 1 ∷ []

abbrev pub no_cells : List ℕ
no_cells = 0 ∷ 0 ∷ 0 ∷ 7 ∷ 1 ∷ 0 ∷ 1 ∷ 0 ∷ 1 ∷ 0 ∷ 1 ∷ []

-- from (0,0,0) to (4,1,0), outside the example's venue
abbrev pub off_pair : List ℕ
off_pair = 0 ∷ 0 ∷ 0 ∷ 13 ∷ 1 ∷ 0 ∷ 0 ∷ 0 ∷ 0 ∷ 0 ∷ 0 ∷ 0 ∷ 4 ∷ 0 ∷ 1 ∷ 0 ∷ 0 ∷ []

-- the example's pair, called version 3
abbrev pub other_version : List ℕ
other_version = 0 ∷ 0 ∷ 0 ∷ 13 ∷ 3 ∷ 0 ∷ 0 ∷ 0 ∷ 0 ∷ 0 ∷ 0 ∷ 0 ∷ 3 ∷ 0 ∷ 1 ∷ 0 ∷ 0 ∷ []

-- from (3,1,0) to (0,1,0), and from the solid cell (1,1,0) to (3,1,0)
abbrev pub back_pair : List ℕ
back_pair = 0 ∷ 0 ∷ 0 ∷ 13 ∷ 1 ∷ 0 ∷ 3 ∷ 0 ∷ 1 ∷ 0 ∷ 0 ∷ 0 ∷ 0 ∷ 0 ∷ 1 ∷ 0 ∷ 0 ∷ []

abbrev pub solid_pair : List ℕ
solid_pair = 0 ∷ 0 ∷ 0 ∷ 13 ∷ 1 ∷ 0 ∷ 1 ∷ 0 ∷ 1 ∷ 0 ∷ 0 ∷ 0 ∷ 3 ∷ 0 ∷ 1 ∷ 0 ∷ 0 ∷ []

-- version 2, with a byte for the rule: from (4,1,0), outside the venue, to (0,0,0); and version 1, from (3,1,0) to (0,0,0)
abbrev pub off_pair_by : ℕ → List ℕ
off_pair_by rule = 0 ∷ 0 ∷ 0 ∷ 14 ∷ 2 ∷ 0 ∷ 4 ∷ 0 ∷ 1 ∷ 0 ∷ 0 ∷ 0 ∷ 0 ∷ 0 ∷ 0 ∷ 0 ∷ 0 ∷ rule ∷ []

abbrev pub first_pair : List ℕ
first_pair = 0 ∷ 0 ∷ 0 ∷ 13 ∷ 1 ∷ 0 ∷ 3 ∷ 0 ∷ 1 ∷ 0 ∷ 0 ∷ 0 ∷ 0 ∷ 0 ∷ 0 ∷ 0 ∷ 0 ∷ []

-- a whole record of version 1 and length 12
abbrev pub twelve_long : List ℕ
twelve_long = 0 ∷ 0 ∷ 0 ∷ 12 ∷ 1 ∷ replicate 11 0

-- whole records of length 255 and 256, of no version that there is
abbrev pub long_255 : List ℕ
long_255 = 0 ∷ 0 ∷ 0 ∷ 255 ∷ replicate 255 9

abbrev pub long_256 : List ℕ
long_256 = 0 ∷ 0 ∷ 1 ∷ 0 ∷ replicate 256 9

-- ---- lines

-- ` refused `, between K or G and the number
abbrev pub refused : List ℕ
refused = 32 ∷ 114 ∷ 101 ∷ 102 ∷ 117 ∷ 115 ∷ 101 ∷ 100 ∷ 32 ∷ []

-- `2`, `3`, `5`, `6`, `10`, `11` and `12`, each with its line feed
abbrev pub two : List ℕ
two = 50 ∷ 10 ∷ []

abbrev pub three : List ℕ
three = 51 ∷ 10 ∷ []

abbrev pub five : List ℕ
five = 53 ∷ 10 ∷ []

abbrev pub six : List ℕ
six = 54 ∷ 10 ∷ []

abbrev pub ten : List ℕ
ten = 49 ∷ 48 ∷ 10 ∷ []

abbrev pub eleven : List ℕ
eleven = 49 ∷ 49 ∷ 10 ∷ []

abbrev pub twelve : List ℕ
twelve = 49 ∷ 50 ∷ 10 ∷ []

-- `2 P hit 1 1 0 2 3 +y` and `2 A clear 4`
abbrev pub second_lines : List ℕ
second_lines =
    (50 ∷ 32 ∷ 80 ∷ 32 ∷ 104 ∷ 105 ∷ 116 ∷ 32 ∷ 49 ∷ 32 ∷ 49 ∷ 32 ∷ 48 ∷ 32 ∷ 50 ∷ 32 ∷ 51 ∷ 32 ∷ 43 ∷ 121 ∷ 10 ∷ [])
    ++ (50 ∷ 32 ∷ 65 ∷ 32 ∷ 99 ∷ 108 ∷ 101 ∷ 97 ∷ 114 ∷ 32 ∷ 52 ∷ 10 ∷ [])

-- ` hit 1 1 0 2 `, between the walk's letter and the reads
abbrev pub post : List ℕ
post = 32 ∷ 104 ∷ 105 ∷ 116 ∷ 32 ∷ 49 ∷ 32 ∷ 49 ∷ 32 ∷ 48 ∷ 32 ∷ 50 ∷ 32 ∷ []

-- `3 -x`, and `1 0`: the reads and the face, each with its line feed
abbrev pub by_minus_x : List ℕ
by_minus_x = 51 ∷ 32 ∷ 45 ∷ 120 ∷ 10 ∷ []

abbrev pub at_start : List ℕ
at_start = 49 ∷ 32 ∷ 48 ∷ 10 ∷ []

-- ` clear 5`, with its line feed
abbrev pub clear_five : List ℕ
clear_five = 32 ∷ 99 ∷ 108 ∷ 101 ∷ 97 ∷ 114 ∷ 32 ∷ 53 ∷ 10 ∷ []

-- ---- the rows

abbrev pub more_program_rows : List Row
more_program_rows =
    -- a venue length of 65,533 is refused 6 straight after the four bytes; one of 65,532 is not, and is cut short here
    writes (0 ∷ 0 ∷ 255 ∷ 253 ∷ []) (71 ∷ refused ++ six)
    ∷ writes (0 ∷ 0 ∷ 255 ∷ 252 ∷ 1 ∷ []) (71 ∷ refused ++ ten)
    -- nothing at all is a venue cut short; a venue of version 2, one with a count of 0, one of no cells
    ∷ writes [] (71 ∷ refused ++ ten)
    ∷ writes version_2 (71 ∷ refused ++ eleven)
    ∷ writes no_count (71 ∷ refused ++ two)
    ∷ writes no_cells (71 ∷ refused ++ three)
    -- no pair: silent; one byte of a pair: refused 10
    ∷ writes example_venue []
    ∷ writes (example_venue ++ (0 ∷ [])) (49 ∷ refused ++ ten)
    -- after 5 it goes on and counts on; after 11 it ends, though a pair follows
    ∷ writes (example_venue ++ off_pair ++ example_pair ++ other_version ++ example_pair) ((49 ∷ refused ++ five) ++ second_lines ++ (51 ∷ refused ++ eleven))
    -- a hit by -x, and a hit at P, by both walks
    ∷ writes (marked_venue ++ back_pair ++ solid_pair)
    ((49 ∷ 32 ∷ 80 ∷ post ++ by_minus_x) ++ (49 ∷ 32 ∷ 65 ∷ post ++ by_minus_x) ++ (50 ∷ 32 ∷ 80 ∷ post ++ at_start) ++ (50 ∷ 32 ∷ 65 ∷ post ++ at_start))
    -- after 10 it ends too; a pair cut short in its length is refused 10
    ∷ writes (example_venue ++ off_pair ++ twelve_long ++ example_pair) ((49 ∷ refused ++ five) ++ (50 ∷ refused ++ ten))
    ∷ writes (example_venue ++ (0 ∷ 0 ∷ 0 ∷ [])) (49 ∷ refused ++ ten)
    -- a pair length of 255 is read, and its version looked at; one of 256 is refused 10 before that
    ∷ writes (example_venue ++ long_255) (49 ∷ refused ++ eleven)
    ∷ writes (example_venue ++ long_256) (49 ∷ refused ++ ten)
    -- one line by rule 1, by rule 2, and by the rule byte 3, which is 12; it goes on; ends outside by the rule bytes 0, which is 12 before 5, and 2; the
    -- first line in version 1, as by rule 1; a version 2 pair of length 13 is refused 10, and it ends, though a pair follows
    ∷ writes
    (marked_venue ++ pair_by 1 ++ pair_by 2 ++ pair_by 3 ++ off_pair_by 0 ++ off_pair_by 2 ++ first_pair ++ second_of_13 ++ pair_by 1)
    ((49 ∷ 32 ∷ 80 ∷ clear_five) ++ (49 ∷ 32 ∷ 65 ∷ clear_five) ++ (50 ∷ 32 ∷ 80 ∷ post ++ by_minus_x) ++ (50 ∷ 32 ∷ 65 ∷ post ++ by_minus_x)
    ++ (51 ∷ refused ++ twelve) ++ (52 ∷ refused ++ twelve) ++ (53 ∷ refused ++ five)
    ++ (54 ∷ 32 ∷ 80 ∷ clear_five) ++ (54 ∷ 32 ∷ 65 ∷ clear_five) ++ (55 ∷ refused ++ ten))
    ∷ []
