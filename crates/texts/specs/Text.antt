-- SCOPE T4, T5, T8, T9, T15: the program's lines as bytes. Assumes nothing.
use Rattle.std.specs.Prelude.{ℕ, zero, suc, ◌+◌, ◌/◌, ◌%◌, cond, ◌≡◌, List, [], ◌∷◌, ◌++◌, ltb, ℤ, pos, negsuc, length}
use Rattle.buffers.specs.Over.{over}
use Rattle.cells.specs.declared.Axis.{Axis}
use Rattle.cells.specs.declared.Axis.TheVariants.{X, Y, Z}
use Rattle.cells.specs.declared.Cell.{Cell}
use Rattle.cells.specs.declared.Face.{Face}

-- ---- fields

-- the byte of a digit: `0` to `9`
abbrev pub digit : ℕ → ℕ
digit d = 48 + d

-- a number in decimal: its last digit, and before it the tenth of the number, until one digit is left
unfoldable pub decimal_in : ℕ → ℕ → List ℕ
decimal_in zero n = []
decimal_in (suc turns) n = cond (ltb n 10) (digit n ∷ []) (decimal_in turns (n / 10) ++ (digit (n % 10) ∷ []))

-- n + 1 turns are always enough
unfoldable pub decimal : ℕ → List ℕ
unfolding decimal_in
decimal n = decimal_in (suc n) n

-- `-`, before a number below 0, and before the axis of a move to smaller numbers
abbrev pub minus : ℕ
minus = 45

-- `+`, before the axis of a move to larger numbers
abbrev pub plus : ℕ
plus = 43

-- a whole number: one below 0 is a minus and then its size
unfoldable pub signed_decimal : ℤ → List ℕ
signed_decimal (pos n) = decimal n
signed_decimal (negsuc n) = minus ∷ decimal (suc n)

-- `x`, `y`, `z`
abbrev pub axis_letter : Axis → ℕ
axis_letter X = 120
axis_letter Y = 121
axis_letter Z = 122

-- SCOPE T15: an entry face, `0` where there is none
abbrev pub face_word : Face → List ℕ
face_word Face.None = 48 ∷ []
face_word (Face.Plus a) = plus ∷ axis_letter a ∷ []
face_word (Face.Minus a) = minus ∷ axis_letter a ∷ []

-- `hit`
abbrev pub hit_word : List ℕ
hit_word = 104 ∷ 105 ∷ 116 ∷ []

-- `clear`
abbrev pub clear_word : List ℕ
clear_word = 99 ∷ 108 ∷ 101 ∷ 97 ∷ 114 ∷ []

-- `refused`
abbrev pub refused_word : List ℕ
refused_word = 114 ∷ 101 ∷ 102 ∷ 117 ∷ 115 ∷ 101 ∷ 100 ∷ []

-- `G`, where the venue itself is refused
abbrev pub venue_word : List ℕ
venue_word = 71 ∷ []

-- ---- lines

-- SCOPE T9: what stands between two fields
abbrev pub space : ℕ
space = 32

-- SCOPE T9: what stands at the end of a line
abbrev pub line_feed : ℕ
line_feed = 10

-- a field before another
abbrev pub parted : List ℕ → List ℕ
parted f = f ++ (space ∷ [])

-- the last field
abbrev pub ended : List ℕ → List ℕ
ended f = f ++ (line_feed ∷ [])

-- a first field and those that follow it
abbrev pub line : List ℕ → List (List ℕ) → List ℕ
line f [] = ended f
line f (g ∷ fields) = parted f ++ line g fields

-- what the line of a walk begins with: K, and the letter of the walk
abbrev pub walk_fields : (k letter : ℕ) → List (List ℕ) → List ℕ
walk_fields k letter fields = line (decimal k) ((letter ∷ []) ∷ fields)

-- `K LETTER hit x y z code reads face`
unfoldable pub hit_line : (k letter : ℕ) (c : Cell) (code reads : ℕ) (face : Face) → List ℕ
unfolding signed_decimal
hit_line k letter c code reads face =
    walk_fields k letter
    (hit_word ∷ signed_decimal c.x ∷ signed_decimal c.y ∷ signed_decimal c.z ∷ decimal code ∷ decimal reads ∷ face_word face ∷ [])

-- `K LETTER clear reads`
unfoldable pub clear_line : (k letter reads : ℕ) → List ℕ
clear_line k letter reads = walk_fields k letter (clear_word ∷ decimal reads ∷ [])

-- `K refused N`
unfoldable pub pair_refused_line : (k number : ℕ) → List ℕ
pair_refused_line k number = line (decimal k) (refused_word ∷ decimal number ∷ [])

-- `G refused N`
unfoldable pub venue_refused_line : (number : ℕ) → List ℕ
venue_refused_line number = line venue_word (refused_word ∷ decimal number ∷ [])

-- ---- contracts

-- room for every line: none is longer than that of a hit, at most 138 bytes with twenty digits for each number
abbrev pub line_room : ℕ
line_room = 160

-- the piece of a cell's three numbers
abbrev pub cell_fields : Cell → List ℕ
cell_fields c = parted (signed_decimal c.x) ++ parted (signed_decimal c.y) ++ parted (signed_decimal c.z)

-- a piece from a place on; the answer is the place after it
pub record Puts (piece : List ℕ) (at : ℕ) (entry : List ℕ) (next : ℕ) (exit : List ℕ) : Type 0 where
  pub says : next ≡ at + length piece
  pub holds : exit ≡ over at piece entry
