-- What is claimed of the program's lines: for all answers that meet the calls' contracts. Assumes nothing.
use Rattle.std.specs.Prelude.{ℕ, ◌+◌, ◌-◌, ◌*◌, ◌≤◌, ◌<◌, ◌≡◌, cond, List, [], ◌∷◌, eqb, ℤ, pos, negsuc, neg_ℤ, length, get_or}
use Rattle.cells.specs.declared.Axis.TheVariants.{X, Y, Z}
use Rattle.cells.specs.declared.Cell.{Cell}
use Rattle.cells.specs.declared.Face.TheVariants as Face
use Rattle.texts.specs.Text.{decimal, signed_decimal, face_word, hit_line, clear_line, pair_refused_line, venue_refused_line, Puts}
use Rattle.claims.specs.Example.{at}

-- the number that a text of digits says, after those that were read
abbrev pub value_after : ℕ → List ℕ → ℕ
value_after n [] = n
value_after n (b ∷ l) = value_after (10 * n + (b - 48)) l

-- SCOPE T9: the text says the number, in digits, and where there is more than one the first is not 0
pub record Decimal (n : ℕ) : Type 0 where
  pub says : value_after 0 (decimal n) ≡ n
  pub digits : (i : ℕ) → i < length (decimal n) → (48 ≤ get_or (decimal n) i 0) × (get_or (decimal n) i 0 ≤ 57)
  pub no_leading_zero : 2 ≤ length (decimal n) → 48 < get_or (decimal n) 0 0
  pub some : 1 ≤ length (decimal n)

-- the number that a text says, with a minus before its digits or without
abbrev pub signed_value : List ℕ → ℤ
signed_value [] = pos 0
signed_value (b ∷ l) = cond (eqb b 45) (neg_ℤ (pos (value_after 0 l))) (pos (value_after 0 (b ∷ l)))

-- A coordinate is written as what it is: the text says the number, and only a number below 0 has a minus.
pub record Signed (z : ℤ) : Type 0 where
  pub says : signed_value (signed_decimal z) ≡ z
  pub no_minus : (n : ℕ) → z ≡ pos n → signed_decimal z ≡ decimal n

-- One answer and one final memory for each line, place and lent slice.
pub record OneLine (line : List ℕ) (at : ℕ) (entry : List ℕ) : Type 0 where
  pub one : (r t : ℕ) (x y : List ℕ) → Puts line at entry r x → Puts line at entry t y → (r ≡ t) × (x ≡ y)

-- the cell (-1, 1, 0), which no grid holds
abbrev pub left_of_grid : Cell
left_of_grid = record { x = negsuc 0; y = pos 1; z = pos 0 }

-- SCOPE's output, `1 P hit 1 1 0 2 3 +y` and `1 A clear 4`, a hit whose numbers all differ, `3 P hit 4 5 6 7 8 0`, a line that no grid gives,
-- `1 P hit -1 1 0 2 3 -z`, and a refusal of each kind, `12 refused 5` and `G refused 10`; the words of the faces, `+x` to `-z`
pub record Examples : Type 0 where
  pub hit : hit_line 1 80 (at 1 1 0) 2 3 (Face.Plus Y) ≡
      49 ∷ 32 ∷ 80 ∷ 32 ∷ 104 ∷ 105 ∷ 116 ∷ 32 ∷ 49 ∷ 32 ∷ 49 ∷ 32 ∷ 48 ∷ 32 ∷ 50 ∷ 32 ∷ 51 ∷ 32 ∷ 43 ∷ 121 ∷ 10 ∷ []
  pub all_different : hit_line 3 80 (at 4 5 6) 7 8 Face.None ≡
      51 ∷ 32 ∷ 80 ∷ 32 ∷ 104 ∷ 105 ∷ 116 ∷ 32 ∷ 52 ∷ 32 ∷ 53 ∷ 32 ∷ 54 ∷ 32 ∷ 55 ∷ 32 ∷ 56 ∷ 32 ∷ 48 ∷ 10 ∷ []
  pub below_zero : hit_line 1 80 left_of_grid 2 3 (Face.Minus Z) ≡
      49 ∷ 32 ∷ 80 ∷ 32 ∷ 104 ∷ 105 ∷ 116 ∷ 32 ∷ 45 ∷ 49 ∷ 32 ∷ 49 ∷ 32 ∷ 48 ∷ 32 ∷ 50 ∷ 32 ∷ 51 ∷ 32 ∷ 45 ∷ 122 ∷ 10 ∷ []
  pub rising : (face_word (Face.Plus X) ≡ 43 ∷ 120 ∷ []) × (face_word (Face.Plus Y) ≡ 43 ∷ 121 ∷ []) × (face_word (Face.Plus Z) ≡ 43 ∷ 122 ∷ [])
  pub falling : (face_word (Face.Minus X) ≡ 45 ∷ 120 ∷ []) × (face_word (Face.Minus Y) ≡ 45 ∷ 121 ∷ []) × (face_word (Face.Minus Z) ≡ 45 ∷ 122 ∷ [])
  pub none : face_word Face.None ≡ 48 ∷ []
  pub clear : clear_line 1 65 4 ≡ 49 ∷ 32 ∷ 65 ∷ 32 ∷ 99 ∷ 108 ∷ 101 ∷ 97 ∷ 114 ∷ 32 ∷ 52 ∷ 10 ∷ []
  pub pair : pair_refused_line 12 5 ≡ 49 ∷ 50 ∷ 32 ∷ 114 ∷ 101 ∷ 102 ∷ 117 ∷ 115 ∷ 101 ∷ 100 ∷ 32 ∷ 53 ∷ 10 ∷ []
  pub venue : venue_refused_line 10 ≡ 71 ∷ 32 ∷ 114 ∷ 101 ∷ 102 ∷ 117 ∷ 115 ∷ 101 ∷ 100 ∷ 32 ∷ 49 ∷ 48 ∷ 10 ∷ []
