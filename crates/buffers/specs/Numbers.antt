-- SCOPE V1: numbers among bytes, the most significant byte first. Assumes nothing.
use Rattle.std.specs.Prelude.{ℕ, ◌+◌, ◌*◌, ◌/◌, ◌%◌, ◌<◌, List, [], ◌∷◌, ◌++◌, get_or}

-- the number in the two bytes from i on
abbrev pub two_at : List ℕ → ℕ → ℕ
two_at s i = get_or s i 0 * 256 + get_or s (i + 1) 0

-- the number in the four bytes from i on
abbrev pub four_at : List ℕ → ℕ → ℕ
four_at s i = two_at s i * 65536 + two_at s (i + 2)

-- a number as two bytes
abbrev pub two : ℕ → List ℕ
two v = v / 256 ∷ v % 256 ∷ []

-- a number as four bytes
abbrev pub four : ℕ → List ℕ
four v = two (v / 65536) ++ two (v % 65536)

-- what every lent slice of bytes is
pub record AllBytes (s : List ℕ) : Type 0 where
  pub byte : (i : ℕ) → get_or s i 0 < 256
