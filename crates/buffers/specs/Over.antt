-- A piece in a lent slice. Assumes nothing.
use Rattle.std.specs.Prelude.{ℕ, ◌+◌, List, ◌++◌, length, take, drop}

-- the bytes s with the piece p in them from the place at on; the rest stays
unfoldable pub over : ℕ → List ℕ → List ℕ → List ℕ
over at p s = take at s ++ (p ++ drop (at + length p) s)
