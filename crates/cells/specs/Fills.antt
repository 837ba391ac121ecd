-- A list filled in part, from one index to another. Assumes nothing.
use Rattle.std.specs.Prelude.{ℕ, ◌≤◌, ◌<◌, ◌≡◌, List, length, get_or}

-- the numbers from .. to - 1 are now f's, the others as they were
pub record Filled (f : ℕ → ℕ) (from to : ℕ) (entry exit : List ℕ) : Type 0 where
  pub long : length exit ≡ length entry
  pub inside : (k : ℕ) → from ≤ k → k < to → get_or exit k 0 ≡ f k
  pub before : (k : ℕ) → k < from → get_or exit k 0 ≡ get_or entry k 0
  pub after : (k : ℕ) → to ≤ k → get_or exit k 0 ≡ get_or entry k 0
