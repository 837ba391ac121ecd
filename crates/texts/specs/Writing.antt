-- Pieces written one behind the other into lent bytes. Assumes nothing.
use Rattle.std.specs.Prelude.{ℕ, ◌+◌, ◌≤◌, ◌≡◌, List, length}
use Rattle.texts.specs.declared.Pen.{Pen}
use Rattle.texts.specs.Text.{Puts}

-- room for so many bytes behind what is written
abbrev pub HasRoom : ℕ → Pen → Type 0
HasRoom n p = p.at + n ≤ length p.out.now

-- a piece of at most so many bytes behind what is written. The lent bytes stay the same ones, and as many
pub record Writes (piece : List ℕ) (most : ℕ) (entry exit : Pen) : Type 0 where
  pub puts : Puts piece entry.at entry.out.now exit.at exit.out.now
  pub fits : exit.at ≤ entry.at + most
  pub long : length exit.out.now ≡ length entry.out.now
  pub same : exit.out.ghost_name ≡ entry.out.ghost_name
