-- What is claimed of the list calls besides their contracts. Assumes nothing.
use Rattle.std.specs.Prelude.{Ok, Err, Result, ℕ, ◌+◌, ◌*◌, ◌≤◌, ◌<◌, ◌≡◌, List, [], ◌∷◌, ◌++◌, ℤ, pos, negsuc, length, get_or}
use Rattle.cells.specs.declared.Cell.{Cell}
use Rattle.cells.specs.declared.Refusal.{Refusal}
use Rattle.cells.specs.declared.Rule.{Rule}
use Rattle.cells.specs.Checks.{Verdict}
use Rattle.lines.specs.Steps.{total}
use Rattle.lines.specs.Preference.{by_rule}
use Rattle.lines.specs.Lines.{differences, longest, six_cell, six_line, cell_26, line_26, InLimit}
use Rattle.lists.specs.Lists.{Lists, Line6, Line26, numbers}
use Rattle.claims.specs.Example.{at, sevens}

-- one answer and one final memory for each input: of every list call, whatever it lists and tests first; a refusal writes nothing
pub record ListedOnce (line : List Cell) (first : Verdict) (entry : List ℤ) : Type 0 where
  pub answer : (r s : Result ℕ Refusal) (exit last : List ℤ) → Lists line first entry r exit → Lists line first entry s last → r ≡ s
  pub memory : (r s : Result ℕ Refusal) (exit last : List ℤ) → Lists line first entry r exit → Lists line first entry s last → exit ≡ last
  pub untouched : (r : Refusal) (exit : List ℤ) → Lists line first entry (Err r) exit → exit ≡ entry

-- the numbers at i, i+1 and i+2 as x, y and z of a cell
abbrev pub three_at : List ℤ → ℕ → Cell
three_at l i = record { x = get_or l i (pos 0); y = get_or l (i + 1) (pos 0); z = get_or l (i + 2) (pos 0) }

-- the memory before and after k cells were listed, of a line that has so many cells, `cell n` as its cell n
pub record CellsAt (many : ℕ) (cell : ℕ → Cell) (entry exit : List ℤ) (k : ℕ) : Type 0 where
  -- all its cells are listed
  pub all : k ≡ many
  -- cell n stands at the numbers 3n, 3n+1 and 3n+2 as x, y and z
  pub each : (n : ℕ) → n < k → three_at exit (3 * n) ≡ cell n
  -- what lies behind the k cells stays
  pub rest : (i : ℕ) → 3 * k ≤ i → get_or exit i (pos 0) ≡ get_or entry i (pos 0)
  -- the memory is as long as before
  pub long : length exit ≡ length entry

-- SCOPE A2: what an accepted list answers and writes, cell by cell
pub record CellsListed (p q : Cell) (entry exit : List ℤ) (k : ℕ) : Type 0 where
  -- an accepted list of the 6-line has its A+B+C+1 cells, those of its rule
  pub six : (rule : Rule) → Line6 rule p q entry (Ok k) exit → CellsAt (total (differences p q) + 1) (six_cell (by_rule rule p q) p q) entry exit k
  -- an accepted list of the 26-line has its M+1 cells
  pub twenty_six : Line26 p q entry (Ok k) exit → CellsAt (longest (differences p q) + 1) (cell_26 p q) entry exit k

-- the corners of the coordinate limit
abbrev pub lowest : Cell
lowest = record { x = negsuc 8191; y = negsuc 8191; z = negsuc 8191 }

abbrev pub highest : Cell
highest = at 8191 8191 8191

-- a longest line has so many cells and takes so much room; no line takes more, and the one between the corners takes it
pub record Longest (line : Cell → Cell → List Cell) (cells room : ℕ) : Type 0 where
  pub most : (p q : Cell) → InLimit p → InLimit q → (length (line p q) ≤ cells) × (length (numbers (line p q)) ≤ room)
  pub reached : length (line lowest highest) ≡ cells
  pub takes : length (numbers (line lowest highest)) ≡ room

-- SCOPE A4, A5: the cells of a longest 6-line and 26-line, and the room for them: the header's OAT_LINE6_ROOM and OAT_LINE26_ROOM.
pub record LongestLists : Type 0 where
  pub accepted : InLimit lowest × InLimit highest
  pub six : (rule : Rule) → Longest (λ p q. six_line (by_rule rule p q) p q) 49150 147450
  pub twenty_six : Longest line_26 16384 49152

-- room for the four cells from (0,0,0) to (2,1,0), and one number more
abbrev pub room : List ℤ
room = sevens 13

-- the first step, and then Q again and again
abbrev pub then_q : List ℤ
then_q = numbers (at 0 0 0 ∷ at 1 0 0 ∷ at 2 1 0 ∷ at 2 1 0 ∷ []) ++ pos 7 ∷ []

-- wrong answers that the contracts shut out, on named inputs
pub record WrongLists : Type 0 where
  pub repeats_q : (rule : Rule) (r : Result ℕ Refusal) → Line6 rule (at 0 0 0) (at 2 1 0) room r then_q → ⊥
  pub refuses_6 : (rule : Rule) (r : Refusal) (exit : List ℤ) → Line6 rule (at 0 0 0) (at 2 1 0) room (Err r) exit → ⊥
  pub refuses_26 : (r : Refusal) (exit : List ℤ) → Line26 (at 0 0 0) (at 2 1 0) room (Err r) exit → ⊥
