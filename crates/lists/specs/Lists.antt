-- SCOPE A2, A3, O3: lists of cells, what they write into the lent slice and what they answer. Refusals: of a line list 1 (P before Q; x, y, z), of every list
-- then 6. Assumes nothing.
use Rattle.std.specs.Prelude.{Ok, Err, Result, ℕ, ◌*◌, ◌≡◌, not, List, [], ◌∷◌, ◌++◌, ◌⊎◌, ltb, ℤ, length, drop}
use Rattle.cells.specs.declared.Refusal.{Refusal}
use Rattle.cells.specs.declared.Axis.TheVariants.{X, Y, Z}
use Rattle.cells.specs.declared.End.{End}
use Rattle.cells.specs.declared.End.TheVariants.{P, Q}
use Rattle.cells.specs.declared.Cell.{Cell}
use Rattle.cells.specs.declared.Refusal.TheVariants.{Limit, Room}
use Rattle.cells.specs.declared.Rule.{Rule}
use Rattle.cells.specs.Checks.{Verdict, refuse_when, ◌then◌, by_verdict}
use Rattle.cells.specs.Refusals.{Told, told_of}
use Rattle.lines.specs.Preference.{by_rule}
use Rattle.lines.specs.Lines.{six_line, line_26, in_limit}

-- SCOPE R1: an end beyond the coordinate limit (x, y, z)
abbrev pub end_check : End → Cell → Verdict
end_check e c =
    refuse_when (not (in_limit c.x)) (Limit e X) then
    refuse_when (not (in_limit c.y)) (Limit e Y) then
    refuse_when (not (in_limit c.z)) (Limit e Z)

abbrev pub ends_check : Cell → Cell → Verdict
ends_check p q = end_check P p then end_check Q q

-- SCOPE A3: after the tests that come first, 6 where the slice is too short for the list
abbrev pub list_check : Verdict → ℕ → ℕ → Verdict
list_check first cells room = first then refuse_when (ltb room (3 * cells)) Room

-- three numbers a cell
abbrev pub numbers : List Cell → List ℤ
numbers [] = []
numbers (c ∷ l) = c.x ∷ c.y ∷ c.z ∷ numbers l

-- the cells at the front, the rest as it was
abbrev pub filled : List Cell → List ℤ → List ℤ
filled line entry = numbers line ++ drop (3 * length line) entry

-- a call that lists cells: its answer and the memory at exit, from the verdict of the tests that come first and the memory that is lent; refused, the memory
-- as it was
pub record Lists (line : List Cell) (first : Verdict) (entry : List ℤ) (r : Result ℕ Refusal) (exit : List ℤ) : Type 0 where
  pub says : r ≡ by_verdict Err (Ok (length line)) (list_check first (length line) (length entry))
  pub holds : exit ≡ by_verdict (λ r. entry) (filled line entry) (list_check first (length line) (length entry))

-- the contracts of the two calls
abbrev pub Line6 : Rule → Cell → Cell → List ℤ → Result ℕ Refusal → List ℤ → Type 0
Line6 rule p q = Lists (six_line (by_rule rule p q) p q) (ends_check p q)

abbrev pub Line26 : Cell → Cell → List ℤ → Result ℕ Refusal → List ℤ → Type 0
Line26 p q = Lists (line_26 p q) (ends_check p q)

-- each case of the answer: what is said of a refusal, or the number of cells
abbrev pub told_listed : Result ℕ Refusal → Told ⊎ ℕ
told_listed = told_of (λ n. n)
