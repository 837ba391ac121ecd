-- How the code passes a tie, whatever it moves from place to place: what a step does is `go`. No promise to users rests on this file. Assumes nothing.
use Rattle.std.specs.Prelude.{ℕ, List, [], ◌∷◌}
use Rattle.lines.specs.Steps.{Axis, X, Y, Z}
use Rattle.lines.specs.declared.Tie.{Tie}
use Rattle.lines.specs.declared.Tie.TheVariants.{One, Two, Three}

module _ {A : Type 0} where
  -- what is at the cells of a tie, in the order of the line, from what is before it
  abbrev pub of_tie : (Axis → A → A) → Tie → A → List A
  of_tie go (One n) s = go n s ∷ []
  of_tie go (Two a b) s = go a s ∷ go b s ∷ go b (go a s) ∷ []
  of_tie go Three s = go Y s ∷ go Z s ∷ go X s ∷ go Z (go Y s) ∷ go X (go Y s) ∷ go X (go Z s) ∷ go X (go Z (go Y s)) ∷ []

  -- what is behind it
  abbrev pub tie_end : (Axis → A → A) → Tie → A → A
  tie_end go (One n) s = go n s
  tie_end go (Two a b) s = go b (go a s)
  tie_end go Three s = go X (go Z (go Y s))

  -- from where it steps, it can
  abbrev pub CanTie : (A → Type 0) → (Axis → A → A) → Tie → A → Type 0
  CanTie Can go (One n) s = Can s
  CanTie Can go (Two a b) s = Can s × Can (go a s)
  CanTie Can go Three s = Can s × Can (go Y s) × Can (go Z s) × Can (go Z (go Y s))

-- how many cells a tie has, and how many faces
abbrev pub tie_size : Tie → ℕ
tie_size (One n) = 1
tie_size (Two a b) = 3
tie_size Three = 7

abbrev pub tie_faces : Tie → ℕ
tie_faces (One n) = 1
tie_faces (Two a b) = 2
tie_faces Three = 3
