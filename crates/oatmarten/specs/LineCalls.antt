-- The contracts of the calls for C that list lines: the struct is the flattening of an answer that meets the call's own contract. Assumes nothing.
use Rattle.std.specs.Prelude.{Err, Result, ℕ, ◌≡◌, List, ℤ}
use Rattle.cells.specs.declared.Refusal.{Refusal}
use Rattle.cells.specs.declared.Cell.{Cell}
use Rattle.cells.specs.Manners.{rule_of, rule_check}
use Rattle.lists.specs.Lists.{Line6, Line26}
use Rattle.touching.specs.Touching.{LineTouching}
use Rattle.structs.specs.declared.line_answers.OatListed.{OatListed}
use Rattle.oatmarten.specs.Flattening.{Flattens, After}
use Rattle.structs.specs.LineAnswers.{flat_listed}

-- a list by a rule that a number names: 12 comes first, and leaves the memory as it was
abbrev pub ListsByRule : ℕ → (Result ℕ Refusal → Type 0) → List ℤ → Result ℕ Refusal → List ℤ → Type 0
ListsByRule rule Meets entry a exit = After (rule_check rule) (λ why. (a ≡ Err why) × (exit ≡ entry)) (Meets a)

abbrev pub FlatByRule : ℕ → (Result ℕ Refusal → Type 0) → List ℤ → OatListed → List ℤ → Type 0
FlatByRule rule Meets entry r exit = Flattens flat_listed (λ a. ListsByRule rule Meets entry a exit) r

abbrev pub FlatLine6 : ℕ → Cell → Cell → List ℤ → OatListed → List ℤ → Type 0
FlatLine6 rule p q entry r exit = FlatByRule rule (λ a. Line6 (rule_of rule) p q entry a exit) entry r exit

abbrev pub FlatLine26 : Cell → Cell → List ℤ → OatListed → List ℤ → Type 0
FlatLine26 p q entry r exit = Flattens flat_listed (λ a. Line26 p q entry a exit) r

abbrev pub FlatLineTouching : Cell → Cell → List ℤ → OatListed → List ℤ → Type 0
FlatLineTouching p q entry r exit = Flattens flat_listed (λ a. LineTouching p q entry a exit) r
