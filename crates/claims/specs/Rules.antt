-- The two rules for ties: which axis goes first, by the ends; that rule 2's line back is the mirror; and what both rules share. Claims about the definitions
-- and, by their contracts, about the list and first-hit calls, for every two ends and every grid. Assumes nothing.
use Rattle.std.specs.Prelude.{Ok, Result, ℕ, ◌-◌, ◌*◌, ◌≤◌, ◌<◌, ◌≡◌, true, ◌⊎◌, ◌↔◌, List, [], ◌∷◌, reverse, ℤ, ◌<ℤ◌, length}
use Rattle.cells.specs.declared.Refusal.{Refusal}
use Rattle.cells.specs.declared.Axis.TheVariants.{X, Y, Z}
use Rattle.cells.specs.declared.Cell.{Cell}
use Rattle.cells.specs.declared.Counts.{Counts}
use Rattle.cells.specs.declared.Face.TheVariants as Face
use Rattle.cells.specs.declared.Rule.TheVariants.{One, Two}
use Rattle.cells.specs.declared.Start.{Start}
use Rattle.cells.specs.Manners.{tested_by}
use Rattle.lines.specs.Steps.{total}
use Rattle.lines.specs.Crossings.{TieFree}
use Rattle.lines.specs.Preference.{Preference, y_z_x, x_z_y, comes_before, by_rule}
use Rattle.lines.specs.Lines.{differences, centres, six_cell, six_line}
use Rattle.lists.specs.Lists.{Line6, numbers}
use Rattle.grids.specs.Marks.{complete}
use Rattle.walks.specs.declared.Walker.{Walker}
use Rattle.walks.specs.declared.Walker.TheVariants.{Plain, Adaptive}
use Rattle.walks.specs.declared.Hit.{Hit}
use Rattle.walks.specs.declared.FirstHit.{FirstHit}
use Rattle.walks.specs.Answers.{Finds}
use Rattle.claims.specs.Example.{at, example_counts, example_cells, sevens}
use Rattle.claims.specs.Lists.{three_at}

-- p comes before q in the order z, then y, then x
abbrev pub ComesFirst : (p q : Cell) → Type 0
ComesFirst p q = (p.z <ℤ q.z) ⊎ ((p.z ≡ q.z) × ((p.y <ℤ q.y) ⊎ ((p.y ≡ q.y) × (p.x <ℤ q.x))))

-- the ranks of x, y and z, 0 first
pub record Ranks (r : Preference) (x y z : ℕ) : Type 0 where
  pub of_x : r.rank X ≡ x
  pub of_y : r.rank Y ≡ y
  pub of_z : r.rank Z ≡ z

-- 1. Rule 1: y, z, x between any two ends. Rule 2: y, z, x where P comes before Q, and x, z, y where Q comes before P. Of two ends one comes before the
-- other, or they are one; then there is no tie.
pub record TheRules (p q : Cell) : Type 0 where
  pub before : (comes_before p q ≡ true) ↔ ComesFirst p q
  pub first : Ranks y_z_x 2 0 1
  pub second : Ranks x_z_y 0 2 1
  pub rule_1 : by_rule One p q ≡ y_z_x
  pub p_first : ComesFirst p q → by_rule Two p q ≡ y_z_x
  pub q_first : ComesFirst q p → by_rule Two p q ≡ x_z_y
  pub one_of_three : ComesFirst p q ⊎ (ComesFirst q p ⊎ (p ≡ q))

-- 2. The mirror: by rule 2 the 6-line from Q to P is that from P to Q reversed. So say the list calls: called with the ends exchanged, an accepted list
-- has as many cells, and its cell n is the other's cell n from the end; and with as much room both are accepted, or neither.
pub record Mirror (p q : Cell) : Type 0 where
  pub cells : (n : ℕ) → n ≤ total (differences p q) →
      six_cell (by_rule Two q p) q p n ≡ six_cell (by_rule Two p q) p q (total (differences p q) - n)
  pub line : six_line (by_rule Two q p) q p ≡ reverse (six_line (by_rule Two p q) p q)
  pub lists : (entry exit other last : List ℤ) (k j : ℕ) → Line6 Two p q entry (Ok k) exit → Line6 Two q p other (Ok j) last →
      (j ≡ k) × ((n : ℕ) → n < k → three_at last (3 * n) ≡ three_at exit (3 * (k - 1 - n)))
  pub accepted : (entry exit other last : List ℤ) (k : ℕ) (r : Result ℕ Refusal) → Line6 Two p q entry (Ok k) exit → length entry ≤ length other →
      Line6 Two q p other r last → r ≡ Ok k

-- 3. Where no two crossings of different axes lie at one fraction, every preference gives the same 6-line; so both rules do.
pub record SameLine (p q : Cell) : Type 0 where
  pub cells : (r s : Preference) → TieFree (centres r (differences p q)) → (n : ℕ) → n ≤ total (differences p q) → six_cell s p q n ≡ six_cell r p q n
  pub line : TieFree (centres y_z_x (differences p q)) → six_line (by_rule Two p q) p q ≡ six_line (by_rule One p q) p q

-- 4. There and back by rule 2, with a tested start: both plain walks are clear, with the same reads, or both hit. Nothing is claimed of two sights.
pub record BothWays (n : Counts) (l : List ℕ) (p q : Cell) : Type 0 where
  pub clear : (reads : ℕ) (s : Result FirstHit Refusal) → Finds Plain (tested_by Two) n l p q (Ok (FirstHit.Clear reads)) → Finds Plain (tested_by Two) n l q p s →
      s ≡ Ok (FirstHit.Clear reads)
  pub hit : (h : Hit) (s : Result FirstHit Refusal) → Finds Plain (tested_by Two) n l p q (Ok (FirstHit.Hit h)) → Finds Plain (tested_by Two) n l q p s →
      (k : Hit) × (s ≡ Ok (FirstHit.Hit k))

-- The same of the adaptive walks, where the marks are complete at k (Shells: from 2 on).
pub record AdaptiveBothWays (k : ℕ) (n : Counts) (l : List ℕ) (p q : Cell) : Type 0 where
  pub clear : complete k n l ≡ true → (reads : ℕ) (s : Result FirstHit Refusal) → Finds Adaptive (tested_by Two) n l p q (Ok (FirstHit.Clear reads)) →
      Finds Adaptive (tested_by Two) n l q p s → (back : ℕ) × (s ≡ Ok (FirstHit.Clear back))
  pub hit : complete k n l ≡ true → (h : Hit) (s : Result FirstHit Refusal) → Finds Adaptive (tested_by Two) n l p q (Ok (FirstHit.Hit h)) →
      Finds Adaptive (tested_by Two) n l q p s → (g : Hit) × (s ≡ Ok (FirstHit.Hit g))

-- ---- 5. Wrong rules, on named inputs

-- room for four cells
abbrev pub four_cells : List ℤ
four_cells = sevens 12

-- from (1,1,1) to (0,0,0): by y, z, x; and by x, z, y, the mirror of the way there
abbrev pub by_yzx : List ℤ
by_yzx = numbers (at 1 1 1 ∷ at 1 0 1 ∷ at 1 0 0 ∷ at 0 0 0 ∷ [])

abbrev pub by_xzy : List ℤ
by_xzy = numbers (at 1 1 1 ∷ at 0 1 1 ∷ at 0 1 0 ∷ at 0 0 0 ∷ [])

-- 4 by 2 by 1, no marks, one solid cell at (1,0,0)
abbrev pub low_post : List ℕ
low_post = 0 ∷ 2 ∷ 0 ∷ 0 ∷ 0 ∷ 0 ∷ 0 ∷ 0 ∷ []

pub record WrongRules : Type 0 where
  -- rule 2 taken for rule 1
  pub two_as_one : (r : Result ℕ Refusal) → Line6 Two (at 1 1 1) (at 0 0 0) four_cells r by_yzx → ⊥
  -- rule 1's way back as the mirror
  pub one_mirrors : (r : Result ℕ Refusal) → Line6 One (at 1 1 1) (at 0 0 0) four_cells r by_xzy → ⊥
  -- a walk by rule 2 that passes the post as rule 1 does, and one by rule 1 that meets it
  pub passes : (start : Start) (reads : ℕ) →
      Finds Plain (record { start = start; rule = Two }) example_counts example_cells (at 3 1 0) (at 0 0 0) (Ok (FirstHit.Clear reads)) → ⊥
  pub meets : (start : Start) (h : Hit) →
      Finds Plain (record { start = start; rule = One }) example_counts example_cells (at 3 1 0) (at 0 0 0) (Ok (FirstHit.Hit h)) → ⊥
  -- the cell that both rules meet entered by the face of the other
  pub other_face : (w : Walker) (h : Hit) →
      Finds w (tested_by Two) example_counts low_post (at 3 1 0) (at 0 0 0) (Ok (FirstHit.Hit h)) → h.place.face ≡ Face.Minus X → ⊥
