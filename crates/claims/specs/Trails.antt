-- The trail, the cells on which the adaptive walk stands, and the call that lists it. Claims for every grid, every two ends, either start and either rule, by
-- the contracts of the call and of the adaptive first hit. How the walk goes from cell to cell: Story, 10 and 11. Assumes nothing.
use Rattle.std.specs.Prelude.{Ok, Err, Result, ℕ, ◌+◌, ◌-◌, ◌*◌, ◌≤◌, ◌<◌, ◌≡◌, List, [], ◌∷◌, ◌++◌, ℤ, pos, length, get_or}
use Rattle.cells.specs.declared.Cell.{Cell}
use Rattle.cells.specs.declared.Counts.{Counts}
use Rattle.cells.specs.declared.Manner.{Manner}
use Rattle.cells.specs.declared.Refusal.{Refusal}
use Rattle.cells.specs.declared.Refusal.TheVariants.{Room}
use Rattle.cells.specs.declared.Rule.TheVariants.{Two}
use Rattle.cells.specs.Manners.{usual, tested_start, tested_by}
use Rattle.lines.specs.Steps.{total}
use Rattle.lines.specs.Lines.{differences}
use Rattle.lists.specs.Lists.{numbers}
use Rattle.walks.specs.declared.Walker.TheVariants.{Adaptive}
use Rattle.walks.specs.declared.Hit.{Hit}
use Rattle.walks.specs.declared.FirstHit.TheVariants as FirstHit
use Rattle.walks.specs.Answers.{Finds}
use Rattle.trails.specs.Trails.{trail, AdaptiveCells}
use Rattle.claims.specs.Example.{counts, at, example_counts, example_cells, marked_cells, sevens}
use Rattle.claims.specs.Lists.{three_at, CellsAt}
use Rattle.claims.specs.Story.{all_clear, near_bytes}
use Rattle.claims.specs.Tables.{EachRow}

-- cell number i of the trail, from 0
abbrev pub trail_cell : Manner → Counts → List ℕ → (p q : Cell) → ℕ → Cell
trail_cell how n l p q i = get_or (trail how n l p q) i p

module _ (how : Manner) (n : Counts) (l : List ℕ) (p q : Cell) (entry exit : List ℤ) (k : ℕ) where
  -- 1. SCOPE W15: what an accepted list answers and writes, cell by cell. There is a first cell, and it is P; and there are no more cells than the 6-line has.
  pub record TrailListed : Type 0 where
    pub few : length (trail how n l p q) ≤ total (differences p q) + 1
    pub cells : AdaptiveCells how n l p q entry (Ok k) exit → CellsAt (length (trail how n l p q)) (trail_cell how n l p q) entry exit k
    pub starts : AdaptiveCells how n l p q entry (Ok k) exit → (0 < k) × (three_at exit 0 ≡ p)

  -- 2. Beside the adaptive first hit on the same inputs: as many cells are listed as it has reads, and the last of them is the hit's, or Q where it is clear.
  -- What it refuses the list refuses, with the same refusal.
  pub record BesideFirstHit : Type 0 where
    pub hit : AdaptiveCells how n l p q entry (Ok k) exit → (h : Hit) → Finds Adaptive how n l p q (Ok (FirstHit.Hit h)) →
        (k ≡ h.reads) × (three_at exit (3 * (k - 1)) ≡ h.cell)
    pub clear : AdaptiveCells how n l p q entry (Ok k) exit → (reads : ℕ) → Finds Adaptive how n l p q (Ok (FirstHit.Clear reads)) →
        (k ≡ reads) × (three_at exit (3 * (k - 1)) ≡ q)
    pub refused : (r : Result ℕ Refusal) → AdaptiveCells how n l p q entry r exit → (e : Refusal) → Finds Adaptive how n l p q (Err e) → r ≡ Err e

-- ---- 3. worked trails

-- the cells from P to Q through a grid
pub record TrailRow : Type 0 where
  pub how : Manner
  pub counts : Counts
  pub bytes : List ℕ
  pub from : Cell
  pub to : Cell
  pub cells : List Cell

-- over a clear grid by long steps, (1,0,0) being passed over; from a near P over the faces; onto the program's post with marks, and over it without them; from
-- the post itself, tested and not; and in a tie by rule 2
abbrev pub trail_rows : List TrailRow
trail_rows =
    record { how = usual; counts = counts 3 2 1; bytes = all_clear; from = at 0 0 0; to = at 2 1 0; cells = at 0 0 0 ∷ at 1 1 0 ∷ at 2 1 0 ∷ [] }
    ∷ record { how = usual; counts = counts 3 2 1; bytes = near_bytes; from = at 0 0 0; to = at 2 1 0; cells = at 0 0 0 ∷ at 1 0 0 ∷ at 1 1 0 ∷ at 2 1 0 ∷ [] }
    ∷ record { how = usual; counts = example_counts; bytes = marked_cells; from = at 0 0 0; to = at 3 1 0; cells = at 0 0 0 ∷ at 1 0 0 ∷ at 1 1 0 ∷ [] }
    ∷ record { how = usual; counts = example_counts; bytes = example_cells; from = at 0 0 0; to = at 3 1 0; cells = at 0 0 0 ∷ at 1 0 0 ∷ at 2 1 0 ∷ at 3 1 0 ∷ [] }
    ∷ record { how = usual; counts = example_counts; bytes = marked_cells; from = at 1 1 0; to = at 3 1 0; cells = at 1 1 0 ∷ at 2 1 0 ∷ at 3 1 0 ∷ [] }
    ∷ record { how = tested_start; counts = example_counts; bytes = marked_cells; from = at 1 1 0; to = at 3 1 0; cells = at 1 1 0 ∷ [] }
    ∷ record { how = tested_by Two; counts = counts 2 2 1; bytes = 1 ∷ 1 ∷ 1 ∷ 1 ∷ []; from = at 1 1 0; to = at 0 0 0; cells = at 1 1 0 ∷ at 0 1 0 ∷ at 0 0 0 ∷ [] }
    ∷ []

pub record TrailRows : Type 0 where
  pub trails : EachRow (λ row. trail row.how row.counts row.bytes row.from row.to ≡ row.cells) trail_rows

-- ---- 4. wrong answers that the contract shuts out, on named inputs

pub record WrongTrails : Type 0 where
  -- cells that a long step passes over, listed too; a long step from a near cell
  pub passed_over : (exit : List ℤ) → AdaptiveCells usual (counts 3 2 1) all_clear (at 0 0 0) (at 2 1 0) (sevens 12) (Ok 4) exit → ⊥
  pub near_stepped : (exit : List ℤ) → AdaptiveCells usual (counts 3 2 1) near_bytes (at 0 0 0) (at 2 1 0) (sevens 12) (Ok 3) exit → ⊥
  -- a trail that goes on behind the post that it meets; Q in the place of the post; P left out; and the cells last to first
  pub past_the_hit : (exit : List ℤ) → AdaptiveCells usual example_counts marked_cells (at 0 0 0) (at 3 1 0) (sevens 15) (Ok 5) exit → ⊥
  pub q_for_the_hit : (r : Result ℕ Refusal) →
      AdaptiveCells usual example_counts marked_cells (at 0 0 0) (at 3 1 0) (sevens 9) r (numbers (at 0 0 0 ∷ at 1 0 0 ∷ at 3 1 0 ∷ [])) → ⊥
  pub start_left_out : (r : Result ℕ Refusal) →
      AdaptiveCells usual example_counts marked_cells (at 0 0 0) (at 3 1 0) (sevens 9) r (numbers (at 1 0 0 ∷ at 1 1 0 ∷ []) ++ sevens 3) → ⊥
  pub turned_round : (r : Result ℕ Refusal) →
      AdaptiveCells usual example_counts marked_cells (at 0 0 0) (at 3 1 0) (sevens 9) r (numbers (at 1 1 0 ∷ at 1 0 0 ∷ at 0 0 0 ∷ [])) → ⊥
  -- a list that is the plain walk's where the adaptive one steps over the post
  pub plain_in_list : (r : Result ℕ Refusal) →
      AdaptiveCells usual example_counts example_cells (at 0 0 0) (at 3 1 0) (sevens 12) r (numbers (at 0 0 0 ∷ at 1 0 0 ∷ at 1 1 0 ∷ []) ++ sevens 3) → ⊥
  -- by rule 1 where rule 2 is named
  pub other_rule : (r : Result ℕ Refusal) →
      AdaptiveCells (tested_by Two) (counts 2 2 1) (1 ∷ 1 ∷ 1 ∷ 1 ∷ []) (at 1 1 0) (at 0 0 0) (sevens 9) r (numbers (at 1 1 0 ∷ at 1 0 0 ∷ at 0 0 0 ∷ [])) → ⊥
  -- a start that is tested where it should not be, and the other way round
  pub always_tested : (exit : List ℤ) → AdaptiveCells usual example_counts marked_cells (at 1 1 0) (at 3 1 0) (sevens 9) (Ok 1) exit → ⊥
  pub never_tested : (exit : List ℤ) → AdaptiveCells tested_start example_counts marked_cells (at 1 1 0) (at 3 1 0) (sevens 9) (Ok 3) exit → ⊥
  -- 6 for an end outside the grid; refused with just enough room, accepted with one number less, and a refusal that writes
  pub room_first : (exit : List ℤ) → AdaptiveCells usual (counts 3 2 1) all_clear (at 0 0 0) (at 3 1 0) [] (Err Room) exit → ⊥
  pub refuses : (r : Refusal) (exit : List ℤ) → AdaptiveCells usual (counts 3 2 1) all_clear (at 0 0 0) (at 2 1 0) (sevens 9) (Err r) exit → ⊥
  pub one_less : (many : ℕ) (exit : List ℤ) → AdaptiveCells usual (counts 3 2 1) all_clear (at 0 0 0) (at 2 1 0) (sevens 8) (Ok many) exit → ⊥
  pub writes : (r : Result ℕ Refusal) → AdaptiveCells usual (counts 3 2 1) all_clear (at 0 0 0) (at 2 1 0) (sevens 8) r (pos 0 ∷ sevens 7) → ⊥
