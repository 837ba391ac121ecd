-- SCOPE, G and N: near marks and their completeness, by coordinates, for every two cells of the grid. Touching is over the number k: 2 by face or edge,
-- the thin shell; 3 by face, edge or corner, the full one, of which the calls are. Assumes nothing.
use Rattle.std.specs.Prelude.{Ok, Err, Result}
use Rattle.cells.specs.declared.Refusal.{Refusal}
use Rattle.std.specs.Prelude.{ℕ, zero, suc, Bool, false, cond, not, ◌&&◌, ◌||◌, ◌≡◌, List, ◌⊎◌, length, get_or}
use Rattle.cells.specs.declared.Cell.{Cell}
use Rattle.cells.specs.declared.Counts.{Counts}
use Rattle.cells.specs.Checks.{Verdict}
use Rattle.cells.specs.Checks.{by_verdict}
use Rattle.cells.specs.Refusals.{Told, told_of}
use Rattle.cells.specs.Tabulate.{tabulate}
use Rattle.cells.specs.Touching.{touching}
use Rattle.grids.specs.Grid.{shape, cell_at, clear, solid}

-- some number below n passes
unfoldable pub any : (ℕ → Bool) → ℕ → Bool
any p zero = false
any p (suc n) = any p n || p n

-- the cell c touches a solid one inside the grid
unfoldable pub touches_solid : ℕ → Counts → List ℕ → Cell → Bool
unfolding any
touches_solid k n l c = any (λ j. solid (get_or l j 0) && touching k c (cell_at n j)) (length l)

-- SCOPE N1, N2: what marking makes of byte number i
unfoldable pub marked_byte : ℕ → Counts → List ℕ → ℕ → ℕ
unfolding touches_solid
marked_byte k n l i = cond (solid (get_or l i 0)) (get_or l i 0) (cond (touches_solid k n l (cell_at n i)) 1 0)

unfoldable pub marked : ℕ → Counts → List ℕ → List ℕ
unfolding marked_byte
marked k n l = tabulate (marked_byte k n l) (length l)

-- whether the marks are complete at k: SCOPE N3 at 3, N5 at 2
unfoldable pub complete : ℕ → Counts → List ℕ → Bool
unfolding any touches_solid
complete k n l = not (any (λ i. clear (get_or l i 0) && touches_solid k n l (cell_at n i)) (length l))

-- the answer of the completeness call
unfoldable pub completeness : Counts → List ℕ → Result Bool Refusal
unfolding shape
completeness n l = by_verdict Err (Ok (complete 3 n l)) (shape n (length l))

-- each case of the answer: what is said of a refusal, or whether the marks are complete
abbrev pub told_completeness : Result Bool Refusal → Told ⊎ Bool
told_completeness = told_of (λ b. b)

-- ---- the contracts of the calls: of marking, one answer and one final memory; refused, the bytes as they were

pub record Marks (n : Counts) (entry : List ℕ) (r : Verdict) (exit : List ℕ) : Type 0 where
  pub says : r ≡ shape n (length entry)
  pub holds : exit ≡ by_verdict (λ r. entry) (marked 3 n entry) (shape n (length entry))

pub record Completes (n : Counts) (l : List ℕ) (r : Result Bool Refusal) : Type 0 where
  pub says : r ≡ completeness n l
