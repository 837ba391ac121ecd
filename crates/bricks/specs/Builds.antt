-- SCOPE K4, O9: the build: refusals 2, 3, then 6; the masks at the front of the lent memory, and the total. Assumes nothing.
use Rattle.std.specs.Prelude.{Ok, Err, Result, ℕ, ◌≡◌, cond, List, ◌⊎◌, ltb, length, get_or}
use Rattle.cells.specs.declared.Refusal.{Refusal}
use Rattle.cells.specs.declared.Counts.{Counts}
use Rattle.cells.specs.declared.Refusal.TheVariants.{Room}
use Rattle.cells.specs.Checks.{Verdict, refuse_when, ◌then◌, by_verdict}
use Rattle.cells.specs.Refusals.{Told, told_of}
use Rattle.cells.specs.Tabulate.{tabulate}
use Rattle.grids.specs.Grid.{shape, size}
use Rattle.bricks.specs.Bricks.{bricks, mask_at, solids}

-- refusals 2, 3, then 6: fewer masks are lent than there are bricks
unfoldable pub bricks_check : Counts → ℕ → ℕ → Verdict
unfolding shape
bricks_check n bytes lent = shape n bytes then refuse_when (ltb lent (size (bricks n))) Room

-- the lent masks after a build: each brick's own, the surplus as it was
unfoldable pub built : Counts → List ℕ → List ℕ → List ℕ
built n l m = tabulate (λ k. cond (ltb k (size (bricks n))) (mask_at n l k) (get_or m k 0)) (length m)

-- each case of the answer: what is said of a refusal, or the total
abbrev pub told_tally : Result ℕ Refusal → Told ⊎ ℕ
told_tally = told_of (λ t. t)

-- the contract of the call: one answer and one final memory; refused, the masks as they were
pub record Builds (n : Counts) (l m : List ℕ) (r : Result ℕ Refusal) (m' : List ℕ) : Type 0 where
  pub says : r ≡ by_verdict Err (Ok (solids l)) (bricks_check n (length l) (length m))
  pub holds : m' ≡ by_verdict (λ r. m) (built n l m) (bricks_check n (length l) (length m))
