-- The walks by the numbers of the 6-line's cells, 0 for P: words for contracts of inner functions and for laws. No promise to users rests on this
-- file: the walks are those of `Walks`, and these are equal to them (`proofs/Numbers.antt`). Assumes nothing.
use Rattle.std.specs.Prelude.{ℕ, zero, suc, ◌+◌, ◌≤◌, ◌<◌, ◌≡◌, Bool, cond, ◌||◌, List, eqb}
use Rattle.std.proofs.Math.Option.{Option, none, some}
use Rattle.cells.specs.declared.Cell.{Cell}
use Rattle.cells.specs.declared.Counts.{Counts}
use Rattle.lines.specs.Steps.{total}
use Rattle.lines.specs.Preference.{Preference}
use Rattle.lines.specs.Lines.{differences, six_cell, cell_26, number_26}
use Rattle.grids.specs.Grid.{byte_of, clear}
use Rattle.walks.specs.declared.Walker.{Walker}
use Rattle.walks.specs.declared.Walker.TheVariants.{Plain, Adaptive}
use Rattle.walks.specs.declared.FirstHit.{FirstHit}
use Rattle.walks.specs.Walks.{Conduct, number_of, six_count, count_26, hit_at}
use Rattle.walks.specs.Answers.{entered_at}

-- ---- any walk over numbers 0 to N: from a number that is neither a hit nor the last it goes on by `go`

-- a walk stops at a hit and at the last
abbrev pub stop : (ℕ → Bool) → ℕ → ℕ → Bool
stop hits N s = hits s || eqb s N

-- where it ends
unfoldable pub ends : (ℕ → Bool) → ℕ → (ℕ → ℕ) → ℕ → ℕ → ℕ
ends hits N go zero s = s
ends hits N go (suc fuel) s = cond (stop hits N s) s (ends hits N go fuel (go s))

-- how many it visits
unfoldable pub visits : (ℕ → Bool) → ℕ → (ℕ → ℕ) → ℕ → ℕ → ℕ
visits hits N go zero s = 0
visits hits N go (suc fuel) s = suc (cond (stop hits N s) 0 (visits hits N go fuel (go s)))

-- on which number it stands after so many steps from s, if nothing stops it
unfoldable pub stands : (ℕ → ℕ) → ℕ → ℕ → ℕ
stands go s zero = s
stands go s (suc m) = stands go (go s) m

-- it rises, and does not pass the last
pub record Rises (N : ℕ) (go : ℕ → ℕ) : Type 0 where
  pub up : (s : ℕ) → s < N → s < go s
  pub most : (s : ℕ) → s < N → go s ≤ N

-- r numbers were visited, s comes next
pub record OnWay (hits : ℕ → Bool) (N : ℕ) (go : ℕ → ℕ) (s r : ℕ) : Type 0 where
  pub fuel : ℕ
  pub most : s ≤ N
  pub few : r ≤ s
  pub enough : N < s + fuel
  pub end : ends hits N go fuel s ≡ ends hits N go (N + 1) 0
  pub reads : r + visits hits N go fuel s ≡ visits hits N go (N + 1) 0

-- ---- the plain and the adaptive walk

-- the number of Q
abbrev pub last_number : Cell → Cell → ℕ
last_number p q = total (differences p q)

module _ (r : Preference) (n : Counts) (l : List ℕ) (p q : Cell) where
  -- the number after s: by a long step where the byte is 0 and the cell is of the 26-line
  abbrev pub go_by : ℕ → Option ℕ → ℕ
  go_by s none = suc s
  go_by s (some m) = number_26 p q (m + 1)

  abbrev pub go : ℕ → ℕ
  go s = cond (clear (byte_of n l (six_cell r p q s))) (go_by s (number_of (cell_26 p q) (count_26 p q) (six_cell r p q s))) (suc s)

  -- each walk goes by its own step
  abbrev pub step : Walker → ℕ → ℕ
  step Plain = suc
  step Adaptive = go

module _ (how : Conduct) (n : Counts) (l : List ℕ) (p q : Cell) where
  -- which numbers are hits
  abbrev pub hits_at : ℕ → Bool
  hits_at s = hit_at how n l p (six_cell how.preference p q s)

  -- where it ends, and its reads
  abbrev pub end_of : Walker → ℕ
  end_of k = ends hits_at (last_number p q) (step how.preference n l p q k) (six_count p q) 0

  abbrev pub reads_of : Walker → ℕ
  reads_of k = visits hits_at (last_number p q) (step how.preference n l p q k) (six_count p q) 0

  -- the answer of a walk that ends at number e after r reads
  abbrev pub answer_at : ℕ → ℕ → FirstHit
  answer_at e r =
      let c : Cell = six_cell how.preference p q e in
      cond (hits_at e)
      (FirstHit.Hit (record { cell = c; code = byte_of n l c; place = entered_at how.preference p q e; reads = r }))
      (FirstHit.Clear r)
