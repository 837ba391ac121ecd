-- Where the adaptive walk stands, by the numbers of the 6-line's cells, and what its steps ask and promise. No promise to users rests on this file. Assumes
-- nothing.
use Rattle.std.specs.Prelude.{ℕ, ◌+◌, ◌≤◌, ◌<◌, ◌≡◌, cond, ◌&&◌, List, eqb}
use Rattle.cells.specs.declared.Axis.{Axis}
use Rattle.cells.specs.declared.Cell.{Cell}
use Rattle.cells.specs.declared.Start.{Start}
use Rattle.cells.specs.Tabulate.{tabulate}
use Rattle.lines.specs.Crossings.{place}
use Rattle.lines.specs.Lines.{differences, longest, six_cell, number_26}
use Rattle.tripod.specs.Tripod.{steps}
use Rattle.grids.specs.Grid.{clear}
use Rattle.walks.specs.declared.Walker.TheVariants.{Adaptive}
use Rattle.walks.specs.Walks.{walk_of}
use Rattle.walks.specs.Numbers.{stands, last_number}
use Rattle.routes.specs.declared.Route.{Route}
use Rattle.routes.specs.declared.Spot.{Spot}
use Rattle.routes.specs.Route.{preference, course, SpotAt, Planned, byte_of_spot}
use Rattle.hits.specs.Found.{conduct_of, going}
use Rattle.trails.specs.declared.Stand.{Stand}

-- ---- the numbers on which it stands

module _ (l : List ℕ) (k : Route) where
  -- after so many steps
  abbrev pub stand : ℕ → ℕ
  stand m = stands (going l k Adaptive) 0 m

  -- the first of its cells
  abbrev pub stand_cells : ℕ → List Cell
  stand_cells count = tabulate (λ m. six_cell (preference k) k.p k.q (stand m)) count

  -- the cells of the walk, from such a start
  abbrev pub walked : Start → List Cell
  walked from = walk_of Adaptive (conduct_of from k) k.n l k.p k.q

  -- so many cells may be listed: before the last of them the walk is not at Q
  pub record CanList (count : ℕ) : Type 0 where
    pub some : 0 < count
    pub few : count ≤ last_number k.p k.q + 1
    pub below : (m : ℕ) → m + 1 < count → stand m < last_number k.p k.q

-- ---- a spot of the 6-line

-- it is that of some number of the 6-line, behind which so many faces lie
pub record CanPass (k : Route) (faces : ℕ) (spot : Spot) : Type 0 where
  pub bytes : ℕ
  pub plan : Planned bytes k
  pub number : ℕ
  pub at : SpotAt k (place (course k) number) spot
  pub fits : number + faces ≤ last_number k.p k.q

-- whichever number that is, they are crossed
pub record Passed (k : Route) (faces : ℕ) (spot r : Spot) : Type 0 where
  pub leads : (s : ℕ) → s + faces ≤ last_number k.p k.q → SpotAt k (place (course k) s) spot → SpotAt k (place (course k) (s + faces)) r

-- and this is its cell
pub record CellOf (k : Route) (spot : Spot) (r : Cell) : Type 0 where
  pub is : (s : ℕ) → s ≤ last_number k.p k.q → SpotAt k (place (course k) s) spot → r ≡ six_cell (preference k) k.p k.q s

-- ---- beside the 26-line

-- from number s so many faces lead to the next cell of the 26-line; none where s is the number of one
pub record Before26 (k : Route) (s left : ℕ) : Type 0 where
  pub next : ℕ
  pub most : next ≤ longest (differences k.p k.q)
  pub there : s + left ≡ number_26 k.p k.q next
  -- the one before it is passed
  pub past : (m : ℕ) → next ≡ m + 1 → number_26 k.p k.q m < s

-- so many lead to the next one that is not s itself
pub record Ahead26 (k : Route) (s left ahead : ℕ) : Type 0 where
  -- the one that was passed last, or s itself
  pub from : ℕ
  pub below : from < longest (differences k.p k.q)
  pub on : left ≡ 0 → s ≡ number_26 k.p k.q from
  pub off : 0 < left → number_26 k.p k.q from < s
  pub some : 0 < ahead
  pub there : s + ahead ≡ number_26 k.p k.q (from + 1)

-- the walk stands at number s
pub record StandsAt (k : Route) (s : ℕ) (t : Stand) : Type 0 where
  pub spot : SpotAt k (place (course k) s) t.spot
  pub beside : Before26 k s t.left

-- it can step on, from some number that is not the last, along a route with such a longest axis; over a route, as laws read it where there is no lane
pub record CanStep (bytes : ℕ) (k : Route) (u : Axis) (t : Stand) : Type 0 where
  pub plan : Planned bytes k
  pub long : steps k.d u ≡ longest (steps k.d)
  pub number : ℕ
  pub below : number < last_number k.p k.q
  pub at : StandsAt k number t

-- through some grid
abbrev pub StepsSomewhere : Route → Axis → Stand → Type 0
StepsSomewhere k u t = (bytes : ℕ) × CanStep bytes k u t

-- so many faces lie ahead, whichever it is
pub record FacesAhead (k : Route) (t : Stand) (ahead : ℕ) : Type 0 where
  pub leads : (s : ℕ) → s < last_number k.p k.q → StandsAt k s t → Ahead26 k s t.left ahead

-- those that the walk crosses: all of them from a clear cell of the 26-line, else one
abbrev pub to_cross : List ℕ → Stand → ℕ → ℕ
to_cross l t ahead = cond (eqb t.left 0 && clear (byte_of_spot l t.spot)) ahead 1

-- and it stands on the next cell
pub record Stepped (l : List ℕ) (k : Route) (t r : Stand) : Type 0 where
  pub leads : (s : ℕ) → s < last_number k.p k.q → StandsAt k s t → StandsAt k (going l k Adaptive s) r
