-- Where each walk is, where it stops and what it answers, by the numbers of the 6-line's cells: words for the contracts of inner functions.
-- No promise rests on this file. Assumes nothing.
use Rattle.std.specs.Prelude.{ℕ, suc, ◌+◌, ◌-◌, ◌≤◌, ◌<◌, ◌≡◌, Bool, true, false, ◌&&◌, List, length}
use Rattle.cells.specs.declared.Start.{Start}
use Rattle.lines.specs.Steps.{Axis}
use Rattle.lines.specs.Crossings.{place}
use Rattle.lines.specs.Lines.{differences, longest, six_cell, number_26}
use Rattle.tripod.specs.Tripod.{steps}
use Rattle.grids.specs.Grid.{byte_of, solid}
use Rattle.walks.specs.declared.Walker.{Walker}
use Rattle.walks.specs.declared.Walker.TheVariants.{Adaptive}
use Rattle.walks.specs.declared.FirstHit.{FirstHit}
use Rattle.walks.specs.Walks.{Conduct}
use Rattle.walks.specs.Numbers.{ends, visits, Rises, OnWay, last_number, hits_at, step, end_of, reads_of, answer_at}
use Rattle.routes.specs.declared.Route.{Route}
use Rattle.routes.specs.declared.Spot.{Spot}
use Rattle.hits.specs.declared.Begun.{Begun}
use Rattle.hits.specs.declared.Turn.{Turn}
use Rattle.hits.specs.declared.Reach.{Reach}
use Rattle.hits.specs.declared.Stop.{Stop}
use Rattle.routes.specs.Route.{preference, course, SpotAt, Planned}
use Rattle.runs.specs.Run.{cell_left}

-- a walk that ends at place number e after so many reads
pub record Stopped (k : Route) (e many : ℕ) (r : Stop) : Type 0 where
  pub spot : SpotAt k (place (course k) e) r.spot
  pub reads : r.reads ≡ many

module _ (l : List ℕ) (k : Route) where
  -- the route's last place number
  abbrev pub last : ℕ
  last = last_number k.p k.q

  -- a walk's step from number to number
  abbrev pub going : Walker → ℕ → ℕ
  going w = step (preference k) k.n l k.p k.q w

-- a walk along a route, from such a start
abbrev pub conduct_of : Start → Route → Conduct
conduct_of from k = record { start = from; preference = preference k }

module _ (from : Start) (l : List ℕ) (k : Route) where
  -- which numbers are hits
  abbrev pub hits : ℕ → Bool
  hits = hits_at (conduct_of from k) k.n l k.p k.q

  -- its test of number m is that of the byte, or where it is not tested there is none
  abbrev pub TestedAt : ℕ → Bool → Type 0
  TestedAt m tested = hits m ≡ (tested && solid (byte_of k.n l (six_cell (preference k) k.p k.q m)))

  -- at place number m of a walk that goes by `next`, r cells read before it
  pub record Walking (next : ℕ → ℕ) (m r : ℕ) (s : Spot) : Type 0 where
    pub spot : SpotAt k (place (course k) m) s
    pub on : OnWay hits (last l k) next m r

  -- a walk that stopped where it ends
  abbrev pub Stops : (ℕ → ℕ) → Stop → Type 0
  Stops next r = Stopped k (ends hits (last l k) next (last l k + 1) 0) (visits hits (last l k) next (last l k + 1) 0) r

  -- after a turn: stopped, or on its way at place number m
  abbrev pub Outcome : (ℕ → ℕ) → ℕ → Bool → Spot → ℕ → Type 0
  Outcome next m true s r = Stops next (record { spot = s; reads = r })
  Outcome next m false s r = Walking next m r s

  -- so many faces to cross from place number m, one at a time, the cell there being tested or not
  pub record Crossing (tested : Bool) (s : Spot) (reads faces : ℕ) (next : ℕ → ℕ) (m : ℕ) : Type 0 where
    pub rises : Rises (last l k) next
    pub fits : m + faces ≤ last l k
    pub one : (j : ℕ) → m ≤ j → j < m + faces → next j ≡ suc j
    pub walking : Walking next m reads s
    pub test : 0 < faces → TestedAt m tested

  -- at the cell of the 26-line from which so many long steps are left, at least one
  pub record At26 (tested : Bool) (s : Spot) (reads left : ℕ) : Type 0 where
    pub some : 0 < left
    pub most : left ≤ longest (differences k.p k.q)
    pub walking : Walking (going l k Adaptive) (number_26 k.p k.q (cell_left k left)) reads s
    pub test : TestedAt (number_26 k.p k.q (cell_left k left)) tested

  -- stopped, or on its way at the cell of the 26-line from which so many are left
  abbrev pub Outcome26 : Reach → Type 0
  Outcome26 r = Outcome (going l k Adaptive) (number_26 k.p k.q (cell_left k r.left)) r.hit r.spot r.reads

  -- and that cell, where it is not the last, is tested
  pub record Came (r : Reach) : Type 0 where
    pub most : r.left ≤ longest (differences k.p k.q)
    pub outcome : Outcome26 r
    pub test : 0 < r.left → TestedAt (number_26 k.p k.q (cell_left k r.left)) true

  -- what a walk answers
  abbrev pub found : Walker → FirstHit
  found w =
      let how : Conduct = conduct_of from k in
      answer_at how k.n l k.p k.q (end_of how k.n l k.p k.q w) (reads_of how k.n l k.p k.q w)

-- past a cell that is not tested: whichever the walk, it is on its way so many faces further on, where the cell is tested
pub record PastStart (k : Route) (s : Spot) (faces : ℕ) (tested : Bool) (r : Begun) : Type 0 where
  pub few : r.past ≤ faces
  pub leads :
      (from : Start) (l : List ℕ) → Planned (length l) k → (reads : ℕ) (next : ℕ → ℕ) (m : ℕ) → Crossing from l k tested s reads faces next m →
      Crossing from l k true r.spot (reads + r.past) (faces - r.past) next (m + r.past)

module _ (l : List ℕ) (k : Route) where
  -- some walk has these faces to cross
  pub record CanWalk (tested : Bool) (s : Spot) (reads faces : ℕ) : Type 0 where
    pub from : Start
    pub next : ℕ → ℕ
    pub number : ℕ
    pub crossing : Crossing from l k tested s reads faces next number

  -- and whichever it is, it was followed
  pub record Walked (tested : Bool) (s : Spot) (reads faces : ℕ) (r : Turn) : Type 0 where
    pub leads : (from : Start) (next : ℕ → ℕ) (m : ℕ) → Crossing from l k tested s reads faces next m →
        Outcome from l k next (m + faces) r.hit r.spot r.reads

  -- what a turn of the adaptive walk asks: the longest axis, and some walk at that cell; over bytes and a route, as laws read it where there is no lane
  pub record CanGo (u : Axis) (tested : Bool) (s : Spot) (reads left : ℕ) : Type 0 where
    pub plan : Planned (length l) k
    pub long : steps k.d u ≡ longest (steps k.d)
    pub from : Start
    pub at : At26 from l k tested s reads left

  -- whichever it is: stopped, or on its way at a later cell of the 26-line
  pub record Reached (tested : Bool) (s : Spot) (reads left : ℕ) (r : Reach) : Type 0 where
    pub fewer : r.left < left
    pub outcome : (from : Start) → At26 from l k tested s reads left → Outcome26 from l k r
