-- What the walk keeps from tie to tie, and what its steps ask and promise. No promise to users rests on this file. Assumes nothing.
use Rattle.std.specs.Prelude.{ℕ, ◌+◌, ◌≤◌, ◌≡◌, true, false, cond, List, [], ◌∷◌, length}
use Rattle.cells.specs.declared.Start.{Start}
use Rattle.lines.specs.declared.Order.TheVariants.{Xzy}
use Rattle.lines.specs.declared.Tie.{Tie}
use Rattle.lines.specs.Touching.{visits, crossings}
use Rattle.tripod.specs.Tripod.{NextTie}
use Rattle.grids.specs.Grid.{solid}
use Rattle.walks.specs.declared.FirstHit.{FirstHit}
use Rattle.walks.specs.Walks.{hit_at}
use Rattle.routes.specs.declared.Route.{Route}
use Rattle.routes.specs.declared.Spot.{Spot}
use Rattle.routes.specs.Route.{HasByte, byte_of_spot, crossed_spot, CanCross}
use Rattle.hits.specs.declared.Turn.{Turn}
use Rattle.hits.specs.Answer.{answer_from}
use Rattle.touching.specs.declared.hit.TieTurn.{TieTurn}
use Rattle.touching.specs.Touching.{walking, found_in}
use Rattle.touching.specs.Passing.{of_tie, CanTie, tie_faces}

-- of some spots the first that is solid, or the last of all; so many cells were read before them
abbrev pub looked : List ℕ → (reads : ℕ) → Spot → List Spot → Turn
looked l reads last [] = record { spot = last; reads = reads; hit = false }
looked l reads last (s ∷ more) =
    cond (solid (byte_of_spot l s)) (record { spot = s; reads = reads + 1; hit = true }) (looked l (reads + 1) s more)

-- each has its byte
abbrev pub HaveBytes : ℕ → List Spot → Type 0
HaveBytes bytes [] = Unit {0}
HaveBytes bytes (s ∷ more) = HasByte bytes s.at × HaveBytes bytes more

-- so few cells that their number fits: with at most 49,149 crossings there are no more than 1 + 7·49,149 reads
pub record CanLook (bytes reads : ℕ) (spots : List Spot) : Type 0 where
  pub few : reads + length spots ≤ 344050
  pub there : HaveBytes bytes spots

-- at the cells of a tie
pub record CanLookTie (bytes : ℕ) (k : Route) (s : Spot) (reads : ℕ) (tie : Tie) : Type 0 where
  pub steps : CanTie (λ s. CanCross s k) (crossed_spot k) tie s
  pub look : CanLook bytes reads (of_tie (crossed_spot k) tie s)

pub record CanTurn (bytes : ℕ) (k : Route) (s : Spot) (reads : ℕ) : Type 0 where
  pub fits : (tie : Tie) → NextTie s.e tie → CanLookTie bytes k s reads tie

pub record Turned (l : List ℕ) (k : Route) (s : Spot) (reads : ℕ) (r : TieTurn) : Type 0 where
  pub tie : Tie
  pub next : NextTie s.e tie
  pub turn : r.turn ≡ looked l reads s (of_tie (crossed_spot k) tie s)
  pub faces : r.faces ≡ tie_faces tie

-- the route by which a hit's place is told
abbrev pub told_from : Route → Route
told_from k = record { n = k.n; p = k.p; q = k.q; order = Xzy; d = k.d; strides = k.strides; twice = k.twice }

-- the definition's answer along a route
abbrev pub found_along : Start → List ℕ → Route → FirstHit
found_along start l k = found_in (hit_at (walking start) k.n l k.p) k.n l k.p k.q 0 (visits (crossings k.p k.q))

-- where the walk stopped there is a byte. If it hit, the answer from there is the definition's; if not, that is clear, with so many reads.
pub record StopsTouching (start : Start) (l : List ℕ) (k : Route) (r : Turn) : Type 0 where
  pub byte : HasByte (length l) r.spot.at
  pub answers :
      cond r.hit (answer_from start l (told_from k) (record { spot = r.spot; reads = r.reads })) (FirstHit.Clear r.reads) ≡ found_along start l k

-- whichever the start, if P is no hit
abbrev pub WalksTies : List ℕ → Route → Turn → Type 0
WalksTies l k r = (start : Start) → hit_at (walking start) k.n l k.p k.p ≡ false → StopsTouching start l k r
