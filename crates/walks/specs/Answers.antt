-- SCOPE W4, W5, W6, W8: the answer of a first-hit call, from its walk, with a hit's place and face and the reads; refusals 2, 3, then 5 (P before Q;
-- x, y, z). Assumes nothing.
use Rattle.std.specs.Prelude.{Ok, Err, Result}
use Rattle.cells.specs.declared.Refusal.{Refusal}
use Rattle.std.specs.Prelude.{ℕ, zero, suc, ◌-◌, ◌*◌, ◌≡◌, cond, List, [], ◌∷◌, ◌⊎◌, length}
use Rattle.std.proofs.Math.Option.{Option, none, some}
use Rattle.cells.specs.declared.Axis.{Axis}
use Rattle.cells.specs.declared.Cell.{Cell}
use Rattle.cells.specs.declared.Counts.{Counts}
use Rattle.cells.specs.declared.Manner.{Manner}
use Rattle.cells.specs.declared.Face.TheVariants as Face
use Rattle.cells.specs.Checks.{by_verdict}
use Rattle.cells.specs.Refusals.{Told, told_of}
use Rattle.lines.specs.Crossings.{Course, next, place}
use Rattle.lines.specs.Preference.{Preference, order_of}
use Rattle.lines.specs.Lines.{differences, face_along, centres, six_cell}
use Rattle.grids.specs.Grid.{byte_of}
use Rattle.walks.specs.declared.Walker.{Walker}
use Rattle.walks.specs.declared.Place.{Place}
use Rattle.walks.specs.declared.Hit.{Hit}
use Rattle.walks.specs.declared.FirstHit.{FirstHit}
use Rattle.walks.specs.Walks.{Conduct, conduct, hit_at, number_of, six_count, walk_of}
use Rattle.grids.specs.Inside.{walk_check}

-- ---- the place of a hit

-- SCOPE W5, W8: place and face of a cell, by its number in the 6-line. P has 0 over 1, and no face; cell s + 1 has those of the crossing that leads
-- there, on the axis along which cell s steps on
abbrev pub entered_at : Preference → Cell → Cell → ℕ → Place
entered_at r p q zero = record { num = 0; den = 1; face = Face.None }
entered_at r p q (suc s) =
    let c : Course = centres r (differences p q) in
    let a : Axis = next c (place c s) in
    record { num = 2 * place c (suc s) a - 1; den = 2 * differences p q a; face = face_along p q a }

-- by the cell's number in the 6-line (a walk's cell always has one: `six_found`)
abbrev pub place_by : Preference → Cell → Cell → Option ℕ → Place
place_by r p q none = entered_at r p q 0
place_by r p q (some s) = entered_at r p q s

unfoldable pub place_of : Preference → (p q w : Cell) → Place
unfolding number_of six_cell next place
place_of r p q w = place_by r p q (number_of (six_cell r p q) (six_count p q) w)

-- ---- the answer of a walk

-- its last cell
abbrev pub last_of : Cell → List Cell → Cell
last_of c [] = c
last_of c (d ∷ l) = last_of d l

-- SCOPE W4, W6: a hit where its last cell is one, else clear; its length is the reads
unfoldable pub answer_of : Conduct → Counts → List ℕ → Cell → Cell → List Cell → FirstHit
unfolding place_of
answer_of how n l p q cells =
    let w : Cell = last_of p cells in
    cond (hit_at how n l p w)
    (FirstHit.Hit (record { cell = w; code = byte_of n l w; place = place_of how.preference p q w; reads = length cells }))
    (FirstHit.Clear (length cells))

-- ---- the calls, by their walk

unfoldable pub first_hit : Walker → Manner → Counts → List ℕ → Cell → Cell → Result FirstHit Refusal
unfolding walk_check answer_of walk_of order_of
first_hit k how n l p q =
    let c : Conduct = conduct how p q in
    by_verdict Err (Ok (answer_of c n l p q (walk_of k c n l p q))) (walk_check n (length l) p q)

-- their contract
pub record Finds (k : Walker) (how : Manner) (n : Counts) (l : List ℕ) (p q : Cell) (r : Result FirstHit Refusal) : Type 0 where
  pub says : r ≡ first_hit k how n l p q

-- what a walk that was made says: clear with its reads, or the hit's values
pub data WalkSaid : Type 0 where
  clear : (reads : ℕ) → WalkSaid
  hit : Hit → WalkSaid

abbrev pub walk_said : FirstHit → WalkSaid
walk_said (FirstHit.Clear reads) = clear reads
walk_said (FirstHit.Hit h) = hit h

-- each case of the answer: what is said of a refusal, or what the walk says
abbrev pub told_hit : Result FirstHit Refusal → Told ⊎ WalkSaid
told_hit = told_of walk_said
