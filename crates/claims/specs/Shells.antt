-- Which marks are enough for demand 3 (SCOPE D3, N5 to N7). The number k says which cells beside a solid one are to be marked: 1 those that share a face with
-- it; 2 a face or an edge, the thin shell; 3 a face, an edge or a corner, the full one, which the calls mark and test. Assumes nothing.
use Rattle.std.specs.Prelude.{Ok, Result, ℕ, ◌≤◌, ◌≡◌, true, false, List}
use Rattle.cells.specs.declared.Refusal.{Refusal}
use Rattle.cells.specs.declared.Axis.TheVariants.{Z}
use Rattle.cells.specs.declared.Cell.{Cell}
use Rattle.cells.specs.declared.Counts.{Counts}
use Rattle.cells.specs.declared.Face.{Face}
use Rattle.cells.specs.declared.Manner.{Manner}
use Rattle.cells.specs.declared.Rule.TheVariants.{One, Two}
use Rattle.cells.specs.declared.Start.{Start}
use Rattle.grids.specs.Marks.{complete, marked}
use Rattle.walks.specs.declared.Walker.{Walker}
use Rattle.walks.specs.declared.Walker.TheVariants.{Plain, Adaptive}
use Rattle.walks.specs.declared.Hit.{Hit}
use Rattle.walks.specs.declared.FirstHit.{FirstHit}
use Rattle.walks.specs.Answers.{Finds}
use Rattle.survey.specs.declared.Placement.{Placement}
use Rattle.survey.specs.declared.Point.{Point}
use Rattle.sight.specs.declared.Sight.TheVariants as Sight
use Rattle.sight.specs.Sight.{Sees}
use Rattle.claims.specs.Example.{counts, at, faces_there, faces_back, far_counts, faces_inside}
use Rattle.claims.specs.Points.{one_metre, point}
use Rattle.claims.specs.Rules.{AdaptiveBothWays}
use Rattle.claims.specs.Sights.{NothingInSight}
use Rattle.claims.specs.Starred.{halves}
use Rattle.claims.specs.Story.{SameStory, OneStory, NothingInTheWay}

-- 1. A smaller k asks less: marks that are complete at k are so at every number below it. So full marks are complete in the thin shell. And no k asks more
-- than 3.
pub record AsksLess (n : Counts) (l : List ℕ) : Type 0 where
  pub below : (j k : ℕ) → j ≤ k → complete k n l ≡ true → complete j n l ≡ true
  pub full_then_thin : complete 3 n l ≡ true → complete 2 n l ≡ true
  pub full_then_any : (k : ℕ) → complete 3 n l ≡ true → complete k n l ≡ true

-- Demand 3 where marks are complete at k, for every grid, either start mode and either rule: one story; nothing in the way of a clear adaptive walk, nor of a
-- clear sight; and, by rule 2 with a tested start, there and back.
pub record DemandThree (k : ℕ) : Type 0 where
  pub story : (how : Manner) (n : Counts) (l : List ℕ) (p q : Cell) → OneStory k how n l p q
  pub way : (how : Manner) (n : Counts) (l : List ℕ) (p q : Cell) → NothingInTheWay k how n l p q
  pub sight : (how : Manner) (n : Counts) (l : List ℕ) (placed : Placement) (camera ball : Point) → NothingInSight k how n l placed camera ball
  pub back : (n : Counts) (l : List ℕ) (p q : Cell) → AdaptiveBothWays k n l p q

-- 2. So it is for every k from 2 on: in the full shell, and in the thin one. By faces alone it is not (`FacesAlone`: no part of it).
pub record Shells : Type 0 where
  pub enough : (k : ℕ) → 2 ≤ k → DemandThree k
  pub full : DemandThree 3
  pub thin : DemandThree 2
  pub faces_too_few : DemandThree 1 → ⊥

-- 3. What is saved: the same cells marked at a smaller number, from 2 on, give the same adaptive answer, by no more reads.
pub record NoDearer (how : Manner) (n : Counts) (l : List ℕ) (p q : Cell) : Type 0 where
  pub reads : (j k : ℕ) → 2 ≤ j → j ≤ k → (at_k at_j : Result FirstHit Refusal) → Finds Adaptive how n (marked k n l) p q at_k →
      Finds Adaptive how n (marked j n l) p q at_j → SameStory at_k at_j

-- ---- 4. Faces alone, on named grids: the adaptive walk is clear, and the plain one hits

-- marks just where a cell shares a face with a solid one; so they are complete at 1, and not at 2
pub record ByFaces (n : Counts) (l : List ℕ) : Type 0 where
  pub just : marked 1 n l ≡ l
  pub complete_at_1 : complete 1 n l ≡ true
  pub not_at_2 : complete 2 n l ≡ false

-- the plain walk's hit at a tie of three, by its second face
abbrev pub tie_hit : Cell → Face → Hit
tie_hit c face = record { cell = c; code = 2; place = record { num = 1; den = 2; face = face }; reads = 3 }

-- and its hit at (2,2,2), by +z
abbrev pub inside_hit : Hit
inside_hit = record { cell = at 2 2 2; code = 2; place = record { num = 3; den = 4; face = Face.Plus Z }; reads = 7 }

-- how many cells each walk reads across a tie of three, from a clear P to the last of them
abbrev pub tie_reads : Walker → ℕ
tie_reads Plain = 4
tie_reads Adaptive = 2

-- the middles of (0,0,0) and (3,2,2)
abbrev pub camera_inside : Point
camera_inside = point (halves 1) (halves 1) (halves 1)

abbrev pub ball_inside : Point
ball_inside = point (halves 7) (halves 5) (halves 5)

pub record FacesAlone : Type 0 where
  -- solid at (0,1,1), from (0,0,0) to (1,1,1): either rule goes y, z, x
  pub marks_there : ByFaces (counts 2 2 2) faces_there
  pub plain_there : (how : Manner) → Finds Plain how (counts 2 2 2) faces_there (at 0 0 0) (at 1 1 1) (Ok (FirstHit.Hit (tie_hit (at 0 1 1) (Face.Plus Z))))
  pub adaptive_there : (how : Manner) → Finds Adaptive how (counts 2 2 2) faces_there (at 0 0 0) (at 1 1 1) (Ok (FirstHit.Clear 2))
  pub two_stories : (how : Manner) → OneStory 1 how (counts 2 2 2) faces_there (at 0 0 0) (at 1 1 1) → ⊥
  -- and back by rule 2 the adaptive walk hits
  pub one_way : AdaptiveBothWays 1 (counts 2 2 2) faces_there (at 0 0 0) (at 1 1 1) → ⊥
  -- solid at (0,1,0), from (1,1,1) to (0,0,0): rule 2 goes x, z, y
  pub marks_back : ByFaces (counts 2 2 2) faces_back
  pub plain_by_2 : (start : Start) →
      Finds Plain (record { start = start; rule = Two }) (counts 2 2 2) faces_back (at 1 1 1) (at 0 0 0) (Ok (FirstHit.Hit (tie_hit (at 0 1 0) (Face.Minus Z))))
  pub adaptive_by_2 : (start : Start) →
      Finds Adaptive (record { start = start; rule = Two }) (counts 2 2 2) faces_back (at 1 1 1) (at 0 0 0) (Ok (FirstHit.Clear 2))
  pub two_stories_by_2 : (start : Start) → OneStory 1 (record { start = start; rule = Two }) (counts 2 2 2) faces_back (at 1 1 1) (at 0 0 0) → ⊥
  -- by rule 1 the plain walk passes that cell, and both are clear
  pub by_1 : (w : Walker) (start : Start) →
      Finds w (record { start = start; rule = One }) (counts 2 2 2) faces_back (at 1 1 1) (at 0 0 0) (Ok (FirstHit.Clear (tie_reads w)))
  -- solid at (2,2,2), from (0,0,0) to (3,2,2): the segment enters its inside, and adaptive walk and sight are clear
  pub marks_inside : ByFaces far_counts faces_inside
  pub plain_inside : (how : Manner) → Finds Plain how far_counts faces_inside (at 0 0 0) (at 3 2 2) (Ok (FirstHit.Hit inside_hit))
  pub adaptive_inside : (how : Manner) → Finds Adaptive how far_counts faces_inside (at 0 0 0) (at 3 2 2) (Ok (FirstHit.Clear 4))
  pub seen_inside : (how : Manner) → Sees how far_counts faces_inside one_metre camera_inside ball_inside Sight.Clear
  pub in_the_way : (how : Manner) → NothingInTheWay 1 how far_counts faces_inside (at 0 0 0) (at 3 2 2) → ⊥
  pub in_sight : (how : Manner) → NothingInSight 1 how far_counts faces_inside one_metre camera_inside ball_inside → ⊥
