-- Demand 3: the plain and the adaptive walk tell one story. Claims about the two first-hit calls, by their contracts: for every grid, every two
-- ends, either start mode, either rule, and all answers that meet the contracts on the same inputs. A hit is what the one test of a cell says
-- (Starts). Assumes nothing.
use Rattle.std.specs.Prelude.{Ok, Err, Result, ℕ, suc, ◌+◌, ◌-◌, ◌*◌, ◌≤◌, ◌<◌, ◌≡◌, true, false, ◌⊎◌, ◌↔◌, List, [], ◌∷◌, length, get_or}
use Rattle.cells.specs.declared.Axis.{Axis}
use Rattle.cells.specs.declared.Axis.TheVariants.{X, Y}
use Rattle.cells.specs.declared.Cell.{Cell}
use Rattle.cells.specs.declared.Counts.{Counts}
use Rattle.cells.specs.declared.Face.{Face}
use Rattle.cells.specs.declared.Manner.{Manner}
use Rattle.cells.specs.declared.Refusal.{Refusal}
use Rattle.cells.specs.declared.Start.TheVariants.{Tested}
use Rattle.cells.specs.Faces.{back_across}
use Rattle.lines.specs.Steps.{total}
use Rattle.lines.specs.Preference.{Preference, by_rule}
use Rattle.lines.specs.Lines.{differences, longest, six_cell, cell_26}
use Rattle.lines.specs.Segment.{Share, InOpen}
use Rattle.grids.specs.Grid.{byte_of, solid}
use Rattle.grids.specs.Marks.{complete, Marks, Completes}
use Rattle.walks.specs.declared.Walker.{Walker}
use Rattle.walks.specs.declared.Walker.TheVariants.{Plain, Adaptive}
use Rattle.walks.specs.declared.Hit.{Hit}
use Rattle.walks.specs.declared.FirstHit.{FirstHit}
use Rattle.walks.specs.Walks.{conduct, hit_at, next_cell, cells_of}
use Rattle.grids.specs.Inside.{InGrid}
use Rattle.walks.specs.Answers.{entered_at, last_of, Finds}
use Rattle.claims.specs.Example.{counts, at, example_counts, example_cells, marked_cells}

-- two answers that say the same: the same cell, code and place, the entry face with it, or both clear, or both refuse alike; the second by no more reads. Of
-- the plain walk and the adaptive one, or of the adaptive one over more marks and over fewer (Shells)
pub data SameStory : Result FirstHit Refusal → Result FirstHit Refusal → Type 0 where
  hits : {h k : Hit} → h.cell ≡ k.cell → h.code ≡ k.code → h.place ≡ k.place → k.reads ≤ h.reads → SameStory (Ok (FirstHit.Hit h)) (Ok (FirstHit.Hit k))
  clears : {r s : ℕ} → s ≤ r → SameStory (Ok (FirstHit.Clear r)) (Ok (FirstHit.Clear s))
  refusals : {r : Refusal} → SameStory (Err r) (Err r)

-- 1. Same story: where no clear cell touches a solid one; the number k says how near counts (Shells: from 2 on this holds).
pub record OneStory (k : ℕ) (how : Manner) (n : Counts) (l : List ℕ) (p q : Cell) : Type 0 where
  pub story : complete k n l ≡ true → (rp ra : Result FirstHit Refusal) → Finds Plain how n l p q rp → Finds Adaptive how n l p q ra → SameStory rp ra

-- cell c stands in the 6-line of a preference where d stands, or before it
pub record NoLater (r : Preference) (p q c d : Cell) : Type 0 where
  pub of_c : ℕ
  pub of_d : ℕ
  pub c_is : c ≡ six_cell r p q of_c
  pub d_is : d ≡ six_cell r p q of_d
  pub order : of_c ≤ of_d
  pub most : of_d ≤ total (differences p q)

-- 2. Never invented, never earlier: in any grid whatever, an adaptive hit is a plain hit, there or before.
pub record NeverInvented (how : Manner) (n : Counts) (l : List ℕ) (p q : Cell) : Type 0 where
  pub plain_too : (k : Hit) (rp : Result FirstHit Refusal) → Finds Adaptive how n l p q (Ok (FirstHit.Hit k)) → Finds Plain how n l p q rp →
      (h : Hit) × (rp ≡ Ok (FirstHit.Hit h)) × (h.place.num * k.place.den ≤ k.place.num * h.place.den)
      × NoLater (by_rule how.rule p q) p q h.cell k.cell

-- 3. Nothing in the way: marks complete at k and the adaptive answer clear, then no cell whose open inside the segment meets is solid, P excepted exactly
-- where it is not tested (Shells: from 2 on).
pub record NothingInTheWay (k : ℕ) (how : Manner) (n : Counts) (l : List ℕ) (p q : Cell) : Type 0 where
  pub open_way : complete k n l ≡ true → (reads : ℕ) → Finds Adaptive how n l p q (Ok (FirstHit.Clear reads)) → (m d : ℕ) (c : Cell) → Share m d →
      InOpen p q m d c → (c ≡ p → how.start ≡ Tested) → solid (byte_of n l c) ≡ false

-- 4. With no hit plain reads A+B+C+1 cells, and adaptive between M+1 and A+B+C+1.
pub record Reads (how : Manner) (n : Counts) (l : List ℕ) (p q : Cell) : Type 0 where
  pub plain : (reads : ℕ) → Finds Plain how n l p q (Ok (FirstHit.Clear reads)) → reads ≡ total (differences p q) + 1
  pub adaptive : (reads : ℕ) → Finds Adaptive how n l p q (Ok (FirstHit.Clear reads)) →
      (longest (differences p q) + 1 ≤ reads) × (reads ≤ total (differences p q) + 1)

-- 5. What the plain walk finds (SCOPE W2): cell number s of the 6-line is a hit and none before it; or none is at all.
pub record FirstOf (how : Manner) (n : Counts) (l : List ℕ) (p q : Cell) (h : Hit) (s : ℕ) : Type 0 where
  pub most : s ≤ total (differences p q)
  pub cell : h.cell ≡ six_cell (by_rule how.rule p q) p q s
  pub hit_there : hit_at (conduct how p q) n l p h.cell ≡ true
  pub none_before : (t : ℕ) → t < s → hit_at (conduct how p q) n l p (six_cell (by_rule how.rule p q) p q t) ≡ false
  pub reads : h.reads ≡ s + 1

pub record FirstOnLine (how : Manner) (n : Counts) (l : List ℕ) (p q : Cell) : Type 0 where
  pub hit : (h : Hit) → Finds Plain how n l p q (Ok (FirstHit.Hit h)) → (s : ℕ) × FirstOf how n l p q h s
  pub none : (reads : ℕ) → Finds Plain how n l p q (Ok (FirstHit.Clear reads)) → (s : ℕ) → s ≤ total (differences p q) →
      hit_at (conduct how p q) n l p (six_cell (by_rule how.rule p q) p q s) ≡ false

-- 6. A hit lies in the grid. It is a solid cell of the 6-line, with the cell's byte as its code, and its place is that of the crossing by which
-- the 6-line enters this cell, also where a long step reached it.
pub record HitInside (how : Manner) (n : Counts) (l : List ℕ) (p q : Cell) : Type 0 where
  pub inside : (w : Walker) (h : Hit) → Finds w how n l p q (Ok (FirstHit.Hit h)) → InGrid n h.cell

pub record OnTheLine (r : Preference) (n : Counts) (l : List ℕ) (p q : Cell) (h : Hit) (s : ℕ) : Type 0 where
  pub most : s ≤ total (differences p q)
  pub cell : h.cell ≡ six_cell r p q s
  pub code : h.code ≡ byte_of n l h.cell
  pub solid_there : solid h.code ≡ true
  pub place : h.place ≡ entered_at r p q s

pub record HitPlace (how : Manner) (n : Counts) (l : List ℕ) (p q : Cell) : Type 0 where
  pub there : (w : Walker) (h : Hit) → Finds w how n l p q (Ok (FirstHit.Hit h)) → (s : ℕ) × OnTheLine (by_rule how.rule p q) n l p q h s

-- 7. Each walk ends: its last cell is a hit, or Q. (The number of steps that bounds its definition is never used up.)
pub record WalksEnd (how : Manner) (n : Counts) (l : List ℕ) (p q : Cell) : Type 0 where
  pub ends : (w : Walker) → (hit_at (conduct how p q) n l p (last_of p (cells_of w how n l p q)) ≡ true) ⊎ (last_of p (cells_of w how n l p q) ≡ q)

-- 8. Mark, then walk, or ask first: after an accepted marking, and where the completeness call says yes, the premise of 1 and 3 holds at 3.
pub record MarkedFirst (n : Counts) (l exit : List ℕ) : Type 0 where
  pub premise : Marks n l (Ok tt) exit → complete 3 n exit ≡ true
  pub asked : Completes n l (Ok true) → complete 3 n l ≡ true

-- 9. One answer for each input.
pub record HitOnce (how : Manner) (n : Counts) (l : List ℕ) (p q : Cell) : Type 0 where
  pub once : (w : Walker) (r s : Result FirstHit Refusal) → Finds w how n l p q r → Finds w how n l p q s → r ≡ s

-- 10. Each walk starts at P; a cell from which it goes on is no hit and not Q, and it goes on to what comes next. (7 says where it ends.)
pub record StepByStep (how : Manner) (n : Counts) (l : List ℕ) (p q : Cell) : Type 0 where
  -- there is a first cell, and it is P
  pub starts : (w : Walker) → (0 < length (cells_of w how n l p q)) × (get_or (cells_of w how n l p q) 0 p ≡ p)
  -- a cell of the walk that is not its last is no hit, and not Q
  pub passes : (w : Walker) (i : ℕ) → suc i < length (cells_of w how n l p q) →
      (hit_at (conduct how p q) n l p (get_or (cells_of w how n l p q) i p) ≡ false) × (get_or (cells_of w how n l p q) i p ≡ q → ⊥)
  -- after it stands what comes next
  pub goes : (w : Walker) (i : ℕ) → suc i < length (cells_of w how n l p q) →
      get_or (cells_of w how n l p q) (suc i) p ≡ next_cell w (by_rule how.rule p q) n l p q (get_or (cells_of w how n l p q) i p)

-- 11. What comes next in the adaptive walk: at a clear cell of the 26-line its next cell, else the next cell of the 6-line.
pub record AdaptiveStep (r : Preference) (n : Counts) (l : List ℕ) (p q : Cell) : Type 0 where
  -- after a cell of the 26-line that is not its last, and whose byte is 0, comes the next cell of the 26-line
  pub long : (m : ℕ) → m < longest (differences p q) → byte_of n l (cell_26 p q m) ≡ 0 →
      next_cell Adaptive r n l p q (cell_26 p q m) ≡ cell_26 p q (m + 1)
  -- after a cell of the 6-line that is not its last, and whose byte is not 0 or which is no cell of the 26-line, comes the next cell of the 6-line
  pub short : (s : ℕ) → s < total (differences p q) →
      ((byte_of n l (six_cell r p q s) ≡ 0 → ⊥) ⊎ ((m : ℕ) → m ≤ longest (differences p q) → cell_26 p q m ≡ six_cell r p q s → ⊥)) →
      next_cell Adaptive r n l p q (six_cell r p q s) ≡ six_cell r p q (suc s)

-- the entry face of a hit lies across axis a, and is that of the crossing at the hit's place
pub record CameInBy (r : Preference) (p q : Cell) (h : Hit) (a : Axis) : Type 0 where
  -- it is the face of that axis, with one of the two signs
  pub face : (h.place.face ≡ Face.Plus a) ⊎ (h.place.face ≡ Face.Minus a)
  -- one step back across it stands the cell of the 6-line before the hit's
  pub number : ℕ
  pub most : suc number ≤ total (differences p q)
  pub cell : h.cell ≡ six_cell r p q (suc number)
  pub before : back_across h.place.face h.cell ≡ six_cell r p q number
  -- the place is that of this crossing: 2i - 1 over 2D, i the cell's steps from P on the axis, D the difference of the ends on it
  pub num : h.place.num ≡ 2 * differences p h.cell a - 1
  pub den : h.place.den ≡ 2 * differences p q a

-- 12. The entry face of a hit, by either walk: none exactly where the cell is P; else it lies across an axis, as `CameInBy` says.
pub record HitFace (how : Manner) (n : Counts) (l : List ℕ) (p q : Cell) : Type 0 where
  pub none : (w : Walker) (h : Hit) → Finds w how n l p q (Ok (FirstHit.Hit h)) → (h.place.face ≡ Face.None) ↔ (h.cell ≡ p)
  pub crossed : (w : Walker) (h : Hit) → Finds w how n l p q (Ok (FirstHit.Hit h)) → (h.cell ≡ p → ⊥) → (a : Axis) × CameInBy (by_rule how.rule p q) p q h a

-- 13. The answer is that of the walk: its last cell is the hit, or Q where it is clear; the reads are its cells.
pub record AsItsWalk (how : Manner) (n : Counts) (l : List ℕ) (p q : Cell) : Type 0 where
  pub hit : (w : Walker) (h : Hit) → Finds w how n l p q (Ok (FirstHit.Hit h)) →
      (h.cell ≡ last_of p (cells_of w how n l p q)) × (h.reads ≡ length (cells_of w how n l p q))
  pub clear : (w : Walker) (reads : ℕ) → Finds w how n l p q (Ok (FirstHit.Clear reads)) →
      (last_of p (cells_of w how n l p q) ≡ q) × (reads ≡ length (cells_of w how n l p q))

-- ---- wrong walks, on named inputs

-- nothing in the way, 3 by 2 by 1; and one near cell there, at P
abbrev pub all_clear : List ℕ
all_clear = 0 ∷ 0 ∷ 0 ∷ 0 ∷ 0 ∷ 0 ∷ []

abbrev pub near_bytes : List ℕ
near_bytes = 1 ∷ 0 ∷ 0 ∷ 0 ∷ 0 ∷ 0 ∷ []

-- 6 by 3 by 1, no marks, one solid cell at (2,1,0), onto which a long step leads
abbrev pub long_bytes : List ℕ
long_bytes = 0 ∷ 0 ∷ 0 ∷ 0 ∷ 0 ∷ 0 ∷ 0 ∷ 0 ∷ 2 ∷ 0 ∷ 0 ∷ 0 ∷ 0 ∷ 0 ∷ 0 ∷ 0 ∷ 0 ∷ 0 ∷ []

-- the hit there, entered by x at 3 over 10; the first face that the long step crosses is that of y, at 1 over 4
abbrev pub long_hit : (num den : ℕ) → Face → Hit
long_hit num den face = record { cell = at 2 1 0; code = 2; place = record { num = num; den = den; face = face }; reads = 3 }

-- the hit in the program's venue, marked, which is entered by +y; and the hit at P there
abbrev pub post_hit : (num den : ℕ) → Face → (reads : ℕ) → Hit
post_hit num den face reads = record { cell = at 1 1 0; code = 2; place = record { num = num; den = den; face = face }; reads = reads }

pub record WrongWalks : Type 0 where
  pub plain_refuses : (how : Manner) (r : Refusal) → Finds Plain how example_counts example_cells (at 0 0 0) (at 3 1 0) (Err r) → ⊥
  pub adaptive_refuses : (how : Manner) (r : Refusal) → Finds Adaptive how example_counts example_cells (at 0 0 0) (at 3 1 0) (Err r) → ⊥
  pub secretly_plain : (how : Manner) (r : Result FirstHit Refusal) → Finds Plain how example_counts example_cells (at 0 0 0) (at 3 1 0) r →
      Finds Adaptive how example_counts example_cells (at 0 0 0) (at 3 1 0) r → ⊥
  pub plain_in_reads : (how : Manner) → Finds Adaptive how (counts 3 2 1) all_clear (at 0 0 0) (at 2 1 0) (Ok (FirstHit.Clear 4)) → ⊥
  pub plain_always_clear : (how : Manner) (reads : ℕ) → Finds Plain how example_counts example_cells (at 0 0 0) (at 3 1 0) (Ok (FirstHit.Clear reads)) → ⊥
  pub adaptive_always_clear : (how : Manner) (reads : ℕ) → Finds Adaptive how example_counts marked_cells (at 0 0 0) (at 3 1 0) (Ok (FirstHit.Clear reads)) → ⊥
  pub reads_made_up : (how : Manner) (reads : ℕ) → Finds Adaptive how example_counts example_cells (at 0 0 0) (at 3 1 0) (Ok (FirstHit.Clear reads)) → reads ≡ 4
  pub long_at_any_clear : (how : Manner) → Finds Adaptive how (counts 3 2 1) near_bytes (at 0 0 0) (at 2 1 0) (Ok (FirstHit.Clear 3)) → ⊥
  pub place_of_first_face : (how : Manner) (face : Face) →
      Finds Adaptive how (counts 6 3 1) long_bytes (at 0 0 0) (at 5 2 0) (Ok (FirstHit.Hit (long_hit 1 4 face))) → ⊥
  -- the first face's axis, y, or any face but +x
  pub face_of_first_face : (how : Manner) (num den : ℕ) (face : Face) → (face ≡ Face.Plus X → ⊥) →
      Finds Adaptive how (counts 6 3 1) long_bytes (at 0 0 0) (at 5 2 0) (Ok (FirstHit.Hit (long_hit num den face))) → ⊥
  pub sign_turned : (w : Walker) (how : Manner) (num den reads : ℕ) →
      Finds w how example_counts marked_cells (at 0 0 0) (at 3 1 0) (Ok (FirstHit.Hit (post_hit num den (Face.Minus Y) reads))) → ⊥
  pub face_at_p : (w : Walker) (how : Manner) (num den reads : ℕ) (face : Face) → (face ≡ Face.None → ⊥) →
      Finds w how example_counts marked_cells (at 1 1 0) (at 3 1 0) (Ok (FirstHit.Hit (post_hit num den face reads))) → ⊥
