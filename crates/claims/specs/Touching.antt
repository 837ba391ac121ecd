-- The touching line, its list and the first hit along it. Claims for every two ends, every grid and either start, by the definitions and by the contracts of
-- the two calls. Assumes nothing.
use Rattle.std.specs.Prelude.{Ok, Err, Result, ℕ, ◌+◌, ◌-◌, ◌*◌, ◌≤◌, ◌<◌, ◌≡◌, ◌⊎◌, ◌↔◌, true, false, List, [], ◌∷◌, ◌++◌, ℤ, pos, neg_ℤ, length, get_or, replicate}
use Rattle.cells.specs.declared.Cell.{Cell}
use Rattle.cells.specs.declared.Counts.{Counts}
use Rattle.cells.specs.declared.Axis.{Axis}
use Rattle.cells.specs.declared.Axis.TheVariants.{X, Y, Z}
use Rattle.cells.specs.declared.Face.{Face}
use Rattle.cells.specs.declared.Manner.{Manner}
use Rattle.cells.specs.declared.Refusal.{Refusal}
use Rattle.cells.specs.declared.Rule.{Rule}
use Rattle.cells.specs.declared.Start.{Start}
use Rattle.cells.specs.declared.Start.TheVariants.{Untested, Tested}
use Rattle.lines.specs.Steps.{total}
use Rattle.lines.specs.Crossings.{TieFree}
use Rattle.lines.specs.Preference.{Preference, y_z_x_rank, by_rule}
use Rattle.lines.specs.Lines.{differences, face_along, centres, six_cell, six_line}
use Rattle.lines.specs.Segment.{Share, InClosed}
use Rattle.lines.specs.Touching.{touching_line}
use Rattle.lists.specs.Lists.{numbers}
use Rattle.grids.specs.Grid.{byte_of, solid}
use Rattle.walks.specs.declared.Walker.TheVariants.{Plain}
use Rattle.walks.specs.declared.Hit.{Hit}
use Rattle.walks.specs.declared.FirstHit.{FirstHit}
use Rattle.walks.specs.Answers.{Finds}
use Rattle.touching.specs.Touching.{LineTouching, first_touching, FindsTouching}
use Rattle.claims.specs.Example.{counts, at, sevens}
use Rattle.claims.specs.Lists.{CellsAt, Longest}
use Rattle.claims.specs.Tables.{EachRow}

-- cell number i of the touching line, from 0
abbrev pub touching_cell : (p q : Cell) → ℕ → Cell
touching_cell p q i = get_or (touching_line p q) i p

-- a cell's number in it
pub record InLine (p q c : Cell) : Type 0 where
  pub number : ℕ
  pub below : number < length (touching_line p q)
  pub is : touching_cell p q number ≡ c

-- the closed cube of c holds a point of the segment
pub record IsTouched (p q c : Cell) : Type 0 where
  pub num : ℕ
  pub den : ℕ
  pub share : Share num den
  pub there : InClosed p q num den c

-- ---- the line

-- 1. It has just the cells of the lattice that the segment touches, also outside the box of P and Q if there were any; each once; first P, last Q.
pub record TouchedCells (p q : Cell) : Type 0 where
  pub complete : (k d : ℕ) (c : Cell) → Share k d → InClosed p q k d c → InLine p q c
  pub sound : (c : Cell) → InLine p q c → IsTouched p q c
  pub different : (i j : ℕ) → i < length (touching_line p q) → j < length (touching_line p q) → touching_cell p q i ≡ touching_cell p q j → i ≡ j
  pub starts : touching_cell p q 0 ≡ p
  pub ends : touching_cell p q (length (touching_line p q) - 1) ≡ q

-- 2. In crossing order: where a cell of the line is touched, each one before it was touched at no greater a fraction. So the fraction at which a cell is
-- first touched never falls along the line.
pub record CrossingOrder (p q : Cell) : Type 0 where
  pub never_falls : (i j : ℕ) → i ≤ j → j < length (touching_line p q) → (k d : ℕ) → Share k d → InClosed p q k d (touching_cell p q j) →
      (t : IsTouched p q (touching_cell p q i)) × (t.num * d ≤ k * t.den)

-- 3. It has every cell of the 6-line, whatever the order of preference of the axes, so those of both rules; and where no two crossings tie it is the 6-line.
pub record OverSixLines (p q : Cell) : Type 0 where
  pub each_order : (r : Preference) (n : ℕ) → n ≤ total (differences p q) → InLine p q (six_cell r p q n)
  pub each_rule : (rule : Rule) (n : ℕ) → n ≤ total (differences p q) → InLine p q (six_cell (by_rule rule p q) p q n)
  pub tie_free : (r : Preference) → TieFree (centres r (differences p q)) → touching_line p q ≡ six_line r p q

-- 4. Within the coordinate limit it has at most 114,682 cells, 344,046 numbers, and the one between the corners of the limit has so many: the header's
-- OAT_TOUCHING_ROOM. Between any two ends 3 + 7(A + B + C) numbers hold it.
pub record LongestTouching : Type 0 where
  pub longest : Longest touching_line 114682 344046
  pub by_differences : (p q : Cell) → 3 * length (touching_line p q) ≤ 3 + 7 * total (differences p q)

-- 5. SCOPE M8: what an accepted list answers and writes, cell by cell.
pub record TouchingListed (p q : Cell) (entry exit : List ℤ) (k : ℕ) : Type 0 where
  pub cells : LineTouching p q entry (Ok k) exit → CellsAt (length (touching_line p q)) (touching_cell p q) entry exit k

-- ---- 6. worked lines

-- so many cells to the left of 0
abbrev pub left : (x y z : ℕ) → Cell
left x y z = record { x = neg_ℤ (pos x); y = pos y; z = pos z }

-- the cells from P to Q
pub record LineRow : Type 0 where
  pub from : Cell
  pub to : Cell
  pub cells : List Cell

abbrev pub touching_rows : List LineRow
touching_rows =
    record { from = at 0 0 0; to = at 1 1 1; cells = at 0 0 0 ∷ at 0 1 0 ∷ at 0 0 1 ∷ at 1 0 0 ∷ at 0 1 1 ∷ at 1 1 0 ∷ at 1 0 1 ∷ at 1 1 1 ∷ [] }
    ∷ record { from = at 1 1 1; to = at 0 0 0; cells = at 1 1 1 ∷ at 1 0 1 ∷ at 1 1 0 ∷ at 0 1 1 ∷ at 1 0 0 ∷ at 0 0 1 ∷ at 0 1 0 ∷ at 0 0 0 ∷ [] }
    ∷ record { from = at 2 2 0; to = at 0 0 0; cells = at 2 2 0 ∷ at 2 1 0 ∷ at 1 2 0 ∷ at 1 1 0 ∷ at 1 0 0 ∷ at 0 1 0 ∷ at 0 0 0 ∷ [] }
    ∷ record { from = at 0 0 0; to = at 3 1 0; cells = at 0 0 0 ∷ at 1 0 0 ∷ at 1 1 0 ∷ at 2 0 0 ∷ at 2 1 0 ∷ at 3 1 0 ∷ [] }
    ∷ record { from = at 0 0 0; to = at 2 1 0; cells = at 0 0 0 ∷ at 1 0 0 ∷ at 1 1 0 ∷ at 2 1 0 ∷ [] }
    ∷ record { from = at 4 5 6; to = at 4 5 6; cells = at 4 5 6 ∷ [] }
    ∷ record { from = at 1 7 2; to = at 1 7 0; cells = at 1 7 2 ∷ at 1 7 1 ∷ at 1 7 0 ∷ [] }
    ∷ record { from = at 3 0 0; to = at 5 0 0; cells = at 3 0 0 ∷ at 4 0 0 ∷ at 5 0 0 ∷ [] }
    ∷ record { from = at 0 0 0; to = left 1 1 0; cells = at 0 0 0 ∷ at 0 1 0 ∷ left 1 0 0 ∷ left 1 1 0 ∷ [] }
    ∷ record { from = left 1 0 2; to = at 1 1 2; cells = left 1 0 2 ∷ at 0 0 2 ∷ at 0 1 2 ∷ at 1 1 2 ∷ [] }
    ∷ record { from = at 0 0 0; to = at 0 1 1; cells = at 0 0 0 ∷ at 0 1 0 ∷ at 0 0 1 ∷ at 0 1 1 ∷ [] }
    ∷ record { from = at 0 0 0; to = at 1 0 1; cells = at 0 0 0 ∷ at 0 0 1 ∷ at 1 0 0 ∷ at 1 0 1 ∷ [] }
    ∷ record { from = at 0 0 0; to = at 1 1 3; cells = at 0 0 0 ∷ at 0 0 1 ∷ at 0 1 1 ∷ at 0 0 2 ∷ at 1 0 1 ∷ at 0 1 2 ∷ at 1 1 1 ∷ at 1 0 2 ∷ at 1 1 2 ∷ at 1 1 3 ∷ [] }
    ∷ []

pub record TouchingRows : Type 0 where
  pub lines : EachRow (λ row. touching_line row.from row.to ≡ row.cells) touching_rows

-- ---- the first hit

-- the place and the face of a hit are those of the crossing last made along axis a; of the axes whose last crossing lies at that place, a is the first in the
-- order y, z, x
pub record ReachedBy (p q : Cell) (h : Hit) (a : Axis) : Type 0 where
  pub made : 0 < differences p h.cell a
  pub num : h.place.num ≡ 2 * differences p h.cell a - 1
  pub den : h.place.den ≡ 2 * differences p q a
  pub face : h.place.face ≡ face_along p q a
  pub first : (b : Axis) → y_z_x_rank b < y_z_x_rank a →
      (differences p h.cell b ≡ 0) ⊎ ((2 * differences p h.cell b - 1) * h.place.den < h.place.num * (2 * differences p q b))

-- a hit of the call: cell number i of the line, and no cell before it is one. P is no hit where it is not tested; every other cell is one where it is solid.
pub record FirstTouched (start : Start) (n : Counts) (l : List ℕ) (p q : Cell) (h : Hit) : Type 0 where
  pub number : ℕ
  pub below : number < length (touching_line p q)
  pub cell : h.cell ≡ touching_cell p q number
  pub reads : h.reads ≡ number + 1
  pub code : h.code ≡ byte_of n l h.cell
  pub solid_there : solid h.code ≡ true
  pub p_tested : h.cell ≡ p → start ≡ Tested
  pub none_before : (i : ℕ) → i < number → (touching_cell p q i ≡ p → start ≡ Tested) → solid (byte_of n l (touching_cell p q i)) ≡ false
  -- its place is a share of the way, the cell is touched there, and nowhere before
  pub share : Share h.place.num h.place.den
  pub touched_there : InClosed p q h.place.num h.place.den h.cell
  pub not_before : (k d : ℕ) → Share k d → InClosed p q k d h.cell → h.place.num * d ≤ k * h.place.den
  -- at P it is 0 over 1, by no face, after one read; elsewhere it is that of a crossing
  pub at_start : h.cell ≡ p → (h.place.num ≡ 0) × (h.place.den ≡ 1) × (h.place.face ≡ Face.None) × (h.reads ≡ 1)
  pub past_start : (h.cell ≡ p → ⊥) → (a : Axis) × ReachedBy p q h a

-- 7. What the call finds: the first such cell; or, clear, no cell whose closed cube meets the segment is solid, P excepted exactly where it is not tested, and
-- the whole line was read.
pub record TouchingHits (start : Start) (n : Counts) (l : List ℕ) (p q : Cell) : Type 0 where
  pub hit : (h : Hit) → FindsTouching start n l p q (Ok (FirstHit.Hit h)) → FirstTouched start n l p q h
  pub clear : (reads : ℕ) → FindsTouching start n l p q (Ok (FirstHit.Clear reads)) →
      (reads ≡ length (touching_line p q)) ×
      ((k d : ℕ) (c : Cell) → Share k d → InClosed p q k d c → (c ≡ p → start ≡ Tested) → solid (byte_of n l c) ≡ false)

-- 8. Beside the plain walk, with the same start and either rule: where this walk is clear the plain one is; where the plain one hits, this one hits, at a
-- fraction no greater. Both refuse alike. Of reads nothing is claimed.
pub record BesidePlain (how : Manner) (n : Counts) (l : List ℕ) (p q : Cell) : Type 0 where
  pub clear_too : (reads : ℕ) (r : Result FirstHit Refusal) → FindsTouching how.start n l p q (Ok (FirstHit.Clear reads)) → Finds Plain how n l p q r →
      (m : ℕ) × (r ≡ Ok (FirstHit.Clear m))
  pub hits_too : (h : Hit) (r : Result FirstHit Refusal) → Finds Plain how n l p q (Ok (FirstHit.Hit h)) → FindsTouching how.start n l p q r →
      (k : Hit) × (r ≡ Ok (FirstHit.Hit k)) × (k.place.num * h.place.den ≤ h.place.num * k.place.den)
  pub refuses_too : (e : Refusal) (r s : Result FirstHit Refusal) → Finds Plain how n l p q r → FindsTouching how.start n l p q s →
      (r ≡ Err e) ↔ (s ≡ Err e)

-- 9. The start. Where P is not solid both starts give one answer. Where it is not tested a hit is never P, and equal ends are clear with one read, or
-- refused.
pub record TouchingStarts (n : Counts) (l : List ℕ) (p q : Cell) : Type 0 where
  pub alike : solid (byte_of n l p) ≡ false → (one other : Start) (r s : Result FirstHit Refusal) → FindsTouching one n l p q r → FindsTouching other n l p q s → r ≡ s
  pub never_p : (h : Hit) → FindsTouching Untested n l p q (Ok (FirstHit.Hit h)) → h.cell ≡ p → ⊥
  pub equal_ends : (r : Result FirstHit Refusal) → FindsTouching Untested n l p p r → (r ≡ Ok (FirstHit.Clear 1)) ⊎ ((e : Refusal) × (r ≡ Err e))

-- 10. One answer for each input. (Of the list: `ListedOnce`.)
pub record TouchingOnce (start : Start) (n : Counts) (l : List ℕ) (p q : Cell) : Type 0 where
  pub once : (r s : Result FirstHit Refusal) → FindsTouching start n l p q r → FindsTouching start n l p q s → r ≡ s

-- ---- 11. worked hits

-- 2 by 2 by 2, solid at byte i alone
abbrev pub one_solid : ℕ → List ℕ
one_solid i = replicate i 0 ++ 2 ∷ replicate (7 - i) 0

pub record HitRow : Type 0 where
  pub byte : ℕ
  pub cell : Cell
  pub face : Face
  pub reads : ℕ

-- from (0,0,0) to (1,1,1), a tie of three: each cell is entered at 1 over 2, by the first of y, z, x among the steps that lead there
abbrev pub tie_rows : List HitRow
tie_rows =
    record { byte = 2; cell = at 0 1 0; face = Face.Plus Y; reads = 2 }
    ∷ record { byte = 4; cell = at 0 0 1; face = Face.Plus Z; reads = 3 }
    ∷ record { byte = 1; cell = at 1 0 0; face = Face.Plus X; reads = 4 }
    ∷ record { byte = 6; cell = at 0 1 1; face = Face.Plus Y; reads = 5 }
    ∷ record { byte = 3; cell = at 1 1 0; face = Face.Plus Y; reads = 6 }
    ∷ record { byte = 5; cell = at 1 0 1; face = Face.Plus Z; reads = 7 }
    ∷ record { byte = 7; cell = at 1 1 1; face = Face.Plus Y; reads = 8 }
    ∷ []

abbrev pub row_hit : HitRow → Hit
row_hit row = record { cell = row.cell; code = 2; place = record { num = 1; den = 2; face = row.face }; reads = row.reads }

-- 4 by 2 by 1, solid at (2,1,0) alone, to which a tie of y and x leads from (0,0,0) to (3,1,0)
abbrev pub post_at_tie : List ℕ
post_at_tie = 0 ∷ 0 ∷ 0 ∷ 0 ∷ 0 ∷ 0 ∷ 2 ∷ 0 ∷ []

abbrev pub tie_hit : (num den : ℕ) → Face → Hit
tie_hit num den face = record { cell = at 2 1 0; code = 2; place = record { num = num; den = den; face = face }; reads = 5 }

pub record TouchingHitRows : Type 0 where
  pub ties : (start : Start) → EachRow (λ row. first_touching start (counts 2 2 2) (one_solid row.byte) (at 0 0 0) (at 1 1 1) ≡ Ok (FirstHit.Hit (row_hit row))) tie_rows
  -- P tested is the hit: 0 over 1, no face, one read; not tested it is passed, and the whole line is read
  pub start_tested : first_touching Tested (counts 2 2 2) (one_solid 0) (at 0 0 0) (at 1 1 1) ≡
      Ok (FirstHit.Hit (record { cell = at 0 0 0; code = 2; place = record { num = 0; den = 1; face = Face.None }; reads = 1 }))
  pub start_passed : first_touching Untested (counts 2 2 2) (one_solid 0) (at 0 0 0) (at 1 1 1) ≡ Ok (FirstHit.Clear 8)
  -- equal ends
  pub equal_ends : first_touching Untested (counts 2 2 2) (one_solid 0) (at 0 0 0) (at 0 0 0) ≡ Ok (FirstHit.Clear 1)
  pub equal_ends_tested : first_touching Tested (counts 2 2 2) (one_solid 0) (at 0 0 0) (at 0 0 0) ≡
      Ok (FirstHit.Hit (record { cell = at 0 0 0; code = 2; place = record { num = 0; den = 1; face = Face.None }; reads = 1 }))
  -- the cell by x alone has the place of x, 3 over 6 and not reduced, though y ties
  pub by_x : (start : Start) → first_touching start (counts 4 2 1) (0 ∷ 0 ∷ 2 ∷ 0 ∷ 0 ∷ 0 ∷ 0 ∷ 0 ∷ []) (at 0 0 0) (at 3 1 0) ≡
      Ok (FirstHit.Hit (record { cell = at 2 0 0; code = 2; place = record { num = 3; den = 6; face = Face.Plus X }; reads = 4 }))
  -- z before x, and the other way: the face turns with the way
  pub by_z : (start : Start) → first_touching start (counts 2 1 4) (0 ∷ 0 ∷ 0 ∷ 0 ∷ 0 ∷ 2 ∷ 0 ∷ 0 ∷ []) (at 0 0 0) (at 1 0 3) ≡
      Ok (FirstHit.Hit (record { cell = at 1 0 2; code = 2; place = record { num = 3; den = 6; face = Face.Plus Z }; reads = 5 }))
  pub back : (start : Start) → first_touching start (counts 4 2 1) (0 ∷ 2 ∷ 0 ∷ 0 ∷ 0 ∷ 0 ∷ 0 ∷ 0 ∷ []) (at 3 1 0) (at 0 0 0) ≡
      Ok (FirstHit.Hit (record { cell = at 1 0 0; code = 2; place = record { num = 1; den = 2; face = Face.Minus Y }; reads = 5 }))
  -- where y crosses at 1 over 2 and x at 3 over 6, the place is that of y
  pub by_y : (start : Start) → first_touching start (counts 4 2 1) post_at_tie (at 0 0 0) (at 3 1 0) ≡ Ok (FirstHit.Hit (tie_hit 1 2 (Face.Plus Y)))

-- ---- 12. wrong answers that the contracts shut out, on named inputs

-- from (0,0,0) to (1,1,1), the pairs in the order yz, zx, yx
abbrev pub pairs_turned : List ℤ
pairs_turned = numbers (at 0 0 0 ∷ at 0 1 0 ∷ at 0 0 1 ∷ at 1 0 0 ∷ at 0 1 1 ∷ at 1 0 1 ∷ at 1 1 0 ∷ at 1 1 1 ∷ [])

-- x before z among the singles
abbrev pub singles_turned : List ℤ
singles_turned = numbers (at 0 0 0 ∷ at 0 1 0 ∷ at 1 0 0 ∷ at 0 0 1 ∷ at 0 1 1 ∷ at 1 1 0 ∷ at 1 0 1 ∷ at 1 1 1 ∷ [])

-- from (0,0,0) to (1,1,0), the cell by y listed twice
abbrev pub cell_twice : List ℤ
cell_twice = numbers (at 0 0 0 ∷ at 0 1 0 ∷ at 0 1 0 ∷ at 1 1 0 ∷ [])

pub record WrongTouching : Type 0 where
  pub pairs : (r : Result ℕ Refusal) → LineTouching (at 0 0 0) (at 1 1 1) (sevens 24) r pairs_turned → ⊥
  pub singles : (r : Result ℕ Refusal) → LineTouching (at 0 0 0) (at 1 1 1) (sevens 24) r singles_turned → ⊥
  -- a tie of three with six cells
  pub six_cells : (exit : List ℤ) → LineTouching (at 0 0 0) (at 1 1 1) (sevens 24) (Ok 7) exit → ⊥
  -- a repeat at a tie of two
  pub twice : (r : Result ℕ Refusal) → LineTouching (at 0 0 0) (at 1 1 0) (sevens 12) r cell_twice → ⊥
  pub one_more : (exit : List ℤ) → LineTouching (at 0 0 0) (at 1 1 0) (sevens 15) (Ok 5) exit → ⊥
  -- accepted with the room of a 6-line, or refused with just enough
  pub six_room : (k : ℕ) (exit : List ℤ) → LineTouching (at 0 0 0) (at 1 1 1) (sevens 12) (Ok k) exit → ⊥
  pub refuses : (r : Refusal) (exit : List ℤ) → LineTouching (at 0 0 0) (at 1 1 1) (sevens 24) (Err r) exit → ⊥
  -- the place of the last axis of the tie
  pub last_axis : (start : Start) → FindsTouching start (counts 4 2 1) post_at_tie (at 0 0 0) (at 3 1 0) (Ok (FirstHit.Hit (tie_hit 3 6 (Face.Plus X)))) → ⊥
  pub any_other : (start : Start) (num den : ℕ) (face : Face) → (num ≡ 1 → den ≡ 2 → face ≡ Face.Plus Y → ⊥) →
      FindsTouching start (counts 4 2 1) post_at_tie (at 0 0 0) (at 3 1 0) (Ok (FirstHit.Hit (tie_hit num den face))) → ⊥
  -- clear because the 6-line by rule 1 leaves the cell by x out
  pub side_left_out : (start : Start) (reads : ℕ) → FindsTouching start (counts 2 2 2) (one_solid 1) (at 0 0 0) (at 1 1 1) (Ok (FirstHit.Clear reads)) → ⊥
  -- a start that is always tested
  pub always_tested : (h : Hit) → FindsTouching Untested (counts 2 2 2) (one_solid 0) (at 0 0 0) (at 1 1 1) (Ok (FirstHit.Hit h)) → ⊥
