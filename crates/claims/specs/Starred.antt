-- SCOPE, E: the starred cases, as one table. Assumes nothing.
use Rattle.std.specs.Prelude.{Ok, Err, Result, ℕ, ◌-◌, ◌≡◌, Bool, true, false, List, [], ◌∷◌, ◌++◌, ◌⊎◌, ◌↔◌, pos, neg_ℤ, Float, length}
use Rattle.cells.specs.declared.Refusal.{Refusal}
use Rattle.std.proofs.Common.{inl, inr}
use Rattle.std.specs.Float.{binary64}
use Rattle.std.specs.Float.Ieee.{div, of_bits}
use Rattle.cells.specs.declared.Cell.{Cell}
use Rattle.cells.specs.declared.Rule.{Rule}
use Rattle.cells.specs.declared.Rule.TheVariants.{One, Two}
use Rattle.cells.specs.declared.Counts.{Counts}
use Rattle.cells.specs.declared.Axis.TheVariants.{X, Y, Z}
use Rattle.cells.specs.declared.End.TheVariants.{P, Q}
use Rattle.cells.specs.declared.Face.{Face}
use Rattle.cells.specs.declared.Manner.{Manner}
use Rattle.cells.specs.declared.Refusal.TheVariants.{OffGrid, Room, Stale, Corners}
use Rattle.cells.specs.Checks.{◌then◌, by_verdict}
use Rattle.cells.specs.Manners.{usual, tested_by, tested_start}
use Rattle.cells.specs.Refusals.{Told, alone, at_end}
use Rattle.lines.specs.declared.Order.{Order}
use Rattle.lines.specs.declared.Order.TheVariants.{Yzx, Xzy}
use Rattle.lines.specs.Preference.{order_of, by_rule}
use Rattle.lines.specs.Lines.{six_line, line_26}
use Rattle.lists.specs.Lists.{ends_check, list_check, told_listed}
use Rattle.grids.specs.Marks.{marked, complete, completeness, told_completeness}
use Rattle.bricks.specs.Bricks.{solids}
use Rattle.bricks.specs.Builds.{bricks_check, built, Builds}
use Rattle.refills.specs.Boxes.{corner}
use Rattle.refills.specs.Refills.{refilled, remasked, moved, box_check, stale_check, Refills, Sets}
use Rattle.records.specs.Venues.{venue_read, venue_cells, told_venue}
use Rattle.records.specs.Pairs.{pair_read, told_pair}
use Rattle.program.specs.Program.{output}
use Rattle.walks.specs.declared.Walker.{Walker}
use Rattle.walks.specs.declared.Walker.TheVariants.{Plain, Adaptive}
use Rattle.walks.specs.Answers as said
use Rattle.walks.specs.Answers.{first_hit, told_hit, WalkSaid}
use Rattle.survey.specs.declared.Placement.{Placement}
use Rattle.survey.specs.declared.Point.{Point}
use Rattle.survey.specs.Quotient.{as_f64}
use Rattle.sight.specs.Sight as sights
use Rattle.sight.specs.Sight.{sight, told_sight, blocked}
use Rattle.claims.specs.Points.{metres, next_above, one_metre, point}
use Rattle.claims.specs.Tables.{EachRow}
use Rattle.claims.specs.Example.{counts, at, example_counts, example_cells, marked_cells, set_cells, all_solid, corner_counts, corner_cells, corner_thin, corner_full, far_counts, far_thin}
use Rattle.claims.specs.Rules.{low_post}
use Rattle.claims.specs.Story.{long_bytes}
use Rattle.claims.specs.Records.{example_venue, example_pair, minus_one_pair}
use Rattle.claims.specs.Program.{example_input, example_output, marked_input, marked_output}

-- the cell (-x, y, z)
abbrev pub at_minus : (x y z : ℕ) → Cell
at_minus x y z = record { x = neg_ℤ (pos x); y = pos y; z = pos z }

-- the cell (x, y, -1)
abbrev pub below_0 : (x y : ℕ) → Cell
below_0 x y = record { x = pos x; y = pos y; z = neg_ℤ (pos 1) }

-- what a walk answers: a hit at a cell, with its code, place, entry face and reads; or clear, with its reads
abbrev pub hit : Cell → (code num den : ℕ) → Face → (reads : ℕ) → Told ⊎ WalkSaid
hit c code num den face reads =
    inr (said.hit (record { cell = c; code = code; place = record { num = num; den = den; face = face }; reads = reads }))

abbrev pub clear : ℕ → Told ⊎ WalkSaid
clear reads = inr (said.clear reads)

-- k halves of a metre
abbrev pub halves : ℕ → Float
halves k = div binary64 (as_f64 k) (as_f64 2)

-- what a build answers, and the masks after it; what a refill answers, and bytes and masks after it: as their contracts have it (`RowsMeant`)
abbrev pub after_build : Counts → (bytes masks : List ℕ) → Result ℕ Refusal × List ℕ
after_build n l m =
    let v = bricks_check n (length l) (length m) in (by_verdict Err (Ok (solids l)) v, by_verdict (λ r. m) (built n l m) v)

abbrev pub after_refill : Counts → Cell → Cell → ℕ → (bytes masks : List ℕ) → ℕ → Result ℕ Refusal × List ℕ × List ℕ
after_refill n low high byte l m total =
    let lo = corner low in
    let hi = corner high in
    let v = box_check n (length l) (length m) low high then stale_check n lo hi l m total in
    let l' = refilled n lo hi byte l in
    let m' = remasked n lo hi l' m in
    (by_verdict Err (Ok (moved n lo hi m m' total)) v, by_verdict (λ r. l) l' v, by_verdict (λ r. m) m' v)

-- the contracts of the calls ask for just that
pub record RowsMeant : Type 0 where
  pub build : (n : Counts) (l m : List ℕ) (r : Result ℕ Refusal) (m' : List ℕ) → Builds n l m r m' ↔ (after_build n l m ≡ (r, m'))
  pub refill : (n : Counts) (low high : Cell) (byte : ℕ) (l m : List ℕ) (total : ℕ) (r : Result ℕ Refusal) (l' m' : List ℕ) →
      Refills n low high byte l m total r l' m' ↔ (after_refill n low high byte l m total ≡ (r, l', m'))
  pub set : (n : Counts) (cell : Cell) (byte : ℕ) (l m : List ℕ) (total : ℕ) (r : Result ℕ Refusal) (l' m' : List ℕ) →
      Sets n cell byte l m total r l' m' ↔ (after_refill n cell cell byte l m total ≡ (r, l', m'))

-- a row: the ends P and Q and the cells of the line between them, of the 6-line by a rule; two ends and the order of rule 2 between them; the ends, room
-- for so many numbers, and what the 6-line's call answers; the number k of touching, counts, bytes, and the bytes marked at k, or whether their marks
-- are complete at k; counts, bytes, and what the completeness call says; counts, bytes and lent masks, what a build answers, and the masks after it; a
-- cell or two corners, a byte, bytes, masks and total, what a set or refill answers, and bytes and masks after it; a walk, its manner, its grid and
-- ends, and what it finds; a venue's record, its counts and its cells; a pair's record, P, Q and the rule, or what is said of its refusal; the program's
-- whole input and output; or a manner, a grid, its placement, camera and ball, and the 64 bits of the share, the cell, code, reads and entry face of
-- what is in the way, or that nothing is, or what is said of its refusal
pub data Row : Type 0 where
  six : Rule → Cell → Cell → List Cell → Row
  orders : Cell → Cell → Order → Row
  twenty_six : Cell → Cell → List Cell → Row
  lists : Cell → Cell → ℕ → Told ⊎ ℕ → Row
  marks : ℕ → Counts → List ℕ → List ℕ → Row
  complete_at : ℕ → Counts → List ℕ → Bool → Row
  complete_is : Counts → List ℕ → Bool → Row
  builds : Counts → (bytes masks : List ℕ) → Result ℕ Refusal → List ℕ → Row
  sets : Counts → Cell → ℕ → (bytes masks : List ℕ) → ℕ → Result ℕ Refusal → (bytes masks : List ℕ) → Row
  refills : Counts → Cell → Cell → ℕ → (bytes masks : List ℕ) → ℕ → Result ℕ Refusal → (bytes masks : List ℕ) → Row
  finds : Walker → Manner → Counts → List ℕ → Cell → Cell → Told ⊎ WalkSaid → Row
  venue : List ℕ → Counts → List ℕ → Row
  venue_part : List ℕ → List ℕ → Row
  pair : List ℕ → Cell → Cell → Rule → Row
  no_pair : List ℕ → Told → Row
  writes : List ℕ → List ℕ → Row
  sees : Manner → Counts → List ℕ → Placement → Point → Point → ℕ → Cell → ℕ → ℕ → Face → Row
  sees_clear : Manner → Counts → List ℕ → Placement → Point → Point → Row
  no_sight : Manner → Counts → List ℕ → Placement → Point → Point → Told → Row

-- what a row says
abbrev pub Holds : Row → Type 0
Holds (six rule p q l) = six_line (by_rule rule p q) p q ≡ l
Holds (orders p q o) = order_of Two p q ≡ o
Holds (twenty_six p q l) = line_26 p q ≡ l
Holds (lists p q room says) = told_listed
    (by_verdict Err (Ok (length (six_line (by_rule One p q) p q))) (list_check (ends_check p q) (length (six_line (by_rule One p q) p q)) room)) ≡ says
Holds (marks k n l m) = marked k n l ≡ m
Holds (complete_at k n l whether) = complete k n l ≡ whether
Holds (complete_is n l whether) = told_completeness (completeness n l) ≡ inr whether
Holds (builds n l m r m') = after_build n l m ≡ (r, m')
Holds (sets n cell byte l m total r l' m') = after_refill n cell cell byte l m total ≡ (r, l', m')
Holds (refills n low high byte l m total r l' m') = after_refill n low high byte l m total ≡ (r, l', m')
Holds (finds w how n l p q says) = told_hit (first_hit w how n l p q) ≡ says
Holds (venue s n cells) = told_venue (venue_read s) ≡ inr (n, length s - length cells, length cells)
Holds (venue_part s cells) = venue_cells s ≡ cells
Holds (sees how n l place camera ball share c code reads face) =
    told_sight (sight how n l place camera ball) ≡ inr (blocked (record { share = of_bits binary64 share; cell = c; code = code; reads = reads; face = face }))
Holds (sees_clear how n l place camera ball) = told_sight (sight how n l place camera ball) ≡ inr sights.clear
Holds (no_sight how n l place camera ball t) = told_sight (sight how n l place camera ball) ≡ inl t
Holds (pair s p q rule) = told_pair (pair_read s) ≡ inr (p, q, rule)
Holds (no_pair s t) = told_pair (pair_read s) ≡ inl t
Holds (writes s out) = output s ≡ out

-- every row of a table holds
abbrev pub Every : List Row → Type 0
Every = EachRow Holds

-- the program on that input, and on the marked venue
abbrev pub program_rows : List Row
program_rows = writes example_input example_output ∷ writes marked_input marked_output ∷ []

-- the two ends (3,1,0) and (0,0,0) in a pair's record
abbrev pub back_ends : List ℕ
back_ends = 0 ∷ 3 ∷ 0 ∷ 1 ∷ 0 ∷ 0 ∷ 0 ∷ 0 ∷ 0 ∷ 0 ∷ 0 ∷ 0 ∷ []

-- the program's input, `0000000F 01 0004 0002 0001 0000000000020000` and `0000000D 01 0000 0000 0000 0003 0001 0000`
abbrev pub record_rows : List Row
record_rows =
    venue example_venue example_counts example_cells
    ∷ venue_part example_venue example_cells
    ∷ pair example_pair (at 0 0 0) (at 3 1 0) One
    -- `FFFF` is -1
    ∷ pair minus_one_pair (at 0 0 0) (at_minus 1 1 0) One
    -- version 2: its rule byte is its last; what comes behind a pair is not looked at
    ∷ pair (0 ∷ 0 ∷ 0 ∷ 14 ∷ 2 ∷ back_ends ++ 2 ∷ []) (at 3 1 0) (at 0 0 0) Two
    ∷ pair (0 ∷ 0 ∷ 0 ∷ 14 ∷ 2 ∷ back_ends ++ 1 ∷ []) (at 3 1 0) (at 0 0 0) One
    ∷ pair (0 ∷ 0 ∷ 0 ∷ 14 ∷ 2 ∷ back_ends ++ 2 ∷ 1 ∷ []) (at 3 1 0) (at 0 0 0) Two
    ∷ pair (0 ∷ 0 ∷ 0 ∷ 13 ∷ 1 ∷ back_ends ++ 2 ∷ []) (at 3 1 0) (at 0 0 0) One
    -- 12: a rule byte that names no rule, also where a good one stands behind it
    ∷ no_pair (0 ∷ 0 ∷ 0 ∷ 14 ∷ 2 ∷ back_ends ++ 0 ∷ []) (alone 12)
    ∷ no_pair (0 ∷ 0 ∷ 0 ∷ 14 ∷ 2 ∷ back_ends ++ 3 ∷ 2 ∷ []) (alone 12)
    -- 10 comes before 12: a length that is not the version's; 11 before both
    ∷ no_pair (0 ∷ 0 ∷ 0 ∷ 13 ∷ 2 ∷ back_ends) (alone 10)
    ∷ no_pair (0 ∷ 0 ∷ 0 ∷ 15 ∷ 2 ∷ back_ends ++ 3 ∷ 2 ∷ []) (alone 10)
    ∷ no_pair (0 ∷ 0 ∷ 0 ∷ 14 ∷ 1 ∷ back_ends ++ 1 ∷ []) (alone 10)
    ∷ no_pair (0 ∷ 0 ∷ 0 ∷ 14 ∷ 2 ∷ back_ends) (alone 10)
    ∷ no_pair (0 ∷ 0 ∷ 0 ∷ 15 ∷ 3 ∷ back_ends ++ 3 ∷ 2 ∷ []) (alone 11)
    ∷ no_pair (0 ∷ 0 ∷ 0 ∷ 13 ∷ 0 ∷ back_ends) (alone 11)
    ∷ program_rows

-- the marked program's venue, its origin 0, its edge 1 metre, from the middle of (0,0,0) to the middle of (3,1,0): share 0.5
abbrev pub sight_rows : List Row
sight_rows =
    sees tested_start example_counts marked_cells one_metre (point (halves 1) (halves 1) (halves 1))
    (point (halves 7) (halves 3) (halves 1)) 0x3fe0_0000_0000_0000 (at 1 1 0) 2 3 (Face.Plus Y)
    -- a place of 3 over 10, from the camera on
    ∷ sees tested_start (counts 6 3 1) long_bytes one_metre (point (halves 1) (halves 1) (halves 1))
    (point (halves 11) (halves 5) (halves 1)) 0x3fd3_3333_3333_3333 (at 2 1 0) 2 3 (Face.Plus X)
    -- a camera in its housing, the solid cell (1,1,0), and the ball in (3,1,0): clear, and where the start is tested blocked at share 0
    ∷ sees_clear usual example_counts marked_cells one_metre (point (halves 3) (halves 3) (halves 1))
    (point (halves 7) (halves 3) (halves 1))
    ∷ sees tested_start example_counts marked_cells one_metre (point (halves 3) (halves 3) (halves 1))
    (point (halves 7) (halves 3) (halves 1)) 0 (at 1 1 0) 2 1 Face.None
    -- and in a housing of two cells: the one beside it is in the way, at share 0.25
    ∷ sees usual (counts 3 1 1) (2 ∷ 2 ∷ 0 ∷ []) one_metre (point (halves 1) (halves 1) (halves 1))
    (point (halves 5) (halves 1) (halves 1)) 0x3fd0_0000_0000_0000 (at 1 0 0) 2 2 (Face.Plus X)
    -- from the middle of (3,1,0) to the middle of (0,0,0): in the way by rule 2, and passed by rule 1
    ∷ sees (tested_by Two) example_counts marked_cells one_metre (point (halves 7) (halves 3) (halves 1))
    (point (halves 1) (halves 1) (halves 1)) 0x3fe0_0000_0000_0000 (at 1 1 0) 2 3 (Face.Minus X)
    ∷ sees_clear (tested_by One) example_counts marked_cells one_metre (point (halves 7) (halves 3) (halves 1))
    (point (halves 1) (halves 1) (halves 1))
    -- on the far walls, as from the middles of the last cells: the ball in the far corner, (3,1,0); the camera there; the camera on the wall of y alone,
    -- in its housing (1,1,0); the ball on the wall of z alone
    ∷ sees tested_start example_counts marked_cells one_metre (point (halves 1) (halves 1) (halves 1))
    (point (metres 4) (metres 2) (metres 1)) 0x3fe0_0000_0000_0000 (at 1 1 0) 2 3 (Face.Plus Y)
    ∷ sees (tested_by Two) example_counts marked_cells one_metre (point (metres 4) (metres 2) (metres 1))
    (point (halves 1) (halves 1) (halves 1)) 0x3fe0_0000_0000_0000 (at 1 1 0) 2 3 (Face.Minus X)
    ∷ sees tested_start example_counts marked_cells one_metre (point (halves 3) (metres 2) (halves 1))
    (point (halves 7) (halves 3) (halves 1)) 0 (at 1 1 0) 2 1 Face.None
    ∷ sees usual (counts 1 1 3) (0 ∷ 2 ∷ 0 ∷ []) one_metre (point (halves 1) (halves 1) (halves 1))
    (point (halves 1) (halves 1) (metres 3)) 0x3fd0_0000_0000_0000 (at 0 0 1) 2 2 (Face.Plus Z)
    -- the next f64 behind a wall: the camera's on z, though the ball's x is behind too; the ball's on y, from a camera in the far corner
    ∷ no_sight usual example_counts marked_cells one_metre (point (metres 4) (metres 2) (next_above 1))
    (point (next_above 4) (metres 2) (metres 1)) (at_end 9 P Z)
    ∷ no_sight usual example_counts marked_cells one_metre (point (metres 4) (metres 2) (metres 1))
    (point (metres 4) (next_above 2) (metres 1)) (at_end 9 Q Y)
    ∷ record_rows

-- rule 2, and rule 1 beside it where they differ. The order z, then y, then x says which end comes first: also below 0, and where x alone differs
abbrev pub rule_rows : List Row
rule_rows =
    orders (at 1 0 0) (at 0 0 0) Xzy
    ∷ orders (at 0 0 0) (at 1 0 0) Yzx
    ∷ orders (at 0 0 0) (at 0 0 0) Yzx
    -- a tie of three there and back: the mirror; by rule 1 the way back is another line, in the table below
    ∷ six Two (at 0 0 0) (at 1 1 1) (at 0 0 0 ∷ at 0 1 0 ∷ at 0 1 1 ∷ at 1 1 1 ∷ [])
    ∷ six Two (at 1 1 1) (at 0 0 0) (at 1 1 1 ∷ at 0 1 1 ∷ at 0 1 0 ∷ at 0 0 0 ∷ [])
    -- z falls while x and y rise: Q comes first
    ∷ six Two (at 0 0 1) (at 1 1 0) (at 0 0 1 ∷ at 1 0 1 ∷ at 1 0 0 ∷ at 1 1 0 ∷ [])
    ∷ six Two (at 1 1 0) (at 0 0 1) (at 1 1 0 ∷ at 1 0 0 ∷ at 1 0 1 ∷ at 0 0 1 ∷ [])
    ∷ six One (at 0 0 1) (at 1 1 0) (at 0 0 1 ∷ at 0 1 1 ∷ at 0 1 0 ∷ at 1 1 0 ∷ [])
    -- z equal: y says which comes first
    ∷ six Two (at 1 0 0) (at 0 1 0) (at 1 0 0 ∷ at 1 1 0 ∷ at 0 1 0 ∷ [])
    ∷ six Two (at 0 1 0) (at 1 0 0) (at 0 1 0 ∷ at 1 1 0 ∷ at 1 0 0 ∷ [])
    -- z is -1 at P and 0 at Q: P comes first
    ∷ six Two (below_0 0 0) (at 1 1 0) (below_0 0 0 ∷ below_0 0 1 ∷ at 0 1 0 ∷ at 1 1 0 ∷ [])
    -- ties one after another, and none
    ∷ six Two (at 3 3 1) (at 0 0 0) (at 3 3 1 ∷ at 2 3 1 ∷ at 2 2 1 ∷ at 1 2 1 ∷ at 1 2 0 ∷ at 1 1 0 ∷ at 0 1 0 ∷ at 0 0 0 ∷ [])
    ∷ six One (at 2 1 0) (at 0 0 0) (at 2 1 0 ∷ at 1 1 0 ∷ at 1 0 0 ∷ at 0 0 0 ∷ [])
    ∷ six Two (at 2 1 0) (at 0 0 0) (at 2 1 0 ∷ at 1 1 0 ∷ at 1 0 0 ∷ at 0 0 0 ∷ [])
    -- the program's venue from (3,1,0) to (0,0,0): rule 1 passes the solid cell, rule 2 meets it
    ∷ finds Plain (tested_by One) example_counts example_cells (at 3 1 0) (at 0 0 0) (clear 5)
    ∷ finds Plain (tested_by Two) example_counts example_cells (at 3 1 0) (at 0 0 0) (hit (at 1 1 0) 2 3 6 (Face.Minus X) 3)
    ∷ finds Adaptive (tested_by One) example_counts marked_cells (at 3 1 0) (at 0 0 0) (clear 5)
    ∷ finds Adaptive (tested_by Two) example_counts marked_cells (at 3 1 0) (at 0 0 0) (hit (at 1 1 0) 2 3 6 (Face.Minus X) 3)
    -- one cell by both rules, at one fraction, by another face and another place
    ∷ finds Plain (tested_by One) example_counts low_post (at 3 1 0) (at 0 0 0) (hit (at 1 0 0) 2 3 6 (Face.Minus X) 4)
    ∷ finds Plain (tested_by Two) example_counts low_post (at 3 1 0) (at 0 0 0) (hit (at 1 0 0) 2 1 2 (Face.Minus Y) 4)
    ∷ finds Adaptive (tested_by Two) example_counts low_post (at 3 1 0) (at 0 0 0) (hit (at 1 0 0) 2 1 2 (Face.Minus Y) 3)
    -- a tie of three, each of its faces; and one long step over all three, which ends by the last
    ∷ finds Plain (tested_by Two) (counts 2 2 2) (0 ∷ 0 ∷ 0 ∷ 0 ∷ 0 ∷ 0 ∷ 2 ∷ 0 ∷ []) (at 1 1 1) (at 0 0 0) (hit (at 0 1 1) 2 1 2 (Face.Minus X) 2)
    ∷ finds Plain (tested_by Two) (counts 2 2 2) (0 ∷ 0 ∷ 2 ∷ 0 ∷ 0 ∷ 0 ∷ 0 ∷ 0 ∷ []) (at 1 1 1) (at 0 0 0) (hit (at 0 1 0) 2 1 2 (Face.Minus Z) 3)
    ∷ finds Plain (tested_by Two) (counts 2 2 2) (2 ∷ 0 ∷ 0 ∷ 0 ∷ 0 ∷ 0 ∷ 0 ∷ 0 ∷ []) (at 1 1 1) (at 0 0 0) (hit (at 0 0 0) 2 1 2 (Face.Minus Y) 4)
    ∷ finds Adaptive (tested_by Two) (counts 2 2 2) (2 ∷ 0 ∷ 0 ∷ 0 ∷ 0 ∷ 0 ∷ 0 ∷ 0 ∷ []) (at 1 1 1) (at 0 0 0) (hit (at 0 0 0) 2 1 2 (Face.Minus Y) 2)
    -- faces of a near cell behind a run, along each longest axis: by rule 1 clear
    ∷ finds Adaptive (tested_by Two) (counts 3 3 1) (0 ∷ 0 ∷ 0 ∷ 2 ∷ 1 ∷ 0 ∷ 0 ∷ 0 ∷ 0 ∷ []) (at 2 2 0) (at 0 0 0) (hit (at 0 1 0) 2 3 4 (Face.Minus X) 3)
    ∷ finds Adaptive (tested_by Two) (counts 1 3 3) (0 ∷ 2 ∷ 0 ∷ 0 ∷ 1 ∷ 0 ∷ 0 ∷ 0 ∷ 0 ∷ []) (at 0 2 2) (at 0 0 0) (hit (at 0 1 0) 2 3 4 (Face.Minus Z) 3)
    ∷ finds Adaptive (tested_by Two) (counts 3 1 3) (0 ∷ 0 ∷ 0 ∷ 2 ∷ 1 ∷ 0 ∷ 0 ∷ 0 ∷ 0 ∷ []) (at 2 0 2) (at 0 0 0) (hit (at 0 0 1) 2 3 4 (Face.Minus X) 3)
    ∷ finds Adaptive (tested_by One) (counts 3 3 1) (0 ∷ 0 ∷ 0 ∷ 2 ∷ 1 ∷ 0 ∷ 0 ∷ 0 ∷ 0 ∷ []) (at 2 2 0) (at 0 0 0) (clear 4)
    -- without marks the adaptive walks there and back may differ, also by rule 2
    ∷ finds Adaptive (tested_by Two) (counts 2 2 1) (2 ∷ 1 ∷ 0 ∷ 2 ∷ []) (at 1 0 0) (at 0 1 0) (hit (at 1 1 0) 2 1 2 (Face.Plus Y) 2)
    ∷ finds Adaptive (tested_by Two) (counts 2 2 1) (2 ∷ 1 ∷ 0 ∷ 2 ∷ []) (at 0 1 0) (at 1 0 0) (clear 2)
    ∷ sight_rows

-- where the start is not tested: a solid P is read and passed, and no long step starts there; a clear P may step long
abbrev pub start_rows : List Row
start_rows =
    finds Plain usual example_counts marked_cells (at 1 1 0) (at 3 1 0) (clear 3)
    ∷ finds Adaptive usual example_counts marked_cells (at 1 1 0) (at 3 1 0) (clear 3)
    ∷ finds Plain usual (counts 3 2 1) (2 ∷ 0 ∷ 0 ∷ 0 ∷ 0 ∷ 0 ∷ []) (at 0 0 0) (at 2 1 0) (clear 4)
    ∷ finds Adaptive usual (counts 3 2 1) (2 ∷ 0 ∷ 0 ∷ 0 ∷ 0 ∷ 0 ∷ []) (at 0 0 0) (at 2 1 0) (clear 4)
    ∷ finds Plain tested_start (counts 3 2 1) (2 ∷ 0 ∷ 0 ∷ 0 ∷ 0 ∷ 0 ∷ []) (at 0 0 0) (at 2 1 0) (hit (at 0 0 0) 2 0 1 Face.None 1)
    ∷ finds Adaptive tested_start (counts 3 2 1) (2 ∷ 0 ∷ 0 ∷ 0 ∷ 0 ∷ 0 ∷ []) (at 0 0 0) (at 2 1 0) (hit (at 0 0 0) 2 0 1 Face.None 1)
    ∷ finds Adaptive usual (counts 3 2 1) (0 ∷ 0 ∷ 0 ∷ 0 ∷ 0 ∷ 0 ∷ []) (at 0 0 0) (at 2 1 0) (clear 3)
    -- after a solid P long steps come again: from (1,0,0) to (2,1,0)
    ∷ finds Plain usual (counts 4 2 1) (2 ∷ 0 ∷ 0 ∷ 0 ∷ 0 ∷ 0 ∷ 0 ∷ 0 ∷ []) (at 0 0 0) (at 3 1 0) (clear 5)
    ∷ finds Adaptive usual (counts 4 2 1) (2 ∷ 0 ∷ 0 ∷ 0 ∷ 0 ∷ 0 ∷ 0 ∷ 0 ∷ []) (at 0 0 0) (at 3 1 0) (clear 4)
    -- the solid cell beside P is the hit, at its own face
    ∷ finds Plain usual (counts 3 1 1) (2 ∷ 3 ∷ 0 ∷ []) (at 0 0 0) (at 2 0 0) (hit (at 1 0 0) 3 1 4 (Face.Plus X) 2)
    ∷ finds Adaptive usual (counts 3 1 1) (2 ∷ 3 ∷ 0 ∷ []) (at 0 0 0) (at 2 0 0) (hit (at 1 0 0) 3 1 4 (Face.Plus X) 2)
    -- Q is tested, also beside P
    ∷ finds Plain usual (counts 2 1 1) (2 ∷ 9 ∷ []) (at 0 0 0) (at 1 0 0) (hit (at 1 0 0) 9 1 2 (Face.Plus X) 2)
    ∷ finds Adaptive usual (counts 2 1 1) (2 ∷ 9 ∷ []) (at 0 0 0) (at 1 0 0) (hit (at 1 0 0) 9 1 2 (Face.Plus X) 2)
    -- equal ends, solid: clear with one read; where the start is tested a hit
    ∷ finds Plain usual example_counts marked_cells (at 1 1 0) (at 1 1 0) (clear 1)
    ∷ finds Adaptive usual example_counts marked_cells (at 1 1 0) (at 1 1 0) (clear 1)
    ∷ finds Plain tested_start example_counts marked_cells (at 1 1 0) (at 1 1 0) (hit (at 1 1 0) 2 0 1 Face.None 1)
    ∷ finds Adaptive tested_start example_counts marked_cells (at 1 1 0) (at 1 1 0) (hit (at 1 1 0) 2 0 1 Face.None 1)
    ∷ rule_rows

-- masks, ones and totals
abbrev pub count_rows : List Row
count_rows =
    builds example_counts example_cells (0 ∷ []) (Ok 1) (32 ∷ [])
    -- surplus masks stay; and one mask too few
    ∷ builds example_counts example_cells (9 ∷ 7 ∷ []) (Ok 1) (32 ∷ 7 ∷ [])
    ∷ builds example_counts example_cells [] (Err Room) []
    -- bit x + 4y + 16z; counts that are no multiples of 4: the fifth cell is in a brick of its own
    ∷ builds (counts 5 1 1) (2 ∷ 2 ∷ 2 ∷ 0 ∷ 9 ∷ []) (0 ∷ 0 ∷ []) (Ok 4) (7 ∷ 1 ∷ [])
    ∷ builds (counts 1 5 1) (2 ∷ 2 ∷ 2 ∷ 0 ∷ 9 ∷ []) (0 ∷ 0 ∷ []) (Ok 4) (273 ∷ 1 ∷ [])
    ∷ builds (counts 1 1 5) (2 ∷ 2 ∷ 0 ∷ 0 ∷ 9 ∷ []) (0 ∷ 0 ∷ []) (Ok 3) (65537 ∷ 1 ∷ [])
    -- one cell more; another code for a solid cell; all cells of the box
    ∷ sets example_counts (at 0 0 0) 2 marked_cells (32 ∷ []) 1 (Ok 2) set_cells (33 ∷ [])
    ∷ sets example_counts (at 1 1 0) 7 marked_cells (32 ∷ []) 1 (Ok 1) (1 ∷ 1 ∷ 1 ∷ 0 ∷ 1 ∷ 7 ∷ 1 ∷ 0 ∷ []) (32 ∷ [])
    ∷ refills example_counts (at 0 0 0) (at 3 1 0) 2 marked_cells (32 ∷ []) 1 (Ok 8) all_solid (255 ∷ [])
    ∷ refills example_counts (at 1 0 0) (at 2 1 0) 1 marked_cells (32 ∷ []) 1 (Ok 0) (1 ∷ 1 ∷ 1 ∷ 0 ∷ 1 ∷ 1 ∷ 1 ∷ 0 ∷ []) (0 ∷ [])
    -- 13: a bit of another cell of the brick, a bit of no cell, a total below the ones or above the cells; before "changes nothing"
    ∷ sets example_counts (at 0 0 0) 1 marked_cells (33 ∷ []) 2 (Err Stale) marked_cells (33 ∷ [])
    ∷ sets example_counts (at 0 0 0) 1 marked_cells (288 ∷ []) 2 (Err Stale) marked_cells (288 ∷ [])
    ∷ sets example_counts (at 0 0 0) 1 marked_cells (32 ∷ []) 0 (Err Stale) marked_cells (32 ∷ [])
    ∷ sets example_counts (at 0 0 0) 1 marked_cells (32 ∷ []) 9 (Err Stale) marked_cells (32 ∷ [])
    ∷ sets example_counts (at 0 0 0) 1 marked_cells (32 ∷ []) 8 (Ok 8) marked_cells (32 ∷ [])
    -- 14 before 13; 5 before 14, of the low corner before the high one; 6 before 5
    ∷ refills example_counts (at 3 1 0) (at 0 1 0) 2 marked_cells (0 ∷ []) 1 (Err Corners) marked_cells (0 ∷ [])
    ∷ refills example_counts (at 4 1 0) (at 0 2 0) 2 marked_cells (32 ∷ []) 1 (Err (OffGrid P X)) marked_cells (32 ∷ [])
    ∷ refills example_counts (at 3 1 0) (at 0 2 0) 2 marked_cells (32 ∷ []) 1 (Err (OffGrid Q Y)) marked_cells (32 ∷ [])
    ∷ refills example_counts (at 4 1 0) (at 0 0 0) 2 marked_cells [] 1 (Err Room) marked_cells []
    -- complete marks that a set makes incomplete, until they are made again; the mask and the total stay right
    ∷ complete_is (counts 3 1 1) (0 ∷ 0 ∷ 0 ∷ []) true
    ∷ sets (counts 3 1 1) (at 0 0 0) 2 (0 ∷ 0 ∷ 0 ∷ []) (0 ∷ []) 0 (Ok 1) (2 ∷ 0 ∷ 0 ∷ []) (1 ∷ [])
    ∷ complete_is (counts 3 1 1) (2 ∷ 0 ∷ 0 ∷ []) false
    ∷ marks 3 (counts 3 1 1) (2 ∷ 0 ∷ 0 ∷ []) (2 ∷ 1 ∷ 0 ∷ [])
    ∷ complete_is (counts 3 1 1) (2 ∷ 1 ∷ 0 ∷ []) true
    ∷ builds (counts 3 1 1) (2 ∷ 1 ∷ 0 ∷ []) (0 ∷ []) (Ok 1) (1 ∷ [])
    ∷ start_rows

-- shells of marks. A grid in the thin shell: complete at 2 and not at 3, so that the completeness call says no of it
abbrev pub shell_rows : List Row
shell_rows =
    marks 2 corner_counts corner_cells corner_thin
    ∷ marks 3 corner_counts corner_cells corner_full
    ∷ complete_at 2 corner_counts corner_thin true
    ∷ complete_at 3 corner_counts corner_thin false
    ∷ complete_is corner_counts corner_thin false
    ∷ complete_is corner_counts corner_full true
    -- from (1,1,1), at the solid cell's corner, past it: two reads in the thin shell, and three in the full one, as plain
    ∷ finds Plain usual corner_counts corner_thin (at 1 1 1) (at 2 0 1) (clear 3)
    ∷ finds Adaptive usual corner_counts corner_thin (at 1 1 1) (at 2 0 1) (clear 2)
    ∷ finds Adaptive usual corner_counts corner_full (at 1 1 1) (at 2 0 1) (clear 3)
    ∷ finds Adaptive (tested_by Two) corner_counts corner_thin (at 1 1 1) (at 2 0 1) (clear 2)
    ∷ finds Adaptive (tested_by Two) corner_counts corner_full (at 1 1 1) (at 2 0 1) (clear 3)
    -- and onto it: one long step reaches the hit, by the face that each rule crosses last; marked in full P is near, and it goes face by face
    ∷ finds Plain usual corner_counts corner_thin (at 1 1 1) (at 0 0 0) (hit (at 0 0 0) 2 1 2 (Face.Minus X) 4)
    ∷ finds Adaptive usual corner_counts corner_thin (at 1 1 1) (at 0 0 0) (hit (at 0 0 0) 2 1 2 (Face.Minus X) 2)
    ∷ finds Adaptive usual corner_counts corner_full (at 1 1 1) (at 0 0 0) (hit (at 0 0 0) 2 1 2 (Face.Minus X) 4)
    ∷ finds Plain (tested_by Two) corner_counts corner_thin (at 1 1 1) (at 0 0 0) (hit (at 0 0 0) 2 1 2 (Face.Minus Y) 4)
    ∷ finds Adaptive (tested_by Two) corner_counts corner_thin (at 1 1 1) (at 0 0 0) (hit (at 0 0 0) 2 1 2 (Face.Minus Y) 2)
    ∷ finds Adaptive (tested_by Two) corner_counts corner_full (at 1 1 1) (at 0 0 0) (hit (at 0 0 0) 2 1 2 (Face.Minus Y) 4)
    -- a long step that crosses y and z at 3 over 4, and last x at 5 over 6, by which the 6-line enters. (Marking at 2 leaves these marks as they are: they are
    -- the thin shell.)
    ∷ marks 2 far_counts far_thin far_thin
    ∷ complete_at 3 far_counts far_thin false
    ∷ finds Plain usual far_counts far_thin (at 0 0 0) (at 3 2 2) (hit (at 3 2 2) 2 5 6 (Face.Plus X) 8)
    ∷ finds Adaptive usual far_counts far_thin (at 0 0 0) (at 3 2 2) (hit (at 3 2 2) 2 5 6 (Face.Plus X) 4)
    ∷ count_rows

-- every case; where a row says nothing else, the start is tested and ties go by rule 1
abbrev pub table : List Row
table =
    six One (at 0 0 0) (at 2 1 0) (at 0 0 0 ∷ at 1 0 0 ∷ at 1 1 0 ∷ at 2 1 0 ∷ [])
    ∷ twenty_six (at 0 0 0) (at 2 1 0) (at 0 0 0 ∷ at 1 1 0 ∷ at 2 1 0 ∷ [])
    ∷ six One (at 0 0 0) (at_minus 2 1 0) (at 0 0 0 ∷ at_minus 1 0 0 ∷ at_minus 1 1 0 ∷ at_minus 2 1 0 ∷ [])
    ∷ six One (at 0 0 0) (at 1 1 1) (at 0 0 0 ∷ at 0 1 0 ∷ at 0 1 1 ∷ at 1 1 1 ∷ [])
    ∷ six One (at 1 1 1) (at 0 0 0) (at 1 1 1 ∷ at 1 0 1 ∷ at 1 0 0 ∷ at 0 0 0 ∷ [])
    ∷ twenty_six (at 0 0 0) (at 1 1 1) (at 0 0 0 ∷ at 1 1 1 ∷ [])
    ∷ six One (at 0 0 0) (at 3 1 0) (at 0 0 0 ∷ at 1 0 0 ∷ at 1 1 0 ∷ at 2 1 0 ∷ at 3 1 0 ∷ [])
    ∷ twenty_six (at 0 0 0) (at 3 1 0) (at 0 0 0 ∷ at 1 0 0 ∷ at 2 1 0 ∷ at 3 1 0 ∷ [])
    ∷ six One (at 5 6 7) (at 5 6 7) (at 5 6 7 ∷ [])
    ∷ twenty_six (at 5 6 7) (at 5 6 7) (at 5 6 7 ∷ [])
    -- just enough room, and one number less; the coordinate limit, and beyond it, P before Q
    ∷ lists (at 0 0 0) (at 2 1 0) 12 (inr 4)
    ∷ lists (at 0 0 0) (at 2 1 0) 11 (inl (alone 6))
    ∷ lists (at 8191 8191 8191) (at 8191 8191 8191) 3 (inr 1)
    ∷ lists (at_minus 8192 0 0) (at_minus 8192 0 0) 3 (inr 1)
    ∷ lists (at 0 0 0) (at 0 8192 0) 0 (inl (at_end 1 Q Y))
    ∷ lists (at_minus 8193 0 8192) (at 8192 0 0) 0 (inl (at_end 1 P X))
    -- the program's venue: its marks; its walks, unmarked and marked
    ∷ marks 3 example_counts example_cells marked_cells
    -- a near byte far from anything solid is cleared
    ∷ marks 3 (counts 4 1 1) (1 ∷ 1 ∷ 0 ∷ 2 ∷ []) (0 ∷ 0 ∷ 1 ∷ 2 ∷ [])
    -- along y and along z too, a cell touches no further than the next
    ∷ marks 3 (counts 1 3 1) (2 ∷ 0 ∷ 0 ∷ []) (2 ∷ 1 ∷ 0 ∷ [])
    ∷ marks 3 (counts 1 1 3) (2 ∷ 0 ∷ 0 ∷ []) (2 ∷ 1 ∷ 0 ∷ [])
    -- a corner touches
    ∷ marks 3 (counts 2 2 2) (0 ∷ 0 ∷ 0 ∷ 0 ∷ 0 ∷ 0 ∷ 0 ∷ 9 ∷ []) (1 ∷ 1 ∷ 1 ∷ 1 ∷ 1 ∷ 1 ∷ 1 ∷ 9 ∷ [])
    ∷ finds Plain tested_start example_counts example_cells (at 0 0 0) (at 3 1 0) (hit (at 1 1 0) 2 1 2 (Face.Plus Y) 3)
    ∷ finds Adaptive tested_start example_counts example_cells (at 0 0 0) (at 3 1 0) (clear 4)
    ∷ finds Plain tested_start example_counts marked_cells (at 0 0 0) (at 3 1 0) (hit (at 1 1 0) 2 1 2 (Face.Plus Y) 3)
    ∷ finds Adaptive tested_start example_counts marked_cells (at 0 0 0) (at 3 1 0) (hit (at 1 1 0) 2 1 2 (Face.Plus Y) 3)
    -- equal ends: one cell, one read
    ∷ finds Plain tested_start example_counts marked_cells (at 3 1 0) (at 3 1 0) (clear 1)
    ∷ finds Adaptive tested_start example_counts marked_cells (at 3 1 0) (at 3 1 0) (clear 1)
    -- a hit at P: 0 over 1, and no face
    ∷ finds Plain tested_start example_counts marked_cells (at 1 1 0) (at 3 1 0) (hit (at 1 1 0) 2 0 1 Face.None 1)
    ∷ finds Adaptive tested_start example_counts marked_cells (at 1 1 0) (at 3 1 0) (hit (at 1 1 0) 2 0 1 Face.None 1)
    -- the bytes lie x fastest, then y, then z: byte 4 of 2 by 3 by 2 is (0,2,0)
    ∷ finds Plain tested_start (counts 2 3 2) (0 ∷ 0 ∷ 0 ∷ 0 ∷ 2 ∷ 0 ∷ 0 ∷ 0 ∷ 0 ∷ 0 ∷ 0 ∷ 0 ∷ []) (at 0 0 0) (at 0 2 0) (hit (at 0 2 0) 2 3 4 (Face.Plus Y) 3)
    -- 255 is solid; a place is not reduced, 3 over 6
    ∷ finds Plain tested_start (counts 2 1 1) (0 ∷ 255 ∷ []) (at 0 0 0) (at 1 0 0) (hit (at 1 0 0) 255 1 2 (Face.Plus X) 2)
    ∷ finds Plain tested_start (counts 4 1 1) (0 ∷ 0 ∷ 2 ∷ 0 ∷ []) (at 0 0 0) (at 3 0 0) (hit (at 2 0 0) 2 3 6 (Face.Plus X) 3)
    -- a tie of three: each face by which the 6-line goes on, there and back
    ∷ finds Plain tested_start (counts 2 2 2) (0 ∷ 0 ∷ 2 ∷ 0 ∷ 0 ∷ 0 ∷ 0 ∷ 0 ∷ []) (at 0 0 0) (at 1 1 1) (hit (at 0 1 0) 2 1 2 (Face.Plus Y) 2)
    ∷ finds Plain tested_start (counts 2 2 2) (0 ∷ 0 ∷ 0 ∷ 0 ∷ 0 ∷ 0 ∷ 2 ∷ 0 ∷ []) (at 0 0 0) (at 1 1 1) (hit (at 0 1 1) 2 1 2 (Face.Plus Z) 3)
    ∷ finds Plain tested_start (counts 2 2 2) (0 ∷ 0 ∷ 0 ∷ 0 ∷ 0 ∷ 0 ∷ 0 ∷ 2 ∷ []) (at 0 0 0) (at 1 1 1) (hit (at 1 1 1) 2 1 2 (Face.Plus X) 4)
    ∷ finds Plain tested_start (counts 2 2 2) (0 ∷ 0 ∷ 0 ∷ 0 ∷ 0 ∷ 2 ∷ 0 ∷ 0 ∷ []) (at 1 1 1) (at 0 0 0) (hit (at 1 0 1) 2 1 2 (Face.Minus Y) 2)
    ∷ finds Plain tested_start (counts 2 2 2) (0 ∷ 2 ∷ 0 ∷ 0 ∷ 0 ∷ 0 ∷ 0 ∷ 0 ∷ []) (at 1 1 1) (at 0 0 0) (hit (at 1 0 0) 2 1 2 (Face.Minus Z) 3)
    ∷ finds Plain tested_start (counts 2 2 2) (2 ∷ 0 ∷ 0 ∷ 0 ∷ 0 ∷ 0 ∷ 0 ∷ 0 ∷ []) (at 1 1 1) (at 0 0 0) (hit (at 0 0 0) 2 1 2 (Face.Minus X) 4)
    -- one long step over all three: the face crossed last
    ∷ finds Adaptive tested_start (counts 2 2 2) (0 ∷ 0 ∷ 0 ∷ 0 ∷ 0 ∷ 0 ∷ 0 ∷ 2 ∷ []) (at 0 0 0) (at 1 1 1) (hit (at 1 1 1) 2 1 2 (Face.Plus X) 2)
    ∷ finds Adaptive tested_start (counts 2 2 2) (2 ∷ 0 ∷ 0 ∷ 0 ∷ 0 ∷ 0 ∷ 0 ∷ 0 ∷ []) (at 1 1 1) (at 0 0 0) (hit (at 0 0 0) 2 1 2 (Face.Minus X) 2)
    -- complete marks, both clear, the adaptive walk reads fewer
    ∷ finds Plain tested_start (counts 3 2 1) (0 ∷ 0 ∷ 0 ∷ 0 ∷ 0 ∷ 0 ∷ []) (at 0 0 0) (at 2 1 0) (clear 4)
    ∷ finds Adaptive tested_start (counts 3 2 1) (0 ∷ 0 ∷ 0 ∷ 0 ∷ 0 ∷ 0 ∷ []) (at 0 0 0) (at 2 1 0) (clear 3)
    -- also where y or z is the longest axis
    ∷ finds Adaptive tested_start (counts 2 3 1) (0 ∷ 0 ∷ 0 ∷ 0 ∷ 0 ∷ 0 ∷ []) (at 0 0 0) (at 1 2 0) (clear 3)
    ∷ finds Adaptive tested_start (counts 1 2 3) (0 ∷ 0 ∷ 0 ∷ 0 ∷ 0 ∷ 0 ∷ []) (at 0 0 0) (at 0 1 2) (clear 3)
    -- missing marks: a long step lands on the hit
    ∷ finds Plain tested_start (counts 6 3 1) long_bytes (at 0 0 0) (at 5 2 0) (hit (at 2 1 0) 2 3 10 (Face.Plus X) 4)
    ∷ finds Adaptive tested_start (counts 6 3 1) long_bytes (at 0 0 0) (at 5 2 0) (hit (at 2 1 0) 2 3 10 (Face.Plus X) 3)
    -- missing marks: the adaptive walk is clear and reads more than the plain one
    ∷ finds Plain tested_start (counts 3 2 1) (0 ∷ 0 ∷ 0 ∷ 0 ∷ 2 ∷ 0 ∷ []) (at 0 1 0) (at 2 0 0) (hit (at 1 1 0) 2 1 4 (Face.Plus X) 2)
    ∷ finds Adaptive tested_start (counts 3 2 1) (0 ∷ 0 ∷ 0 ∷ 0 ∷ 2 ∷ 0 ∷ []) (at 0 1 0) (at 2 0 0) (clear 3)
    ∷ shell_rows
