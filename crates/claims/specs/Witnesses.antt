-- Nothing is claimed of nothing: each record that stands as a premise in the claims is met, on a named input. So a premise that nobody can meet is
-- refused here. Assumes nothing.
use Rattle.std.specs.Prelude.{Ok, Err, ℕ, ◌+◌, ◌≤◌, ◌≡◌, true, false, List, [], ◌∷◌, ◌++◌, pos, length}
use Rattle.std.specs.Borrow.{Bor}
use Rattle.bricks.specs.Bricks.{brick_there, bit_there}
use Rattle.claims.specs.Grids.{Inside}
use Rattle.buffers.specs.Numbers.{AllBytes}
use Rattle.cells.specs.declared.Face.TheVariants as Face
use Rattle.cells.specs.declared.Refusal.TheVariants.{Bytes, Room, OffSurvey, Record, NoRule, Stale, Corners}
use Rattle.cells.specs.declared.Axis.TheVariants.{X, Y, Z}
use Rattle.cells.specs.declared.End.TheVariants.{P}
use Rattle.cells.specs.Refusals.{NumberOf}
use Rattle.cells.specs.declared.Manner.{Manner}
use Rattle.cells.specs.declared.Rule.TheVariants.{One, Two}
use Rattle.cells.specs.declared.Start.TheVariants.{Untested, Tested}
use Rattle.cells.specs.Manners.{usual, tested_by, tested_start}
use Rattle.cells.specs.Touching.{Touches}
use Rattle.lines.specs.Steps.{Steps}
use Rattle.lines.specs.Crossings.{InOrder, LastMade, TieFree, next, place}
use Rattle.lines.specs.Preference.{y_z_x}
use Rattle.lines.specs.Lines.{differences, centres, InLimit}
use Rattle.lines.specs.Segment.{Share, InOpen, InClosed}
use Rattle.lists.specs.Lists.{Line6, Line26, numbers}
use Rattle.grids.specs.Grid.{part_at, size, count_check, byte_of, solid, Shapes, GivesLayerPart, GivesLayer}
use Rattle.grids.specs.Marks.{complete, marked, Marks, Completes}
use Rattle.bricks.specs.Builds.{Builds}
use Rattle.bricks.specs.Kept.{Kept}
use Rattle.refills.specs.Refills.{Refills, Sets}
use Rattle.walks.specs.declared.Walker.{Walker}
use Rattle.walks.specs.declared.Walker.TheVariants.{Plain, Adaptive}
use Rattle.walks.specs.declared.Hit.{Hit}
use Rattle.walks.specs.declared.FirstHit.TheVariants as FirstHit
use Rattle.walks.specs.Answers.{Finds}
use Rattle.touching.specs.Touching.{LineTouching, FindsTouching}
use Rattle.trails.specs.Trails.{AdaptiveCells}
use Rattle.survey.specs.Survey.{PlacedGrid, quotients, look_up, LooksUp}
use Rattle.sight.specs.declared.Sight.TheVariants as Sight
use Rattle.sight.specs.Sight.{share_of, Sees}
use Rattle.records.specs.Heads.{announced, version_of}
use Rattle.records.specs.Venues.{counts_at, ReadsVenue, GivesCells}
use Rattle.records.specs.Pairs.{ReadsPair}
use Rattle.records.specs.Writing.{WritesVenue}
use Rattle.texts.specs.Text.{decimal, Puts}
use Rattle.oatmarten.specs.GridCalls.{FlatMarks, FlatCompletes}
use Rattle.claims.specs.Program.{Runs, example_input, example_output}
use Rattle.claims.specs.Example.{counts, at, example_counts, example_cells, marked_cells, set_cells, all_solid, corner_counts, corner_cells, corner_thin, sevens}
use Rattle.claims.specs.Lists.{lowest, highest, room}
use Rattle.claims.specs.Kept.{HoldsNamed}
use Rattle.claims.specs.Sequences.{Sequence, Set, AllRight, Mark, Refill, Build}
use Rattle.claims.specs.Rules.{ComesFirst, four_cells, by_xzy}
use Rattle.claims.specs.Points.{Finite, InItsCell, cube, metres, tenths, one_metre, point}
use Rattle.claims.specs.FarWall.{look_up_before, on_wall}
use Rattle.claims.specs.Records.{Right, RightPair, example_venue, example_pair, example_room, pair_by}
use Rattle.claims.specs.ProgramRows.{no_cells}
use Rattle.claims.specs.Shells.{tie_reads}
use Rattle.claims.specs.Starred.{halves}
use Rattle.claims.specs.Story.{all_clear}
use Rattle.claims.specs.Touching.{InLine, one_solid}

-- from (0,0,0) to (2,1,0)
abbrev pub steps_there : Steps
steps_there = differences (at 0 0 0) (at 2 1 0)

pub record OfLines : Type 0 where
  -- the centre of P lies inside P
  pub share : Share 0 1
  pub centre_of_p : InOpen (at 0 0 0) (at 2 1 0) 0 1 (at 0 0 0)
  pub limits : InLimit lowest × InLimit highest
  pub in_order : InOrder (centres y_z_x steps_there) (place (centres y_z_x steps_there) 2)
  pub last_made : LastMade (centres y_z_x steps_there) (place (centres y_z_x steps_there) 2)
      (next (centres y_z_x steps_there) (place (centres y_z_x steps_there) 1))
  -- ends with no tie between them, and one that comes first
  pub tie_free : TieFree (centres y_z_x (differences (at 2 1 0) (at 0 0 0)))
  pub comes_first : ComesFirst (at 0 0 0) (at 1 1 1)
  -- a list that is written, there and back by rule 2; and one that is refused
  pub by_two : Line6 Two (at 0 0 0) (at 1 1 1) four_cells (Ok 4) (numbers (at 0 0 0 ∷ at 0 1 0 ∷ at 0 1 1 ∷ at 1 1 1 ∷ []))
  pub back_by_two : Line6 Two (at 1 1 1) (at 0 0 0) four_cells (Ok 4) by_xzy
  pub listed : Line6 One (at 0 0 0) (at 2 1 0) room (Ok 4)
      (pos 0 ∷ pos 0 ∷ pos 0 ∷ pos 1 ∷ pos 0 ∷ pos 0 ∷ pos 1 ∷ pos 1 ∷ pos 0 ∷ pos 2 ∷ pos 1 ∷ pos 0 ∷ pos 7 ∷ [])
  pub listed_26 : Line26 (at 0 0 0) (at 2 1 0) room (Ok 3)
      (pos 0 ∷ pos 0 ∷ pos 0 ∷ pos 1 ∷ pos 1 ∷ pos 0 ∷ pos 2 ∷ pos 1 ∷ pos 0 ∷ pos 7 ∷ pos 7 ∷ pos 7 ∷ pos 7 ∷ [])
  pub no_room : Line6 One (at 0 0 0) (at 2 1 0) [] (Err Room) []
  -- a touching line with just enough room, and one number less; a point of the segment in the closed cube of a cell that it meets at an edge, and that cell's
  -- number in the line
  pub touching : LineTouching (at 0 0 0) (at 1 1 0) (sevens 12) (Ok 4)
      (numbers (at 0 0 0 ∷ at 0 1 0 ∷ at 1 0 0 ∷ at 1 1 0 ∷ []))
  pub touching_no_room : LineTouching (at 0 0 0) (at 1 1 0) (sevens 11) (Err Room) (sevens 11)
  pub at_an_edge : InClosed (at 0 0 0) (at 1 1 0) 1 2 (at 1 0 0)
  pub in_line : InLine (at 0 0 0) (at 1 1 0) (at 1 0 0)

-- memory that a caller lends
abbrev pub lent : List ℕ → Bor (List ℕ)
lent l = record { ref_ptr = (0, 0); now = l }

-- the hit of both walks in the program's venue, marked
abbrev pub the_hit : Hit
the_hit = record { cell = at 1 1 0; code = 2; place = record { num = 1; den = 2; face = Face.Plus Y }; reads = 3 }

-- that from the other end by rule 2
abbrev pub the_hit_back : Hit
the_hit_back = record { cell = at 1 1 0; code = 2; place = record { num = 3; den = 6; face = Face.Minus X }; reads = 3 }

-- how many cells each walk reads from (2,1,0) to (0,0,0), where nothing is in the way
abbrev pub back_reads : Walker → ℕ
back_reads Plain = 4
back_reads Adaptive = 3

-- past the corner of a solid cell in the thin shell, and onto it
abbrev pub past_corner : Walker → ℕ
past_corner Plain = 3
past_corner Adaptive = 2

abbrev pub onto_corner : Walker → Hit
onto_corner w = record { cell = at 0 0 0; code = 2; place = record { num = 1; den = 2; face = Face.Minus X }; reads = tie_reads w }

-- and that at P, from the solid cell, where it is tested
abbrev pub the_start : Hit
the_start = record { cell = at 1 1 0; code = 2; place = record { num = 0; den = 1; face = Face.None }; reads = 1 }

pub record OfGrids : Type 0 where
  -- cells that touch by a corner, and the number of a refusal
  pub corner : Touches 3 (at 0 0 0) (at 1 1 1)
  pub number : NumberOf Bytes 3
  pub shaped : Shapes example_counts 8 (Ok tt)
  pub one_short : Shapes example_counts 7 (Err Bytes)
  pub marked_there : Marks example_counts example_cells (Ok tt) marked_cells
  pub complete_marks : complete 3 example_counts marked_cells ≡ true
  pub says_yes : Completes example_counts marked_cells (Ok true)
  pub says_no : Completes example_counts example_cells (Ok false)
  pub part : GivesLayerPart example_counts 8 (pos 0) (Ok (part_at 0 8))
  pub layer : GivesLayer example_counts (lent example_cells) (pos 0) (lent example_cells)
  pub not_marked : Marks example_counts (0 ∷ []) (Err Bytes) (0 ∷ [])
  -- walks of either mode: a hit of each, and a clear one, with complete marks
  pub plain_hits : (how : Manner) → Finds Plain how example_counts marked_cells (at 0 0 0) (at 3 1 0) (Ok (FirstHit.Hit the_hit))
  pub adaptive_hits : (how : Manner) → Finds Adaptive how example_counts marked_cells (at 0 0 0) (at 3 1 0) (Ok (FirstHit.Hit the_hit))
  pub clear_marks : complete 3 (counts 3 2 1) all_clear ≡ true
  pub plain_clear : (how : Manner) → Finds Plain how (counts 3 2 1) all_clear (at 0 0 0) (at 2 1 0) (Ok (FirstHit.Clear 4))
  pub adaptive_clear : (how : Manner) → Finds Adaptive how (counts 3 2 1) all_clear (at 0 0 0) (at 2 1 0) (Ok (FirstHit.Clear 3))
  -- marks of the thin shell alone, and both walks over them, hit and clear
  pub thin_marks : complete 2 corner_counts corner_thin ≡ true
  pub not_full : complete 3 corner_counts corner_thin ≡ false
  pub thin_made : marked 2 corner_counts corner_cells ≡ corner_thin
  pub thin_clear : (w : Walker) → Finds w usual corner_counts corner_thin (at 1 1 1) (at 2 0 1) (Ok (FirstHit.Clear (past_corner w)))
  pub thin_hits : (w : Walker) → Finds w usual corner_counts corner_thin (at 1 1 1) (at 0 0 0) (Ok (FirstHit.Hit (onto_corner w)))
  -- the trail of a clear walk with just enough room, and one number less; and of one that hits
  pub trail : AdaptiveCells usual (counts 3 2 1) all_clear (at 0 0 0) (at 2 1 0) (sevens 9) (Ok 3) (numbers (at 0 0 0 ∷ at 1 1 0 ∷ at 2 1 0 ∷ []))
  pub trail_no_room : AdaptiveCells usual (counts 3 2 1) all_clear (at 0 0 0) (at 2 1 0) (sevens 8) (Err Room) (sevens 8)
  pub trail_to_hit : AdaptiveCells usual example_counts marked_cells (at 0 0 0) (at 3 1 0) (sevens 10) (Ok 3)
      (numbers (at 0 0 0 ∷ at 1 0 0 ∷ at 1 1 0 ∷ []) ++ sevens 1)
  -- the touching walk: a hit, and a clear one
  pub touching_hits : FindsTouching Tested (counts 2 2 2) (one_solid 5) (at 0 0 0) (at 1 1 1)
      (Ok (FirstHit.Hit (record { cell = at 1 0 1; code = 2; place = record { num = 1; den = 2; face = Face.Plus Z }; reads = 7 })))
  pub touching_clear : FindsTouching Untested (counts 3 2 1) all_clear (at 0 0 0) (at 2 1 0) (Ok (FirstHit.Clear 4))
  -- from the other end, by rule 2
  pub back_clear : (w : Walker) → Finds w (tested_by Two) (counts 3 2 1) all_clear (at 2 1 0) (at 0 0 0) (Ok (FirstHit.Clear (back_reads w)))
  pub back_hits : (w : Walker) → Finds w (tested_by Two) example_counts marked_cells (at 3 1 0) (at 0 0 0) (Ok (FirstHit.Hit the_hit_back))
  -- from the solid cell: clear where it is not tested, with complete marks; a hit at P where it is
  pub solid_start : solid (byte_of example_counts marked_cells (at 1 1 0)) ≡ true
  pub passed : (w : Walker) → Finds w usual example_counts marked_cells (at 1 1 0) (at 3 1 0) (Ok (FirstHit.Clear 3))
  pub not_passed : (w : Walker) → Finds w tested_start example_counts marked_cells (at 1 1 0) (at 3 1 0) (Ok (FirstHit.Hit the_start))
  -- and a start that is not solid
  pub clear_start : solid (byte_of example_counts marked_cells (at 0 0 0)) ≡ false

-- the program's venue, its one mask and its total; a cell set there, a box refilled; and calls one after another, from a build on
pub record OfCounts : Type 0 where
  pub built : Builds example_counts example_cells (0 ∷ 7 ∷ []) (Ok 1) (32 ∷ 7 ∷ [])
  pub not_built : Builds example_counts example_cells [] (Err Room) []
  pub kept : Kept example_counts marked_cells (32 ∷ []) 1
  pub was_set : Sets example_counts (at 0 0 0) 2 marked_cells (32 ∷ []) 1 (Ok 2) set_cells (33 ∷ [])
  pub not_set : Sets example_counts (at 0 0 0) 2 marked_cells (33 ∷ []) 1 (Err Stale) marked_cells (33 ∷ [])
  pub refilled : Refills example_counts (at 0 0 0) (at 3 1 0) 2 marked_cells (32 ∷ []) 1 (Ok 8) all_solid (255 ∷ [])
  pub crossed : Refills example_counts (at 3 1 0) (at 0 0 0) 2 marked_cells (32 ∷ []) 1 (Err Corners) marked_cells (32 ∷ [])
  -- a brick that holds a cell of a box, and one that holds none; a bit of no cell
  pub holds : HoldsNamed example_counts (at 0 0 0) (at 3 1 0) 0
  pub holds_none : HoldsNamed (counts 5 1 1) (at 0 0 0) (at 3 0 0) 1 → ⊥
  pub no_cell : (x y z : ℕ) → Inside example_counts x y z → brick_there example_counts x y z ≡ 0 → bit_there x y z ≡ 63 → ⊥
  -- from `built` on: each call once, and a refill that is refused 14
  pub calls : Sequence example_counts (record { bytes = example_cells; masks = 32 ∷ 7 ∷ []; total = 1 })
      (Mark ∷ Set (at 0 0 0) 2 ∷ Refill (at 3 1 0) (at 0 0 0) 2 ∷ Refill (at 0 0 0) (at 3 1 0) 2 ∷ Build ∷ [])
      (record { bytes = all_solid; masks = 255 ∷ 7 ∷ []; total = 8 })
  pub all_right : AllRight example_counts marked_cells (32 ∷ []) 1

pub record OfPoints : Type 0 where
  pub tested : PlacedGrid (cube 4) one_metre
  pub finite : Finite (point (tenths 15) (metres 0) (tenths 39))
  pub in_its_cell : InItsCell (cube 4) (quotients one_metre (point (tenths 15) (metres 0) (tenths 39))) (at 1 0 3)
  pub looked_up : LooksUp (cube 4) one_metre (point (tenths 15) (metres 0) (tenths 39)) (Ok (at 1 0 3))
  -- a point on the far walls; one on the first, which the half-open rule refused; and one behind it, which does not lie on it
  pub in_last_cell : InItsCell (cube 4) (quotients one_metre (point (metres 4) (metres 4) (metres 4))) (at 3 3 3)
  pub on_first : on_wall (cube 4) one_metre (point (metres 4) (metres 0) (metres 0)) X ≡ true
  pub was_refused : look_up_before P (cube 4) one_metre (point (metres 4) (metres 0) (metres 0)) ≡ Err (OffSurvey P X)
  pub behind_first : on_wall (cube 4) one_metre (point (metres 5) (metres 0) (metres 0)) X ≡ false
  -- a camera behind the far wall has no cell
  pub off_survey : look_up P (cube 4) one_metre (point (metres 5) (metres 0) (metres 0)) ≡ Err (OffSurvey P X)
  -- a clear sight over complete marks
  pub seen : Sees usual (counts 3 2 1) all_clear one_metre (point (halves 1) (halves 1) (halves 1))
      (point (halves 5) (halves 3) (halves 1)) Sight.Clear
  -- one over marks of the thin shell alone
  pub seen_thin : Sees usual corner_counts corner_thin one_metre (point (halves 3) (halves 3) (halves 3))
      (point (halves 5) (halves 1) (halves 3)) Sight.Clear
  -- a blocked one, in the program's venue, marked
  pub blocked : Sees tested_start example_counts marked_cells one_metre (point (halves 1) (halves 1) (halves 1))
      (point (halves 7) (halves 3) (halves 1))
      (Sight.Blocked (record { share = share_of 1 2; cell = at 1 1 0; code = 2; reads = 3; face = Face.Plus Y }))

pub record OfRecords : Type 0 where
  pub bytes : AllBytes example_venue
  pub exact : length example_venue ≡ 4 + announced example_venue
  pub venue : ReadsVenue example_venue (Ok (record { counts = example_counts; start = 11; long = 8 }))
  pub right : Right example_venue (record { counts = example_counts; start = 11; long = 8 })
  pub right_pair : RightPair example_pair (record { p = at 0 0 0; q = at 3 1 0; rule = One })
  pub second_pair : ReadsPair (pair_by 2) (Ok (record { p = at 3 1 0; q = at 0 0 0; rule = Two }))
  pub no_such_rule : ReadsPair (pair_by 3) (Err NoRule)
  pub pair : ReadsPair example_pair (Ok (record { p = at 0 0 0; q = at 3 1 0; rule = One }))
  pub cells : GivesCells (lent example_venue) (record { ref_ptr = (0, 11); now = example_cells })
  pub no_venue : ReadsVenue [] (Err Record)
  -- a length that does not fit the counts, where all else does
  pub misfit : (4 + announced no_cells ≤ length no_cells) × (version_of no_cells ≡ 1) × (7 ≤ announced no_cells)
      × (count_check (counts_at no_cells 5) ≡ Ok tt) × (announced no_cells ≡ 7 + size (counts_at no_cells 5) → ⊥)
  pub written : WritesVenue example_counts example_cells example_room (Ok 19) (example_venue ++ 99 ∷ [])
  pub not_written : WritesVenue example_counts example_cells [] (Err Room) []

-- a call for C, a text line, and a run of the program
pub record OfPrograms : Type 0 where
  pub for_c : FlatCompletes example_counts marked_cells (record { said = record { refusal = 0; end = 0; axis = 0 }; yes = 1 })
  pub refused_for_c : FlatMarks example_counts (0 ∷ []) (record { said = record { refusal = 3; end = 0; axis = 0 } }) (0 ∷ [])
  pub put : Puts (decimal 7) 0 (99 ∷ []) 1 (55 ∷ [])
  pub run : Runs example_input example_output
