-- SCOPE, R and O: for each public call its tests in order, each in plain inequalities on the call's inputs and with the
-- number and details that it gives; and the claim that every answer that meets the call's contract is given by them. Assumes nothing.
use Rattle.std.specs.Prelude.{Bool, Result, ℕ, ◌+◌, ◌*◌, ◌/◌, ◌<◌, ◌≡◌, true, false, List, [], ◌↔◌, ◌⊎◌, ℤ, pos, neg_ℤ, ◌<ℤ◌, ◌≤ℤ◌, length, get_or, Float}
use Rattle.cells.specs.declared.Refusal.{Refusal}
use Rattle.records.specs.declared.venues.Venue.{Venue}
use Rattle.records.specs.declared.pairs.Pair.{Pair}
use Rattle.std.specs.Borrow.{Bor}
use Rattle.std.specs.Float.{binary64}
use Rattle.std.specs.Float.Ieee.{sub, div, lt}
use Rattle.std.specs.Float.Ieee.Scale.{finite}
use Rattle.cells.specs.declared.Axis.{Axis}
use Rattle.cells.specs.declared.Axis.TheVariants.{X, Y, Z}
use Rattle.cells.specs.declared.Cell.{Cell}
use Rattle.cells.specs.declared.Counts.{Counts}
use Rattle.cells.specs.declared.Manner.{Manner}
use Rattle.cells.specs.declared.End.{End}
use Rattle.cells.specs.declared.End.TheVariants.{P, Q}
use Rattle.cells.specs.declared.Part.TheVariants.{OriginX, OriginY, OriginZ, Edge}
use Rattle.cells.specs.declared.Rule.{Rule}
use Rattle.cells.specs.declared.Start.{Start}
use Rattle.cells.specs.Checks.{Verdict}
use Rattle.cells.specs.Refusals.{Told, alone, at_axis, at_part, at_end, told_verdict}
use Rattle.cells.specs.Tests.{Tests, ◌gives◌, ◌else◌, First, each_axis, ByTests}
use Rattle.cells.specs.Touching.{on}
use Rattle.lines.specs.Steps.{total}
use Rattle.lines.specs.Lines.{differences, longest}
use Rattle.lines.specs.Touching.{touching_line}
use Rattle.lists.specs.Lists.{Line6, Line26, told_listed}
use Rattle.grids.specs.declared.LayerPart.{LayerPart}
use Rattle.grids.specs.Grid.{Shapes, GivesLayerPart, GivesLayer, told_part}
use Rattle.grids.specs.Inside.{count_on}
use Rattle.grids.specs.Marks.{Marks, Completes, told_completeness}
use Rattle.bricks.specs.Bricks.{mask_at}
use Rattle.bricks.specs.Builds.{Builds, told_tally}
use Rattle.refills.specs.Boxes.{corner}
use Rattle.refills.specs.Refills.{ones_in, Refills, Sets}
use Rattle.walks.specs.declared.Walker.{Walker}
use Rattle.walks.specs.declared.FirstHit.{FirstHit}
use Rattle.walks.specs.Answers.{Finds, told_hit}
use Rattle.touching.specs.Touching.{LineTouching, FindsTouching}
use Rattle.trails.specs.Trails.{trail, AdaptiveCells}
use Rattle.survey.specs.declared.Placement.{Placement}
use Rattle.survey.specs.declared.Point.{Point}
use Rattle.survey.specs.Quotient.{as_f64}
use Rattle.survey.specs.Survey.{LooksUp, told_lookup}
use Rattle.sight.specs.declared.Sight.{Sight}
use Rattle.sight.specs.Sight.{Sees, told_sight}
use Rattle.buffers.specs.Numbers.{two_at, four_at}
use Rattle.records.specs.Venues.{ReadsVenue, GivesCells, told_venue}
use Rattle.records.specs.Pairs.{ReadsPair, told_pair}
use Rattle.records.specs.Writing.{WritesVenue, told_written}
use Rattle.structs.specs.declared.inputs.OatManner.{OatManner}
use Rattle.structs.specs.Inputs.{as_manner}
use Rattle.structs.specs.declared.line_answers.OatListed.{OatListed}
use Rattle.structs.specs.declared.walk_answers.OatHit.{OatHit}
use Rattle.structs.specs.declared.sight_answers.OatSight.{OatSight}
use Rattle.structs.specs.LineAnswers.{flat_listed}
use Rattle.oatmarten.specs.LineCalls.{FlatLine6}
use Rattle.structs.specs.WalkAnswers.{flat_hit}
use Rattle.oatmarten.specs.WalkCalls.{FlatFinds, FlatAdaptiveCells}
use Rattle.structs.specs.SightAnswers.{flat_sight}
use Rattle.oatmarten.specs.SightCalls.{FlatSees}
use Rattle.claims.specs.Kept.{HoldsNamed}

-- ---- line lists

-- 1 (x, y, z), SCOPE R1: an end beyond the coordinate limit
abbrev pub limit_tests : End → Cell → Tests
limit_tests e c = each_axis λ a. ((on c a <ℤ neg_ℤ (pos 8192)) ⊎ (pos 8191 <ℤ on c a)) gives at_end 1 e a

-- P before Q
abbrev pub ends_tests : (p q : Cell) → Tests
ends_tests p q = limit_tests P p else limit_tests Q q

-- of a list, behind the tests that come first: 6, fewer than three numbers lent for each cell
abbrev pub list_tests : Tests → (cells room : ℕ) → Tests
list_tests first cells room = first else (room < 3 * cells) gives alone 6

-- 1, then 6
abbrev pub line_tests : (p q : Cell) (cells room : ℕ) → Tests
line_tests p q = list_tests (ends_tests p q)

-- ---- grids

-- 2 (x, y, z), SCOPE R2: a count that no grid has
abbrev pub count_tests : Counts → Tests
count_tests n = each_axis λ a. ((count_on n a < 1) ⊎ (1024 < count_on n a)) gives at_axis 2 a

-- 2, then 3, SCOPE R3: not as many bytes as cells
abbrev pub shape_tests : Counts → ℕ → Tests
shape_tests n bytes = count_tests n else (¬ (bytes ≡ n.nx * n.ny * n.nz)) gives alone 3

-- 2, 3, then 4, SCOPE R4: a z that no layer has
abbrev pub layer_tests : (n : Counts) (bytes : ℕ) (z : ℤ) → Tests
layer_tests n bytes z = shape_tests n bytes else ((z <ℤ pos 0) ⊎ (pos n.nz ≤ℤ z)) gives alone 4

-- 5 (x, y, z), SCOPE R5: an end that is no cell of the grid
abbrev pub grid_tests : End → Counts → Cell → Tests
grid_tests e n c = each_axis λ a. ((on c a <ℤ pos 0) ⊎ (pos (count_on n a) ≤ℤ on c a)) gives at_end 5 e a

-- 2, 3, then 5 (P before Q)
abbrev pub walk_tests : (n : Counts) (bytes : ℕ) (p q : Cell) → Tests
walk_tests n bytes p q = shape_tests n bytes else grid_tests P n p else grid_tests Q n q

-- 2, 3, 5, then 6
abbrev pub trail_tests : (n : Counts) (bytes : ℕ) (p q : Cell) (cells room : ℕ) → Tests
trail_tests n bytes p q = list_tests (walk_tests n bytes p q)

-- ---- solid counts

-- 2, 3, then 6, SCOPE O9: fewer masks lent than there are bricks
abbrev pub bricks_tests : (n : Counts) (bytes lent : ℕ) → Tests
bricks_tests n bytes lent = shape_tests n bytes else (lent < (n.nx + 3) / 4 * ((n.ny + 3) / 4) * ((n.nz + 3) / 4)) gives alone 6

-- 2, 3, 6, then 5 (the low corner is P, the high one Q), then 14, SCOPE R14: the high corner is below the low one on some axis
abbrev pub corner_tests : (n : Counts) (bytes lent : ℕ) (low high : Cell) → Tests
corner_tests n bytes lent low high =
    bricks_tests n bytes lent else grid_tests P n low else grid_tests Q n high else
    ((high.x <ℤ low.x) ⊎ ((high.y <ℤ low.y) ⊎ (high.z <ℤ low.z))) gives alone 14

-- SCOPE R13: a mask of a brick that holds a cell of the box is not that of the bytes, or the total is below the ones of those masks, or above the
-- number of cells
abbrev pub Disagrees : (n : Counts) (l m : List ℕ) (total : ℕ) (low high : Cell) → Type 0
Disagrees n l m total low high =
    ((k : ℕ) × HoldsNamed n low high k × (¬ (get_or m k 0 ≡ mask_at n l k)))
    ⊎ ((total < ones_in n (corner low) (corner high) m) ⊎ (n.nx * n.ny * n.nz < total))

-- 2, 3, 6, 5, 14, then 13
abbrev pub box_tests : (n : Counts) (l m : List ℕ) (total : ℕ) (low high : Cell) → Tests
box_tests n l m total low high =
    corner_tests n (length l) (length m) low high else Disagrees n l m total low high gives alone 13

-- of a set: 2, 3, 6, 5 (its cell is P), then 13; never Q, and never 14
abbrev pub set_tests : (n : Counts) (l m : List ℕ) (total : ℕ) (cell : Cell) → Tests
set_tests n l m total cell =
    (bricks_tests n (length l) (length m) else grid_tests P n cell) else Disagrees n l m total cell cell gives alone 13

-- ---- metres

-- 7 (origin x, y, z, edge), SCOPE R7: a placement that is none
abbrev pub placement_tests : Placement → Tests
placement_tests at =
    (finite at.ox ≡ false) gives at_part 7 OriginX else
    (finite at.oy ≡ false) gives at_part 7 OriginY else
    (finite at.oz ≡ false) gives at_part 7 OriginZ else
    ((finite at.edge ≡ false) ⊎ (lt (as_f64 0) at.edge ≡ false)) gives at_part 7 Edge

-- one surveyed value: 8, SCOPE R8; then 9, SCOPE R9 and S5
abbrev pub value_tests : (e : End) (a : Axis) (count : ℕ) (value origin edge : Float) → Tests
value_tests e a count value origin edge =
    let q : Float = div binary64 (sub binary64 value origin) edge in
    (finite value ≡ false) gives at_end 8 e a else
    ((lt q (as_f64 0) ≡ true) ⊎ (lt (as_f64 count) q ≡ true)) gives at_end 9 e a

-- a surveyed point: x (8, then 9), y, z
abbrev pub point_tests : End → Counts → Placement → Point → Tests
point_tests e n at p =
    value_tests e X n.nx p.x at.ox at.edge else
    value_tests e Y n.ny p.y at.oy at.edge else
    value_tests e Z n.nz p.z at.oz at.edge

-- 2, 7, then the point, as P
abbrev pub cell_tests : Counts → Placement → Point → Tests
cell_tests n at p = count_tests n else placement_tests at else point_tests P n at p

-- 2, 3, 7, then the camera as P, then the ball as Q
abbrev pub sight_tests : (n : Counts) (bytes : ℕ) (at : Placement) (camera ball : Point) → Tests
sight_tests n bytes at camera ball = shape_tests n bytes else placement_tests at else point_tests P n at camera else point_tests Q n at ball

-- ---- records

-- 10, SCOPE V4: a record that is cut short, or has the length 0
abbrev pub whole_tests : List ℕ → Tests
whole_tests s =
    (length s < 4) gives alone 10 else
    (four_at s 0 ≡ 0) gives alone 10 else
    (length s < 4 + four_at s 0) gives alone 10

-- 11, SCOPE V5: of a venue, a version other than 1
abbrev pub version_test : List ℕ → Tests
version_test s = (¬ (get_or s 4 0 ≡ 1)) gives alone 11

-- the counts that a venue's record holds
abbrev pub counts_in : List ℕ → Counts
counts_in s = record { nx = two_at s 5; ny = two_at s 7; nz = two_at s 9 }

-- 10, 11, then 10: a length below 7; then 2, and 3: a length that is not 7 + nx·ny·nz
abbrev pub venue_tests : List ℕ → Tests
venue_tests s =
    whole_tests s else
    version_test s else
    (four_at s 0 < 7) gives alone 10 else
    count_tests (counts_in s) else
    (¬ (four_at s 0 ≡ 7 + two_at s 5 * two_at s 7 * two_at s 9)) gives alone 3

-- 10, 11, SCOPE V5: neither version 1 nor 2; then 10, SCOPE V7, V11: a length that is not that of its version, 13 or 14; then 12, SCOPE R12: in version 2
-- a last byte that names no rule
abbrev pub pair_tests : List ℕ → Tests
pair_tests s =
    let version : ℕ = get_or s 4 0 in
    let long : ℕ = four_at s 0 in
    let rule : ℕ = get_or s 17 0 in
    whole_tests s else
    ((¬ (version ≡ 1)) × (¬ (version ≡ 2))) gives alone 11 else
    (((version ≡ 1) × (¬ (long ≡ 13))) ⊎ ((version ≡ 2) × (¬ (long ≡ 14)))) gives alone 10 else
    ((version ≡ 2) × (¬ (rule ≡ 1)) × (¬ (rule ≡ 2))) gives alone 12

-- 2, 3, then 6, SCOPE V9: room too short for the record
abbrev pub write_tests : (n : Counts) (bytes room : ℕ) → Tests
write_tests n bytes room = shape_tests n bytes else (room < 11 + n.nx * n.ny * n.nz) gives alone 6

-- ---- rules

-- 12, SCOPE R12: a number that names no rule
abbrev pub rule_test : ℕ → Tests
rule_test number = ((¬ (number ≡ 1)) × (¬ (number ≡ 2))) gives alone 12

-- ---- the claims: every answer that meets a call's contract is given by the call's tests

-- line lists, of A+B+C+1 cells under either rule, of M+1 cells, and of as many as the touching line has
pub record LinesTold (p q : Cell) (entry exit : List ℤ) (r : Result ℕ Refusal) : Type 0 where
  pub six : (rule : Rule) → Line6 rule p q entry r exit → ByTests (line_tests p q (total (differences p q) + 1) (length entry)) (told_listed r)
  pub twenty_six : Line26 p q entry r exit → ByTests (line_tests p q (longest (differences p q) + 1) (length entry)) (told_listed r)
  pub touching : LineTouching p q entry r exit → ByTests (line_tests p q (length (touching_line p q)) (length entry)) (told_listed r)

-- the list of the trail, of as many cells as it has: the tests of a walk, then that of a list
pub record TrailsTold (how : Manner) (n : Counts) (l : List ℕ) (p q : Cell) (entry exit : List ℤ) (r : Result ℕ Refusal) : Type 0 where
  pub told : AdaptiveCells how n l p q entry r exit → ByTests (trail_tests n (length l) p q (length (trail how n l p q)) (length entry)) (told_listed r)

-- grid calls; a layer is empty exactly where its partner refuses
pub record GridsTold (n : Counts) (l : List ℕ) : Type 0 where
  pub shape : (bytes : ℕ) (r : Verdict) → Shapes n bytes r → ByTests (shape_tests n bytes) (told_verdict r)
  pub mark : (r : Verdict) (exit : List ℕ) → Marks n l r exit → ByTests (shape_tests n (length l)) (told_verdict r)
  pub complete : (r : Result Bool Refusal) → Completes n l r → ByTests (shape_tests n (length l)) (told_completeness r)
  pub layer_part : (z : ℤ) (r : Result LayerPart Refusal) → GivesLayerPart n (length l) z r → ByTests (layer_tests n (length l) z) (told_part r)
  pub layer : (z : ℤ) (cells part : Bor (List ℕ)) → GivesLayer n cells z part →
      (part.now ≡ []) ↔ ((t : Told) × First (layer_tests n (length cells.now) z) t)
  pub first_hit : (k : Walker) (how : Manner) (p q : Cell) (r : Result FirstHit Refusal) → Finds k how n l p q r → ByTests (walk_tests n (length l) p q) (told_hit r)
  pub first_touching : (start : Start) (p q : Cell) (r : Result FirstHit Refusal) → FindsTouching start n l p q r → ByTests (walk_tests n (length l) p q) (told_hit r)

-- calls that keep counts; a set is the refill of its cell
pub record TalliesTold (n : Counts) (l m : List ℕ) : Type 0 where
  pub build : (r : Result ℕ Refusal) (m' : List ℕ) → Builds n l m r m' → ByTests (bricks_tests n (length l) (length m)) (told_tally r)
  pub refill : (low high : Cell) (byte total : ℕ) (r : Result ℕ Refusal) (l' m' : List ℕ) → Refills n low high byte l m total r l' m' →
      ByTests (box_tests n l m total low high) (told_tally r)
  pub set : (cell : Cell) (byte total : ℕ) (r : Result ℕ Refusal) (l' m' : List ℕ) → Sets n cell byte l m total r l' m' →
      ByTests (set_tests n l m total cell) (told_tally r)

-- surveyed points
pub record PointsTold (n : Counts) (at : Placement) : Type 0 where
  pub cell_of : (p : Point) (r : Result Cell Refusal) → LooksUp n at p r → ByTests (cell_tests n at p) (told_lookup r)
  pub see : (how : Manner) (l : List ℕ) (camera ball : Point) (r : Sight) → Sees how n l at camera ball r →
      ByTests (sight_tests n (length l) at camera ball) (told_sight r)

-- records; a venue's part is empty exactly where its partner refuses
pub record RecordsTold : Type 0 where
  pub read_venue : (s : List ℕ) (r : Result Venue Refusal) → ReadsVenue s r → ByTests (venue_tests s) (told_venue r)
  pub venue_cells : (bytes part : Bor (List ℕ)) → GivesCells bytes part → (part.now ≡ []) ↔ ((t : Told) × First (venue_tests bytes.now) t)
  pub read_pair : (s : List ℕ) (r : Result Pair Refusal) → ReadsPair s r → ByTests (pair_tests s) (told_pair r)
  pub write_venue : (n : Counts) (cells entry exit : List ℕ) (r : Result ℕ Refusal) → WritesVenue n cells entry r exit →
      ByTests (write_tests n (length cells) (length entry)) (told_written r)

-- the calls for C that name a rule by a number: 12 first, then the tests of the call that they make. Their struct flattens an answer that these give.
pub record RulesTold : Type 0 where
  pub line6 : (rule : ℕ) (p q : Cell) (entry exit : List ℤ) (r : OatListed) → FlatLine6 rule p q entry r exit → (a : Result ℕ Refusal) × (r ≡ flat_listed a) ×
      ByTests (rule_test rule else line_tests p q (total (differences p q) + 1) (length entry)) (told_listed a)
  pub trails : (how : OatManner) (n : Counts) (l : List ℕ) (p q : Cell) (entry exit : List ℤ) (r : OatListed) → FlatAdaptiveCells how n l p q entry r exit →
      (a : Result ℕ Refusal) × (r ≡ flat_listed a) ×
      ByTests (rule_test how.rule else trail_tests n (length l) p q (length (trail (as_manner how) n l p q)) (length entry)) (told_listed a)
  pub walks : (w : Walker) (how : OatManner) (n : Counts) (l : List ℕ) (p q : Cell) (r : OatHit) → FlatFinds w how n l p q r →
      (a : Result FirstHit Refusal) × (r ≡ flat_hit a) × ByTests (rule_test how.rule else walk_tests n (length l) p q) (told_hit a)
  pub seen : (how : OatManner) (n : Counts) (l : List ℕ) (at : Placement) (camera ball : Point) (r : OatSight) → FlatSees how n l at camera ball r →
      (a : Sight) × (r ≡ flat_sight a) × ByTests (rule_test how.rule else sight_tests n (length l) at camera ball) (told_sight a)
