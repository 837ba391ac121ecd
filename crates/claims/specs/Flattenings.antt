-- What is claimed of the structs that the calls for C answer by: what C reads of an answer is what SCOPE says of it, as numbers; and of those that
-- the calls take: what they mean. Assumes nothing.
use Rattle.std.specs.Prelude.{true, false, Ok, Err, ℕ, ◌≤◌, ◌≡◌, ◌⊎◌, ◌↔◌, ℤ, pos, negsuc, Float}
use Rattle.std.proofs.Common.{inr}
use Rattle.cells.specs.declared.Axis.{Axis}
use Rattle.cells.specs.declared.Axis.TheVariants.{X, Y, Z}
use Rattle.cells.specs.declared.End.{End}
use Rattle.cells.specs.declared.End.TheVariants.{P, Q}
use Rattle.cells.specs.declared.Face.{Face}
use Rattle.cells.specs.declared.Part.{Part}
use Rattle.cells.specs.declared.Part.TheVariants.{OriginX, OriginY, OriginZ, Edge}
use Rattle.cells.specs.declared.Refusal.{Refusal}
use Rattle.cells.specs.declared.Rule.{Rule}
use Rattle.cells.specs.declared.Rule.TheVariants.{One, Two}
use Rattle.cells.specs.declared.Start.TheVariants.{Untested}
use Rattle.cells.specs.Manners.{usual, tested_start, tested_by, rule_of, rule_check}
use Rattle.cells.specs.Refusals.{Told, told_verdict}
use Rattle.lists.specs.Lists.{told_listed}
use Rattle.grids.specs.Grid.{part_at, told_part}
use Rattle.grids.specs.Marks.{told_completeness}
use Rattle.walks.specs.declared.Walker.TheVariants.{Plain}
use Rattle.walks.specs.declared.FirstHit.TheVariants as FirstHit
use Rattle.walks.specs.Answers.{told_hit}
use Rattle.survey.specs.Quotient.{as_f64}
use Rattle.survey.specs.Survey.{told_lookup}
use Rattle.sight.specs.declared.Sight.TheVariants as Sight
use Rattle.sight.specs.Sight.{told_sight}
use Rattle.records.specs.Venues.{told_venue}
use Rattle.records.specs.Pairs.{told_pair}
use Rattle.records.specs.Writing.{told_written}
use Rattle.structs.specs.declared.refusals.OatSaid.{OatSaid}
use Rattle.structs.specs.declared.walk_answers.OatHit.{OatHit}
use Rattle.structs.specs.Refusals.{end_number, axis_number, part_number, accepted, flat_refusal, said_of}
use Rattle.structs.specs.Faces.{face_number}
use Rattle.structs.specs.Inputs.{as_cell, as_counts, as_manner, as_placement, as_point}
use Rattle.structs.specs.LineAnswers.{flat_listed}
use Rattle.structs.specs.GridAnswers.{flat_verdict, flat_complete, flat_part}
use Rattle.bricks.specs.Builds.{told_tally}
use Rattle.structs.specs.BrickAnswers.{flat_tally}
use Rattle.structs.specs.WalkAnswers.{flat_hit}
use Rattle.oatmarten.specs.WalkCalls.{FlatFinds}
use Rattle.structs.specs.SightAnswers.{flat_found, flat_sight}
use Rattle.structs.specs.RecordAnswers.{rule_number, flat_venue, flat_pair, flat_written}
use Rattle.claims.specs.Example.{at, example_counts, example_cells}

-- 1. What C reads, over what SCOPE says of the answer.
pub record Flattened {A B F : Type 0} (says : A → Told ⊎ B) (flat : A → F) (said : F → OatSaid) : Type 0 where
  -- in `said` what is said of a refusal, or 0, 0, 0
  pub tells : (a : A) → said (flat a) ≡ said_of (says a)
  -- `refusal` is 0 exactly where the call was accepted
  pub where_0 : (a : A) → ((said (flat a)).refusal ≡ 0) ↔ ((v : B) × (says a ≡ inr v))
  -- nothing is lost: the struct tells which answer it flattens
  pub apart : (a b : A) → flat a ≡ flat b → a ≡ b

-- of each flattening
pub record Flattenings : Type 0 where
  pub lines : Flattened told_listed flat_listed (λ f. f.said)
  pub mark : Flattened told_verdict flat_verdict (λ f. f.said)
  pub complete : Flattened told_completeness flat_complete (λ f. f.said)
  pub layer : Flattened told_part flat_part (λ f. f.said)
  pub tallies : Flattened told_tally flat_tally (λ f. f.said)
  pub walks : Flattened told_hit flat_hit (λ f. f.said)
  pub found : Flattened told_lookup flat_found (λ f. f.said)
  pub seen : Flattened told_sight flat_sight (λ f. f.said)
  pub venue : Flattened told_venue flat_venue (λ f. f.said)
  pub pair : Flattened told_pair flat_pair (λ f. f.said)
  pub written : Flattened told_written flat_written (λ f. f.said)

-- SCOPE's table has the numbers 1 to 14
abbrev pub InTable : ℕ → Type 0
InTable k = (1 ≤ k) × (k ≤ 14)

-- the three numbers of `said`
abbrev pub three : (refusal end axis : ℕ) → OatSaid
three refusal end axis = record { refusal = refusal; end = end; axis = axis }

-- 2. The numbers that C reads, as include/oatmarten.h has them: of ends, axes, parts of a placement, entry faces and rules, of each refusal, and of
-- a call on a named input, P at (0,0,0) and Q at (0,2,0) of the program's venue, by either rule. They tell which refusal it is.
pub record SaidNumbers : Type 0 where
  pub ends : (end_number P ≡ 1) × (end_number Q ≡ 2)
  pub axes : (axis_number X ≡ 1) × (axis_number Y ≡ 2) × (axis_number Z ≡ 3)
  pub parts : (part_number OriginX ≡ 1) × (part_number OriginY ≡ 2) × (part_number OriginZ ≡ 3) × (part_number Edge ≡ 4)
  pub no_face : face_number Face.None ≡ pos 0
  pub rising : (face_number (Face.Plus X) ≡ pos 1) × (face_number (Face.Plus Y) ≡ pos 2) × (face_number (Face.Plus Z) ≡ pos 3)
  -- `negsuc` counts from -1 on
  pub falling : (face_number (Face.Minus X) ≡ negsuc 0) × (face_number (Face.Minus Y) ≡ negsuc 1) × (face_number (Face.Minus Z) ≡ negsuc 2)
  pub rules : (rule_number One ≡ 1) × (rule_number Two ≡ 2)
  pub fine : accepted ≡ three 0 0 0
  pub limit : (e : End) (a : Axis) → flat_refusal (Refusal.Limit e a) ≡ three 1 (end_number e) (axis_number a)
  pub count : (a : Axis) → flat_refusal (Refusal.Count a) ≡ three 2 0 (axis_number a)
  pub bytes : flat_refusal Refusal.Bytes ≡ three 3 0 0
  pub layer : flat_refusal Refusal.Layer ≡ three 4 0 0
  pub off_grid : (e : End) (a : Axis) → flat_refusal (Refusal.OffGrid e a) ≡ three 5 (end_number e) (axis_number a)
  pub no_room : flat_refusal Refusal.Room ≡ three 6 0 0
  pub placement : (p : Part) → flat_refusal (Refusal.Placement p) ≡ three 7 0 (part_number p)
  pub not_finite : (e : End) (a : Axis) → flat_refusal (Refusal.NotFinite e a) ≡ three 8 (end_number e) (axis_number a)
  pub off_survey : (e : End) (a : Axis) → flat_refusal (Refusal.OffSurvey e a) ≡ three 9 (end_number e) (axis_number a)
  pub no_record : flat_refusal Refusal.Record ≡ three 10 0 0
  pub version : flat_refusal Refusal.Version ≡ three 11 0 0
  pub no_rule : flat_refusal Refusal.NoRule ≡ three 12 0 0
  pub stale : flat_refusal Refusal.Stale ≡ three 13 0 0
  pub corners : flat_refusal Refusal.Corners ≡ three 14 0 0
  pub in_table : (r : Refusal) → InTable (flat_refusal r).refusal
  pub apart : (r s : Refusal) → flat_refusal r ≡ flat_refusal s → r ≡ s
  pub q_off_y : (start : ℕ) (rule : Rule) (r : OatHit) →
      FlatFinds Plain (record { start = start; rule = rule_number rule }) example_counts example_cells (at 0 0 0) (at 0 2 0) r → r.said ≡ three 5 2 2

-- 3. What each struct holds, for all values. Of an accepted answer: 0, 0, 0 in `said`, each value in its own field, and 0 in the fields that the
-- answer does not speak of. Of a refused one: the refusal's three numbers in `said`, and 0 in every other field.
pub record FlatRows : Type 0 where
  -- a list: `count` is the number of cells
  pub listed : (n : ℕ) → flat_listed (Ok n) ≡ record { said = three 0 0 0; count = n }
  pub listed_refused : (r : Refusal) → flat_listed (Err r) ≡ record { said = flat_refusal r; count = 0 }
  -- a marking: `said` alone
  pub verdict : flat_verdict (Ok tt) ≡ record { said = three 0 0 0 }
  pub verdict_refused : (r : Refusal) → flat_verdict (Err r) ≡ record { said = flat_refusal r }
  -- completeness: `yes` is 1 for yes, 0 for no
  pub yes : flat_complete (Ok true) ≡ record { said = three 0 0 0; yes = 1 }
  pub no : flat_complete (Ok false) ≡ record { said = three 0 0 0; yes = 0 }
  pub complete_refused : (r : Refusal) → flat_complete (Err r) ≡ record { said = flat_refusal r; yes = 0 }
  -- a layer's part: `offset` is where it starts, `length` how long it is
  pub part : (start many : ℕ) → flat_part (Ok (part_at start many)) ≡ record { said = three 0 0 0; offset = start; length = many }
  pub part_refused : (r : Refusal) → flat_part (Err r) ≡ record { said = flat_refusal r; offset = 0; length = 0 }
  -- a build, a set or a refill: `total` is the number of solid cells
  pub tally : (many : ℕ) → flat_tally (Ok many) ≡ record { said = three 0 0 0; total = many }
  pub tally_refused : (r : Refusal) → flat_tally (Err r) ≡ record { said = flat_refusal r; total = 0 }
  -- a walk: `hit` is 1 where it hit, with the cell, its code, the place num over den, the face, and the reads; 0 where it is clear, with the reads
  pub hit : (x y z : ℤ) (code num den : ℕ) (f : Face) (reads : ℕ) →
      flat_hit
      (Ok
      (FirstHit.Hit (record { cell = record { x = x; y = y; z = z }; code = code; place = record { num = num; den = den; face = f }; reads = reads }))) ≡
      record { said = three 0 0 0; hit = 1; x = x; y = y; z = z; code = code; num = num; den = den; face = face_number f; reads = reads }
  pub walk_clear : (reads : ℕ) → flat_hit (Ok (FirstHit.Clear reads)) ≡
      record { said = three 0 0 0; hit = 0; x = pos 0; y = pos 0; z = pos 0; code = 0; num = 0; den = 0; face = pos 0; reads = reads }
  pub walk_refused : (r : Refusal) → flat_hit (Err r) ≡
      record { said = flat_refusal r; hit = 0; x = pos 0; y = pos 0; z = pos 0; code = 0; num = 0; den = 0; face = pos 0; reads = 0 }
  -- a point's cell: its x, y and z
  pub found : (x y z : ℤ) → flat_found (Ok (record { x = x; y = y; z = z })) ≡ record { said = three 0 0 0; x = x; y = y; z = z }
  pub found_refused : (r : Refusal) → flat_found (Err r) ≡ record { said = flat_refusal r; x = pos 0; y = pos 0; z = pos 0 }
  -- a sight: `blocked` is 1 where a cell is in the way, with the share of the way, the cell, its code, the reads, and the face; 0 where it is clear
  pub blocked : (share : Float) (x y z : ℤ) (code reads : ℕ) (f : Face) →
      flat_sight (Sight.Blocked (record { share = share; cell = record { x = x; y = y; z = z }; code = code; reads = reads; face = f })) ≡
      record { said = three 0 0 0; blocked = 1; share = share; x = x; y = y; z = z; code = code; reads = reads; face = face_number f }
  pub sight_clear : flat_sight Sight.Clear ≡
      record { said = three 0 0 0; blocked = 0; share = as_f64 0; x = pos 0; y = pos 0; z = pos 0; code = 0; reads = 0; face = pos 0 }
  pub sight_refused : (r : Refusal) → flat_sight (Sight.Refused r) ≡
      record { said = flat_refusal r; blocked = 0; share = as_f64 0; x = pos 0; y = pos 0; z = pos 0; code = 0; reads = 0; face = pos 0 }
  -- a venue's record: the three counts; `offset` is where its cells start, `length` how many they are
  pub venue : (nx ny nz start long : ℕ) →
      flat_venue (Ok (record { counts = record { nx = nx; ny = ny; nz = nz }; start = start; long = long })) ≡
      record { said = three 0 0 0; nx = nx; ny = ny; nz = nz; offset = start; length = long }
  pub venue_refused : (r : Refusal) → flat_venue (Err r) ≡
      record { said = flat_refusal r; nx = 0; ny = 0; nz = 0; offset = 0; length = 0 }
  -- a pair's record: px, py, pz are those of P, qx, qy, qz those of Q, and `rule` is the rule's number
  pub pair : (px py pz qx qy qz : ℤ) (rule : Rule) →
      flat_pair (Ok (record { p = record { x = px; y = py; z = pz }; q = record { x = qx; y = qy; z = qz }; rule = rule })) ≡
      record { said = three 0 0 0; px = px; py = py; pz = pz; qx = qx; qy = qy; qz = qz; rule = rule_number rule }
  pub pair_refused : (r : Refusal) → flat_pair (Err r) ≡
      record { said = flat_refusal r; px = pos 0; py = pos 0; pz = pos 0; qx = pos 0; qy = pos 0; qz = pos 0; rule = 0 }
  -- a venue's record that was written: `written` is the number of bytes
  pub written : (many : ℕ) → flat_written (Ok many) ≡ record { said = three 0 0 0; written = many }
  pub written_refused : (r : Refusal) → flat_written (Err r) ≡ record { said = flat_refusal r; written = 0 }

-- 4. What the structs that the calls take mean, for all values: the cell, counts, placement and point with the same value under each name; of a manner
-- the start 0 is one that is not tested, and any other number one that is; the rules 1 and 2 are named by their numbers, and any other number names none,
-- and is refused 12. The default is the start 0 with the rule 1.
pub record InputRows : Type 0 where
  pub cell : (x y z : ℤ) → as_cell (record { x = x; y = y; z = z }) ≡ record { x = x; y = y; z = z }
  pub counts : (nx ny nz : ℕ) → as_counts (record { nx = nx; ny = ny; nz = nz }) ≡ record { nx = nx; ny = ny; nz = nz }
  pub untested : as_manner (record { start = 0; rule = 1 }) ≡ usual
  pub untested_two : as_manner (record { start = 0; rule = 2 }) ≡ record { start = Untested; rule = Two }
  pub tested : (number : ℕ) → (number ≡ 0 → ⊥) → as_manner (record { start = number; rule = 1 }) ≡ tested_start
  pub tested_two : (number : ℕ) → (number ≡ 0 → ⊥) → as_manner (record { start = number; rule = 2 }) ≡ tested_by Two
  pub named_rule : (rule : Rule) → (rule_check (rule_number rule) ≡ Ok tt) × (rule_of (rule_number rule) ≡ rule)
  pub no_rule : (number : ℕ) → (number ≡ 1 → ⊥) → (number ≡ 2 → ⊥) → rule_check number ≡ Err Refusal.NoRule
  pub placement : (ox oy oz edge : Float) →
      as_placement (record { ox = ox; oy = oy; oz = oz; edge = edge }) ≡ record { ox = ox; oy = oy; oz = oz; edge = edge }
  pub point : (x y z : Float) → as_point (record { x = x; y = y; z = z }) ≡ record { x = x; y = y; z = z }
