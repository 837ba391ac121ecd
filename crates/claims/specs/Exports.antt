-- What is claimed of the calls for C, by the contracts of those exports that answer a struct (ExportTies: they are the sources' own). Assumes nothing.
use Rattle.std.specs.Prelude.{Bool, Result, ℕ, ◌≤◌, ◌≡◌, List, [], ◌∷◌, ℤ, pos}
use Rattle.cells.specs.declared.Refusal.{Refusal}
use Rattle.records.specs.declared.venues.Venue.{Venue}
use Rattle.records.specs.declared.pairs.Pair.{Pair}
use Rattle.cells.specs.declared.Cell.{Cell}
use Rattle.cells.specs.declared.Counts.{Counts}
use Rattle.cells.specs.declared.Rule.{Rule}
use Rattle.cells.specs.Checks.{Verdict}
use Rattle.lists.specs.Lists.{Line6, Line26}
use Rattle.grids.specs.declared.LayerPart.{LayerPart}
use Rattle.grids.specs.Grid.{GivesLayerPart}
use Rattle.grids.specs.Marks.{Marks, Completes}
use Rattle.bricks.specs.Builds.{Builds}
use Rattle.refills.specs.Refills.{Refills, Sets}
use Rattle.walks.specs.declared.Walker.{Walker}
use Rattle.walks.specs.declared.FirstHit.{FirstHit}
use Rattle.walks.specs.Answers.{Finds}
use Rattle.touching.specs.Touching.{LineTouching, FindsTouching}
use Rattle.trails.specs.Trails.{AdaptiveCells}
use Rattle.survey.specs.declared.Placement.{Placement}
use Rattle.survey.specs.declared.Point.{Point}
use Rattle.survey.specs.Quotient.{as_f64}
use Rattle.survey.specs.Survey.{LooksUp}
use Rattle.sight.specs.declared.Sight.{Sight}
use Rattle.sight.specs.Sight.{Sees}
use Rattle.records.specs.Venues.{ReadsVenue}
use Rattle.records.specs.Pairs.{ReadsPair}
use Rattle.records.specs.Writing.{WritesVenue}
use Rattle.structs.specs.declared.inputs.OatManner.{OatManner}
use Rattle.structs.specs.declared.refusals.OatSaid.{OatSaid}
use Rattle.structs.specs.declared.line_answers.OatListed.{OatListed}
use Rattle.structs.specs.declared.grid_answers.OatVerdict.{OatVerdict}
use Rattle.structs.specs.declared.grid_answers.OatComplete.{OatComplete}
use Rattle.structs.specs.declared.grid_answers.OatPart.{OatPart}
use Rattle.structs.specs.declared.brick_answers.OatTally.{OatTally}
use Rattle.structs.specs.declared.walk_answers.OatHit.{OatHit}
use Rattle.structs.specs.declared.sight_answers.OatFound.{OatFound}
use Rattle.structs.specs.declared.sight_answers.OatSight.{OatSight}
use Rattle.structs.specs.declared.record_answers.OatVenue.{OatVenue}
use Rattle.structs.specs.declared.record_answers.OatPair.{OatPair}
use Rattle.structs.specs.declared.record_answers.OatWritten.{OatWritten}
use Rattle.structs.specs.Inputs.{as_start}
use Rattle.structs.specs.LineAnswers.{flat_listed}
use Rattle.oatmarten.specs.LineCalls.{FlatLine6, FlatLine26, FlatLineTouching}
use Rattle.structs.specs.GridAnswers.{flat_verdict, flat_complete, flat_part}
use Rattle.oatmarten.specs.GridCalls.{FlatMarks, FlatCompletes, FlatGivesLayerPart}
use Rattle.structs.specs.BrickAnswers.{flat_tally}
use Rattle.oatmarten.specs.BrickCalls.{FlatBuilds, FlatSets, FlatRefills}
use Rattle.structs.specs.WalkAnswers.{flat_hit}
use Rattle.oatmarten.specs.WalkCalls.{FlatFinds, FlatAdaptiveCells, FlatFindsTouching}
use Rattle.structs.specs.SightAnswers.{flat_found, flat_sight}
use Rattle.oatmarten.specs.SightCalls.{FlatLooksUp, FlatSees}
use Rattle.structs.specs.RecordAnswers.{rule_number, flat_venue, flat_pair, flat_written}
use Rattle.oatmarten.specs.RecordCalls.{FlatReadsVenue, FlatReadsPair, FlatWritesVenue}
use Rattle.claims.specs.Example.{at, example_counts, example_cells, marked_cells, set_cells, sevens}
use Rattle.claims.specs.Lists.{room}
use Rattle.claims.specs.Grids.{two_layers}
use Rattle.claims.specs.Records.{example_room}
use Rattle.claims.specs.Flattenings.{three}

-- a contract that admits one struct; and one that admits one struct and one final memory
abbrev pub One : {F : Type 0} → (F → Type 0) → Type 0
One {F} Contract = (r s : F) → Contract r → Contract s → r ≡ s

abbrev pub OneEach : {F M : Type 0} → (F → M → Type 0) → Type 0
OneEach {F} {M} Contract = (r s : F) (exit last : M) → Contract r exit → Contract s last → (r ≡ s) × (exit ≡ last)

-- and one that admits one struct and one final memory of two kinds, bytes and masks
abbrev pub OnePair : {F M N : Type 0} → (F → M → N → Type 0) → Type 0
OnePair {F} {M} {N} Contract =
    (r s : F) (exit last : M) (lent left : N) → Contract r exit lent → Contract s last left → (r ≡ s) × (exit ≡ last) × (lent ≡ left)

-- 1. One answer and one final memory for each input, whatever number names the rule. `walks` is of oat_plain and oat_adaptive.
pub record ExportsOnce : Type 0 where
  pub line6 : (rule : ℕ) (p q : Cell) (entry : List ℤ) → OneEach (FlatLine6 rule p q entry)
  pub line26 : (p q : Cell) (entry : List ℤ) → OneEach (FlatLine26 p q entry)
  pub line_touching : (p q : Cell) (entry : List ℤ) → OneEach (FlatLineTouching p q entry)
  pub mark : (n : Counts) (entry : List ℕ) → OneEach (FlatMarks n entry)
  pub complete : (n : Counts) (cells : List ℕ) → One (FlatCompletes n cells)
  pub layer : (n : Counts) (bytes : ℕ) (z : ℤ) → One (FlatGivesLayerPart n bytes z)
  pub build : (n : Counts) (cells entry : List ℕ) → OneEach (FlatBuilds n cells entry)
  pub set : (n : Counts) (cell : Cell) (byte : ℕ) (l m : List ℕ) (total : ℕ) → OnePair (FlatSets n cell byte l m total)
  pub refill : (n : Counts) (low high : Cell) (byte : ℕ) (l m : List ℕ) (total : ℕ) → OnePair (FlatRefills n low high byte l m total)
  pub walks : (w : Walker) (how : OatManner) (n : Counts) (cells : List ℕ) (p q : Cell) → One (FlatFinds w how n cells p q)
  pub adaptive_cells : (how : OatManner) (n : Counts) (cells : List ℕ) (p q : Cell) (entry : List ℤ) → OneEach (FlatAdaptiveCells how n cells p q entry)
  pub touching : (s : ℕ) (n : Counts) (cells : List ℕ) (p q : Cell) → One (FlatFindsTouching (as_start s) n cells p q)
  pub found : (n : Counts) (at : Placement) (p : Point) → One (FlatLooksUp n at p)
  pub seen : (how : OatManner) (n : Counts) (cells : List ℕ) (at : Placement) (camera ball : Point) → One (FlatSees how n cells at camera ball)
  pub venue : (bytes : List ℕ) → One (FlatReadsVenue bytes)
  pub pair : (bytes : List ℕ) → One (FlatReadsPair bytes)
  pub written : (n : Counts) (cells entry : List ℕ) → OneEach (FlatWritesVenue n cells entry)

-- where `refusal` is not 0, the lent memory is as it was
abbrev pub Untouched : {F M : Type 0} → (F → OatSaid) → (F → M → Type 0) → M → Type 0
Untouched {F} {M} said Contract entry = (r : F) (exit : M) → Contract r exit → ((said r).refusal ≡ 0 → ⊥) → exit ≡ entry

-- and so of bytes and masks
abbrev pub BothUntouched : (OatTally → List ℕ → List ℕ → Type 0) → List ℕ → List ℕ → Type 0
BothUntouched Contract l m = (r : OatTally) (l' m' : List ℕ) → Contract r l' m' → (r.said.refusal ≡ 0 → ⊥) → (l' ≡ l) × (m' ≡ m)

-- 2. A refusal writes nothing, 12 included: of the calls that write.
pub record RefusedUntouched : Type 0 where
  pub line6 : (rule : ℕ) (p q : Cell) (entry : List ℤ) → Untouched (λ f. f.said) (FlatLine6 rule p q entry) entry
  pub line26 : (p q : Cell) (entry : List ℤ) → Untouched (λ f. f.said) (FlatLine26 p q entry) entry
  pub line_touching : (p q : Cell) (entry : List ℤ) → Untouched (λ f. f.said) (FlatLineTouching p q entry) entry
  pub adaptive_cells : (how : OatManner) (n : Counts) (cells : List ℕ) (p q : Cell) (entry : List ℤ) →
      Untouched (λ f. f.said) (FlatAdaptiveCells how n cells p q entry) entry
  pub mark : (n : Counts) (entry : List ℕ) → Untouched (λ f. f.said) (FlatMarks n entry) entry
  pub build : (n : Counts) (cells entry : List ℕ) → Untouched (λ f. f.said) (FlatBuilds n cells entry) entry
  pub set : (n : Counts) (cell : Cell) (byte : ℕ) (l m : List ℕ) (total : ℕ) → BothUntouched (FlatSets n cell byte l m total) l m
  pub refill : (n : Counts) (low high : Cell) (byte : ℕ) (l m : List ℕ) (total : ℕ) → BothUntouched (FlatRefills n low high byte l m total) l m
  pub written : (n : Counts) (cells entry : List ℕ) → Untouched (λ f. f.said) (FlatWritesVenue n cells entry) entry

-- 3. Wrong answers that the contracts shut out, on named inputs: a 6-line by either rule, a trail, a marking, a build, a set and a venue's record that leave
-- the memory as it was, whatever the struct says; a refill without its high corner; a walk or a trail in a manner of zeros, with any answer but 12; a marking
-- that refuses the program's venue; marks of it that are complete; the first layer for the second.
pub record WrongExports : Type 0 where
  pub idle_line : (rule : Rule) (r : OatListed) → FlatLine6 (rule_number rule) (at 0 0 0) (at 2 1 0) room r room → ⊥
  pub zeroed_manner : (w : Walker) (n : Counts) (cells : List ℕ) (p q : Cell) (r : OatHit) → FlatFinds w (record { start = 0; rule = 0 }) n cells p q r →
      (r.said.refusal ≡ 12 → ⊥) → ⊥
  pub idle_trail : (r : OatListed) →
      FlatAdaptiveCells (record { start = 0; rule = 1 }) example_counts marked_cells (at 0 0 0) (at 3 1 0) (sevens 9) r (sevens 9) → ⊥
  pub zeroed_trail : (n : Counts) (cells : List ℕ) (p q : Cell) (entry exit : List ℤ) (r : OatListed) →
      FlatAdaptiveCells (record { start = 0; rule = 0 }) n cells p q entry r exit → (r.said.refusal ≡ 12 → ⊥) → ⊥
  pub idle_marker : (r : OatVerdict) → FlatMarks example_counts example_cells r example_cells → ⊥
  pub idle_writer : (r : OatWritten) → FlatWritesVenue example_counts example_cells example_room r example_room → ⊥
  pub refusing_marker : (r : OatVerdict) (exit : List ℕ) → FlatMarks example_counts example_cells r exit → 1 ≤ r.said.refusal → ⊥
  pub complete_always : (r : OatComplete) → FlatCompletes example_counts example_cells r → r.yes ≡ 1 → ⊥
  pub idle_build : (r : OatTally) → FlatBuilds example_counts example_cells (0 ∷ []) r (0 ∷ []) → ⊥
  pub idle_set : (r : OatTally) (masks : List ℕ) → FlatSets example_counts (at 0 0 0) 2 marked_cells (32 ∷ []) 1 r marked_cells masks → ⊥
  pub high_corner_left_out : (r : OatTally) (masks : List ℕ) →
      FlatRefills example_counts (at 0 0 0) (at 1 0 0) 2 marked_cells (32 ∷ []) 1 r set_cells masks → ⊥
  pub first_layer : (r : OatPart) → FlatGivesLayerPart two_layers 4 (pos 1) r → r.offset ≡ 0 → ⊥

-- 4. Each call for C gives what the call of the engine gives: its struct is the flattening of an answer that meets that call's own contract (Ties: it
-- is the source's), on the same inputs and with the same final memory; by the rule that is named by its number. `walks` is of oat_plain and
-- oat_adaptive. (What the flattenings hold, and what the start's number means: Flattenings.)
pub record ExportsAre : Type 0 where
  pub line6 : (rule : Rule) (p q : Cell) (entry exit : List ℤ) (r : OatListed) → FlatLine6 (rule_number rule) p q entry r exit →
      (a : Result ℕ Refusal) × Line6 rule p q entry a exit × (r ≡ flat_listed a)
  pub line26 : (p q : Cell) (entry exit : List ℤ) (r : OatListed) → FlatLine26 p q entry r exit →
      (a : Result ℕ Refusal) × Line26 p q entry a exit × (r ≡ flat_listed a)
  pub line_touching : (p q : Cell) (entry exit : List ℤ) (r : OatListed) → FlatLineTouching p q entry r exit →
      (a : Result ℕ Refusal) × LineTouching p q entry a exit × (r ≡ flat_listed a)
  pub mark : (n : Counts) (entry exit : List ℕ) (r : OatVerdict) → FlatMarks n entry r exit → (a : Verdict) × Marks n entry a exit × (r ≡ flat_verdict a)
  pub complete : (n : Counts) (cells : List ℕ) (r : OatComplete) → FlatCompletes n cells r → (a : Result Bool Refusal) × Completes n cells a × (r ≡ flat_complete a)
  pub layer : (n : Counts) (bytes : ℕ) (z : ℤ) (r : OatPart) → FlatGivesLayerPart n bytes z r →
      (a : Result LayerPart Refusal) × GivesLayerPart n bytes z a × (r ≡ flat_part a)
  pub build : (n : Counts) (cells entry exit : List ℕ) (r : OatTally) → FlatBuilds n cells entry r exit →
      (a : Result ℕ Refusal) × Builds n cells entry a exit × (r ≡ flat_tally a)
  pub set : (n : Counts) (cell : Cell) (byte : ℕ) (l m : List ℕ) (total : ℕ) (l' m' : List ℕ) (r : OatTally) →
      FlatSets n cell byte l m total r l' m' → (a : Result ℕ Refusal) × Sets n cell byte l m total a l' m' × (r ≡ flat_tally a)
  pub refill : (n : Counts) (low high : Cell) (byte : ℕ) (l m : List ℕ) (total : ℕ) (l' m' : List ℕ) (r : OatTally) →
      FlatRefills n low high byte l m total r l' m' → (a : Result ℕ Refusal) × Refills n low high byte l m total a l' m' × (r ≡ flat_tally a)
  pub walks : (w : Walker) (s : ℕ) (rule : Rule) (n : Counts) (cells : List ℕ) (p q : Cell) (r : OatHit) →
      FlatFinds w (record { start = s; rule = rule_number rule }) n cells p q r →
      (a : Result FirstHit Refusal) × Finds w (record { start = as_start s; rule = rule }) n cells p q a × (r ≡ flat_hit a)
  pub adaptive_cells : (s : ℕ) (rule : Rule) (n : Counts) (cells : List ℕ) (p q : Cell) (entry exit : List ℤ) (r : OatListed) →
      FlatAdaptiveCells (record { start = s; rule = rule_number rule }) n cells p q entry r exit →
      (a : Result ℕ Refusal) × AdaptiveCells (record { start = as_start s; rule = rule }) n cells p q entry a exit × (r ≡ flat_listed a)
  pub touching : (s : ℕ) (n : Counts) (cells : List ℕ) (p q : Cell) (r : OatHit) → FlatFindsTouching (as_start s) n cells p q r →
      (a : Result FirstHit Refusal) × FindsTouching (as_start s) n cells p q a × (r ≡ flat_hit a)
  pub found : (n : Counts) (at : Placement) (p : Point) (r : OatFound) → FlatLooksUp n at p r → (a : Result Cell Refusal) × LooksUp n at p a × (r ≡ flat_found a)
  pub seen : (s : ℕ) (rule : Rule) (n : Counts) (cells : List ℕ) (at : Placement) (camera ball : Point) (r : OatSight) →
      FlatSees (record { start = s; rule = rule_number rule }) n cells at camera ball r →
      (a : Sight) × Sees (record { start = as_start s; rule = rule }) n cells at camera ball a × (r ≡ flat_sight a)
  pub venue : (bytes : List ℕ) (r : OatVenue) → FlatReadsVenue bytes r → (a : Result Venue Refusal) × ReadsVenue bytes a × (r ≡ flat_venue a)
  pub pair : (bytes : List ℕ) (r : OatPair) → FlatReadsPair bytes r → (a : Result Pair Refusal) × ReadsPair bytes a × (r ≡ flat_pair a)
  pub written : (n : Counts) (cells entry exit : List ℕ) (r : OatWritten) → FlatWritesVenue n cells entry r exit →
      (a : Result ℕ Refusal) × WritesVenue n cells entry a exit × (r ≡ flat_written a)

-- 5. A number that is neither 1 nor 2 names no rule: 12 with no end and no axis, 0 in every other field, and the memory as it was.
pub record NoSuchRule (number : ℕ) : Type 0 where
  pub line6 : (number ≡ 1 → ⊥) → (number ≡ 2 → ⊥) → (p q : Cell) (entry exit : List ℤ) (r : OatListed) → FlatLine6 number p q entry r exit →
      (r ≡ record { said = three 12 0 0; count = 0 }) × (exit ≡ entry)
  pub adaptive_cells : (number ≡ 1 → ⊥) → (number ≡ 2 → ⊥) → (s : ℕ) (n : Counts) (cells : List ℕ) (p q : Cell) (entry exit : List ℤ) (r : OatListed) →
      FlatAdaptiveCells (record { start = s; rule = number }) n cells p q entry r exit → (r ≡ record { said = three 12 0 0; count = 0 }) × (exit ≡ entry)
  pub walks : (number ≡ 1 → ⊥) → (number ≡ 2 → ⊥) → (w : Walker) (s : ℕ) (n : Counts) (cells : List ℕ) (p q : Cell) (r : OatHit) →
      FlatFinds w (record { start = s; rule = number }) n cells p q r →
      r ≡ record { said = three 12 0 0; hit = 0; x = pos 0; y = pos 0; z = pos 0; code = 0; num = 0; den = 0; face = pos 0; reads = 0 }
  pub seen : (number ≡ 1 → ⊥) → (number ≡ 2 → ⊥) → (s : ℕ) (n : Counts) (cells : List ℕ) (at : Placement) (camera ball : Point) (r : OatSight) →
      FlatSees (record { start = s; rule = number }) n cells at camera ball r →
      r ≡ record { said = three 12 0 0; blocked = 0; share = as_f64 0; x = pos 0; y = pos 0; z = pos 0; code = 0; reads = 0; face = pos 0 }
