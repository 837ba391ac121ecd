-- The users' three demands, the kept counts and the touching line, a record each, in the words of the calls' contracts. A tester may read this page alone; each name leads to its file.
-- Assumes nothing.
use Rattle.std.specs.Prelude.{true, Ok, Result, ℕ, ◌≤◌, ◌≡◌, List, ◌++◌, ℤ, take}
use Rattle.records.specs.declared.venues.Venue.{Venue}
use Rattle.std.specs.Borrow.{Bor}
use Rattle.cells.specs.declared.Cell.{Cell}
use Rattle.cells.specs.declared.Counts.{Counts}
use Rattle.cells.specs.declared.Manner.{Manner}
use Rattle.cells.specs.declared.Refusal.{Refusal}
use Rattle.cells.specs.declared.Rule.{Rule}
use Rattle.cells.specs.declared.Start.{Start}
use Rattle.cells.specs.Checks.{Verdict}
use Rattle.lines.specs.Steps.{total}
use Rattle.lines.specs.Preference.{by_rule}
use Rattle.lines.specs.Lines.{differences, six_cell}
use Rattle.lines.specs.Segment.{Share, InOpen, InClosed}
use Rattle.grids.specs.Marks.{Completes}
use Rattle.walks.specs.declared.Walker.TheVariants.{Plain, Adaptive}
use Rattle.walks.specs.declared.Hit.{Hit}
use Rattle.walks.specs.declared.FirstHit.{FirstHit}
use Rattle.walks.specs.Answers.{Finds}
use Rattle.survey.specs.declared.Placement.{Placement}
use Rattle.survey.specs.declared.Point.{Point}
use Rattle.sight.specs.declared.Sight.TheVariants as Sight
use Rattle.sight.specs.Sight.{Sees}
use Rattle.records.specs.Venues.{ReadsVenue, GivesCells}
use Rattle.records.specs.Writing.{WritesVenue}
use Rattle.claims.specs.Ties.{AsksNothing, Promised}
use Rattle.claims.specs.ExportTies.{ExportsAskNothing, ExportsPromised}
use Rattle.claims.specs.Refused.{LinesTold, TrailsTold, GridsTold, TalliesTold, PointsTold, RecordsTold, RulesTold}
use Rattle.claims.specs.Exports.{ExportsAre, NoSuchRule, ExportsOnce, RefusedUntouched}
use Rattle.claims.specs.Flattenings.{Flattenings}
use Rattle.claims.specs.Words.{OneNumber}
use Rattle.claims.specs.Lists.{ListedOnce, CellsListed}
use Rattle.claims.specs.Lines.{OnePlace, SixLine, TwentySixLine}
use Rattle.claims.specs.Grids as grids
use Rattle.claims.specs.Kept.{KeptOnce, Masks, BuildMeans, RefillMeans, SetMeans}
use Rattle.claims.specs.Sequences.{FromABuildOn, Keeping}
use Rattle.claims.specs.Points as points
use Rattle.claims.specs.Records as records
use Rattle.claims.specs.Sights.{SeenOnce, OpenWay}
use Rattle.claims.specs.Story.{SameStory, NoLater, FirstOnLine, HitFace, HitOnce, WalksEnd, StepByStep, AdaptiveStep, AsItsWalk}
use Rattle.claims.specs.Shells.{Shells, FacesAlone, AsksLess, NoDearer}
use Rattle.claims.specs.Starts.{StartTest, TwoStarts}
use Rattle.claims.specs.Rules.{TheRules, Mirror, BothWays}
use Rattle.claims.specs.Trails.{TrailListed, BesideFirstHit}
use Rattle.claims.specs.Touching.{TouchedCells, CrossingOrder, OverSixLines, TouchingListed, TouchingHits, TouchingStarts, BesidePlain, TouchingOnce}

-- 1. Every public call takes any numbers and any lent memory, has one answer and one final memory for each input, and refuses by number exactly
-- where SCOPE's table says, in its order; a refusal writes nothing.
-- (That it stops is part of every proof of a call.)
pub record TakesAnything : Type 1 where
  pub asks_nothing : AsksNothing
  pub promised : Promised
  pub numbers : (r : Refusal) → OneNumber r
  pub lists : (line : List Cell) (first : Verdict) (entry : List ℤ) → ListedOnce line first entry
  pub grid_calls : grids.OneAnswer
  pub marking : (n : Counts) (l : List ℕ) → grids.MarkedCall n l
  pub walks : (how : Manner) (n : Counts) (l : List ℕ) (p q : Cell) → HitOnce how n l p q
  pub touching : (start : Start) (n : Counts) (l : List ℕ) (p q : Cell) → TouchingOnce start n l p q
  pub counts : KeptOnce
  pub cells : (n : Counts) (at : Placement) (p : Point) → points.OneAnswer n at p
  pub sights : (how : Manner) (n : Counts) (l : List ℕ) (at : Placement) (camera ball : Point) → SeenOnce how n l at camera ball
  pub record_calls : records.OneAnswer
  pub list_refusals : (p q : Cell) (entry exit : List ℤ) (r : Result ℕ Refusal) → LinesTold p q entry exit r
  pub trail_refusals : (how : Manner) (n : Counts) (l : List ℕ) (p q : Cell) (entry exit : List ℤ) (r : Result ℕ Refusal) → TrailsTold how n l p q entry exit r
  pub grid_refusals : (n : Counts) (l : List ℕ) → GridsTold n l
  pub count_refusals : (n : Counts) (l m : List ℕ) → TalliesTold n l m
  pub point_refusals : (n : Counts) (at : Placement) → PointsTold n at
  pub record_refusals : RecordsTold
  pub for_c : ExportsAskNothing × ExportsPromised × ExportsAre × Flattenings × ExportsOnce × RefusedUntouched
  pub rules_for_c : RulesTold × ((number : ℕ) → NoSuchRule number)

-- 2. The lines are the paper's, made exact: at each place of the 6-line every crossing made comes before every one not made, ties by its rule, and
-- no other place has that; its cells go from P to Q, each touched by the segment, and no cell is missing whose inside the segment enters. The list
-- calls write just these cells; by rule 2 the line from Q to P is the mirror. Both walks start at P and go on by what comes next, to the first hit
-- or to Q: for the plain walk that is the 6-line to its first hit, for the adaptive one long steps at clear cells of the 26-line. A hit is a solid
-- cell; P is none where the start is not tested. The calls answer from where these walks end, with their cells as the reads; and the
-- list of the adaptive walk's trail writes just these cells. A venue written and read back is the same venue.
pub record AreThePapers : Type 0 where
  pub rules : (p q : Cell) → TheRules p q
  pub order : (rule : Rule) (p q : Cell) → OnePlace (by_rule rule p q) (differences p q)
  pub six : (rule : Rule) (p q : Cell) → SixLine (by_rule rule p q) p q
  pub touched : (rule : Rule) (p q : Cell) (n : ℕ) → n ≤ total (differences p q) →
      (k : ℕ) × (d : ℕ) × Share k d × InClosed p q k d (six_cell (by_rule rule p q) p q n)
  pub none_missing : (rule : Rule) (p q : Cell) (k d : ℕ) (c : Cell) → Share k d → InOpen p q k d c →
      (n : ℕ) × (n ≤ total (differences p q)) × (six_cell (by_rule rule p q) p q n ≡ c)
  pub twenty_six : (rule : Rule) (p q : Cell) → TwentySixLine (by_rule rule p q) p q
  pub mirror : (p q : Cell) → Mirror p q
  pub listed : (p q : Cell) (entry exit : List ℤ) (k : ℕ) → CellsListed p q entry exit k
  pub walks : (how : Manner) (n : Counts) (l : List ℕ) (p q : Cell) → StepByStep how n l p q × WalksEnd how n l p q
  pub tests : (n : Counts) (l : List ℕ) (p : Cell) → StartTest n l p
  pub answers : (how : Manner) (n : Counts) (l : List ℕ) (p q : Cell) → AsItsWalk how n l p q
  pub trails : (how : Manner) (n : Counts) (l : List ℕ) (p q : Cell) (entry exit : List ℤ) (k : ℕ) →
      TrailListed how n l p q entry exit k × BesideFirstHit how n l p q entry exit k
  pub adaptive : (rule : Rule) (n : Counts) (l : List ℕ) (p q : Cell) → AdaptiveStep (by_rule rule p q) n l p q
  pub plain : (how : Manner) (n : Counts) (l : List ℕ) (p q : Cell) → FirstOnLine how n l p q
  pub read_back : (n : Counts) (cells entry exit : List ℕ) (k : ℕ) → WritesVenue n cells entry (Ok k) exit →
      (rest : List ℕ) (bytes part : Bor (List ℕ)) (r : Result Venue Refusal) →
      bytes.now ≡ take k exit ++ rest → ReadsVenue bytes.now r → GivesCells bytes part → records.SameVenue n cells bytes part r

-- 3. Where the completeness call says yes, the adaptive and the plain walk find the same first hit, its cell, code, place and entry face, or both none, and
-- the adaptive one reads no more cells; and a clear sight has nothing solid in its way, but for the camera's own cell where it is not tested. All this holds
-- already where every cell across a face or an edge from a solid one is near or solid, the thin shell; a cell at a corner may stay clear, and marks across
-- faces alone do not do. Marked so instead of in full, the same cells give the same adaptive answer by no more reads. In any grid whatever, an adaptive hit
-- is a plain hit, there or before; and a hit of either walk says the face by which the 6-line enters its cell, at its place. All this in either start mode
-- and under either rule; where P is not solid the two answer alike, and where it is not tested it is never the hit. By rule 2, with a tested start, the plain
-- walks from P to Q and from Q to P are both clear or both hit, and so are the adaptive ones where the marks are complete in the thin shell.
pub record TellOneStory : Type 0 where
  -- at 3, by the completeness call's yes: two instances of `shells.full`
  pub same : (how : Manner) (n : Counts) (l : List ℕ) (p q : Cell) → Completes n l (Ok true) → (plain adaptive : Result FirstHit Refusal) →
      Finds Plain how n l p q plain → Finds Adaptive how n l p q adaptive → SameStory plain adaptive
  pub clear : (how : Manner) (n : Counts) (l : List ℕ) (at : Placement) (camera ball : Point) → Completes n l (Ok true) →
      Sees how n l at camera ball Sight.Clear → OpenWay how n l at camera ball
  pub shells : Shells
  pub faces_alone : FacesAlone
  pub less : (n : Counts) (l : List ℕ) → AsksLess n l
  pub no_dearer : (how : Manner) (n : Counts) (l : List ℕ) (p q : Cell) → NoDearer how n l p q
  pub never_invented : (how : Manner) (n : Counts) (l : List ℕ) (p q : Cell) (k : Hit) (plain : Result FirstHit Refusal) → Finds Adaptive how n l p q (Ok (FirstHit.Hit k)) →
      Finds Plain how n l p q plain →
      (h : Hit) × (plain ≡ Ok (FirstHit.Hit h)) × NoLater (by_rule how.rule p q) p q h.cell k.cell
  pub faces : (how : Manner) (n : Counts) (l : List ℕ) (p q : Cell) → HitFace how n l p q
  pub starts : (n : Counts) (l : List ℕ) (p q : Cell) → TwoStarts n l p q
  pub both_ways : (n : Counts) (l : List ℕ) (p q : Cell) → BothWays n l p q

-- 4. SCOPE K: the solid counts that are kept. The bits of a mask are the solid cells of its brick, so its ones are as many, and
-- the ones of all masks as many as the solid bytes. From an accepted build on, after any builds, sets, refills and markings with the same counts, each
-- total handed on, this holds and the total is a fresh count; and no set or refill is refused 13. A set or refill changes just the bytes of its cells
-- and the masks of their bricks, and moves the total as these masks' ones move, and so as a fresh count moves.
pub record KeepsCounts : Type 0 where
  pub by_bits : (n : Counts) (l : List ℕ) → Masks n l
  pub build_on : (n : Counts) (l m : List ℕ) (t : ℕ) (m' : List ℕ) → FromABuildOn n l m t m'
  pub kept_by : (n : Counts) (l m : List ℕ) → Keeping n l m
  pub builds : (n : Counts) (l m : List ℕ) (t : ℕ) (m' : List ℕ) → BuildMeans n l m t m'
  pub refills : (n : Counts) (low high : Cell) (byte : ℕ) (l m : List ℕ) (total t : ℕ) (l' m' : List ℕ) → RefillMeans n low high byte l m total t l' m'
  pub sets : (n : Counts) (cell : Cell) (byte : ℕ) (l m : List ℕ) (total t : ℕ) (l' m' : List ℕ) → SetMeans n cell byte l m total t l' m'

-- 5. SCOPE M: the touching line has just the cells whose closed cube the segment meets, each once, from P to Q, in the order in which it comes to them; it
-- has the 6-line of either rule, and is that line where no two crossings tie. Its list writes just these cells. The first hit along it is its first solid
-- cell, P excepted where it is not tested; clear, nothing that the segment touches is solid, but for that P. Where P is not solid both starts give one
-- answer. With the same start and either rule the plain walk is clear where this one is, and hits no earlier. Demand 3 does not speak of it.
pub record TouchesAll : Type 0 where
  pub cells : (p q : Cell) → TouchedCells p q × CrossingOrder p q
  pub lines : (p q : Cell) → OverSixLines p q
  pub listed : (p q : Cell) (entry exit : List ℤ) (k : ℕ) → TouchingListed p q entry exit k
  pub hits : (start : Start) (n : Counts) (l : List ℕ) (p q : Cell) → TouchingHits start n l p q
  pub starts : (n : Counts) (l : List ℕ) (p q : Cell) → TouchingStarts n l p q
  pub beside_plain : (how : Manner) (n : Counts) (l : List ℕ) (p q : Cell) → BesidePlain how n l p q
