-- The contracts of which the claims speak are those that the sources state: `Pre` and `Post` of a call are its `requires` and its `ensures` as the
-- toolchain reads them, of the call's inputs a, its answer r and the memory at exit e. No public call asks for anything, and what each promises is
-- the record of its name: with a weaker `ensures` or a `requires` in its source, this file's theorem fails. Assumes nothing.
use Rattle.std.specs.Prelude.{length, ◌≡◌}
use Rattle.cells.specs.Refusals.{NumberOf}
use Rattle.cells.proofs.number.Reads as number
use Rattle.cells.specs.Manners.{usual, rule_check, rule_of, rule_named}
use Rattle.cells.proofs.Manner.usual.Reads as default
use Rattle.cells.proofs.check_rule.Reads as check_rule
use Rattle.cells.proofs.rule_of.Reads as named_rule
use Rattle.cells.proofs.RuleTryFromU32.try_from.Reads as try_rule
use Rattle.grids.specs.Grid.{Shapes, GivesLayerPart, GivesLayer}
use Rattle.grids.specs.Marks.{Marks, Completes}
use Rattle.grids.proofs.shape.Reads as shape
use Rattle.grids.proofs.layer_part.Reads as layer_part
use Rattle.grids.proofs.layer.Reads as layer
use Rattle.marks.proofs.mark.Reads as mark
use Rattle.marks.proofs.complete.Reads as complete
use Rattle.bricks.specs.Builds.{Builds}
use Rattle.bricks.proofs.build.Reads as build
use Rattle.refills.specs.Refills.{Refills, Sets}
use Rattle.refills.proofs.set.Reads as set
use Rattle.refills.proofs.refill.Reads as refill
use Rattle.lists.specs.Lists.{Line6, Line26}
use Rattle.lists.proofs.line6.Reads as line6
use Rattle.lists.proofs.line26.Reads as line26
use Rattle.walks.specs.declared.Walker.TheVariants.{Plain, Adaptive}
use Rattle.walks.specs.Answers.{Finds}
use Rattle.hits.proofs.first_plain.Reads as plain
use Rattle.hits.proofs.first_adaptive.Reads as adaptive
use Rattle.touching.specs.Touching.{LineTouching, FindsTouching}
use Rattle.touching.proofs.line_touching.Reads as line_touching
use Rattle.touching.proofs.first_touching.Reads as touching
use Rattle.trails.specs.Trails.{AdaptiveCells}
use Rattle.trails.proofs.adaptive_cells.Reads as adaptive_cells
use Rattle.survey.specs.Survey.{LooksUp}
use Rattle.survey.proofs.cell_of.Reads as cell_of
use Rattle.sight.specs.Sight.{Sees}
use Rattle.sight.proofs.see.Reads as see
use Rattle.records.specs.Venues.{ReadsVenue, GivesCells}
use Rattle.records.specs.Pairs.{ReadsPair}
use Rattle.records.specs.Writing.{WritesVenue}
use Rattle.program.specs.Program.{venue_said, pair_said, Says}
use Rattle.program.proofs.venue_step.Reads as venue_step
use Rattle.program.proofs.pair_step.Reads as pair_step
use Rattle.records.proofs.read_venue.Reads as read_venue
use Rattle.records.proofs.venue_cells.Reads as venue_cells
use Rattle.records.proofs.read_pair.Reads as read_pair
use Rattle.records.proofs.write_venue.Reads as write_venue

-- what each call promises
pub record Promised : Type 1 where
  pub of_number : (κs : _) (a : _) (r : _) (e : _) → number.Post κs a r e → NumberOf a.0 r
  pub of_usual : (κs : _) (a : _) (r : _) (e : _) → default.Post κs a r e → r ≡ usual
  pub of_check_rule : (κs : _) (a : _) (r : _) (e : _) → check_rule.Post κs a r e → r ≡ rule_check a.0
  pub of_rule_of : (κs : _) (a : _) (r : _) (e : _) → named_rule.Post κs a r e → r ≡ rule_of a.0
  pub of_try_from : (κs : _) (a : _) (r : _) (e : _) → try_rule.Post κs a r e → r ≡ rule_named a.0
  pub of_line6 : (κs : _) (a : _) (r : _) (e : _) → line6.Post κs a r e → Line6 a.1.1.0 a.0 a.1.0 a.1.1.1.0.now r e.1.1.1.0.now
  pub of_line26 : (κs : _) (a : _) (r : _) (e : _) → line26.Post κs a r e → Line26 a.0 a.1.0 a.1.1.0.now r e.1.1.0.now
  pub of_line_touching : (κs : _) (a : _) (r : _) (e : _) → line_touching.Post κs a r e → LineTouching a.0 a.1.0 a.1.1.0.now r e.1.1.0.now
  pub of_shape : (κs : _) (a : _) (r : _) (e : _) → shape.Post κs a r e → Shapes a.0 a.1.0 r
  pub of_layer_part : (κs : _) (a : _) (r : _) (e : _) → layer_part.Post κs a r e → GivesLayerPart a.0 (length a.1.0.now) a.1.1.0 r
  pub of_layer : (κs : _) (a : _) (r : _) (e : _) → layer.Post κs a r e → GivesLayer a.0 a.1.0 a.1.1.0 r
  pub of_mark : (κs : _) (a : _) (r : _) (e : _) → mark.Post κs a r e → Marks a.0 a.1.0.now r e.1.0.now
  pub of_complete : (κs : _) (a : _) (r : _) (e : _) → complete.Post κs a r e → Completes a.0 a.1.0.now r
  pub of_build : (κs : _) (a : _) (r : _) (e : _) → build.Post κs a r e → Builds a.0 a.1.0.now a.1.1.0.now r e.1.1.0.now
  pub of_set : (κs : _) (a : _) (r : _) (e : _) → set.Post κs a r e →
      Sets a.0 a.1.1.1.1.0 a.1.1.1.1.1.0 a.1.0.now a.1.1.0.now a.1.1.1.0 r e.1.0.now e.1.1.0.now
  pub of_refill : (κs : _) (a : _) (r : _) (e : _) → refill.Post κs a r e →
      Refills a.0 a.1.1.1.1.0 a.1.1.1.1.1.0 a.1.1.1.1.1.1.0 a.1.0.now a.1.1.0.now a.1.1.1.0 r e.1.0.now
      e.1.1.0.now
  pub of_plain : (κs : _) (a : _) (r : _) (e : _) → plain.Post κs a r e →
      Finds Plain a.1.1.1.1.0 a.0 a.1.0.now a.1.1.0 a.1.1.1.0 r
  pub of_adaptive : (κs : _) (a : _) (r : _) (e : _) → adaptive.Post κs a r e →
      Finds Adaptive a.1.1.1.1.0 a.0 a.1.0.now a.1.1.0 a.1.1.1.0 r
  pub of_adaptive_cells : (κs : _) (a : _) (r : _) (e : _) → adaptive_cells.Post κs a r e →
      AdaptiveCells a.1.1.1.1.0 a.0 a.1.0.now a.1.1.0 a.1.1.1.0 a.1.1.1.1.1.0.now r e.1.1.1.1.1.0.now
  pub of_touching : (κs : _) (a : _) (r : _) (e : _) → touching.Post κs a r e →
      FindsTouching a.1.1.1.1.0 a.0 a.1.0.now a.1.1.0 a.1.1.1.0 r
  pub of_cell_of : (κs : _) (a : _) (r : _) (e : _) → cell_of.Post κs a r e → LooksUp a.0 a.1.0 a.1.1.0 r
  pub of_see : (κs : _) (a : _) (r : _) (e : _) → see.Post κs a r e →
      Sees a.1.1.1.1.1.0 a.0 a.1.0.now a.1.1.0 a.1.1.1.0 a.1.1.1.1.0 r
  pub of_read_venue : (κs : _) (a : _) (r : _) (e : _) → read_venue.Post κs a r e → ReadsVenue a.0.now r
  pub of_venue_cells : (κs : _) (a : _) (r : _) (e : _) → venue_cells.Post κs a r e → GivesCells a.0 r
  pub of_read_pair : (κs : _) (a : _) (r : _) (e : _) → read_pair.Post κs a r e → ReadsPair a.0.now r
  pub of_write_venue : (κs : _) (a : _) (r : _) (e : _) → write_venue.Post κs a r e → WritesVenue a.0 a.1.0.now a.1.1.0.now r e.1.1.0.now

-- what the program's two steps promise, whose theorem is that of its whole output
pub record StepsPromised : Type 1 where
  pub of_venue_step : (κs : _) (a : _) (r : _) (e : _) → venue_step.Post κs a r e → Says (venue_said a.0.now) a.1.0.now r e.1.0.now
  pub of_pair_step : (κs : _) (a : _) (r : _) (e : _) → pair_step.Post κs a r e →
      Says (pair_said a.0 a.1.0.now a.1.1.0 a.1.1.1.0.now) a.1.1.1.1.0.now r e.1.1.1.1.0.now

-- what each call asks for: nothing, of any inputs
pub record AsksNothing : Type 1 where
  pub number_asks : (κs : _) (a : _) → number.Pre κs a
  pub usual_asks : (κs : _) (a : _) → default.Pre κs a
  pub check_rule_asks : (κs : _) (a : _) → check_rule.Pre κs a
  pub rule_of_asks : (κs : _) (a : _) → named_rule.Pre κs a
  pub try_from_asks : (κs : _) (a : _) → try_rule.Pre κs a
  pub line6_asks : (κs : _) (a : _) → line6.Pre κs a
  pub line26_asks : (κs : _) (a : _) → line26.Pre κs a
  pub line_touching_asks : (κs : _) (a : _) → line_touching.Pre κs a
  pub shape_asks : (κs : _) (a : _) → shape.Pre κs a
  pub layer_part_asks : (κs : _) (a : _) → layer_part.Pre κs a
  pub layer_asks : (κs : _) (a : _) → layer.Pre κs a
  pub mark_asks : (κs : _) (a : _) → mark.Pre κs a
  pub complete_asks : (κs : _) (a : _) → complete.Pre κs a
  pub build_asks : (κs : _) (a : _) → build.Pre κs a
  pub set_asks : (κs : _) (a : _) → set.Pre κs a
  pub refill_asks : (κs : _) (a : _) → refill.Pre κs a
  pub plain_asks : (κs : _) (a : _) → plain.Pre κs a
  pub adaptive_asks : (κs : _) (a : _) → adaptive.Pre κs a
  pub adaptive_cells_asks : (κs : _) (a : _) → adaptive_cells.Pre κs a
  pub touching_asks : (κs : _) (a : _) → touching.Pre κs a
  pub cell_of_asks : (κs : _) (a : _) → cell_of.Pre κs a
  pub see_asks : (κs : _) (a : _) → see.Pre κs a
  pub read_venue_asks : (κs : _) (a : _) → read_venue.Pre κs a
  pub venue_cells_asks : (κs : _) (a : _) → venue_cells.Pre κs a
  pub read_pair_asks : (κs : _) (a : _) → read_pair.Pre κs a
  pub write_venue_asks : (κs : _) (a : _) → write_venue.Pre κs a
