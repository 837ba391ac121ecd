-- What the sources of the calls promise is the record of each one's name: `Post` is a call's `ensures` as the toolchain reads it, of the call's
-- inputs a, its answer r and the memory at exit e. A weaker `ensures` fails here, in its own crate. Assumes nothing.
use mathlib.Core.Path.{◌≡◌}
use lib.ListN.{length}
use Rattle.walks.specs.declared.Walker.TheVariants.{Plain, Adaptive}
use Rattle.structs.specs.Inputs.{as_cell, as_counts, as_start, as_placement, as_point}
use Rattle.oatmarten.specs.LineCalls.{FlatLine6, FlatLine26, FlatLineTouching}
use Rattle.oatmarten.specs.GridCalls.{FlatMarks, FlatCompletes, FlatGivesLayerPart}
use Rattle.oatmarten.specs.BrickCalls.{FlatBuilds, FlatSets, FlatRefills}
use Rattle.oatmarten.specs.WalkCalls.{FlatFinds, FlatAdaptiveCells, FlatFindsTouching}
use Rattle.oatmarten.specs.SightCalls.{FlatLooksUp, FlatSees}
use Rattle.oatmarten.specs.RecordCalls.{FlatReadsVenue, FlatReadsPair, FlatWritesVenue}
use Rattle.oatmarten.specs.Revision.{revision}
use Rattle.oatmarten.proofs.line_calls.oat_line6.Reads as line6
use Rattle.oatmarten.proofs.line_calls.oat_line26.Reads as line26
use Rattle.oatmarten.proofs.line_calls.oat_line_touching.Reads as line_touching
use Rattle.oatmarten.proofs.grid_calls.oat_mark.Reads as mark
use Rattle.oatmarten.proofs.grid_calls.oat_complete.Reads as complete
use Rattle.oatmarten.proofs.grid_calls.oat_layer.Reads as layer
use Rattle.oatmarten.proofs.brick_calls.oat_build.Reads as build
use Rattle.oatmarten.proofs.brick_calls.oat_set.Reads as set
use Rattle.oatmarten.proofs.brick_calls.oat_refill.Reads as refill
use Rattle.oatmarten.proofs.walk_calls.oat_plain.Reads as plain
use Rattle.oatmarten.proofs.walk_calls.oat_adaptive.Reads as adaptive
use Rattle.oatmarten.proofs.walk_calls.oat_adaptive_cells.Reads as adaptive_cells
use Rattle.oatmarten.proofs.walk_calls.oat_touching.Reads as touching
use Rattle.oatmarten.proofs.sight_calls.oat_cell_of.Reads as cell_of
use Rattle.oatmarten.proofs.sight_calls.oat_sight.Reads as sight
use Rattle.oatmarten.proofs.record_calls.oat_read_venue.Reads as read_venue
use Rattle.oatmarten.proofs.record_calls.oat_read_pair.Reads as read_pair
use Rattle.oatmarten.proofs.record_calls.oat_write_venue.Reads as write_venue
use Rattle.oatmarten.proofs.revision.oat_revision.Reads as answered

pub of_line6 : (κs : _) (a : _) (r : _) (e : _) → line6.Post κs a r e →
    FlatLine6 a.1.1.0 (as_cell a.0) (as_cell a.1.0) a.1.1.1.0.now r e.1.1.1.0.now
of_line6 κs a r e h = h

pub of_line26 : (κs : _) (a : _) (r : _) (e : _) → line26.Post κs a r e → FlatLine26 (as_cell a.0) (as_cell a.1.0) a.1.1.0.now r e.1.1.0.now
of_line26 κs a r e h = h

pub of_line_touching : (κs : _) (a : _) (r : _) (e : _) → line_touching.Post κs a r e →
    FlatLineTouching (as_cell a.0) (as_cell a.1.0) a.1.1.0.now r e.1.1.0.now
of_line_touching κs a r e h = h

pub of_mark : (κs : _) (a : _) (r : _) (e : _) → mark.Post κs a r e → FlatMarks (as_counts a.0) a.1.0.now r e.1.0.now
of_mark κs a r e h = h

pub of_complete : (κs : _) (a : _) (r : _) (e : _) → complete.Post κs a r e → FlatCompletes (as_counts a.0) a.1.0.now r
of_complete κs a r e h = h

pub of_layer : (κs : _) (a : _) (r : _) (e : _) → layer.Post κs a r e → FlatGivesLayerPart (as_counts a.0) (length a.1.0.now) a.1.1.0 r
of_layer κs a r e h = h

pub of_build : (κs : _) (a : _) (r : _) (e : _) → build.Post κs a r e → FlatBuilds (as_counts a.0) a.1.0.now a.1.1.0.now r e.1.1.0.now
of_build κs a r e h = h

pub of_set : (κs : _) (a : _) (r : _) (e : _) → set.Post κs a r e →
    FlatSets (as_counts a.0) (as_cell a.1.1.1.1.0) a.1.1.1.1.1.0 a.1.0.now a.1.1.0.now a.1.1.1.0 r e.1.0.now
    e.1.1.0.now
of_set κs a r e h = h

pub of_refill : (κs : _) (a : _) (r : _) (e : _) → refill.Post κs a r e →
    FlatRefills (as_counts a.0) (as_cell a.1.1.1.1.0) (as_cell a.1.1.1.1.1.0) a.1.1.1.1.1.1.0 a.1.0.now a.1.1.0.now
    a.1.1.1.0 r e.1.0.now e.1.1.0.now
of_refill κs a r e h = h

pub of_plain : (κs : _) (a : _) (r : _) (e : _) → plain.Post κs a r e →
    FlatFinds Plain a.1.1.1.1.0 (as_counts a.0) a.1.0.now (as_cell a.1.1.0) (as_cell a.1.1.1.0) r
of_plain κs a r e h = h

pub of_adaptive : (κs : _) (a : _) (r : _) (e : _) → adaptive.Post κs a r e →
    FlatFinds Adaptive a.1.1.1.1.0 (as_counts a.0) a.1.0.now (as_cell a.1.1.0) (as_cell a.1.1.1.0) r
of_adaptive κs a r e h = h

pub of_adaptive_cells : (κs : _) (a : _) (r : _) (e : _) → adaptive_cells.Post κs a r e →
    FlatAdaptiveCells a.1.1.1.1.0 (as_counts a.0) a.1.0.now (as_cell a.1.1.0) (as_cell a.1.1.1.0) a.1.1.1.1.1.0.now r
    e.1.1.1.1.1.0.now
of_adaptive_cells κs a r e h = h

pub of_touching : (κs : _) (a : _) (r : _) (e : _) → touching.Post κs a r e →
    FlatFindsTouching (as_start a.1.1.1.1.0) (as_counts a.0) a.1.0.now (as_cell a.1.1.0) (as_cell a.1.1.1.0) r
of_touching κs a r e h = h

pub of_cell_of : (κs : _) (a : _) (r : _) (e : _) → cell_of.Post κs a r e → FlatLooksUp (as_counts a.0) (as_placement a.1.0) (as_point a.1.1.0) r
of_cell_of κs a r e h = h

pub of_sight : (κs : _) (a : _) (r : _) (e : _) → sight.Post κs a r e →
    FlatSees a.1.1.1.1.1.0 (as_counts a.0) a.1.0.now (as_placement a.1.1.0) (as_point a.1.1.1.0)
    (as_point a.1.1.1.1.0) r
of_sight κs a r e h = h

pub of_read_venue : (κs : _) (a : _) (r : _) (e : _) → read_venue.Post κs a r e → FlatReadsVenue a.0.now r
of_read_venue κs a r e h = h

pub of_read_pair : (κs : _) (a : _) (r : _) (e : _) → read_pair.Post κs a r e → FlatReadsPair a.0.now r
of_read_pair κs a r e h = h

pub of_write_venue : (κs : _) (a : _) (r : _) (e : _) → write_venue.Post κs a r e →
    FlatWritesVenue (as_counts a.0) a.1.0.now a.1.1.0.now r e.1.1.0.now
of_write_venue κs a r e h = h

pub of_revision : (κs : _) (a : _) (r : _) (e : _) → answered.Post κs a r e → r ≡ revision
of_revision κs a r e h = h
