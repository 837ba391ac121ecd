-- What an export's source promises is what that of the library's call of its name does: `Post` is a function's `ensures` as the toolchain reads it, of its
-- inputs a, its answer r and the memory at exit e. A weaker `ensures` of an export fails here; what the library's calls promise is claimed in `claims`. And
-- no export asks for anything: `Pre` is its `requires`. Assumes nothing.
use Rattle.oatmarten_c.proofs.line_calls.oat_line6.Reads as line6
use Rattle.oatmarten_c.proofs.line_calls.oat_line26.Reads as line26
use Rattle.oatmarten_c.proofs.line_calls.oat_line_touching.Reads as line_touching
use Rattle.oatmarten_c.proofs.grid_calls.oat_mark.Reads as mark
use Rattle.oatmarten_c.proofs.grid_calls.oat_complete.Reads as complete
use Rattle.oatmarten_c.proofs.grid_calls.oat_layer.Reads as layer
use Rattle.oatmarten_c.proofs.brick_calls.oat_build.Reads as build
use Rattle.oatmarten_c.proofs.brick_calls.oat_set.Reads as set
use Rattle.oatmarten_c.proofs.brick_calls.oat_refill.Reads as refill
use Rattle.oatmarten_c.proofs.walk_calls.oat_plain.Reads as plain
use Rattle.oatmarten_c.proofs.walk_calls.oat_adaptive.Reads as adaptive
use Rattle.oatmarten_c.proofs.walk_calls.oat_adaptive_cells.Reads as adaptive_cells
use Rattle.oatmarten_c.proofs.walk_calls.oat_touching.Reads as touching
use Rattle.oatmarten_c.proofs.sight_calls.oat_cell_of.Reads as cell_of
use Rattle.oatmarten_c.proofs.sight_calls.oat_sight.Reads as sight
use Rattle.oatmarten_c.proofs.record_calls.oat_read_venue.Reads as read_venue
use Rattle.oatmarten_c.proofs.record_calls.oat_read_pair.Reads as read_pair
use Rattle.oatmarten_c.proofs.record_calls.oat_write_venue.Reads as write_venue
use Rattle.oatmarten_c.proofs.revision.oat_revision.Reads as answered
use Rattle.oatmarten.proofs.oat_line6.Reads as library_line6
use Rattle.oatmarten.proofs.oat_line26.Reads as library_line26
use Rattle.oatmarten.proofs.oat_line_touching.Reads as library_line_touching
use Rattle.oatmarten.proofs.oat_mark.Reads as library_mark
use Rattle.oatmarten.proofs.oat_complete.Reads as library_complete
use Rattle.oatmarten.proofs.oat_layer.Reads as library_layer
use Rattle.oatmarten.proofs.oat_build.Reads as library_build
use Rattle.oatmarten.proofs.oat_set.Reads as library_set
use Rattle.oatmarten.proofs.oat_refill.Reads as library_refill
use Rattle.oatmarten.proofs.oat_plain.Reads as library_plain
use Rattle.oatmarten.proofs.oat_adaptive.Reads as library_adaptive
use Rattle.oatmarten.proofs.oat_adaptive_cells.Reads as library_adaptive_cells
use Rattle.oatmarten.proofs.oat_touching.Reads as library_touching
use Rattle.oatmarten.proofs.oat_cell_of.Reads as library_cell_of
use Rattle.oatmarten.proofs.oat_sight.Reads as library_sight
use Rattle.oatmarten.proofs.oat_read_venue.Reads as library_read_venue
use Rattle.oatmarten.proofs.oat_read_pair.Reads as library_read_pair
use Rattle.oatmarten.proofs.oat_write_venue.Reads as library_write_venue
use Rattle.oatmarten.proofs.oat_revision.Reads as library_answered

pub of_line6 : (κs : _) (a : _) (r : _) (e : _) → line6.Post κs a r e → library_line6.Post κs a r e
of_line6 κs a r e h = h

pub of_line26 : (κs : _) (a : _) (r : _) (e : _) → line26.Post κs a r e → library_line26.Post κs a r e
of_line26 κs a r e h = h

pub of_line_touching : (κs : _) (a : _) (r : _) (e : _) → line_touching.Post κs a r e → library_line_touching.Post κs a r e
of_line_touching κs a r e h = h

pub of_mark : (κs : _) (a : _) (r : _) (e : _) → mark.Post κs a r e → library_mark.Post κs a r e
of_mark κs a r e h = h

pub of_complete : (κs : _) (a : _) (r : _) (e : _) → complete.Post κs a r e → library_complete.Post κs a r e
of_complete κs a r e h = h

pub of_layer : (κs : _) (a : _) (r : _) (e : _) → layer.Post κs a r e → library_layer.Post κs a r e
of_layer κs a r e h = h

pub of_build : (κs : _) (a : _) (r : _) (e : _) → build.Post κs a r e → library_build.Post κs a r e
of_build κs a r e h = h

pub of_set : (κs : _) (a : _) (r : _) (e : _) → set.Post κs a r e → library_set.Post κs a r e
of_set κs a r e h = h

pub of_refill : (κs : _) (a : _) (r : _) (e : _) → refill.Post κs a r e → library_refill.Post κs a r e
of_refill κs a r e h = h

pub of_plain : (κs : _) (a : _) (r : _) (e : _) → plain.Post κs a r e → library_plain.Post κs a r e
of_plain κs a r e h = h

pub of_adaptive : (κs : _) (a : _) (r : _) (e : _) → adaptive.Post κs a r e → library_adaptive.Post κs a r e
of_adaptive κs a r e h = h

pub of_adaptive_cells : (κs : _) (a : _) (r : _) (e : _) → adaptive_cells.Post κs a r e → library_adaptive_cells.Post κs a r e
of_adaptive_cells κs a r e h = h

pub of_touching : (κs : _) (a : _) (r : _) (e : _) → touching.Post κs a r e → library_touching.Post κs a r e
of_touching κs a r e h = h

pub of_cell_of : (κs : _) (a : _) (r : _) (e : _) → cell_of.Post κs a r e → library_cell_of.Post κs a r e
of_cell_of κs a r e h = h

pub of_sight : (κs : _) (a : _) (r : _) (e : _) → sight.Post κs a r e → library_sight.Post κs a r e
of_sight κs a r e h = h

pub of_read_venue : (κs : _) (a : _) (r : _) (e : _) → read_venue.Post κs a r e → library_read_venue.Post κs a r e
of_read_venue κs a r e h = h

pub of_read_pair : (κs : _) (a : _) (r : _) (e : _) → read_pair.Post κs a r e → library_read_pair.Post κs a r e
of_read_pair κs a r e h = h

pub of_write_venue : (κs : _) (a : _) (r : _) (e : _) → write_venue.Post κs a r e → library_write_venue.Post κs a r e
of_write_venue κs a r e h = h

pub of_answered : (κs : _) (a : _) (r : _) (e : _) → answered.Post κs a r e → library_answered.Post κs a r e
of_answered κs a r e h = h

-- ---- none asks for anything

pub line6_asks : (κs : _) (a : _) → line6.Pre κs a
line6_asks κs a = tt

pub line26_asks : (κs : _) (a : _) → line26.Pre κs a
line26_asks κs a = tt

pub line_touching_asks : (κs : _) (a : _) → line_touching.Pre κs a
line_touching_asks κs a = tt

pub mark_asks : (κs : _) (a : _) → mark.Pre κs a
mark_asks κs a = tt

pub complete_asks : (κs : _) (a : _) → complete.Pre κs a
complete_asks κs a = tt

pub layer_asks : (κs : _) (a : _) → layer.Pre κs a
layer_asks κs a = tt

pub build_asks : (κs : _) (a : _) → build.Pre κs a
build_asks κs a = tt

pub set_asks : (κs : _) (a : _) → set.Pre κs a
set_asks κs a = tt

pub refill_asks : (κs : _) (a : _) → refill.Pre κs a
refill_asks κs a = tt

pub plain_asks : (κs : _) (a : _) → plain.Pre κs a
plain_asks κs a = tt

pub adaptive_asks : (κs : _) (a : _) → adaptive.Pre κs a
adaptive_asks κs a = tt

pub adaptive_cells_asks : (κs : _) (a : _) → adaptive_cells.Pre κs a
adaptive_cells_asks κs a = tt

pub touching_asks : (κs : _) (a : _) → touching.Pre κs a
touching_asks κs a = tt

pub cell_of_asks : (κs : _) (a : _) → cell_of.Pre κs a
cell_of_asks κs a = tt

pub sight_asks : (κs : _) (a : _) → sight.Pre κs a
sight_asks κs a = tt

pub read_venue_asks : (κs : _) (a : _) → read_venue.Pre κs a
read_venue_asks κs a = tt

pub read_pair_asks : (κs : _) (a : _) → read_pair.Pre κs a
read_pair_asks κs a = tt

pub write_venue_asks : (κs : _) (a : _) → write_venue.Pre κs a
write_venue_asks κs a = tt

pub answered_asks : (κs : _) (a : _) → answered.Pre κs a
answered_asks κs a = tt
