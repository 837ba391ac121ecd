-- Each call's `ensures` is its record as it stands (the laws of its own crate), and each call's `requires` asks for nothing. Assumes nothing.
use Rattle.oatmarten.proofs.Contracts as stated
use Rattle.claims.specs.ExportTies.{ExportsPromised, ExportsAskNothing}

pub exports_promised : ExportsPromised
exports_promised =
    record {
      of_line6 = stated.of_line6;
      of_line26 = stated.of_line26;
      of_line_touching = stated.of_line_touching;
      of_mark = stated.of_mark;
      of_complete = stated.of_complete;
      of_layer = stated.of_layer;
      of_build = stated.of_build;
      of_set = stated.of_set;
      of_refill = stated.of_refill;
      of_plain = stated.of_plain;
      of_adaptive = stated.of_adaptive;
      of_adaptive_cells = stated.of_adaptive_cells;
      of_touching = stated.of_touching;
      of_cell_of = stated.of_cell_of;
      of_sight = stated.of_sight;
      of_read_venue = stated.of_read_venue;
      of_read_pair = stated.of_read_pair;
      of_write_venue = stated.of_write_venue;
      of_revision = stated.of_revision;
    }

pub exports_ask_nothing : ExportsAskNothing
exports_ask_nothing =
    record {
      line6_asks = λ κs a. tt;
      line26_asks = λ κs a. tt;
      line_touching_asks = λ κs a. tt;
      mark_asks = λ κs a. tt;
      complete_asks = λ κs a. tt;
      layer_asks = λ κs a. tt;
      build_asks = λ κs a. tt;
      set_asks = λ κs a. tt;
      refill_asks = λ κs a. tt;
      plain_asks = λ κs a. tt;
      adaptive_asks = λ κs a. tt;
      adaptive_cells_asks = λ κs a. tt;
      touching_asks = λ κs a. tt;
      cell_of_asks = λ κs a. tt;
      sight_asks = λ κs a. tt;
      read_venue_asks = λ κs a. tt;
      read_pair_asks = λ κs a. tt;
      write_venue_asks = λ κs a. tt;
      revision_asks = λ κs a. tt;
    }
