-- Each call's `ensures` is its record as it stands, and each call's `requires` asks for nothing. Assumes nothing.
use Rattle.claims.specs.Ties.{Promised, StepsPromised, AsksNothing}

pub promised : Promised
promised =
    record {
      of_number = λ κs a r e h. h;
      of_usual = λ κs a r e h. h;
      of_check_rule = λ κs a r e h. h;
      of_rule_of = λ κs a r e h. h;
      of_try_from = λ κs a r e h. h;
      of_line6 = λ κs a r e h. h;
      of_line26 = λ κs a r e h. h;
      of_line_touching = λ κs a r e h. h;
      of_shape = λ κs a r e h. h;
      of_layer_part = λ κs a r e h. h;
      of_layer = λ κs a r e h. h;
      of_mark = λ κs a r e h. h;
      of_complete = λ κs a r e h. h;
      of_build = λ κs a r e h. h;
      of_set = λ κs a r e h. h;
      of_refill = λ κs a r e h. h;
      of_plain = λ κs a r e h. h;
      of_adaptive = λ κs a r e h. h;
      of_adaptive_cells = λ κs a r e h. h;
      of_touching = λ κs a r e h. h;
      of_cell_of = λ κs a r e h. h;
      of_see = λ κs a r e h. h;
      of_read_venue = λ κs a r e h. h;
      of_venue_cells = λ κs a r e h. h;
      of_read_pair = λ κs a r e h. h;
      of_write_venue = λ κs a r e h. h;
    }

pub steps_promised : StepsPromised
steps_promised = record { of_venue_step = λ κs a r e h. h.0; of_pair_step = λ κs a r e h. h.0 }

pub asks_nothing : AsksNothing
asks_nothing =
    record {
      number_asks = λ κs a. tt;
      usual_asks = λ κs a. tt;
      check_rule_asks = λ κs a. tt;
      rule_of_asks = λ κs a. tt;
      try_from_asks = λ κs a. tt;
      line6_asks = λ κs a. tt;
      line26_asks = λ κs a. tt;
      line_touching_asks = λ κs a. tt;
      shape_asks = λ κs a. tt;
      layer_part_asks = λ κs a. tt;
      layer_asks = λ κs a. tt;
      mark_asks = λ κs a. tt;
      complete_asks = λ κs a. tt;
      build_asks = λ κs a. tt;
      set_asks = λ κs a. tt;
      refill_asks = λ κs a. tt;
      plain_asks = λ κs a. tt;
      adaptive_asks = λ κs a. tt;
      adaptive_cells_asks = λ κs a. tt;
      touching_asks = λ κs a. tt;
      cell_of_asks = λ κs a. tt;
      see_asks = λ κs a. tt;
      read_venue_asks = λ κs a. tt;
      venue_cells_asks = λ κs a. tt;
      read_pair_asks = λ κs a. tt;
      write_venue_asks = λ κs a. tt;
    }
