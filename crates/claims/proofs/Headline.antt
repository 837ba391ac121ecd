-- The three demands, the kept counts and the touching line, from the claims. Assumes nothing.
use Rattle.claims.specs.Headline.{TakesAnything, AreThePapers, TellOneStory, KeepsCounts, TouchesAll}
use Rattle.lines.specs.Preference.{by_rule}
use Rattle.lines.specs.Lines.{differences}
use Rattle.claims.proofs.Ties.{asks_nothing, promised}
use Rattle.claims.proofs.ExportTies.{exports_promised, exports_ask_nothing}
use Rattle.claims.proofs.Refused.{lines_told, trails_told, grids_told, tallies_told, points_told, records_told, rules_told}
use Rattle.claims.proofs.Exports.{exports_are, exports_once, refused_untouched, no_such_rule}
use Rattle.claims.proofs.Flattenings.{flattenings}
use Rattle.claims.proofs.Words.{one_number}
use Rattle.claims.proofs.Lists.{listed_once, cells_listed}
use Rattle.claims.proofs.Lines.{one_place, six_line_holds, each_cell_touched, no_cell_missing, line_26_holds}
use Rattle.claims.proofs.Grids as grids
use Rattle.claims.proofs.Kept.{kept_once, masks, build_means, refill_means, set_means}
use Rattle.claims.proofs.Sequences.{from_a_build_on, keeping}
use Rattle.claims.proofs.Points as points
use Rattle.claims.proofs.Records as records
use Rattle.claims.proofs.Shells.{shells, faces_alone, asks_less, no_dearer}
use Rattle.claims.proofs.Sights.{seen_once}
use Rattle.claims.proofs.Story.{hit_once, hit_face, first_on_line, walks_end, step_by_step, adaptive_step, as_its_walk, never_invented}
use Rattle.claims.proofs.Starts.{start_tests, two_starts}
use Rattle.claims.proofs.Touching.{touched_cells, crossing_order, over_six_lines, touching_listed, touching_hits, touching_starts, beside_plain, touching_once}
use Rattle.claims.proofs.Trails.{trail_listed, beside_first_hit}
use Rattle.claims.proofs.Rules.{the_rules, mirrored, both_ways}

pub takes_anything : TakesAnything
takes_anything =
    record {
      asks_nothing = asks_nothing;
      promised = promised;
      numbers = one_number;
      lists = listed_once;
      grid_calls = grids.one_answer;
      marking = grids.marked_call;
      walks = hit_once;
      touching = touching_once;
      counts = kept_once;
      cells = points.one_answer;
      sights = seen_once;
      record_calls = records.one_answer;
      list_refusals = lines_told;
      trail_refusals = trails_told;
      grid_refusals = grids_told;
      count_refusals = tallies_told;
      point_refusals = points_told;
      record_refusals = records_told;
      for_c = (exports_ask_nothing, exports_promised, exports_are, flattenings, exports_once, refused_untouched);
      rules_for_c = (rules_told, no_such_rule);
    }

pub are_the_papers : AreThePapers
are_the_papers =
    record {
      rules = the_rules;
      order = λ rule p q. one_place (by_rule rule p q) (differences p q);
      six = λ rule p q. six_line_holds (by_rule rule p q) p q;
      touched = λ rule p q. (each_cell_touched (by_rule rule p q) p q).touched;
      none_missing = λ rule p q. (no_cell_missing (by_rule rule p q) p q).found;
      twenty_six = λ rule p q. line_26_holds (by_rule rule p q) p q;
      mirror = mirrored;
      listed = cells_listed;
      walks = λ how n l p q. (step_by_step how n l p q, walks_end how n l p q);
      tests = start_tests;
      answers = as_its_walk;
      trails = λ how n l p q entry exit k. (trail_listed how n l p q entry exit k, beside_first_hit how n l p q entry exit k);
      adaptive = λ rule n l p q. adaptive_step (by_rule rule p q) n l p q;
      plain = first_on_line;
      read_back = λ n cells entry exit k. (records.read_back_same n cells entry).same exit k;
    }

pub tell_one_story : TellOneStory
tell_one_story =
    record {
      same = λ how n l p q yes. (shells.full.story how n l p q).story ((grids.says_complete n l).yes yes);
      clear = λ how n l at camera ball yes. (shells.full.sight how n l at camera ball).open_way ((grids.says_complete n l).yes yes);
      shells = shells;
      faces_alone = faces_alone;
      less = asks_less;
      no_dearer = no_dearer;
      never_invented = λ how n l p q k plain ha hp. let (h, is, place, order) = (never_invented how n l p q).plain_too k plain ha hp in (h, is, order);
      faces = hit_face;
      starts = two_starts;
      both_ways = both_ways;
    }

pub keeps_counts : KeepsCounts
keeps_counts =
    record {
      by_bits = masks;
      build_on = from_a_build_on;
      kept_by = keeping;
      builds = build_means;
      refills = refill_means;
      sets = set_means;
    }

pub touches_all : TouchesAll
touches_all =
    record {
      cells = λ p q. (touched_cells p q, crossing_order p q);
      lines = over_six_lines;
      listed = touching_listed;
      hits = touching_hits;
      starts = touching_starts;
      beside_plain = beside_plain;
    }
