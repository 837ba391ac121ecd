-- The witnesses, by computation. Assumes nothing.
use Rattle.std.specs.Prelude.{Ok, Err}
use Prim.Native.Nat.{ℕ, zero, suc, ◌+◌, ◌*◌, ◌<◌}
use mathlib.Core.Path.{◌≡◌, refl, sym, subst}
use mathlib.Core.Bool.{Bool, true, false, ◌&&◌}
use mathlib.Core.Logic.{inl, inr, ◌≢◌}
use mathlib.Core.List.{List, [], ◌∷◌}
use native.Mathlib.Omega.{arith}
use lib.Dec.{ltb, lit<}
use lib.Ieee.{eq, le, lt, of_int, div, sub}
use lib.ListN.{get_or}
use borrow.Author.Tests.{ltb-true}
use Rattle.cells.specs.declared.Axis.{Axis}
use Rattle.cells.specs.declared.Axis.TheVariants.{X, Y, Z}
use Rattle.cells.specs.declared.Refusal.TheVariants.{Bytes, Corners}
use Rattle.lines.specs.Steps.{same}
use Rattle.lines.specs.Lines.{differences, six_line, line_26}
use Rattle.lines.specs.Preference.{y_z_x, order_of}
use Rattle.lines.proofs.Cells.{centre_inside}
use Rattle.grids.specs.Grid.{count_check, shape, layer_part, layer}
use Rattle.grids.specs.Marks.{any, touches_solid, marked_byte, marked, complete, completeness}
use Rattle.cells.specs.Manners.{rule_of, rule_check}
use lib.Count.{ones}
use Rattle.cells.proofs.Signed.{≤ℤ_is}
use Rattle.bricks.specs.Sums.{sum}
use Rattle.bricks.specs.Bricks.{mask_of, solids}
use Rattle.bricks.specs.Builds.{bricks_check, built}
use Rattle.refills.specs.Refills.{refilled, remasked, ones_in, box_check, differs_in, stale}
use Rattle.walks.specs.declared.Walker.TheVariants.{Plain, Adaptive}
use Rattle.walks.specs.Walks.{walk_of}
use Rattle.walks.specs.Answers.{first_hit}
use Rattle.walks.proofs.Modes.{as_usual}
use Rattle.survey.specs.Survey.{placement_check, cell_of}
use Rattle.sight.specs.Sight.{sight}
use Rattle.records.specs.Heads.{whole_check}
use Rattle.records.specs.Venues.{venue_version, venue_head, venue_check, venue_read, venue_cells}
use Rattle.records.specs.Pairs.{signed, pair_version, pair_length, rule_byte, pair_check, pair_read}
use Rattle.records.specs.Writing.{write_check}
use Rattle.bricks.specs.Kept.{Kept}
use Rattle.claims.proofs.Cases.{on_axes, of_walks}
use Rattle.claims.specs.Example.{counts, at, example_counts, marked_cells, set_cells, all_solid}
use Rattle.claims.specs.Sequences.{Set, then_one, nothing, Mark, Refill, Build}
use Rattle.claims.proofs.Sequences.{keeping}
use Rattle.claims.specs.Story.{all_clear}
use Rattle.claims.specs.Witnesses.{steps_there, OfLines, OfGrids, OfCounts, OfPoints, OfRecords, OfPrograms}
use Rattle.claims.specs.Records.{example_venue, example_pair}
use Rattle.claims.proofs.Records.{accepted}
use Rattle.claims.proofs.Lines.{one_place, entered}
use Rattle.claims.proofs.Lists.{longest_list}
use Rattle.claims.proofs.Program.{writes}
use Rattle.claims.proofs.Starred.{example_writes}
use Rattle.claims.specs.Program.{Runs, example_input}
use Rattle.buffers.specs.Over.{over}
use Rattle.texts.specs.Text.{decimal}
use Rattle.touching.specs.Touching.{first_touching}
use Rattle.lines.specs.Touching.{touching_line}

-- from (2,1,0) to (0,0,0) x is crossed at 1 and 3 over 4, y at 1 over 2
untied : (a b : Axis) (i j : ℕ) → same a b ≡ 0 → i < differences (at 2 1 0) (at 0 0 0) a → j < differences (at 2 1 0) (at 0 0 0) b →
    (1 + 2 * i) * (2 * differences (at 2 1 0) (at 0 0 0) b) ≢ (1 + 2 * j) * (2 * differences (at 2 1 0) (at 0 0 0) a)
untied X X i j s p q e = omega arith
untied X Y i j s p q e = omega arith
untied X Z i j s p q e = omega arith
untied Y X i j s p q e = omega arith
untied Y Y i j s p q e = omega arith
untied Y Z i j s p q e = omega arith
untied Z X i j s p q e = omega arith
untied Z Y i j s p q e = omega arith
untied Z Z i j s p q e = omega arith

pub of_lines : OfLines
unfolding six_line order_of line_26 touching_line
of_lines =
    record {
      share = record { some = lit< tt; most = omega arith };
      centre_of_p = centre_inside y_z_x (at 0 0 0) (at 2 1 0) 1 (lit< tt);
      limits = longest_list.accepted;
      in_order = ((one_place y_z_x steps_there).there 2 (omega arith)).0;
      last_made = (entered y_z_x steps_there).by_last 1 (omega arith);
      tie_free = record { none = untied };
      comes_first = inl (record { lt = tt });
      by_two = record { says = refl; holds = refl };
      back_by_two = record { says = refl; holds = refl };
      listed = record { says = refl; holds = refl };
      listed_26 = record { says = refl; holds = refl };
      no_room = record { says = refl; holds = refl };
      touching = record { says = refl; holds = refl };
      touching_no_room = record { says = refl; holds = refl };
      at_an_edge = record {
        from = on_axes _ (record { le = tt }) (record { le = tt }) (record { le = tt });
        upto = on_axes _ (record { le = tt }) (record { le = tt }) (record { le = tt });
      };
      in_line = record { number = 2; below = omega arith; is = refl };
    }

pub of_grids : OfGrids
unfolding shape marked complete completeness layer_part layer walk_of first_hit first_touching
of_grids =
    record {
      corner = record { by_one = on_axes _ (omega arith) (omega arith) (omega arith); differing = omega arith; within = omega arith };
      number = record { says = refl };
      shaped = record { says = refl };
      one_short = record { says = refl };
      marked_there = record { says = refl; holds = refl };
      complete_marks = refl;
      says_yes = record { says = refl };
      says_no = record { says = refl };
      part = record { says = refl };
      layer = record { says = refl; there = record { block = refl; offset = refl } };
      not_marked = record { says = refl; holds = refl };
      thin_marks = refl;
      not_full = refl;
      thin_made = refl;
      thin_clear = of_walks _ (record { says = refl }) (record { says = refl });
      thin_hits = of_walks _ (record { says = refl }) (record { says = refl });
      trail = record { says = refl; holds = refl };
      trail_no_room = record { says = refl; holds = refl };
      trail_to_hit = record { says = refl; holds = refl };
      touching_hits = record { says = refl };
      touching_clear = record { says = refl };
      back_clear = of_walks _ (record { says = refl }) (record { says = refl });
      back_hits = of_walks _ (record { says = refl }) (record { says = refl });
      plain_hits = λ how. record { says = sym (as_usual example_counts marked_cells (at 0 0 0) (at 3 1 0) Plain how refl refl) };
      adaptive_hits = λ how. record { says = sym (as_usual example_counts marked_cells (at 0 0 0) (at 3 1 0) Adaptive how refl refl) };
      clear_marks = refl;
      plain_clear = λ how. record { says = sym (as_usual (counts 3 2 1) all_clear (at 0 0 0) (at 2 1 0) Plain how refl refl) };
      adaptive_clear = λ how. record { says = sym (as_usual (counts 3 2 1) all_clear (at 0 0 0) (at 2 1 0) Adaptive how refl refl) };
      solid_start = refl;
      passed = of_walks _ (record { says = refl }) (record { says = refl });
      not_passed = of_walks _ (record { says = refl }) (record { says = refl });
      clear_start = refl;
    }

kept_example : Kept example_counts marked_cells (32 ∷ []) 1
unfolding bricks_check shape count_check built mask_of sum solids
kept_example = (keeping example_counts marked_cells (0 ∷ [])).built 1 (32 ∷ []) (record { says = refl; holds = refl })

pub of_counts : OfCounts
unfolding bricks_check shape count_check built mask_of sum solids box_check stale differs_in any ones_in refilled remasked ones marked touches_solid
    marked_byte
of_counts =
    record {
      built = record { says = refl; holds = refl };
      not_built = record { says = refl; holds = refl };
      kept = kept_example;
      was_set = record { says = refl; bytes = refl; masks = refl };
      not_set = record { says = refl; bytes = refl; masks = refl };
      refilled = record { says = refl; bytes = refl; masks = refl };
      crossed = record { says = refl; bytes = refl; masks = refl };
      holds = (
        0,
        0,
        0,
        (
          ((≤ℤ_is _ _).1 (omega arith), (≤ℤ_is _ _).1 (omega arith)),
          ((≤ℤ_is _ _).1 (omega arith), (≤ℤ_is _ _).1 (omega arith)),
          ((≤ℤ_is _ _).1 (omega arith), (≤ℤ_is _ _).1 (omega arith)),
        ),
        refl,
      );
      holds_none = λ (x, y, z, named, e).
          let dx = (≤ℤ_is _ _).0 named.0.1 in
          let dy = (≤ℤ_is _ _).0 named.1.1 in
          let dz = (≤ℤ_is _ _).0 named.2.1 in
          omega (arith, e);
      no_cell = λ x y z h there b. omega (arith, h.0, h.1, h.2);
      calls =
          then_one {t = record { bytes = marked_cells; masks = 32 ∷ 7 ∷ []; total = 1 }} {op = Mark} (
            (Ok tt),
            record { says = refl; holds = refl },
            refl,
            refl,
          )
          (then_one {t = record { bytes = set_cells; masks = 33 ∷ 7 ∷ []; total = 2 }} {op = Set (at 0 0 0) 2} (
            Ok 2,
            record { says = refl; bytes = refl; masks = refl },
            refl,
          )
          (then_one {t = record { bytes = set_cells; masks = 33 ∷ 7 ∷ []; total = 2 }} {op = Refill (at 3 1 0) (at 0 0 0) 2} (
            Err Corners,
            record { says = refl; bytes = refl; masks = refl },
            refl,
          )
          (then_one {t = record { bytes = all_solid; masks = 255 ∷ 7 ∷ []; total = 8 }} {op = Refill (at 0 0 0) (at 3 1 0) 2} (
            Ok 8,
            record { says = refl; bytes = refl; masks = refl },
            refl,
          )
          (then_one {t = record { bytes = all_solid; masks = 255 ∷ 7 ∷ []; total = 8 }} {op = Build} (
            Ok 8,
            record { says = refl; holds = refl },
            refl,
            refl,
          )
          (nothing _)))));
      all_right = (keeping example_counts marked_cells (32 ∷ [])).right 1 kept_example;
    }

pub of_points : OfPoints
unfolding count_check placement_check cell_of sight eq le lt of_int div sub
of_points =
    record {
      tested = record { counts = refl; placed = refl };
      finite = record { x = refl; y = refl; z = refl };
      in_its_cell = record {
        x = record { number = 1; same = refl; below = lit< tt; has = inl refl };
        y = record { number = 0; same = refl; below = lit< tt; has = inl refl };
        z = record { number = 3; same = refl; below = lit< tt; has = inl refl };
      };
      looked_up = record { says = refl };
      in_last_cell = record {
        x = record { number = 3; same = refl; below = lit< tt; has = inr (refl, refl) };
        y = record { number = 3; same = refl; below = lit< tt; has = inr (refl, refl) };
        z = record { number = 3; same = refl; below = lit< tt; has = inr (refl, refl) };
      };
      on_first = refl;
      was_refused = refl;
      behind_first = refl;
      off_survey = refl;
      seen = record { says = refl };
      seen_thin = record { says = refl };
      blocked = record { says = refl };
    }

-- a list whose numbers are all below 256
abbrev all_below : List ℕ → Bool
all_below [] = true
all_below (b ∷ l) = ltb b 256 && all_below l

and_true : (a b : Bool) → (a && b) ≡ true → (a ≡ true) × (b ≡ true)
and_true true b h = (refl, h)
and_true false b h = absurd (let z : ◌≡◌ {A = ℕ} 0 1 = cc in omega arith)

bytes_of : (l : List ℕ) → all_below l ≡ true → (i : ℕ) → get_or l i 0 < 256
bytes_of [] h i = lit< tt
bytes_of (b ∷ l) h zero = ltb-true b 256 (and_true (ltb b 256) (all_below l) h).0
bytes_of (b ∷ l) h (suc i) = bytes_of l (and_true (ltb b 256) (all_below l) h).1 i

pub of_records : OfRecords
unfolding shape whole_check venue_version venue_head venue_check venue_read venue_cells signed pair_version pair_length
    rule_byte rule_of rule_check pair_check pair_read write_check
of_records =
    record {
      bytes = record { byte = bytes_of example_venue refl };
      exact = refl;
      venue = record { says = refl };
      right = ((accepted example_venue).venue _).0 (record { says = refl });
      right_pair = ((accepted example_pair).pair _).0 (record { says = refl });
      pair = record { says = refl };
      second_pair = record { says = refl };
      no_such_rule = record { says = refl };
      cells = record { says = refl; there = record { block = refl; offset = refl } };
      no_venue = record { says = refl };
      misfit = (omega arith, refl, omega arith, refl, λ e. omega arith);
      written = record { says = refl; holds = refl };
      not_written = record { says = refl; holds = refl };
    }

pub of_programs : OfPrograms
unfolding decimal over
of_programs =
    record {
      for_c = record { answer = Ok true; meets = of_grids.says_yes; flat = refl };
      refused_for_c = record { answer = Err Bytes; meets = of_grids.not_marked; flat = refl };
      put = record { says = refl; holds = refl };
      run = subst (Runs example_input) example_writes (writes example_input).some;
    }
