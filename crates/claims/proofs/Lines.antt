-- The claims about the 6-line and the 26-line, each from its law. Assumes nothing.
use Prim.Native.Nat.{ℕ, ◌<◌}
use mathlib.Core.Path.{◌≡◌, sym, ◌∙◌, ap}
use native.Mathlib.Omega.{arith}
use lib.IntN.{pos, negsuc, ◌-ℤ◌}
use lib.Signed.{lt_z}
use Rattle.cells.proofs.Signed.{diff_is, ≤ℤ_is}
use Rattle.cells.specs.declared.Cell.{Cell}
use Rattle.lines.specs.Steps.{X, Y, Z, Steps}
use Rattle.lines.specs.Crossings.{next, place}
use Rattle.lines.specs.Preference.{Preference}
use Rattle.lines.specs.Lines.{differences, centres, longest}
use Rattle.lines.specs.Decisions.{decision, values, shift, lowered}
use Rattle.lines.proofs.Steps.{stepped_bump}
use Rattle.lines.proofs.Fractions.{place_in_order, in_order_is_place, place_total, place_suc, entered_by_last, last_made_one, ahead}
use Rattle.lines.proofs.Centres.{centres_good, upto_26}
use Rattle.lines.proofs.Signs.{sign_tells, figure_6_is_next, lowered_moves, lowered_none, shift_most, stays_small, first_longest, second_longest}
use Rattle.lines.proofs.TieSigns.{tie_by_signs_is}
use Rattle.lines.proofs.Cells.{six_length, six_numbered, six_start, six_end, six_different, six_by_face, six_touched, six_misses_none, six_at_26, length_26, numbered_26, start_26, end_26, moves_by_one_26, longest_moves_26, skipped_touches, limited_difference}
use Rattle.claims.proofs.Cases.{on_axes}
use Rattle.claims.specs.Lines.{OnePlace, SixLine, Touched, NoneMissing, TwentySixLine, Skipped, Signs, SmallValues, Entered, Moves, LongStep, HalfACell}

pub one_place : (r : Preference) (D : Steps) → OnePlace r D
one_place r D =
    record {
      there = λ n le. (place_in_order (centres r D) (centres_good r D) n le, place_total (centres r D) n);
      alone = in_order_is_place (centres r D) (centres_good r D);
    }

pub six_line_holds : (r : Preference) (p q : Cell) → SixLine r p q
six_line_holds r p q =
    record {
      many = six_length r p q;
      numbered = six_numbered r p q;
      starts = six_start r p q;
      ends = six_end r p q;
      different = six_different r p q;
      by_face = six_by_face r p q;
    }

pub each_cell_touched : (r : Preference) (p q : Cell) → Touched r p q
each_cell_touched r p q = record { touched = six_touched r p q }

pub no_cell_missing : (r : Preference) (p q : Cell) → NoneMissing r p q
no_cell_missing r p q = record { found = six_misses_none r p q }

pub line_26_holds : (r : Preference) (p q : Cell) → TwentySixLine r p q
line_26_holds r p q =
    record {
      upto = λ m. upto_26 (differences p q) r m;
      on_six = six_at_26 r p q;
      many = length_26 p q;
      numbered = numbered_26 p q;
      starts = start_26 p q;
      ends = end_26 p q;
      by_one = moves_by_one_26 p q;
      longest_moves = longest_moves_26 p q;
    }

pub skips_neighbours : (r : Preference) (p q : Cell) → Skipped r p q
skips_neighbours r p q = record { by_face_or_edge = skipped_touches r p q }

pub signs_tell : (D : Steps) → Signs D
signs_tell D =
    record {
      tell_with_tie = λ r t a b h. sign_tells r D t a b ∙ ap (λ k. lt_z (decision D t a b) (pos k)) (first h);
      tell = λ r t a b h. sign_tells r D t a b ∙ ap (λ k. lt_z (decision D t a b) (pos k)) (second h);
      pick = λ o. figure_6_is_next o D;
      itself = λ t. lowered_none (values D t);
      tie = λ t. tie_by_signs_is D t;
      move = λ o t n. ap (λ u. lowered o (values D u)) (stepped_bump t n) ∙ lowered_moves o D t n;
    }
  where
    first : {k s : ℕ} → k < s → ahead k s ≡ 1
    first h = omega arith

    second : {k s : ℕ} → s < k → ahead k s ≡ 0
    second h = omega arith

pub values_small : (p q : Cell) → SmallValues p q
values_small p q =
    record {
      small = λ hp hq t le a b.
          stays_small (differences p q) t a b (limited_difference p q hp hq a) (limited_difference p q hp hq b) (le a) (le b);
      lowered = λ hp hq t le o a b.
          let z = decision (differences p q) t a b in
          let (lo, hi) = stays_small (differences p q) t a b (limited_difference p q hp hq a) (limited_difference p q hp hq b) (le a) (le b) in
          let l = (≤ℤ_is (negsuc 536821760) z).0 lo in
          let h = (≤ℤ_is z (pos 536821761)).0 hi in
          let e = diff_is z (pos (shift o)) in (
            (≤ℤ_is (negsuc 536821761) (z -ℤ pos (shift o))).1 (omega (arith, shift_most o)),
            (≤ℤ_is (z -ℤ pos (shift o)) (pos 536821761)).1 (omega (arith, shift_most o)),
          );
    }

pub entered : (r : Preference) (D : Steps) → Entered r D
entered r D =
    record {
      steps = λ n. place_suc (centres r D) n ∙ sym (stepped_bump (place (centres r D) n) (next (centres r D) (place (centres r D) n)));
      by_last = entered_by_last (centres r D) (centres_good r D);
      alone = last_made_one (centres r D) (centres_good r D);
    }

moves : (D : Steps) (m : ℕ) → m < longest D → Moves D m
moves D m lt =
    record {
      x_y = λ e. first_longest D X Y m e lt;
      x_z = λ e. first_longest D X Z m e lt;
      y_x = λ e. second_longest D Y X m e lt;
      y_z = λ e. second_longest D Y Z m e lt;
      z_x = λ e. second_longest D Z X m e lt;
      z_y = λ e. first_longest D Z Y m e lt;
    }

pub long_step : (D : Steps) → LongStep D
long_step D = record { moves = moves D }

-- ---- the faces of a cell

pub half_a_cell : HalfACell
half_a_cell =
    record {
      short_of = record {
        from = on_axes _ (record { lt = tt }) (record { lt = tt }) (record { lt = tt });
        upto = on_axes _ (record { lt = tt }) (record { lt = tt }) (record { lt = tt });
      };
      on_the_face = (
        record {
          from = on_axes _ (record { le = tt }) (record { le = tt }) (record { le = tt });
          upto = on_axes _ (record { le = tt }) (record { le = tt }) (record { le = tt });
        },
        record {
          from = on_axes _ (record { le = tt }) (record { le = tt }) (record { le = tt });
          upto = on_axes _ (record { le = tt }) (record { le = tt }) (record { le = tt });
        },
      );
      not_inside = (λ h. (h.upto X).lt, λ h. (h.from X).lt);
      past = λ h. (h.upto X).le;
    }
