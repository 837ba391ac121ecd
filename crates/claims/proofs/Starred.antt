-- Every row of the table of starred cases holds: the definitions compute to what SCOPE says. Assumes nothing.
use Rattle.std.specs.Prelude.{Result}
use Rattle.cells.specs.declared.Refusal.{Refusal}
use Prim.Native.Nat.{ℕ}
use mathlib.Core.Path.{◌≡◌, refl, sym, ap}
use mathlib.Core.List.{List}
use mathlib.Core.Logic.{◌↔◌}
use lib.Ieee.{eq, le, lt, of_int, of_bits, to_bits, div, sub}
use Rattle.cells.specs.declared.Cell.{Cell}
use Rattle.cells.specs.declared.Counts.{Counts}
use Rattle.cells.specs.Manners.{rule_of, rule_check}
use Rattle.lines.specs.Preference.{order_of}
use Rattle.lines.specs.Lines.{six_line, line_26}
use lib.Count.{ones}
use Rattle.grids.specs.Grid.{count_check, shape}
use Rattle.grids.specs.Marks.{any, touches_solid, marked_byte, marked, complete, completeness}
use Rattle.bricks.specs.Sums.{sum}
use Rattle.bricks.specs.Bricks.{mask_of, solids}
use Rattle.bricks.specs.Builds.{bricks_check, built}
use Rattle.refills.specs.Refills.{refilled, remasked, ones_in, box_check, differs_in, stale, Refills}
use Rattle.records.specs.Heads.{whole_check}
use Rattle.records.specs.Venues.{venue_version, venue_head, venue_check, venue_read, venue_cells}
use Rattle.records.specs.Pairs.{signed, pair_version, pair_length, rule_byte, pair_check, pair_read}
use Rattle.walks.specs.Answers.{first_hit}
use Rattle.texts.specs.Text.{decimal, hit_line, clear_line}
use Rattle.program.specs.Program.{beyond, output}
use Rattle.sight.specs.Sight.{sight}
use Rattle.claims.specs.Program.{example_input, example_output}
use Rattle.claims.specs.Tables.{no_more, ◌and◌}
use Rattle.claims.specs.Starred.{after_refill, RowsMeant, Every, program_rows, record_rows, sight_rows, rule_rows, start_rows, count_rows, shell_rows, table}

pub rows_meant : RowsMeant
rows_meant =
    record {
      build = λ n l m r m'. (
        λ c. sym (λ i. (c.says i, c.holds i)),
        λ e. record { says = sym (ap (λ p. p.0) e); holds = sym (ap (λ p. p.1) e) },
      );
      refill = refill;
      set = λ n cell. refill n cell cell;
    }
  where
    refill : (n : Counts) (low high : Cell) (byte : ℕ) (l m : List ℕ) (total : ℕ) (r : Result ℕ Refusal) (l' m' : List ℕ) →
        Refills n low high byte l m total r l' m' ↔ (after_refill n low high byte l m total ≡ (r, l', m'))
    refill n low high byte l m total r l' m' = (
      λ c. sym (λ i. (c.says i, c.bytes i, c.masks i)),
      λ e. record { says = sym (ap (λ p. p.0) e); bytes = sym (ap (λ p. p.1) e); masks = sym (ap (λ p. p.2) e) },
    )

pub example_writes : output example_input ≡ example_output
unfolding beyond output decimal hit_line clear_line shape whole_check venue_version venue_head venue_check venue_read venue_cells signed pair_version
    pair_length rule_byte rule_of rule_check pair_check pair_read first_hit
example_writes = refl

programs_hold : Every program_rows
unfolding beyond output decimal hit_line clear_line shape whole_check venue_version venue_head venue_check venue_read venue_cells signed pair_version
    pair_length rule_byte rule_of rule_check pair_check pair_read first_hit
programs_hold = example_writes and refl and no_more

records_hold : Every record_rows
unfolding shape whole_check venue_version venue_head venue_check venue_read venue_cells signed pair_version pair_length
    rule_byte rule_of rule_check pair_check pair_read
records_hold =
    refl and refl and refl and refl and refl and refl and refl and refl and refl and refl and refl and refl and refl and refl and refl and refl and
    programs_hold

sights_hold : Every sight_rows
unfolding sight eq le lt of_int of_bits to_bits div sub
sights_hold = refl and refl and refl and refl and refl and refl and refl and refl and refl and refl and refl and refl and refl and records_hold

rules_hold : Every rule_rows
unfolding first_hit six_line order_of
rules_hold =
    refl and refl and refl and refl and refl and refl and refl and refl and refl and refl and refl and refl and refl and refl and
    refl and refl and refl and refl and refl and refl and refl and refl and refl and refl and refl and
    refl and refl and refl and refl and refl and refl and sights_hold

starts_hold : Every start_rows
unfolding first_hit
starts_hold =
    refl and refl and refl and refl and refl and refl and refl and refl and refl and
    refl and refl and refl and refl and refl and refl and refl and refl and rules_hold

counts_hold : Every count_rows
unfolding bricks_check shape count_check built mask_of sum solids box_check stale differs_in any ones_in refilled remasked ones completeness complete marked
    touches_solid marked_byte
counts_hold =
    refl and refl and refl and refl and refl and refl and refl and refl and refl and refl and refl and refl and refl and
    refl and refl and refl and refl and refl and refl and refl and refl and refl and refl and refl and refl and starts_hold

shells_hold : Every shell_rows
unfolding shape count_check completeness complete marked marked_byte touches_solid any first_hit
shells_hold =
    refl and refl and refl and refl and refl and refl and refl and refl and refl and refl and refl and refl and refl and refl and refl and refl
    and refl and refl and refl and refl and refl and counts_hold

pub starred : Every table
unfolding six_line order_of line_26 marked first_hit
starred =
    refl and refl and refl and refl and refl and refl and refl and refl and refl and refl and refl and refl and refl and refl and refl and refl and
    refl and refl and refl and refl and refl and refl and refl and refl and refl and refl and refl and
    refl and refl and refl and refl and refl and refl and refl and refl and refl and refl and refl and
    refl and refl and refl and refl and refl and refl and refl and refl and refl and refl and shells_hold
