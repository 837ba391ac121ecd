-- Every row of the program's limits and ends holds: the output computes to what SCOPE says. Assumes nothing.
use mathlib.Core.Path.{refl}
use Rattle.cells.specs.Manners.{rule_of, rule_check}
use Rattle.grids.specs.Grid.{shape}
use Rattle.records.specs.Heads.{whole_check}
use Rattle.records.specs.Venues.{venue_version, venue_head, venue_check, venue_read, venue_cells}
use Rattle.records.specs.Pairs.{signed, pair_version, pair_length, rule_byte, pair_check, pair_read}
use Rattle.walks.specs.Answers.{first_hit}
use Rattle.texts.specs.Text.{decimal, hit_line, clear_line, pair_refused_line, venue_refused_line}
use Rattle.program.specs.Program.{beyond, output}
use Rattle.claims.specs.Tables.{no_more, ◌and◌}
use Rattle.claims.specs.Starred.{Every}
use Rattle.claims.specs.ProgramRows.{more_program_rows}

pub more_programs_hold : Every more_program_rows
unfolding beyond output decimal hit_line clear_line pair_refused_line venue_refused_line shape whole_check venue_version venue_head venue_check
    venue_read venue_cells signed pair_version pair_length rule_byte pair_check pair_read rule_of rule_check first_hit
more_programs_hold =
    refl and refl and refl and refl and refl and refl and refl and refl and refl and refl and refl and refl and refl and refl and refl and no_more
