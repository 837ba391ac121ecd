-- What is said of a refusal or an answer tells which it is, each by its left inverse. Assumes nothing.
use mathlib.Core.Path.{sym, ◌∙◌, refl}
use native.Mathlib.Omega.{arith}
use Rattle.cells.specs.declared.Refusal.{Refusal}
use Rattle.cells.proofs.Refusals.{told_one, told_verdict_one}
use Rattle.lists.proofs.Told.{told_listed_one}
use Rattle.grids.proofs.Told.{told_part_one, told_completeness_one}
use Rattle.bricks.proofs.Told.{told_tally_one}
use Rattle.walks.proofs.Told.{told_hit_one}
use Rattle.survey.proofs.Told.{told_lookup_one}
use Rattle.sight.proofs.Told.{told_sight_one}
use Rattle.records.proofs.Told.{told_venue_one, told_pair_one, told_written_one}
use Rattle.claims.specs.Words.{ToldApart, OneNumber, TheTable, WrongNumbers}

pub told_apart : ToldApart
told_apart =
    record {
      refusal = told_one;
      verdict = told_verdict_one;
      listed = told_listed_one;
      part = told_part_one;
      completeness = told_completeness_one;
      tally = told_tally_one;
      hit = told_hit_one;
      lookup = told_lookup_one;
      sight = told_sight_one;
      venue = told_venue_one;
      pair = told_pair_one;
      written = told_written_one;
    }

pub one_number : (r : Refusal) → OneNumber r
one_number r = record { one = λ m n e f. e.says ∙ sym f.says }

pub wrong_numbers : WrongNumbers
wrong_numbers =
    record {
      off_grid_nine = λ e. omega (arith, e);
      version_as_record = λ e. omega (arith, e);
      rule_as_version = λ e. omega (arith, e);
      corners_as_stale = λ e. omega (arith, e);
    }

pub the_table : TheTable
the_table =
    record {
      one = λ e a. refl;
      two = λ a. refl;
      three = refl;
      four = refl;
      five = λ e a. refl;
      six = refl;
      seven = λ p. refl;
      eight = λ e a. refl;
      nine = λ e a. refl;
      ten = refl;
      eleven = refl;
      twelve = refl;
      thirteen = refl;
      fourteen = refl;
    }
