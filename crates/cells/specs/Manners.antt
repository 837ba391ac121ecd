-- SCOPE W9, L17: how a walk is made, as its caller names it. Assumes nothing.
use Rattle.std.specs.Prelude.{ℕ, Bool, true, false, cond, not, ◌||◌, eqb, Result, Ok, Err}
use Rattle.cells.specs.declared.Start.{Start}
use Rattle.cells.specs.declared.Start.TheVariants.{Untested, Tested}
use Rattle.cells.specs.declared.Rule.{Rule}
use Rattle.cells.specs.declared.Rule.TheVariants.{One, Two}
use Rattle.cells.specs.declared.Manner.{Manner}
use Rattle.cells.specs.declared.Refusal.{Refusal}
use Rattle.cells.specs.declared.Refusal.TheVariants.{NoRule}
use Rattle.cells.specs.Checks.{Verdict, refuse_when, by_verdict}

-- whether the start is tested like every other cell
abbrev pub is_tested : Start → Bool
is_tested Untested = false
is_tested Tested = true

-- SCOPE W10, L17: the default: the start is not tested, ties go by rule 1
abbrev pub usual : Manner
usual = record { start = Untested; rule = One }

-- the start tested, ties by a rule
abbrev pub tested_by : Rule → Manner
tested_by rule = record { start = Tested; rule = rule }

-- and by rule 1
abbrev pub tested_start : Manner
tested_start = tested_by One

-- SCOPE R12: the numbers that name a rule
abbrev pub names_rule : ℕ → Bool
names_rule number = eqb number 1 || eqb number 2

-- the rule that such a number names
unfoldable pub rule_of : ℕ → Rule
rule_of number = cond (eqb number 2) Two One

-- SCOPE R12: 12 for every other number
unfoldable pub rule_check : ℕ → Verdict
rule_check number = refuse_when (not (names_rule number)) NoRule

-- the two together: the rule that a number names, or 12
abbrev pub rule_named : ℕ → Result Rule Refusal
rule_named number = by_verdict Err (Ok (rule_of number)) (rule_check number)
