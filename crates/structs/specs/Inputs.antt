-- What C's structs that go into a call mean. Assumes nothing.
use Rattle.std.specs.Prelude.{ℕ, cond, eqb, Result, Ok, Err}
use Rattle.cells.specs.declared.Cell.{Cell}
use Rattle.cells.specs.declared.Counts.{Counts}
use Rattle.cells.specs.declared.Manner.{Manner}
use Rattle.cells.specs.declared.Refusal.{Refusal}
use Rattle.cells.specs.declared.Start.{Start}
use Rattle.cells.specs.declared.Start.TheVariants.{Untested, Tested}
use Rattle.cells.specs.Checks.{by_verdict}
use Rattle.cells.specs.Manners.{rule_of, rule_check}
use Rattle.structs.specs.declared.inputs.OatCell.{OatCell}
use Rattle.structs.specs.declared.inputs.OatCounts.{OatCounts}
use Rattle.structs.specs.declared.inputs.OatManner.{OatManner}
use Rattle.structs.specs.declared.inputs.OatPlacement.{OatPlacement}
use Rattle.structs.specs.declared.inputs.OatPoint.{OatPoint}
use Rattle.survey.specs.declared.Placement.{Placement}
use Rattle.survey.specs.declared.Point.{Point}

-- the cell that C's struct means
abbrev pub as_cell : OatCell → Cell
as_cell c = record { x = c.x; y = c.y; z = c.z }

-- the counts that C's struct means
abbrev pub as_counts : OatCounts → Counts
as_counts n = record { nx = n.nx; ny = n.ny; nz = n.nz }

-- the manner that C's struct means, where its rule names one: for `start` 0 stands for a start that is not tested, any other number for one that is
abbrev pub as_start : ℕ → Start
as_start number = cond (eqb number 0) Untested Tested

abbrev pub as_manner : OatManner → Manner
as_manner how = record { start = as_start how.start; rule = rule_of how.rule }

-- that manner, or 12 where its rule's number names none
abbrev pub manner_named : OatManner → Result Manner Refusal
manner_named how = by_verdict Err (Ok (as_manner how)) (rule_check how.rule)

-- the placement and the point that C's structs mean
abbrev pub as_placement : OatPlacement → Placement
as_placement at = record { ox = at.ox; oy = at.oy; oz = at.oz; edge = at.edge }

abbrev pub as_point : OatPoint → Point
as_point p = record { x = p.x; y = p.y; z = p.z }
