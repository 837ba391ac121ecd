-- How a point's cell and the sight answer are flattened for C: what SCOPE says of them, as numbers. Assumes nothing.
use Rattle.std.specs.Prelude.{Ok, Err, Result, pos}
use Rattle.cells.specs.declared.Refusal.{Refusal}
use Rattle.cells.specs.declared.Cell.{Cell}
use Rattle.structs.specs.declared.refusals.OatSaid.{OatSaid}
use Rattle.structs.specs.declared.sight_answers.OatFound.{OatFound}
use Rattle.sight.specs.declared.Sight.{Sight}
use Rattle.structs.specs.declared.sight_answers.OatSight.{OatSight}
use Rattle.survey.specs.Quotient.{as_f64}
use Rattle.structs.specs.Refusals.{accepted, flat_refusal}
use Rattle.structs.specs.Faces.{face_number}

abbrev pub flat_found : Result Cell Refusal → OatFound
flat_found (Ok c) = record { said = accepted; x = c.x; y = c.y; z = c.z }
flat_found (Err r) = record { said = flat_refusal r; x = pos 0; y = pos 0; z = pos 0 }

-- a sight with nothing in the way, or that was refused
abbrev pub unblocked : OatSaid → OatSight
unblocked said =
    record {
      said = said;
      blocked = 0;
      share = as_f64 0;
      x = pos 0;
      y = pos 0;
      z = pos 0;
      code = 0;
      reads = 0;
      face = pos 0;
    }

-- a sight: blocked 1 where something is in the way, 0 where it is clear
abbrev pub flat_sight : Sight → OatSight
flat_sight (Sight.Blocked b) =
    record {
      said = accepted;
      blocked = 1;
      share = b.share;
      x = b.cell.x;
      y = b.cell.y;
      z = b.cell.z;
      code = b.code;
      reads = b.reads;
      face = face_number b.face;
    }
flat_sight Sight.Clear = unblocked accepted
flat_sight (Sight.Refused r) = unblocked (flat_refusal r)
