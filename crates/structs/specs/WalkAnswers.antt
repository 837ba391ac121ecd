-- How the answer of a first-hit call is flattened for C: what SCOPE says of it, as numbers. Assumes nothing.
use Rattle.std.specs.Prelude.{Ok, Err, Result, ℕ, pos}
use Rattle.cells.specs.declared.Refusal.{Refusal}
use Rattle.walks.specs.declared.FirstHit.{FirstHit}
use Rattle.structs.specs.declared.refusals.OatSaid.{OatSaid}
use Rattle.structs.specs.declared.walk_answers.OatHit.{OatHit}
use Rattle.structs.specs.Refusals.{accepted, flat_refusal}
use Rattle.structs.specs.Faces.{face_number}

-- a walk that hit nothing, or that was not made
abbrev pub no_hit : OatSaid → ℕ → OatHit
no_hit said many =
    record {
      said = said;
      hit = 0;
      x = pos 0;
      y = pos 0;
      z = pos 0;
      code = 0;
      num = 0;
      den = 0;
      face = pos 0;
      reads = many;
    }

-- a walk: hit 1 where it hit, 0 where it is clear
abbrev pub flat_hit : Result FirstHit Refusal → OatHit
flat_hit (Ok (FirstHit.Hit h)) =
    record {
      said = accepted;
      hit = 1;
      x = h.cell.x;
      y = h.cell.y;
      z = h.cell.z;
      code = h.code;
      num = h.place.num;
      den = h.place.den;
      face = face_number h.place.face;
      reads = h.reads;
    }
flat_hit (Ok (FirstHit.Clear many)) = no_hit accepted many
flat_hit (Err r) = no_hit (flat_refusal r) 0
