-- What every answer for C begins with: a refusal's number, and the end and the axis that it names, as numbers. Assumes nothing.
use Rattle.std.specs.Prelude.{ℕ, ◌⊎◌}
use Rattle.std.proofs.Common.{inl, inr}
use Rattle.std.proofs.Math.Option.{Option, none, some}
use Rattle.cells.specs.declared.Axis.{Axis}
use Rattle.cells.specs.declared.Axis.TheVariants.{X, Y, Z}
use Rattle.cells.specs.declared.End.{End}
use Rattle.cells.specs.declared.End.TheVariants.{P, Q}
use Rattle.cells.specs.declared.Part.{Part}
use Rattle.cells.specs.declared.Part.TheVariants.{OriginX, OriginY, OriginZ, Edge}
use Rattle.cells.specs.declared.Refusal.{Refusal}
use Rattle.cells.specs.Refusals.{Told, told}
use Rattle.structs.specs.declared.refusals.OatSaid.{OatSaid}

-- an end: 1 P, 2 Q
abbrev pub end_number : End → ℕ
end_number P = 1
end_number Q = 2

-- an axis: 1 x, 2 y, 3 z
abbrev pub axis_number : Axis → ℕ
axis_number X = 1
axis_number Y = 2
axis_number Z = 3

-- one of the four parts of a placement: 1 origin x, 2 origin y, 3 origin z, 4 the edge
abbrev pub part_number : Part → ℕ
part_number OriginX = 1
part_number OriginY = 2
part_number OriginZ = 3
part_number Edge = 4

-- 0 where nothing is said
abbrev pub or_0 : {A : Type 0} → (A → ℕ) → Option A → ℕ
or_0 f none = 0
or_0 f (some a) = f a

-- the axis, or the part of a placement
abbrev pub which : Option Axis → Option Part → ℕ
which none p = or_0 part_number p
which (some a) p = axis_number a

-- a number, and those of an end and an axis
abbrev pub said_at : (number end axis : ℕ) → OatSaid
said_at number end axis = record { refusal = number; end = end; axis = axis }

-- accepted: nothing is said
abbrev pub accepted : OatSaid
accepted = said_at 0 0 0

-- what SCOPE says of a refusal, as numbers
abbrev pub flat_told : Told → OatSaid
flat_told t = said_at t.number (or_0 end_number t.end) (which t.axis t.part)

abbrev pub flat_refusal : Refusal → OatSaid
flat_refusal r = flat_told (told r)

-- what an answer begins with, by what SCOPE says of it: of a refusal, or of values
abbrev pub said_of : {B : Type 0} → Told ⊎ B → OatSaid
said_of (inl t) = flat_told t
said_of (inr v) = accepted
