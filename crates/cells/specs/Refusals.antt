-- SCOPE, R: each refusal's number, and what it says with it: which end, which axis, which of the four parts of a
-- placement; and each case of a verdict. Assumes nothing.
use Rattle.std.specs.Prelude.{ℕ, ◌⊎◌, ◌≡◌, Result, Ok, Err}
use Rattle.std.proofs.Common.{inl, inr}
use Rattle.std.proofs.Math.Option.{Option, none, some}
use Rattle.cells.specs.declared.Axis.{Axis}
use Rattle.cells.specs.declared.End.{End}
use Rattle.cells.specs.declared.Part.{Part}
use Rattle.cells.specs.declared.Refusal.{Refusal}
use Rattle.cells.specs.declared.Refusal.TheVariants.{Limit, Count, Bytes, Layer, OffGrid, Room, Placement, NotFinite, OffSurvey}
use Rattle.cells.specs.declared.Refusal.TheVariants.{Record, Version, NoRule, Stale, Corners}
use Rattle.cells.specs.Checks.{Verdict}

-- a refusal as SCOPE has it: the number, and the details that it says
pub record Told : Type 0 where
  pub number : ℕ
  pub end : Option End
  pub axis : Option Axis
  pub part : Option Part

-- the number alone
abbrev pub alone : ℕ → Told
alone n = record { number = n; end = none; axis = none; part = none }

-- with an axis, as SCOPE R2
abbrev pub at_axis : ℕ → Axis → Told
at_axis n a = record { number = n; end = none; axis = some a; part = none }

-- with a part of a placement, as SCOPE R7
abbrev pub at_part : ℕ → Part → Told
at_part n p = record { number = n; end = none; axis = none; part = some p }

-- with an end and an axis, as SCOPE R1, R5, R8, R9
abbrev pub at_end : ℕ → End → Axis → Told
at_end n e a = record { number = n; end = some e; axis = some a; part = none }

-- the table of refusal numbers
abbrev pub told : Refusal → Told
told (Limit e a) = at_end 1 e a
told (Count a) = at_axis 2 a
told Bytes = alone 3
told Layer = alone 4
told (OffGrid e a) = at_end 5 e a
told Room = alone 6
told (Placement p) = at_part 7 p
told (NotFinite e a) = at_end 8 e a
told (OffSurvey e a) = at_end 9 e a
told Record = alone 10
told Version = alone 11
told NoRule = alone 12
told Stale = alone 13
told Corners = alone 14

-- the contract of the call that gives a refusal's number
pub record NumberOf (r : Refusal) (n : ℕ) : Type 0 where
  pub says : n ≡ (told r).number

-- each case of an answer that is a result: what is said of a refusal, or of what is answered
abbrev pub told_of : {A B : Type 0} → (A → B) → Result A Refusal → Told ⊎ B
told_of say (Err r) = inl (told r)
told_of say (Ok a) = inr (say a)

-- of a verdict: of a refusal, or nothing but that it is fine
abbrev pub told_verdict : Verdict → Told ⊎ Unit {0}
told_verdict = told_of (λ u. u)
