-- SCOPE, O: a call's tests stand in a row, and the first that fails is the answer. Assumes nothing.
use Rattle.std.specs.Prelude.{Bool, true, false, Result, Ok, Err}
use Rattle.cells.specs.declared.Refusal.{Refusal}

-- what the tests of a call's inputs come to
abbrev pub Verdict : Type 0
Verdict = Result (Unit {0}) Refusal

-- refused with r exactly when the test holds
abbrev pub refuse_when : Bool → Refusal → Verdict
refuse_when true r = Err r
refuse_when false r = Ok tt

infixr 20 ◌then◌
-- the first of two verdicts that is a refusal
abbrev pub ◌then◌ : Verdict → Verdict → Verdict
◌then◌ (Ok _) v = v
◌then◌ (Err r) v = Err r

-- an answer by the verdict on the inputs: the refusal as it stands in the answer, or what is answered where all is fine
abbrev pub by_verdict : {A : Type 0} → (Refusal → A) → A → Verdict → A
by_verdict refused answer (Ok _) = answer
by_verdict refused answer (Err r) = refused r
