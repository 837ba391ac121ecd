-- The contract of every call for C, over the call that it makes. Assumes nothing.
use Rattle.std.specs.Prelude.{Ok, Err, ◌≡◌}
use Rattle.cells.specs.declared.Refusal.{Refusal}
use Rattle.cells.specs.Checks.{Verdict}

-- the struct is the flattening of an answer that meets the call's own contract
pub record Flattens {A F : Type 0} (flatten : A → F) (Meets : A → Type 0) (r : F) : Type 0 where
  pub answer : A
  pub meets : Meets answer
  pub flat : r ≡ flatten answer

-- a call that comes after a test of its own: what it does where that refuses, or what it promises where all is fine
abbrev pub After : Verdict → (Refusal → Type 0) → Type 0 → Type 0
After (Ok _) refused meets = meets
After (Err r) refused meets = refused r
