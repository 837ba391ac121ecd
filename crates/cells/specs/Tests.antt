-- SCOPE, O, for readers: a call's tests in a row, each with its condition in plain words and with what is said where it is the first
-- that holds. Assumes nothing.
use Rattle.std.specs.Prelude.{◌≡◌, ◌↔◌, ◌⊎◌}
use Rattle.std.proofs.Common.{inl, inr}
use Rattle.cells.specs.declared.Axis.{Axis}
use Rattle.cells.specs.declared.Axis.TheVariants.{X, Y, Z}
use Rattle.cells.specs.Refusals.{Told}

infixr 3 ◌else◌
infix 4 ◌gives◌
-- one test, or two rows of them, the second looked at only where no test of the first holds
pub data Tests : Type 1 where
  ◌gives◌ : Type 0 → Told → Tests
  ◌else◌ : Tests → Tests → Tests

-- no test holds
abbrev pub None : Tests → Type 0
None (C gives u) = ¬ C
None (a else b) = None a × None b

-- SCOPE O3: the first test that holds gives t
abbrev pub First : Tests → Told → Type 0
First (C gives u) t = C × (u ≡ t)
First (a else b) t = First a t ⊎ (None a × First b t)

-- SCOPE O3: a test of each axis, in their order
abbrev pub each_axis : (Axis → Tests) → Tests
each_axis test = test X else test Y else test Z

-- An answer by its tests: refused with t exactly when the first test that holds gives t, and accepted exactly when none holds.
pub record ByTests {B : Type 0} (tests : Tests) (says : Told ⊎ B) : Type 0 where
  pub refused : (t : Told) → (says ≡ inl t) ↔ First tests t
  pub accepted : ((v : B) × (says ≡ inr v)) ↔ None tests
