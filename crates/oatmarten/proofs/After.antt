-- What a call does after a test of its own, by what the test says. Assumes nothing.
use Rattle.std.specs.Prelude.{Ok, Err}
use mathlib.Core.Path.{◌≡◌, refl, sym, subst}
use Rattle.cells.specs.declared.Refusal.{Refusal}
use Rattle.cells.specs.Checks.{Verdict, by_verdict}
use Rattle.oatmarten.specs.Flattening.{After}

module _ (refused : Refusal → Type 0) (meets : Type 0) (v : Verdict) where
  pub after_refusal : (r : Refusal) → v ≡ Err r → refused r → After v refused meets
  after_refusal r e h = subst (λ u. After u refused meets) (sym e) h

  pub after_all : v ≡ Ok tt → meets → After v refused meets
  after_all e h = subst (λ u. After u refused meets) (sym e) h

-- what is named where all is fine: the test passed, and the value is that
pub named : {A : Type 0} (v : Verdict) {a b : A} → by_verdict Err (Ok a) v ≡ Ok b → (v ≡ Ok tt) × (a ≡ b)
named (Ok _) e = (refl, cc)
named (Err r) e = absurd cc

-- and a test that refuses is what is answered
pub unnamed : {A : Type 0} (v : Verdict) (a : A) {r : Refusal} → by_verdict Err (Ok a) v ≡ Err r → v ≡ Err r
unnamed (Ok _) a e = absurd cc
unnamed (Err r) a e = cc
