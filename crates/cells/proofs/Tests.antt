-- Tests in a row, for any row: where each test of a verdict says what its condition says, an answer by that verdict is given by the tests.
-- Assumes nothing.
use Rattle.std.specs.Prelude.{Ok, Err}
use mathlib.Core.Path.{◌≡◌, refl, sym, ap, subst, ◌∙◌}
use mathlib.Core.Bool.{Bool, true, false, false≢true}
use mathlib.Core.Logic.{◌↔◌, ◌⊎◌, inl, inr}
use Prim.Native.Nat.{ℕ}
use native.Mathlib.Omega.{arith}
use Rattle.cells.specs.declared.Refusal.{Refusal}
use Rattle.cells.specs.Checks.{Verdict}
use Rattle.cells.specs.Checks.{refuse_when, ◌then◌}
use Rattle.cells.specs.Refusals.{Told, told}
use Rattle.cells.specs.Tests.{Tests, ◌gives◌, ◌else◌, None, First, ByTests}

-- ---- a row has one first test that holds, or none

not_none : (tests : Tests) (t : Told) → First tests t → ¬ (None tests)
not_none (C gives u) t f none = none f.0
not_none (a else b) t (inl f) none = not_none a t f none.0
not_none (a else b) t (inr f) none = not_none b t f.1 none.1

one_first : (tests : Tests) (t s : Told) → First tests t → First tests s → t ≡ s
one_first (C gives u) t s f g = sym f.1 ∙ g.1
one_first (a else b) t s (inl f) (inl g) = one_first a t s f g
one_first (a else b) t s (inl f) (inr g) = absurd (not_none a t f g.0)
one_first (a else b) t s (inr f) (inl g) = absurd (not_none a s g f.0)
one_first (a else b) t s (inr f) (inr g) = one_first b t s f.1 g.1

-- so an answer is given by its tests where it says what they say
refused_by : {B : Type 0} (tests : Tests) (t : Told) {says : Told ⊎ B} → First tests t → says ≡ inl t → ByTests tests says
refused_by tests t f is =
    record {
      refused = λ s. (λ e. let same : t ≡ s = cc in subst (First tests) same f, λ g. is ∙ ap inl (one_first tests t s f g));
      accepted = (λ (v, e). absurd (let z : ◌≡◌ {A = ℕ} 0 1 = cc in omega arith), λ none. absurd (not_none tests t f none));
    }

accepted_by : {B : Type 0} (tests : Tests) {says : Told ⊎ B} (v : B) → None tests → says ≡ inr v → ByTests tests says
accepted_by tests v none is =
    record {
      refused = λ s. (λ e. absurd (let z : ◌≡◌ {A = ℕ} 0 1 = cc in omega arith), λ g. absurd (not_none tests s g none));
      accepted = (λ w. none, λ n. (v, is));
    }

-- ---- a verdict that says what its tests say

abbrev Follows : Tests → Verdict → Type 0
Follows tests (Ok _) = None tests
Follows tests (Err r) = First tests (told r)

pub record Judges (tests : Tests) (v : Verdict) : Type 0 where
  pub follows : Follows tests v

-- one test
pub when : {C : Type 0} {b : Bool} → (b ≡ true) ↔ C → (r : Refusal) → Judges (C gives told r) (refuse_when b r)
when {C} {b} reads r = go b reads
  where
    go : (b : Bool) → (b ≡ true) ↔ C → Judges (C gives told r) (refuse_when b r)
    go true reads = record { follows = (reads.0 refl, refl) }
    go false reads = record { follows = λ c. false≢true (reads.1 c) }

-- two rows, the second where the verdict on the first is fine
pub next_fine : {a b : Tests} {v w : Verdict} → Judges a v → (v ≡ Ok tt → Judges b w) → Judges (a else b) (v then w)
next_fine {a} {b} {v} {w} h k = go v w h k
  where
    go : (v w : Verdict) → Judges a v → (v ≡ Ok tt → Judges b w) → Judges (a else b) (v then w)
    go (Err r) w h k = record { follows = inl h.follows }
    go (Ok _) (Ok _) h k = record { follows = (h.follows, (k refl).follows) }
    go (Ok _) (Err r) h k = record { follows = inr (h.follows, (k refl).follows) }

-- so where no test of the first holds
pub next_if : {a b : Tests} {v w : Verdict} → Judges a v → (None a → Judges b w) → Judges (a else b) (v then w)
next_if {a} {b} {v} {w} h k = next_fine h (λ e. k (subst (Follows a) e h.follows))

infixr 20 ◌next◌
pub ◌next◌ : {a b : Tests} {v w : Verdict} → Judges a v → Judges b w → Judges (a else b) (v then w)
◌next◌ h k = next_if h (λ none. k)

-- ---- an answer by a verdict

module _ {A B : Type 0} (tell : A → Told ⊎ B) (answer : Verdict → A) (refusing : (r : Refusal) → tell (answer (Err r)) ≡ inl (told r)) where
  pub answered : {tests : Tests} {v : Verdict} {r : A} → Judges tests v → (v ≡ Ok tt → (w : B) × (tell (answer (Ok tt)) ≡ inr w)) → r ≡ answer v →
      ByTests tests (tell r)
  answered {tests} {v} {r} h fine is = go v h fine is
    where
      go : (v : Verdict) → Judges tests v → (v ≡ Ok tt → (w : B) × (tell (answer (Ok tt)) ≡ inr w)) → r ≡ answer v → ByTests tests (tell r)
      go (Ok _) h fine is = let (w, says) = fine refl in accepted_by tests w h.follows (ap tell is ∙ says)
      go (Err s) h fine is = refused_by tests (told s) h.follows (ap tell is ∙ refusing s)

-- a part that is empty exactly where its partner refuses is empty exactly where some test holds
pub empty_by : {B E : Type 0} {tests : Tests} (says : Told ⊎ B) → ByTests tests says → ((t : Told) → says ≡ inl t → E) → ((v : B) → says ≡ inr v → ¬ E) →
    E ↔ ((t : Told) × First tests t)
empty_by (inl t) by refused accepted = (λ e. (t, (by.refused t).0 refl), λ f. refused t refl)
empty_by (inr v) by refused accepted = (λ e. absurd (accepted v refl e), λ (t, f). refused t ((by.refused t).1 f))
