-- Tests in a row: where all is fine, each of them was, and what follows a test counts only where it was; and answers by a verdict.
-- Assumes nothing.
use Rattle.std.specs.Prelude.{Ok, Err}
use mathlib.Core.Path.{◌≡◌, refl}
use mathlib.Core.Bool.{Bool, true, false}
use Prim.Native.Nat.{ℕ}
use native.Mathlib.Omega.{arith}
use Rattle.cells.specs.declared.Refusal.{Refusal}
use Rattle.cells.specs.Checks.{Verdict}
use Rattle.cells.specs.Refusals.{told}
use Rattle.cells.specs.Checks.{refuse_when, ◌then◌, by_verdict}

refused_not_fine : {A : Type 0} {r : Refusal} → ◌≡◌ {A = Verdict} (Err r) (Ok tt) → A
refused_not_fine h = absurd (let z : ◌≡◌ {A = ℕ} 0 1 = cc in omega arith)

pub fine_first : (v w : Verdict) → (v then w) ≡ Ok tt → v ≡ Ok tt
fine_first (Ok _) w h = refl
fine_first (Err r) w h = h

pub fine_rest : (v w : Verdict) → (v then w) ≡ Ok tt → w ≡ Ok tt
fine_rest (Ok _) w h = h
fine_rest (Err r) w h = refused_not_fine h

pub passed : (t : Bool) (r : Refusal) → refuse_when t r ≡ Ok tt → t ≡ false
passed true r h = refused_not_fine h
passed false r h = refl

pub each_fine : (v w : Verdict) → (v then w) ≡ Ok tt → (v ≡ Ok tt) × (w ≡ Ok tt)
each_fine v w h = (fine_first v w h, fine_rest v w h)

-- what follows a verdict counts only where it is fine
pub then_same : (v : Verdict) {a b : Verdict} → (v ≡ Ok tt → a ≡ b) → (v then a) ≡ (v then b)
then_same (Ok _) h = h refl
then_same (Err r) h = refl

-- three in a row, the first two together
pub then_assoc : (u v w : Verdict) → ((u then v) then w) ≡ (u then v then w)
then_assoc (Ok _) v w = refl
then_assoc (Err r) v w = refl

-- fine, or refused otherwise than by number k
abbrev pub NotBy : ℕ → Verdict → Type 0
NotBy k (Ok _) = Unit {0}
NotBy k (Err r) = (told r).number ≡ k → ⊥

pub not_then : (k : ℕ) (v w : Verdict) → NotBy k v → NotBy k w → NotBy k (v then w)
not_then k (Ok _) w a b = b
not_then k (Err r) w a b = a

pub not_when : (k : ℕ) (t : Bool) (r : Refusal) → ((told r).number ≡ k → ⊥) → NotBy k (refuse_when t r)
not_when k true r other = other
not_when k false r other = tt

pub not_first : (k : ℕ) (t : Bool) (r : Refusal) (w : Verdict) → ((told r).number ≡ k → ⊥) → NotBy k w → NotBy k (refuse_when t r then w)
not_first k t r w other rest = not_then k (refuse_when t r) w (not_when k t r other) rest

-- four in a row, the last of them parted off
pub then_four : (u v w x : Verdict) → (u then v then w then x) ≡ ((u then v then w) then x)
then_four (Err r) v w x = refl
then_four (Ok _) (Err r) w x = refl
then_four (Ok _) (Ok _) w x = refl

-- ---- an answer by a verdict

module _ {A : Type 0} (refused : Refusal → A) where
  -- where the answer is no refusal the verdict is fine
  pub by_fine : (v : Verdict) (a : A) {b : A} → ((r : Refusal) → ¬ (refused r ≡ b)) → by_verdict refused a v ≡ b → (v ≡ Ok tt) × (a ≡ b)
  by_fine (Ok _) a other e = (refl, e)
  by_fine (Err r) a other e = absurd (other r e)

  -- a call that refuses leaves what it was lent
  pub by_refusal : {M : Type 0} (v : Verdict) (a : A) (after : M) {b : A} {entry exit : M} → ¬ (a ≡ b) → by_verdict refused a v ≡ b →
      exit ≡ by_verdict (λ r. entry) after v → exit ≡ entry
  by_refusal (Ok _) a after other e h = absurd (other e)
  by_refusal (Err r) a after other e h = h
