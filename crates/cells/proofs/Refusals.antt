-- What SCOPE says of a refusal tells which refusal it is: `told` has a left inverse; so what is said of an answer tells which answer it is. Assumes
-- nothing.
use Rattle.std.specs.Prelude.{Result, Ok, Err}
use Prim.Native.Nat.{ℕ}
use mathlib.Core.Path.{◌≡◌, refl, sym, ap, ◌∙◌}
use mathlib.Core.Bool.{cond}
use mathlib.Core.Logic.{◌⊎◌, inl, inr}
use mathlib.Core.List.{List, [], ◌∷◌}
use mathlib.Core.Option.{Option, none, some, map, some-injective}
use lib.Dec.{eqb}
use Rattle.cells.specs.declared.Axis.{Axis}
use Rattle.cells.specs.declared.End.{End}
use Rattle.cells.specs.declared.Refusal.{Refusal}
use Rattle.cells.specs.declared.Refusal.TheVariants.{Limit, Count, Bytes, Layer, OffGrid, Room, Placement, NotFinite, OffSurvey}
use Rattle.cells.specs.declared.Refusal.TheVariants.{Record, Version, NoRule, Stale, Corners}
use Rattle.cells.specs.Checks.{Verdict}
use Rattle.cells.specs.Refusals.{Told, told, told_of, told_verdict}

-- a case that says an end and an axis
abbrev both : (End → Axis → Refusal) → Option End → Option Axis → Option Refusal
both f none a = none
both f (some e) none = none
both f (some e) (some a) = some (f e a)

-- what has the number k in a list, if one has it
unfoldable pub numbered_of : {A : Type 0} → ℕ → List (ℕ × Option A) → Option A
numbered_of k [] = none
numbered_of k (p ∷ l) = cond (eqb k p.0) p.1 (numbered_of k l)

-- the refusal that is meant, if one is
pub untold : Told → Option Refusal
untold t =
    numbered_of t.number
    ((1, both Limit t.end t.axis)
    ∷ (2, map Count t.axis)
    ∷ (3, some Bytes)
    ∷ (4, some Layer)
    ∷ (5, both OffGrid t.end t.axis)
    ∷ (6, some Room)
    ∷ (7, map Placement t.part)
    ∷ (8, both NotFinite t.end t.axis)
    ∷ (9, both OffSurvey t.end t.axis)
    ∷ (10, some Record)
    ∷ (11, some Version)
    ∷ (12, some NoRule)
    ∷ (13, some Stale)
    ∷ (14, some Corners)
    ∷ [])

pub told_back : (r : Refusal) → untold (told r) ≡ some r
unfolding untold numbered_of
told_back (Limit e a) = refl
told_back (Count a) = refl
told_back Bytes = refl
told_back Layer = refl
told_back (OffGrid e a) = refl
told_back Room = refl
told_back (Placement p) = refl
told_back (NotFinite e a) = refl
told_back (OffSurvey e a) = refl
told_back Record = refl
told_back Version = refl
told_back NoRule = refl
told_back Stale = refl
told_back Corners = refl

-- a definition with a left inverse tells answers apart
pub tells_apart : {A T : Type 0} (say : A → T) (unsay : T → Option A) → ((a : A) → unsay (say a) ≡ some a) → (a b : A) → say a ≡ say b → a ≡ b
tells_apart say unsay back a b e = some-injective a b (sym (back a) ∙ ap unsay e ∙ back b)

-- the answer that is meant, if one is: a refusal, or the answer made of the values
abbrev pub untold_by : {A B : Type 0} → (Refusal → A) → (B → A) → Told ⊎ B → Option A
untold_by refused answered (inl t) = map refused (untold t)
untold_by refused answered (inr v) = some (answered v)

-- so two refusals that say the same are the same
pub told_one : (r s : Refusal) → told r ≡ told s → r ≡ s
told_one = tells_apart told untold told_back

-- and two answers, where what is answered is told from what is said of it
module _ {A B : Type 0} (say : A → B) (unsay : B → A) (back : (a : A) → unsay (say a) ≡ a) where
  pub told_of_back : (r : Result A Refusal) → untold_by Err (λ v. Ok (unsay v)) (told_of say r) ≡ some r
  told_of_back (Err r) = ap (map Err) (told_back r)
  told_of_back (Ok a) = ap (λ a. some (Ok a)) (back a)

  pub told_of_one : (r s : Result A Refusal) → told_of say r ≡ told_of say s → r ≡ s
  told_of_one = tells_apart (told_of say) (untold_by Err (λ v. Ok (unsay v))) told_of_back

abbrev untold_verdict : Told ⊎ Unit {0} → Option Verdict
untold_verdict = untold_by Err (λ u. Ok u)

pub told_verdict_back : (v : Verdict) → untold_verdict (told_verdict v) ≡ some v
told_verdict_back = told_of_back (λ u. u) (λ u. u) (λ u. refl)

pub told_verdict_one : (a b : Verdict) → told_verdict a ≡ told_verdict b → a ≡ b
told_verdict_one = told_of_one (λ u. u) (λ u. u) (λ u. refl)
