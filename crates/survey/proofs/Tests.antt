-- Tests as facts and back. Assumes nothing.
use mathlib.Core.Path.{◌≡◌, refl}
use mathlib.Core.Bool.{Bool, true, false, not, ◌&&◌, ◌||◌}
use mathlib.Core.Logic.{◌⊎◌, inl, inr}
use Prim.Native.Nat.{ℕ}
use native.Mathlib.Omega.{arith}
use lib.Dec.{T}

-- a test that is both true and false
pub clash : {A : Type 0} {b : Bool} → b ≡ true → b ≡ false → A
clash e f = absurd (let z : ◌≡◌ {A = ℕ} 0 1 = cc in omega arith)

pub true_of_is_true : (b : Bool) → T b → b ≡ true
true_of_is_true true t = refl
true_of_is_true false t = absurd t

pub is_true_of_true : {b : Bool} → b ≡ true → T b
is_true_of_true e = rw e tt

pub is_true_not_of_false : {b : Bool} → b ≡ false → T (not b)
is_true_not_of_false e = rw e tt

pub false_of_is_true_not : (b : Bool) → T (not b) → b ≡ false
false_of_is_true_not true t = absurd t
false_of_is_true_not false t = refl

-- a test's value, from the other being impossible
pub true_unless : (b : Bool) → (b ≡ false → ⊥) → b ≡ true
true_unless true h = refl
true_unless false h = absurd (h refl)

pub false_unless : (b : Bool) → (b ≡ true → ⊥) → b ≡ false
false_unless true h = absurd (h refl)
false_unless false h = refl

-- ---- or
pub or_l : (a b : Bool) → T a → T (a || b)
or_l true b t = tt
or_l false b t = absurd t

pub or_r : (a b : Bool) → T b → T (a || b)
or_r true b t = tt
or_r false b t = t

pub or_split : (a b : Bool) → T (a || b) → T a ⊎ T b
or_split true b t = inl tt
or_split false b t = inr t

pub neither : (a b : Bool) → (a || b) ≡ false → (a ≡ false) × (b ≡ false)
neither true b h = clash refl h
neither false b h = (refl, h)

-- ---- and
pub and_both_is_true : (a b : Bool) → T a → T b → T (a && b)
and_both_is_true true b p q = q
and_both_is_true false b p q = p

pub and_l : (a b : Bool) → T (a && b) → T a
and_l true b t = tt
and_l false b t = t

pub and_r : (a b : Bool) → T (a && b) → T b
and_r true b t = t
and_r false b t = absurd t
