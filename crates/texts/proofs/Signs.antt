-- A number of 32 bits and its sign: the sign stands before its size. Assumes nothing.
use mathlib.Core.Path.{◌≡◌, ap}
use mathlib.Core.Bool.{true, false}
use mathlib.Core.List.{◌∷◌}
use Prim.Native.Nat.{ℕ}
use native.Mathlib.Omega.{arith}
use lib.IntN.{ℤ, pos, negsuc, nat_abs}
use lib.Signed.{lt_z}
use mir.Syntax.{w32}
use mir.Val.{SFits}
use Rattle.cells.proofs.Machine.{held, held_is}
use Rattle.cells.proofs.Signed.{lt_z_true, lt_z_false}
use Rattle.texts.specs.Text.{decimal, minus, signed_decimal, parted}
use Rattle.texts.specs.Writing.{Writes}
use Rattle.texts.specs.declared.Pen.{Pen}
use Rattle.texts.proofs.Pieces.{same_written}

-- the test of the sign tells the two cases of a number apart
not_below : {A : Type 0} (n : ℕ) → SFits w32 (pos n) → lt_z (held (pos n)) (pos 0) ≡ true → A
not_below n f h = absurd (omega (arith, lt_z_true (pos n) (pos 0) (rw (held_is (pos n) f) at h)))

not_above : {A : Type 0} (n : ℕ) → SFits w32 (negsuc n) → lt_z (held (negsuc n)) (pos 0) ≡ false → A
not_above n f h = absurd (omega (arith, lt_z_false (negsuc n) (pos 0) (rw (held_is (negsuc n) f) at h)))

-- ---- as text

pub minus_first : (v : ℤ) → SFits w32 v → lt_z (held v) (pos 0) ≡ true → signed_decimal v ≡ minus ∷ decimal (nat_abs (held v))
unfolding signed_decimal
minus_first (pos n) f h = not_below n f h
minus_first (negsuc n) f h = rw (held_is (negsuc n) f)

pub no_minus : (v : ℤ) → SFits w32 v → lt_z (held v) (pos 0) ≡ false → signed_decimal v ≡ decimal (nat_abs (held v))
unfolding signed_decimal
no_minus (pos n) f h = rw (held_is (pos n) f)
no_minus (negsuc n) f h = not_above n f h

-- a field of a struct reaches a call by its bits
pub of_held : (z : ℤ) {m : ℕ} {a b : Pen} → SFits w32 z → Writes (parted (signed_decimal (held z))) m a b → Writes (parted (signed_decimal z)) m a b
of_held z f h = same_written (ap (λ y. parted (signed_decimal y)) (held_is z f)) (omega arith) h
