-- Natural numbers held in signed 32 bits, and cast from there. Assumes nothing.
use mathlib.Core.Path.{◌≡◌, sym, ap, ◌∙◌, subst}
use Prim.Native.Nat.{ℕ, ◌^◌, ◌<◌}
use native.Mathlib.Omega.{arith}
use lib.Dec.{T}
use lib.IntN.{ℤ, pos, nat_abs}
use lib.Signed.{non_neg}
use mir.Syntax.{w32}
use mir.Val.{Fits}
use Rattle.cells.proofs.Machine.{held, held_is, nat_fits}

-- such a number is read back as it is
pub held_nat : (z : ℤ) (i : ℕ) → z ≡ pos i → i < 2 ^ 31 → held z ≡ pos i
held_nat z i e h = ap held e ∙ held_is (pos i) (nat_fits i h)

pub abs_nat : (z : ℤ) (i : ℕ) → z ≡ pos i → i < 2 ^ 31 → nat_abs (held z) ≡ nat_abs z
abs_nat z i e h = ap nat_abs (held_nat z i e h ∙ sym e)

pub cast_32 : (z : ℤ) (i : ℕ) → z ≡ pos i → i < 2 ^ 31 → T (non_neg (held z)) × Fits w32 (nat_abs (held z))
cast_32 z i e h = subst (λ v. T (non_neg v) × Fits w32 (nat_abs v)) (sym (held_nat z i e h)) (tt, record { fits = omega arith })
