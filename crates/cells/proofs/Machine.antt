-- Signed 32-bit numbers as the machine holds them: a parameter or a field is read back from its bits. One law for each operation gives that it
-- fits and what is read back. Assumes nothing.
use mathlib.Core.Path.{◌≡◌, sym, ap₂, ◌∙◌}
use mathlib.Core.Bool.{Bool}
use Prim.Native.Nat.{ℕ, ◌^◌, ◌≤◌, ◌<◌}
use native.Mathlib.Omega.{arith}
use lib.IntN.{ℤ, pos, negsuc, ◌+ℤ◌, ◌-ℤ◌}
use lib.Signed.{lt_z}
use mir.Syntax.{w32}
use mir.Val.{SFits, to_z, of_z}
use mir.ValLaws.{to_z-of_z, to_z_pos}
use Rattle.cells.specs.Small.{Small}
use Rattle.cells.proofs.Signed.{up, dn, one_sided, sum_is, diff_is}

-- a number as it is read back
abbrev pub held : ℤ → ℤ
held z = to_z w32 (of_z w32 z)

pub held_is : (z : ℤ) → SFits w32 z → held z ≡ z
held_is z f = to_z-of_z w32 z f

-- a natural number, read as a signed one
pub nat_held : (n : ℕ) → n < 2 ^ 31 → to_z w32 n ≡ pos n
nat_held n h = to_z_pos w32 n h

-- a number's two parts say that it fits
pub fits32 : (z : ℤ) → up z < 2 ^ 31 → dn z ≤ 2 ^ 31 → SFits w32 z
fits32 (pos n) h k = record { sfits = h }
fits32 (negsuc n) h k = record { sfits = k }

pub nat_fits : (n : ℕ) → n < 2 ^ 31 → SFits w32 (pos n)
nat_fits n h = fits32 (pos n) h (omega arith)

-- ---- small numbers

pub small_parts : (z : ℤ) → Small z → (up z < 2 ^ 30) × (dn z ≤ 2 ^ 30)
small_parts (pos n) h = omega arith
small_parts (negsuc n) h = omega arith

pub parts_small : (z : ℤ) → up z < 2 ^ 30 → dn z ≤ 2 ^ 30 → Small z
parts_small (pos n) h k = record { small = h }
parts_small (negsuc n) h k = record { small = k }

pub small_fits : (z : ℤ) → Small z → SFits w32 z
small_fits z h = fits32 z (omega (arith, small_parts z h)) (omega (arith, small_parts z h))

pub small_held : (z : ℤ) → Small z → held z ≡ z
small_held z h = held_is z (small_fits z h)

pub nat_small : (n : ℕ) → n < 2 ^ 30 → Small (pos n)
nat_small n h = record { small = h }

module _ (a b : ℤ) (ha : Small a) (hb : Small b) where
  pub small_sum : SFits w32 (a +ℤ b)
  small_sum =
      let s = sum_is a b in
      let o = one_sided (a +ℤ b) in
      fits32 (a +ℤ b) (omega (arith, small_parts a ha, small_parts b hb)) (omega (arith, small_parts a ha, small_parts b hb))

  pub small_diff : SFits w32 (a -ℤ b)
  small_diff =
      let s = diff_is a b in
      let o = one_sided (a -ℤ b) in
      fits32 (a -ℤ b) (omega (arith, small_parts a ha, small_parts b hb)) (omega (arith, small_parts a ha, small_parts b hb))

  pub sum_fits : SFits w32 (held a +ℤ held b)
  sum_fits = rw (small_held a ha, small_held b hb) small_sum

  pub sum_held : held (held a +ℤ held b) ≡ a +ℤ b
  sum_held = ap₂ (λ u v. held (u +ℤ v)) (small_held a ha) (small_held b hb) ∙ held_is (a +ℤ b) small_sum

  pub diff_fits : SFits w32 (held a -ℤ held b)
  diff_fits = rw (small_held a ha, small_held b hb) small_diff

  pub diff_held : held (held a -ℤ held b) ≡ a -ℤ b
  diff_held = ap₂ (λ u v. held (u -ℤ v)) (small_held a ha) (small_held b hb) ∙ held_is (a -ℤ b) small_diff

-- ---- tests on numbers as they are read back

pub lt_held : (a b : ℤ) {t : Bool} → SFits w32 a → SFits w32 b → lt_z (held a) (held b) ≡ t → lt_z a b ≡ t
lt_held a b f g h = sym (ap₂ lt_z (held_is a f) (held_is b g)) ∙ h
