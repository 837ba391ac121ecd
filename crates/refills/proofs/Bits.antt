-- One bit of a word set or cleared. Assumes nothing.
use Prim.Native.Nat.{ℕ, zero, suc, ◌+◌, ◌-◌, ◌*◌, ◌/◌, ◌%◌, ◌^◌, ◌≤◌, ◌<◌}
use native.Mathlib.Nat.{mod-lt, one-mul, add-zero}
use native.Mathlib.Omega.{arith}
use mathlib.Core.Path.{◌≡◌, refl, sym, ap, ap₂, ◌∙◌}
use mathlib.Core.Bool.{true, false}
use lib.Dec.{lit<, eqb}
use lib.Bits.{bit_and, bit_or, and_block, and_mask, and_zero_r, and_le_l, or_add_and}
use lib.Pow.{pow_pos, shl_exact, split}
use Rattle.bricks.specs.Sums.{digit, bit}

-- `1 << b` is 2 ^ b
pub one_shl : (b : ℕ) → b < 64 → (1 * 2 ^ b) % 2 ^ 64 ≡ 2 ^ b
one_shl b h = shl_exact {a = 1} 1 b 64 (lit< tt) (omega arith) ∙ one-mul (2 ^ b)

-- a bit by itself
odd_digit : (q : ℕ) → q < 2 → q ≡ digit (eqb q 1)
odd_digit zero h = refl
odd_digit (suc zero) h = refl
odd_digit (suc (suc q)) h = absurd (omega arith)

-- `mask & (1 << b)`
pub and_power : (m b : ℕ) → bit_and m (2 ^ b) ≡ digit (bit m b) * 2 ^ b
and_power m b =
    let one : 1 * 2 ^ b + 0 ≡ 2 ^ b = omega arith in
    ap₂ bit_and (sym (split m b)) (sym one)
    ∙ and_block b (m / 2 ^ b) 1 (m % 2 ^ b) 0 (mod-lt m (pow_pos b)) (pow_pos b)
    ∙ ap₂ (λ (x y : ℕ). x * 2 ^ b + y) (and_mask (m / 2 ^ b) 1 ∙ odd_digit (m / 2 ^ b % 2) (mod-lt (m / 2 ^ b) (lit< tt))) (and_zero_r (m % 2 ^ b))
    ∙ add-zero (digit (bit m b) * 2 ^ b)

-- `mask | (1 << b)`
pub or_power : (m b : ℕ) → bit_or m (2 ^ b) + digit (bit m b) * 2 ^ b ≡ m + 2 ^ b
or_power m b = ap (λ (x : ℕ). bit_or m (2 ^ b) + x) (sym (and_power m b)) ∙ or_add_and m (2 ^ b)

module _ (m b : ℕ) (h : b < 64) where
  pub bit_on : bit_or m ((1 * 2 ^ b) % 2 ^ 64) + digit (bit m b) * 2 ^ b ≡ m + digit true * 2 ^ b
  bit_on = rw (one_shl b h) (omega (arith, or_power m b))

  pub power_within : (1 * 2 ^ b) % 2 ^ 64 ≤ bit_or m ((1 * 2 ^ b) % 2 ^ 64)
  power_within = rw (one_shl b h) (omega (arith, or_power m b, and_power m b, and_le_l m (2 ^ b)))

  pub bit_off : bit_or m ((1 * 2 ^ b) % 2 ^ 64) - (1 * 2 ^ b) % 2 ^ 64 + digit (bit m b) * 2 ^ b ≡ m + digit false * 2 ^ b
  bit_off = rw (one_shl b h) (omega (arith, or_power m b, and_power m b, and_le_l m (2 ^ b)))
