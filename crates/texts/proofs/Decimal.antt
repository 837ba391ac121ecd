-- The decimal text of a number is its fewest digits. Assumes nothing.
use mathlib.Core.Path.{◌≡◌, sym, subst}
use Prim.Native.Nat.{ℕ, zero, suc, ◌-◌, ◌*◌, ◌/◌, ◌%◌, ◌^◌, ◌≤◌, ◌<◌}
use native.Mathlib.Nat.{pow-succ', one-le-pow}
use native.Mathlib.Omega.{arith}
use borrow.Author.Tests.{lt-ltb, le-ltb}
use Rattle.io.specs.Digits.{hex_digit_ascii, last_digits, IsDigitCount}
use Rattle.texts.specs.Text.{digit, decimal_in, decimal}

glyph_digit : (d : ℕ) → d < 10 → hex_digit_ascii d ≡ digit d
glyph_digit d h = rw (lt-ltb d 10 h)

-- the fewest digits that hold the number
in_turns : (turns k n : ℕ) → n < turns → IsDigitCount 10 1 n k → last_digits 10 k n ≡ decimal_in turns n
unfolding decimal_in
in_turns zero k n h f = absurd (omega arith)
in_turns (suc turns) zero n h f = absurd (let g = f.0 in omega arith)
in_turns (suc turns) (suc zero) n h f =
    let small : n < 10 = f.1 in
    let rest : n % 10 ≡ n = omega arith in
    rw (lt-ltb n 10 small, rest, glyph_digit n small)
in_turns (suc turns) (suc (suc k)) n h f =
    let least : 10 ^ suc k ≤ n = subst (λ (j : ℕ). 10 ^ j ≤ n) (less (suc k)) (f.2 (omega arith)) in
    let more : 10 ^ suc (suc k) ≡ 10 * 10 ^ suc k = pow-succ' 10 (suc k) in
    let some : 10 ^ suc k ≡ 10 * 10 ^ k = pow-succ' 10 k in
    let one : 1 ≤ 10 ^ k = one-le-pow k 10 (omega arith) in
    let most = f.1 in
    let large : 10 ≤ n = omega arith in
    let tenth : 10 ^ k ≤ n / 10 = omega arith in
    rw (
      le-ltb n 10 large,
      in_turns turns (suc k) (n / 10) (omega arith) (omega arith, omega arith, λ i. subst (λ (j : ℕ). 10 ^ j ≤ n / 10) (sym (less k)) tenth),
      glyph_digit (n % 10) (omega arith),
    )
  where
    less : (j : ℕ) → suc j - 1 ≡ j
    less j = omega arith

pub fewest_digits : (n k : ℕ) → IsDigitCount 10 1 n k → last_digits 10 k n ≡ decimal n
unfolding decimal
fewest_digits n k f = in_turns (suc n) k n (omega arith) f
