-- A 64-bit word that grows from its low end. Assumes nothing.
use Prim.Native.Nat.{ℕ, ◌+◌, ◌*◌, ◌%◌, ◌^◌, ◌≤◌, ◌<◌}
use native.Mathlib.Nat.{add-zero, lt_of_lt_of_le}
use native.Mathlib.Omega.{arith}
use mathlib.Core.Path.{◌≡◌, sym, ap, ◌∙◌}
use mathlib.Core.Bool.{Bool}
use lib.Pow.{pow_mono, shl_exact}
use mir.Syntax.{w64}
use mir.Val.{Fits}
use Rattle.bricks.specs.Sums.{sum, digit, number_of}
use Rattle.bricks.proofs.Sums.{number_small, number_cat}

-- after a bits, b more
module _ (p : ℕ → Bool) (a b m v : ℕ) (room : a + b ≤ 64) (low : m ≡ number_of p a) (more : v ≡ number_of (λ i. p (a + i)) b) where
  pub grown : m + (v * 2 ^ a) % 2 ^ 64 ≡ number_of p (a + b)
  grown =
      let small : v < 2 ^ b = rw more (number_small (λ i. p (a + i)) b) in
      let exact : (v * 2 ^ a) % 2 ^ 64 ≡ v * 2 ^ a = shl_exact b a 64 small (omega arith) in
      rw (exact, low, more) (sym (number_cat p a b))

  pub grown_fits : Fits w64 (m + (v * 2 ^ a) % 2 ^ 64)
  grown_fits = record { fits = rw grown (lt_of_lt_of_le (number_small p (a + b)) (pow_mono room)) }

-- one bit more
pub one_number : (p : ℕ → Bool) (a v : ℕ) → v ≡ digit (p a) → v ≡ number_of (λ i. p (a + i)) 1
unfolding sum
one_number p a v e = e ∙ ap (λ (i : ℕ). digit (p i)) (sym (add-zero a)) ∙ omega arith
