-- Floats compared with whole numbers: every whole number up to 2^53 is an f64 exactly, a ≤ q < b in floats gives a < b, and the n with
-- n ≤ q < n + 1 is the whole part of q.
-- Assumes nothing.
use mathlib.Core.Path.{◌≡◌, refl, sym, ap, ◌∙◌, subst}
use Prim.Native.Nat.{ℕ, zero, suc, ◌+◌, ◌-◌, ◌*◌, ◌^◌, ◌≤◌, ◌<◌, min}
use native.Mathlib.Nat.{mul-one, mul_right_comm, le_of_mul-le-mul_right, lt_of_mul-lt-mul_right, div-eq_of_lt-le, min-eq_left}
use native.Mathlib.Omega.{arith}
use mathlib.Core.Bool.{true, false, not, true≢false}
use lib.IntN.{ℤ}
use lib.Dec.{T, eqb, ltb→lt, eqb→eq}
use lib.Ieee.{Float, nan, inf, fin, binary64, up, down, lt, le, of_bits, of_int, to_unsigned, is_nan}
use lib.Ieee.Exact.{HasValue}
use lib.Ieee.Fits.{down_pos}
use lib.Ieee.Back.{round_whole}
use Rattle.survey.specs.Quotient.{as_f64}
use Rattle.survey.proofs.Tests.{is_true_of_true, false_of_is_true_not, and_l, and_r}
use Rattle.survey.proofs.Order.{test_at_most, not_below, not_at_most}

-- ---- the conversion is exact
-- the literal 0.0
pub zero_is : of_bits binary64 0 ≡ as_f64 0
unfolding of_bits of_int
zero_is = refl

pub whole_exact : (n : ℕ) → n ≤ 2 ^ 53 → HasValue (as_f64 n) false n 1
unfolding of_int
whole_exact n h = round_whole binary64 false n h

valued_no_nan : (x : Float) (n : ℕ) → HasValue x false n 1 → T (not (is_nan x))
unfolding is_nan
valued_no_nan nan n v = absurd v
valued_no_nan (inf s) n v = absurd v
valued_no_nan (fin s m e) n v = tt

pub whole_no_nan : (n : ℕ) → n ≤ 2 ^ 53 → is_nan (as_f64 n) ≡ false
whole_no_nan n h = false_of_is_true_not (is_nan (as_f64 n)) (valued_no_nan (as_f64 n) n (whole_exact n h))

-- ---- p / de is the whole number n; k / dd is another number
same_fraction : (p n de dd : ℕ) → p * 1 ≡ n * de → p * dd ≡ n * dd * de
same_fraction p n de dd v = ap (λ (z : ℕ). z * dd) (sym (mul-one p) ∙ v) ∙ mul_right_comm n de dd

low_side : (p n de dd k : ℕ) → 0 < de → p * 1 ≡ n * de → p * dd ≤ k * de → n * dd ≤ k
low_side p n de dd k D v h = le_of_mul-le-mul_right (subst (λ (z : ℕ). z ≤ k * de) (same_fraction p n de dd v) h) D

high_side : (p n de dd k : ℕ) → p * 1 ≡ n * de → k * de < p * dd → k < n * dd
high_side p n de dd k v h = lt_of_mul-lt-mul_right de (subst (λ (z : ℕ). k * de < z) (same_fraction p n de dd v) h)

no_product : (p u w : ℕ) → 0 < u → p * u ≡ 0 → p * w ≡ 0
no_product p u w U z =
    let l : p * u ≤ 0 * u = omega arith in
    let q : p ≤ 0 = le_of_mul-le-mul_right l U in
    let r : p ≡ 0 = omega arith in
    ap (λ (t : ℕ). t * w) r ∙ omega arith

zero_whole : (p n de dd : ℕ) → 0 < de → 0 < dd → p * 1 ≡ n * de → p * dd ≡ 0 → n ≡ 0
zero_whole p n de dd D E v z =
    let h : n * dd ≤ 0 = low_side p n de dd 0 D v (subst (λ (w : ℕ). w ≤ 0 * de) (sym z) (omega arith)) in
    let g : n * dd ≤ 0 * dd = omega arith in
    let k : n ≤ 0 = le_of_mul-le-mul_right g E in
    omega arith

above_zero : (p n de dd : ℕ) → p * 1 ≡ n * de → 0 < p * dd → 0 < n
above_zero p zero de dd v h =
    let z : p ≡ 0 = omega (arith, v) in
    let g : 0 < 0 * dd = subst (λ (k : ℕ). 0 < k * dd) z h in
    omega arith
above_zero p (suc n) de dd v h = omega arith

-- ---- a ≤ q < b

-- what that says of q: it is minus zero, and a is 0; or it is k times 2 to the d, between a and b
data Between (a b : ℕ) : Float → Type 0 where
  minus_zero : {k : ℕ} {d : ℤ} → a ≡ 0 → 0 < b → Between a b (fin true k d)
  number : {k : ℕ} {d : ℤ} → a * down d ≤ k * up d → k * up d < b * down d → Between a b (fin false k d)

-- x is a, y is b, and x ≤ q < y
between : (x y q : Float) (a b : ℕ) → HasValue x false a 1 → HasValue y false b 1 → T (le x q) → T (lt q y) → Between a b q
unfolding le lt
between nan y q a b v w h k = absurd v
between (inf s) y q a b v w h k = absurd v
between (fin true m e) y q a b v w h k = absurd (true≢false v.0)
between (fin false m e) nan q a b v w h k = absurd w
between (fin false m e) (inf s) q a b v w h k = absurd w
between (fin false m e) (fin true m' e') q a b v w h k = absurd (true≢false w.0)
between (fin false m e) (fin false m' e') nan a b v w h k = absurd h
between (fin false m e) (fin false m' e') (inf true) a b v w h k = absurd h
between (fin false m e) (fin false m' e') (inf false) a b v w h k = absurd k
between (fin false m e) (fin false m' e') (fin true n d) a b v w h k =
    -- q is minus zero, so a is 0 and b is above it
    let A = m * up e * down d in
    let B = n * up d * down e in
    let az : A ≡ 0 = eqb→eq A 0 (and_r (eqb A B) (eqb A 0) h) in
    let bz : B ≡ 0 = sym (eqb→eq A B (and_l (eqb A B) (eqb A 0) h)) ∙ az in
    let nz : n * up d * down e' ≡ 0 = no_product (n * up d) (down e) (down e') (down_pos e) bz in
    let s : 0 < n * up d * down e' + m' * up e' * down d = ltb→lt 0 (n * up d * down e' + m' * up e' * down d) k in
    minus_zero (zero_whole (m * up e) a (down e) (down d) (down_pos e) (down_pos d) v.1 az)
    (above_zero (m' * up e') b (down e') (down d) w.1 (omega arith))
between (fin false m e) (fin false m' e') (fin false n d) a b v w h k =
    number
    (low_side (m * up e) a (down e) (down d) (n * up d) (down_pos e) v.1 (test_at_most (m * up e * down d) (n * up d * down e) h))
    (high_side (m' * up e') b (down e') (down d) (n * up d) w.1 (ltb→lt (n * up d * down e') (m' * up e' * down d) k))

whole_between : (q : Float) (a b : ℕ) → a ≤ 2 ^ 53 → b ≤ 2 ^ 53 → le (as_f64 a) q ≡ true → lt q (as_f64 b) ≡ true → Between a b q
whole_between q a b r s h k = between (as_f64 a) (as_f64 b) q a b (whole_exact a r) (whole_exact b s) (is_true_of_true h) (is_true_of_true k)

-- so a < b
between_ordered : {q : Float} {a b : ℕ} → Between a b q → a < b
between_ordered (minus_zero z p) = omega arith
between_ordered (number {k} {d} l g) = lt_of_mul-lt-mul_right (down d) (omega arith)

pub whole_ordered : (q : Float) (a b : ℕ) → a ≤ 2 ^ 53 → b ≤ 2 ^ 53 → le (as_f64 a) q ≡ true → lt q (as_f64 b) ≡ true → a < b
whole_ordered q a b r s h k = between_ordered (whole_between q a b r s h k)

-- and n ≤ q < n + 1 makes n the whole part of q
between_part : {q : Float} {n : ℕ} → n < 2 ^ 32 → Between n (n + 1) q → to_unsigned 32 q ≡ n
unfolding to_unsigned
between_part r (minus_zero z p) = sym z
between_part r (number {k} {d} l h) = ap (λ (z : ℕ). min z (2 ^ 32 - 1)) (div-eq_of_lt-le (down d) l h) ∙ min-eq_left (omega arith)

pub whole_part : (q : Float) (n : ℕ) → n < 2 ^ 32 → le (as_f64 n) q ≡ true → lt q (as_f64 (n + 1)) ≡ true → to_unsigned 32 q ≡ n
whole_part q n r h k = between_part r (whole_between q n (n + 1) (omega arith) (omega arith) h k)

-- a number that is not below n is at least n, and one that is not at least n is below n
pub at_least : (q : Float) (n : ℕ) → n ≤ 2 ^ 53 → is_nan q ≡ false → lt q (as_f64 n) ≡ false → le (as_f64 n) q ≡ true
at_least q n r p h = not_below (as_f64 n) q (whole_no_nan n r) p h

pub less_than : (q : Float) (n : ℕ) → n ≤ 2 ^ 53 → is_nan q ≡ false → le (as_f64 n) q ≡ false → lt q (as_f64 n) ≡ true
less_than q n r p h = not_at_most (as_f64 n) q (whole_no_nan n r) p h
