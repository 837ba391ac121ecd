-- What std calls finite; and a quotient of finite values by an edge above 0 is never NaN. Assumes nothing.
use mathlib.Core.Path.{◌≡◌, refl}
use mathlib.Core.Bool.{Bool, true, false, not, ◌&&◌, beq, cond}
use Prim.Native.Nat.{ℕ, zero, suc, ◌+◌, ◌-◌, ◌*◌, ◌^◌}
use native.Mathlib.Omega.{arith}
use lib.Dec.{ltb, eqb-suc-zero}
use lib.IntN.{ℤ}
use borrow.Author.Tests.{ltb-true}
use lib.Ieee.{Float, nan, inf, fin, Format, binary64, low, emax, prec, up, down, unlike, lt, is_nan, neg, add, sub, div, sum, round, units, odd, of_int}
use lib.Ieee.Scale.{finite}
use Rattle.std.specs.Float.{float_is_finite}
use Rattle.survey.specs.Quotient.{as_f64, quotient}
use Rattle.survey.proofs.Tests.{clash}

-- ---- std's word for finite says the same
pub same_finite : (x : Float) → float_is_finite x ≡ finite x
unfolding float_is_finite
same_finite nan = refl
same_finite (inf s) = refl
same_finite (fin s m e) = refl

-- ---- no operation of a quotient gives NaN
odd_no_nan : (d : ℕ) (s : Bool) (q k l : ℕ) → is_nan (odd d s q k l) ≡ false
unfolding odd is_nan
odd_no_nan d s zero k l = refl
odd_no_nan d s (suc q) k l = refl

units_no_nan : (f : Format) (s : Bool) (q k : ℕ) → is_nan (units f s q k) ≡ false
unfolding units
units_no_nan f s q k = go (ltb (q * 2 ^ k) (2 ^ (low f + suc (emax f))))
  where
    go : (b : Bool) → is_nan (cond b (odd (suc (prec f)) s q k (low f)) (inf s)) ≡ false
    go true = odd_no_nan (suc (prec f)) s q k (low f)
    go false = unfold is_nan in refl

round_no_nan : (f : Format) (s : Bool) (num den : ℕ) → is_nan (round f s num den) ≡ false
unfolding round
round_no_nan f s num den = units_no_nan f s _ _

sum_no_nan : (f : Format) (s : Bool) (a : ℕ) (t : Bool) (b c : ℕ) → is_nan (sum f s a t b c) ≡ false
unfolding sum
sum_no_nan f s a t b c = go (beq s t) (ltb a b)
  where
    go : (u v : Bool) → is_nan (cond u (round f s (a + b) c) (cond v (round f t (b - a) c) (round f (s && ltb b a) (a - b) c))) ≡ false
    go true v = round_no_nan f s (a + b) c
    go false true = round_no_nan f t (b - a) c
    go false false = round_no_nan f (s && ltb b a) (a - b) c

difference_no_nan : (x y : Float) → finite x ≡ true → finite y ≡ true → is_nan (sub binary64 x y) ≡ false
unfolding sub add neg
difference_no_nan nan y p q = clash p refl
difference_no_nan (inf s) y p q = clash p refl
difference_no_nan (fin s m e) nan p q = clash q refl
difference_no_nan (fin s m e) (inf t) p q = clash q refl
difference_no_nan (fin s m e) (fin t n d) p q = sum_no_nan binary64 s (m * up e * down d) (not t) (n * up d * down e) (down e * down d)

zero_not_above : (t : Bool) (d : ℤ) → lt (as_f64 0) (fin t 0 d) ≡ true → ⊥
unfolding lt of_int
zero_not_above true d h = clash h refl
zero_not_above false d h = omega (arith, ltb-true (0 * down d) (0 * up d * 1) h)

-- a number over a finite edge above 0
over_edge_no_nan : (x y : Float) → is_nan x ≡ false → finite y ≡ true → lt (as_f64 0) y ≡ true → is_nan (div binary64 x y) ≡ false
unfolding div is_nan lt of_int
over_edge_no_nan nan y p q h = clash refl p
over_edge_no_nan (inf s) nan p q h = clash q refl
over_edge_no_nan (inf s) (inf t) p q h = clash q refl
over_edge_no_nan (inf s) (fin t n d) p q h = refl
over_edge_no_nan (fin s m e) nan p q h = clash q refl
over_edge_no_nan (fin s m e) (inf t) p q h = clash q refl
over_edge_no_nan (fin s m e) (fin t zero d) p q h = absurd (zero_not_above t d h)
over_edge_no_nan (fin s m e) (fin t (suc n) d) p q h = rw (eqb-suc-zero n) (round_no_nan binary64 (unlike s t) (m * up e * down d) (suc n * up d * down e))

-- SCOPE S6: a quotient of values that passed their tests is not NaN
pub quotient_no_nan : (point origin edge : Float) → finite point ≡ true → finite origin ≡ true → finite edge ≡ true → lt (as_f64 0) edge ≡ true
    → is_nan (quotient point origin edge) ≡ false
quotient_no_nan point origin edge p o f h = over_edge_no_nan (sub binary64 point origin) edge (difference_no_nan point origin p o) f h
