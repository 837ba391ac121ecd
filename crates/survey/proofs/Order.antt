-- The order of floats: away from NaN it is total, what is at most something is not above it, and a comparison that holds has no NaN in it.
-- Assumes nothing.
use mathlib.Core.Path.{◌≡◌, refl, sym, subst, ◌∙◌}
use Prim.Native.Nat.{ℕ, zero, suc, ◌+◌, ◌*◌, ◌≤◌, ◌<◌}
use native.Mathlib.Nat.{eq-or-lt_of_le}
use native.Mathlib.Omega.{arith}
use mathlib.Core.Bool.{Bool, true, false, not, ◌&&◌, ◌||◌}
use mathlib.Core.Logic.{inl, inr}
use lib.Arith.{le→nltb}
use lib.Dec.{T, ltb, eqb, lt→ltb, ltb→lt, nltb→le, eqb→eq, eqb_refl}
use lib.Ieee.{Float, nan, inf, fin, up, down, below, level, lt, le, eq, is_nan}
use Rattle.survey.proofs.Tests.{true_of_is_true, is_true_of_true, is_true_not_of_false, false_of_is_true_not, true_unless, clash, or_l, or_r, or_split, and_both_is_true, and_l, and_r}

-- ---- magnitudes: "at most" as `le` has it, less or level
same_test : (a b : ℕ) → a ≡ b → T (eqb a b)
same_test a b e = subst (λ (x : ℕ). T (eqb a x)) e (eqb_refl a)

pub at_most_test : (a b : ℕ) → a ≤ b → T (ltb a b || (eqb a b && true))
at_most_test a b h =
    elim (eq-or-lt_of_le h) [
      | inl p ↦ or_r (ltb a b) (eqb a b && true) (and_both_is_true (eqb a b) true (same_test a b p) tt)
      | inr q ↦ or_l (ltb a b) (eqb a b && true) (lt→ltb a b q)
    ]

pub test_at_most : (a b : ℕ) → T (ltb a b || (eqb a b && true)) → a ≤ b
test_at_most a b t =
    elim (or_split (ltb a b) (eqb a b && true) t) [
      | inl p ↦ let h : a < b = ltb→lt a b p in omega arith
      | inr q ↦ let h : a ≡ b = eqb→eq a b (and_l (eqb a b) true q) in omega arith
    ]

-- both magnitudes are 0, so the numbers are level whatever their signs; and back
both_zero : (a b : ℕ) → a + b ≡ 0 → T (eqb a b && eqb a 0)
both_zero a b h = and_both_is_true (eqb a b) (eqb a 0) (same_test a b (omega arith)) (same_test a 0 (omega arith))

zero_both : (a b : ℕ) → T (eqb a b && eqb a 0) → a + b ≡ 0
zero_both a b t =
    let same : a ≡ b = eqb→eq a b (and_l (eqb a b) (eqb a 0) t) in
    let none : a ≡ 0 = eqb→eq a 0 (and_r (eqb a b) (eqb a 0) t) in
    omega arith

-- ---- numbers with signs
signed_total : (s t : Bool) (a b : ℕ) → T (not (below t b s a)) → T (below s a t b || level s a t b)
signed_total false false a b h = at_most_test a b (nltb→le b a h)
signed_total false true a b h = both_zero a b (let z : b + a ≤ 0 = nltb→le 0 (b + a) h in omega arith)
signed_total true false a b h = go (a + b) refl
  where
    go : (k : ℕ) → a + b ≡ k → T (ltb 0 (a + b) || (eqb a b && eqb a 0))
    go zero e = or_r (ltb 0 (a + b)) (eqb a b && eqb a 0) (both_zero a b e)
    go (suc k) e = or_l (ltb 0 (a + b)) (eqb a b && eqb a 0) (lt→ltb 0 (a + b) (omega arith))
signed_total true true a b h =
    elim (eq-or-lt_of_le (nltb→le a b h)) [
      | inl p ↦ or_r (ltb b a) (eqb a b && true) (and_both_is_true (eqb a b) true (same_test a b (sym p)) tt)
      | inr q ↦ or_l (ltb b a) (eqb a b && true) (lt→ltb b a q)
    ]

signed_apart : (s t : Bool) (a b : ℕ) → T (below s a t b || level s a t b) → T (not (below t b s a))
signed_apart false false a b h = le→nltb b a (test_at_most a b h)
signed_apart false true a b h = le→nltb 0 (b + a) (let z : a + b ≡ 0 = zero_both a b h in omega arith)
signed_apart true false a b h = tt
signed_apart true true a b h =
    elim (or_split (ltb b a) (eqb a b && true) h) [
      | inl p ↦ le→nltb a b (let l : b < a = ltb→lt b a p in omega arith)
      | inr q ↦ le→nltb a b (let e : a ≡ b = eqb→eq a b (and_l (eqb a b) true q) in omega arith)
    ]

level_back : (s t : Bool) (a b : ℕ) → T (level s a t b) → T (level t b s a)
level_back false false a b h = and_both_is_true (eqb b a) true (same_test b a (sym (eqb→eq a b (and_l (eqb a b) true h)))) tt
level_back false true a b h = both_zero b a (let z : a + b ≡ 0 = zero_both a b h in omega arith)
level_back true false a b h = both_zero b a (let z : a + b ≡ 0 = zero_both a b h in omega arith)
level_back true true a b h = and_both_is_true (eqb b a) true (same_test b a (sym (eqb→eq a b (and_l (eqb a b) true h)))) tt

-- ---- floats
total_is_true : (x y : Float) → T (not (is_nan x)) → T (not (is_nan y)) → T (not (lt y x)) → T (le x y)
unfolding le is_nan
total_is_true nan y p q h = absurd p
total_is_true (inf s) nan p q h = absurd q
total_is_true (inf true) (inf true) p q h = tt
total_is_true (inf true) (inf false) p q h = tt
total_is_true (inf false) (inf true) p q h = absurd h
total_is_true (inf false) (inf false) p q h = tt
total_is_true (inf true) (fin t n d) p q h = tt
total_is_true (inf false) (fin t n d) p q h = absurd h
total_is_true (fin s m e) nan p q h = absurd q
total_is_true (fin s m e) (inf true) p q h = absurd h
total_is_true (fin s m e) (inf false) p q h = tt
total_is_true (fin s m e) (fin t n d) p q h = signed_total s t (m * up e * down d) (n * up d * down e) h

apart_is_true : (x y : Float) → T (le x y) → T (not (lt y x))
unfolding le
apart_is_true nan y h = absurd h
apart_is_true (inf s) nan h = absurd h
apart_is_true (inf true) (inf true) h = tt
apart_is_true (inf true) (inf false) h = tt
apart_is_true (inf false) (inf true) h = absurd h
apart_is_true (inf false) (inf false) h = tt
apart_is_true (inf true) (fin t n d) h = tt
apart_is_true (inf false) (fin t n d) h = absurd h
apart_is_true (fin s m e) nan h = absurd h
apart_is_true (fin s m e) (inf true) h = absurd h
apart_is_true (fin s m e) (inf false) h = tt
apart_is_true (fin s m e) (fin t n d) h = signed_apart s t (m * up e * down d) (n * up d * down e) h

back_is_true : (x y : Float) → T (eq x y) → T (eq y x)
unfolding eq
back_is_true nan y h = absurd h
back_is_true (inf s) nan h = absurd h
back_is_true (inf true) (inf true) h = tt
back_is_true (inf true) (inf false) h = absurd h
back_is_true (inf false) (inf true) h = absurd h
back_is_true (inf false) (inf false) h = tt
back_is_true (inf s) (fin t n d) h = absurd h
back_is_true (fin s m e) nan h = absurd h
back_is_true (fin s m e) (inf t) h = absurd h
back_is_true (fin s m e) (fin t n d) h = level_back s t (m * up e * down d) (n * up d * down e) h

compared_is_true : (x y : Float) → T (le x y) → T (not (is_nan y))
unfolding le is_nan
compared_is_true nan y t = absurd t
compared_is_true (inf s) nan t = absurd t
compared_is_true (inf s) (inf u) t = tt
compared_is_true (inf s) (fin u n d) t = tt
compared_is_true (fin s m e) nan t = absurd t
compared_is_true (fin s m e) (inf u) t = tt
compared_is_true (fin s m e) (fin u n d) t = tt

-- of two floats that are no NaN, where y is not below x, x is at most y
pub not_below : (x y : Float) → is_nan x ≡ false → is_nan y ≡ false → lt y x ≡ false → le x y ≡ true
not_below x y p q h = true_of_is_true (le x y) (total_is_true x y (is_true_not_of_false p) (is_true_not_of_false q) (is_true_not_of_false h))

-- and where x is not at most y, y is below x
pub not_at_most : (x y : Float) → is_nan x ≡ false → is_nan y ≡ false → le x y ≡ false → lt y x ≡ true
not_at_most x y p q h = true_unless (lt y x) (λ e. clash (not_below x y p q e) h)

-- what is at least something is a number
pub compared : (x y : Float) → le x y ≡ true → is_nan y ≡ false
compared x y h = false_of_is_true_not (is_nan y) (compared_is_true x y (is_true_of_true h))

-- what is at most something is not above it
pub not_above : (x y : Float) → le x y ≡ true → lt y x ≡ false
not_above x y h = false_of_is_true_not (lt y x) (apart_is_true x y (is_true_of_true h))

-- at most is below or equal
pub at_most_is : (x y : Float) → le x y ≡ (lt x y || eq x y)
unfolding le
at_most_is x y = refl

pub below_at_most : (x y : Float) → lt x y ≡ true → le x y ≡ true
below_at_most x y h = at_most_is x y ∙ rw h refl

-- what equals something is at most it, and it is at most that
pub equal_at_most : (x y : Float) → eq x y ≡ true → (le x y ≡ true) × (le y x ≡ true)
equal_at_most x y h = (one x y (is_true_of_true h), one y x (back_is_true x y (is_true_of_true h)))
  where
    one : (x y : Float) → T (eq x y) → le x y ≡ true
    one x y t = at_most_is x y ∙ true_of_is_true _ (or_r (lt x y) (eq x y) t)
