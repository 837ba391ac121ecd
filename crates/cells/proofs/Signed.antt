-- Signed numbers as pairs of naturals, which `omega` reads: z is up z - dn z, and one of the two is 0. Assumes nothing.
use mathlib.Core.Path.{◌≡◌, refl, sym, ap}
use mathlib.Core.Bool.{Bool, true, false, cond}
use mathlib.Core.Logic.{◌↔◌}
use Prim.Native.Nat.{ℕ, zero, suc, ◌+◌, ◌-◌, ◌*◌, ◌≤◌, ◌<◌, min}
use native.Mathlib.Omega.{arith}
use lib.Dec.{T, ltb}
use lib.IntN.{ℤ, pos, negsuc, neg_ℤ, nat_abs, sub_ℕ, ◌+ℤ◌, ◌-ℤ◌, ◌*ℤ◌}
use lib.Signed.{lt_z, le_z, ◌≤ℤ◌, ◌<ℤ◌}
use borrow.Author.Tests.{ltb-true, ltb-false, leb-true, leb-false}

abbrev pub up : ℤ → ℕ
up (pos n) = n
up (negsuc n) = 0

abbrev pub dn : ℤ → ℕ
dn (pos n) = 0
dn (negsuc n) = suc n

pub one_sided : (z : ℤ) → min (up z) (dn z) ≡ 0
one_sided (pos n) = omega arith
one_sided (negsuc n) = omega arith

-- two numbers are one where their parts say so
pub same_number : (a b : ℤ) → up a + dn b ≡ up b + dn a → a ≡ b
same_number (pos a) (pos b) h = ap pos (omega arith)
same_number (pos a) (negsuc b) h = absurd (omega arith)
same_number (negsuc a) (pos b) h = absurd (omega arith)
same_number (negsuc a) (negsuc b) h = ap negsuc (omega arith)

-- ---- the operations

-- the two cases of a difference of naturals
by_test : (p q : ℕ) (P : ℤ → Type 0) → (p < q → P (negsuc (q - suc p))) → (q ≤ p → P (pos (p - q))) → P (sub_ℕ p q)
by_test p q P lt ge = go (ltb p q) (ltb-true p q) (ltb-false p q)
  where
    go : (t : Bool) → (t ≡ true → p < q) → (t ≡ false → q ≤ p) → P (cond t (negsuc (q - suc p)) (pos (p - q)))
    go true a b = lt (a refl)
    go false a b = ge (b refl)

sub_is : (p q : ℕ) → up (sub_ℕ p q) + q ≡ dn (sub_ℕ p q) + p
sub_is p q = by_test p q (λ z. up z + q ≡ dn z + p) (λ h. omega arith) (λ h. omega arith)

neg_up : (z : ℤ) → up (neg_ℤ z) ≡ dn z
neg_up (pos zero) = refl
neg_up (pos (suc n)) = refl
neg_up (negsuc n) = refl

neg_dn : (z : ℤ) → dn (neg_ℤ z) ≡ up z
neg_dn (pos zero) = refl
neg_dn (pos (suc n)) = refl
neg_dn (negsuc n) = refl

pub sum_is : (a b : ℤ) → up (a +ℤ b) + (dn a + dn b) ≡ dn (a +ℤ b) + (up a + up b)
sum_is (pos a) (pos b) = omega arith
sum_is (pos a) (negsuc b) = omega (arith, sub_is a (suc b))
sum_is (negsuc a) (pos b) = omega (arith, sub_is b (suc a))
sum_is (negsuc a) (negsuc b) = omega arith

pub diff_is : (a b : ℤ) → up (a -ℤ b) + (dn a + up b) ≡ dn (a -ℤ b) + (up a + dn b)
diff_is a b = omega (arith, sum_is a (neg_ℤ b), neg_up b, neg_dn b)

-- a multiple
pub times_up : (k : ℕ) (z : ℤ) → up (pos k *ℤ z) ≡ k * up z
times_up k (pos n) = omega arith
times_up k (negsuc n) = omega (arith, neg_up (pos (k * suc n)))

pub times_dn : (k : ℕ) (z : ℤ) → dn (pos k *ℤ z) ≡ k * dn z
times_dn k (pos n) = omega arith
times_dn k (negsuc n) = omega (arith, neg_dn (pos (k * suc n)))

pub abs_is : (z : ℤ) → nat_abs z ≡ up z + dn z
abs_is (pos m) = omega arith
abs_is (negsuc m) = omega arith

-- ---- the tests and the orders

ff : {A : Type 0} → false ≡ true → A
ff e = absurd (let z : ◌≡◌ {A = ℕ} 0 1 = cc in omega arith)

pub lt_z_true : (a b : ℤ) → lt_z a b ≡ true → up a + dn b < up b + dn a
lt_z_true (pos a) (pos b) h = omega (arith, ltb-true a b h)
lt_z_true (pos a) (negsuc b) h = ff h
lt_z_true (negsuc a) (pos b) h = omega arith
lt_z_true (negsuc a) (negsuc b) h = omega (arith, ltb-true b a h)

pub lt_z_false : (a b : ℤ) → lt_z a b ≡ false → up b + dn a ≤ up a + dn b
lt_z_false (pos a) (pos b) h = omega (arith, ltb-false a b h)
lt_z_false (pos a) (negsuc b) h = omega arith
lt_z_false (negsuc a) (pos b) h = ff (sym h)
lt_z_false (negsuc a) (negsuc b) h = omega (arith, ltb-false b a h)

pub le_z_true : (a b : ℤ) → le_z a b ≡ true → up a + dn b ≤ up b + dn a
le_z_true (pos a) (pos b) h = omega (arith, leb-true a b h)
le_z_true (pos a) (negsuc b) h = ff h
le_z_true (negsuc a) (pos b) h = omega arith
le_z_true (negsuc a) (negsuc b) h = omega (arith, leb-true b a h)

pub le_z_false : (a b : ℤ) → le_z a b ≡ false → up b + dn a < up a + dn b
le_z_false (pos a) (pos b) h = omega (arith, leb-false a b h)
le_z_false (pos a) (negsuc b) h = omega arith
le_z_false (negsuc a) (pos b) h = ff (sym h)
le_z_false (negsuc a) (negsuc b) h = omega (arith, leb-false b a h)

-- a test's value, from the other being impossible
is_true : (t : Bool) → (t ≡ false → ⊥) → t ≡ true
is_true true h = refl
is_true false h = absurd (h refl)

is_false : (t : Bool) → (t ≡ true → ⊥) → t ≡ false
is_false true h = absurd (h refl)
is_false false h = refl

pub lt_lt_z : (a b : ℤ) → up a + dn b < up b + dn a → lt_z a b ≡ true
lt_lt_z a b h = is_true (lt_z a b) (λ e. omega (arith, lt_z_false a b e))

pub le_lt_z : (a b : ℤ) → up b + dn a ≤ up a + dn b → lt_z a b ≡ false
le_lt_z a b h = is_false (lt_z a b) (λ e. omega (arith, lt_z_true a b e))

pub le_le_z : (a b : ℤ) → up a + dn b ≤ up b + dn a → le_z a b ≡ true
le_le_z a b h = is_true (le_z a b) (λ e. omega (arith, le_z_false a b e))

pub lt_le_z : (a b : ℤ) → up b + dn a < up a + dn b → le_z a b ≡ false
lt_le_z a b h = is_false (le_z a b) (λ e. omega (arith, le_z_true a b e))

is_true_iff : (t : Bool) → T t ↔ (t ≡ true)
is_true_iff true = (λ h. refl, λ h. tt)
is_true_iff false = (λ h. absurd h, λ h. ff h)

pub ≤ℤ_is : (a b : ℤ) → (a ≤ℤ b) ↔ (up a + dn b ≤ up b + dn a)
≤ℤ_is a b = (λ h. le_z_true a b ((is_true_iff (le_z a b)).0 h.le), λ h. record { le = (is_true_iff (le_z a b)).1 (le_le_z a b h) })

pub <ℤ_is : (a b : ℤ) → (a <ℤ b) ↔ (up a + dn b < up b + dn a)
<ℤ_is a b = (λ h. lt_z_true a b ((is_true_iff (lt_z a b)).0 h.lt), λ h. record { lt = (is_true_iff (lt_z a b)).1 (lt_lt_z a b h) })
