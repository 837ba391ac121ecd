-- A test's condition: what its being true, or a part of it being false, comes to. Assumes nothing.
use Prim.Native.Nat.{ℕ, ◌<◌}
use native.Mathlib.Omega.{arith}
use mathlib.Core.Path.{◌≡◌, refl, ap}
use mathlib.Core.Bool.{Bool, true, false, not, ◌&&◌, true≢false, false≢true, ◌||◌}
use mathlib.Core.Logic.{◌↔◌, ◌⊎◌, inl, inr, ⊎_elim}
use lib.Dec.{ltb, eqb}
use lib.IntN.{ℤ}
use lib.Signed.{lt_z, le_z, ◌<ℤ◌, ◌≤ℤ◌}
use borrow.Author.Tests.{ltb-true, lt-ltb, eqb-true, eqb-false, eq-eqb, ne_eqb, not-true}
use Rattle.cells.proofs.Signed.{lt_z_true, le_z_true, le_z_false, lt_lt_z, le_le_z, lt_le_z, <ℤ_is, ≤ℤ_is}

-- ---- numbers

pub ltb_means : (a b : ℕ) → (ltb a b ≡ true) ↔ (a < b)
ltb_means a b = (ltb-true a b, lt-ltb a b)

pub eqb_means : (a b : ℕ) → (eqb a b ≡ true) ↔ (a ≡ b)
eqb_means a b = (eqb-true a b, eq-eqb a b)

pub zero_means : (n : ℕ) → (eqb n 0 ≡ true) ↔ (n < 1)
zero_means n = (λ e. omega (arith, eqb-true n 0 e), λ h. eq-eqb n 0 (omega arith))

pub not_eqb_means : (a b : ℕ) → (not (eqb a b) ≡ true) ↔ (¬ (a ≡ b))
not_eqb_means a b = (λ e. eqb-false a b (not-true _ e), λ h. rw (ne_eqb a b h))

pub lt_z_means : (a b : ℤ) → (lt_z a b ≡ true) ↔ (a <ℤ b)
lt_z_means a b = (λ e. (<ℤ_is a b).1 (lt_z_true a b e), λ h. lt_lt_z a b ((<ℤ_is a b).0 h))

pub le_z_means : (a b : ℤ) → (le_z a b ≡ true) ↔ (a ≤ℤ b)
le_z_means a b = (λ e. (≤ℤ_is a b).1 (le_z_true a b e), λ h. le_le_z a b ((≤ℤ_is a b).0 h))

pub le_z_fails : (a b : ℤ) → (le_z a b ≡ false) ↔ (b <ℤ a)
le_z_fails a b = (λ e. (<ℤ_is b a).1 (le_z_false a b e), λ h. lt_le_z a b ((<ℤ_is b a).0 h))

-- ---- tests joined

pub not_means : (b : Bool) → (not b ≡ true) ↔ (b ≡ false)
not_means b = (not-true b, λ e. ap not e)

pub or_means : {b d : Bool} {C D : Type 0} → (b ≡ true) ↔ C → (d ≡ true) ↔ D → ((b || d) ≡ true) ↔ (C ⊎ D)
or_means {b} {d} {C} {D} one other = go b one
  where
    go : (b : Bool) → (b ≡ true) ↔ C → ((b || d) ≡ true) ↔ (C ⊎ D)
    go true one = (λ e. inl (one.0 refl), λ h. refl)
    go false one = (λ e. inr (other.0 e), ⊎_elim (λ c. absurd (false≢true (one.1 c))) other.1)

pub not_and_means : {b d : Bool} {C D : Type 0} → (b ≡ false) ↔ C → (d ≡ false) ↔ D → (not (b && d) ≡ true) ↔ (C ⊎ D)
not_and_means {b} {d} {C} {D} one other = go b one
  where
    go : (b : Bool) → (b ≡ false) ↔ C → (not (b && d) ≡ true) ↔ (C ⊎ D)
    go false one = (λ e. inl (one.0 refl), λ h. refl)
    go true one = (λ e. inr (other.0 (not-true d e)), ⊎_elim (λ c. absurd (true≢false (one.1 c))) (λ h. ap not (other.1 h)))
