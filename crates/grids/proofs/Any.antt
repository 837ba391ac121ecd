-- Laws of `any`, some number below n passes. Assumes nothing.
use Prim.Native.Nat.{ℕ, zero, suc, ◌+◌, ◌<◌}
use native.Mathlib.Nat.{eq-or-lt_of_le}
use native.Mathlib.Numerals.{add-one}
use native.Mathlib.Omega.{arith}
use mathlib.Core.Path.{◌≡◌, refl, sym, subst, ◌∙◌}
use mathlib.Core.Bool.{Bool, true, false, true≢false, ◌||◌}
use mathlib.Core.Logic.{◌⊎◌, inl, inr}
use Rattle.grids.specs.Marks.{any}

-- ---- tests

-- a test that is not true is false
pub not_so : (t : Bool) → (t ≡ true → ⊥) → t ≡ false
not_so true h = absurd (h refl)
not_so false h = refl

-- two tests that follow from each other are one
pub same_test : (s t : Bool) → (s ≡ true → t ≡ true) → (t ≡ true → s ≡ true) → s ≡ t
same_test true t h k = sym (h refl)
same_test false true h k = k refl
same_test false false h k = refl

pub or_true : (s : Bool) → s || true ≡ true
or_true true = refl
or_true false = refl

pub or_false : (s : Bool) → s || false ≡ s
or_false true = refl
or_false false = refl

-- one of two tests holds
pub or_either : (s t : Bool) → s || t ≡ true → (s ≡ true) ⊎ (t ≡ true)
or_either true t h = inl refl
or_either false t h = inr h

-- neither of two tests holds
pub or_neither : (s t : Bool) → s || t ≡ false → (s ≡ false) × (t ≡ false)
or_neither true t h = absurd (true≢false h)
or_neither false t h = (refl, h)

-- ---- some number below n

pub any_some : (p : ℕ → Bool) (n k : ℕ) → k < n → p k ≡ true → any p n ≡ true
unfolding any
any_some p zero k h e = absurd (omega arith)
any_some p (suc n) k h e = go (eq-or-lt_of_le {n = k} {m = n} (omega arith)) (any_some p n k)
  where
    go : (k ≡ n) ⊎ (k < n) → (k < n → p k ≡ true → any p n ≡ true) → any p n || p n ≡ true
    go (inl q) ih = rw (subst (λ (j : ℕ). p j ≡ true) q e) (or_true (any p n))
    go (inr l) ih = rw (ih l e)

pub any_none : (p : ℕ → Bool) (n : ℕ) → ((k : ℕ) → k < n → p k ≡ false) → any p n ≡ false
unfolding any
any_none p zero h = refl
any_none p (suc n) h = rw (any_none p n (λ k l. h k (omega arith)), h n (omega arith))

pub any_which : (p : ℕ → Bool) (n : ℕ) → any p n ≡ true → (k : ℕ) × (k < n) × (p k ≡ true)
unfolding any
any_which p zero e = absurd (true≢false (sym e))
any_which p (suc n) e = go (any p n) refl (any_which p n) e
  where
    go : (b : Bool) → any p n ≡ b → (any p n ≡ true → (k : ℕ) × (k < n) × (p k ≡ true)) → b || p n ≡ true → (k : ℕ) × (k < suc n) × (p k ≡ true)
    go true q ih e = let w = ih q in (w.0, let h = w.1 in omega arith, w.2)
    go false q ih e = (n, omega arith, e)

pub any_same : (p q : ℕ → Bool) (n : ℕ) → ((k : ℕ) → k < n → p k ≡ q k) → any p n ≡ any q n
unfolding any
any_same p q zero h = refl
any_same p q (suc n) h = rw (any_same p q n (λ k l. h k (omega arith)), h n (omega arith))

pub any_zero : (p : ℕ → Bool) → any p 0 ≡ false
unfolding any
any_zero p = refl

pub any_more : (p : ℕ → Bool) (n : ℕ) → any p (n + 1) ≡ any p n || p n
unfolding any
any_more p n = rw (add-one n)

-- where none below n passes, each fails
pub any_false : (p : ℕ → Bool) (n k : ℕ) → any p n ≡ false → k < n → p k ≡ false
any_false p n k e h = not_so (p k) (λ t. true≢false (sym (any_some p n k h t) ∙ e))
