-- Which cell of a line a cell is: where the cells of a line are all different, its number is found. Assumes nothing.
use mathlib.Core.Path.{◌≡◌, refl, sym, ap, ◌∙◌, subst}
use mathlib.Core.Logic.{⊎_elim}
use mathlib.Core.Bool.{Bool, true, false, cond, ◌&&◌}
use mathlib.Core.Option.{some}
use Prim.Native.Nat.{ℕ, zero, suc, ◌<◌}
use native.Mathlib.Omega.{arith}
use native.Mathlib.Nat.{eq-or-lt_of_le}
use lib.IntN.{ℤ}
use lib.Signed.{le_z}
use Rattle.cells.specs.declared.Cell.{Cell}
use Rattle.cells.proofs.Touching.{and_both}
use Rattle.cells.proofs.Signed.{same_number, le_z_true, le_le_z}
use Rattle.walks.specs.Walks.{is_same, is_cell, number_of}

-- ---- the test

le_self : (a : ℤ) → le_z a a ≡ true
le_self a = le_le_z a a (omega arith)

same_is : (a b : ℤ) → is_same a b ≡ true → a ≡ b
same_is a b h =
    let (u, v) = and_both (le_z a b) (le_z b a) h in
    same_number a b (omega (arith, le_z_true a b u, le_z_true b a v))

pub is_cell_same : (c d : Cell) → is_cell c d ≡ true → c ≡ d
is_cell_same c d h =
    let (x, yz) = and_both (is_same c.x d.x) (is_same c.y d.y && is_same c.z d.z) h in
    let (y, z) = and_both (is_same c.y d.y) (is_same c.z d.z) yz in
    let ex = same_is c.x d.x x in
    let ey = same_is c.y d.y y in
    let ez = same_is c.z d.z z in
    λ i. record { x = ex i; y = ey i; z = ez i }

pub is_cell_self : (c : Cell) → is_cell c c ≡ true
is_cell_self c = simp le_self

pub same_is_cell : (c d : Cell) → c ≡ d → is_cell c d ≡ true
same_is_cell c d e = subst (λ b. is_cell c b ≡ true) e (is_cell_self c)

no_tests : {A : Type 0} → false ≡ true → A
no_tests e = absurd (let z : ◌≡◌ {A = ℕ} 0 1 = cc in omega arith)

pub other_is_not : (c d : Cell) → (c ≡ d → ⊥) → is_cell c d ≡ false
other_is_not c d ne = go (is_cell c d) refl
  where
    go : (t : Bool) → is_cell c d ≡ t → is_cell c d ≡ false
    go true e = absurd (ne (is_cell_same c d e))
    go false e = e

-- ---- the number

pub found_is : (f : ℕ → Cell) (n : ℕ) (w : Cell) (s : ℕ) → number_of f n w ≡ some s → (s < n) × (w ≡ f s)
unfolding number_of
found_is f zero w s h = absurd (let z : ◌≡◌ {A = ℕ} 0 1 = cc in omega arith)
found_is f (suc n) w s h = go (is_cell w (f n)) refl h (found_is f n w s)
  where
    go : (t : Bool) → is_cell w (f n) ≡ t → cond t (some n) (number_of f n w) ≡ some s → (number_of f n w ≡ some s → (s < n) × (w ≡ f s)) →
        (s < suc n) × (w ≡ f s)
    go true e h ih =
        let k : n ≡ s = cc in
        (omega arith, is_cell_same w (f n) e ∙ ap f k)
    go false e h ih = let (lt, is) = ih h in (omega arith, is)

-- where the cells are all different, each is found at its number
pub found : (f : ℕ → Cell) (n s : ℕ) (w : Cell) → ((i j : ℕ) → i < n → j < n → f i ≡ f j → i ≡ j) → s < n → w ≡ f s → number_of f n w ≡ some s
unfolding number_of
found f zero s w different lt e = absurd (omega arith)
found f (suc n) s w different lt e =
    ⊎_elim
    (λ k. rw (same_is_cell w (f n) (e ∙ ap f k), k))
    (λ k.
    rw (other_is_not w (f n) (λ g. omega (arith, different s n lt (omega arith) (sym e ∙ g))))
    (found f n s w (λ i j a b. different i j (omega arith) (omega arith)) k e))
    (eq-or-lt_of_le {n = s} {m = n} (omega arith))
