-- Laws of `tabulate`, a list by its index. Assumes nothing.
use Prim.Native.Nat.{ℕ, zero, suc, ◌-◌, ◌<◌}
use native.Mathlib.Nat.{eq-or-lt_of_le}
use native.Mathlib.Omega.{arith}
use mathlib.Core.Path.{◌≡◌, refl, sym, subst, ap, ap₂, ◌∙◌}
use mathlib.Core.Logic.{◌⊎◌, inl, inr}
use mathlib.Core.List.{List, [], ◌∷◌, ◌++◌, reverse, reverse-cons}
use lib.ListN.{length, get_or, length-append, get_or-append}
use lib.Seq.{get_or-append_seam, ext_get_or}
use Rattle.cells.specs.Tabulate.{tabulate}

pub tabulate_length : {A : Type 0} (f : ℕ → A) (n : ℕ) → length (tabulate f n) ≡ n
tabulate_length f zero = refl
tabulate_length f (suc n) = omega (arith, length-append (tabulate f n) (f n ∷ []), tabulate_length f n)

pub tabulate_at : {A : Type 0} (f : ℕ → A) (n k : ℕ) (d : A) → k < n → get_or (tabulate f n) k d ≡ f k
tabulate_at f zero k d h = absurd (omega arith)
tabulate_at f (suc n) k d h = go (eq-or-lt_of_le {n = k} {m = n} (omega arith)) (tabulate_at f n k d)
  where
    go : (k ≡ n) ⊎ (k < n) → (k < n → get_or (tabulate f n) k d ≡ f k) → get_or (tabulate f n ++ (f n ∷ [])) k d ≡ f k
    go (inl e) ih = ap (λ (j : ℕ). get_or (tabulate f n ++ (f n ∷ [])) j d) (e ∙ sym (tabulate_length f n))
        ∙ get_or-append_seam (tabulate f n) (f n) [] d ∙ ap f (sym e)
    go (inr l) ih = get_or-append (tabulate f n) (f n ∷ []) d k (subst (λ (m : ℕ). k < m) (sym (tabulate_length f n)) l) ∙ ih l

-- a list that is f at each index below its length n
pub is_tabulate : {A : Type 0} (f : ℕ → A) (n : ℕ) (d : A) (xs : List A) → length xs ≡ n → ((k : ℕ) → k < n → get_or xs k d ≡ f k) → xs ≡ tabulate f n
is_tabulate f n d xs l h =
    ext_get_or d xs (tabulate f n) (l ∙ sym (tabulate_length f n))
    (λ i b. let k : i < n = subst (λ (m : ℕ). i < m) l b in h i k ∙ sym (tabulate_at f n i d k))

-- the same at each index
pub tabulate_same : {A : Type 0} (f g : ℕ → A) (n : ℕ) → ((i : ℕ) → i < n → f i ≡ g i) → tabulate f n ≡ tabulate g n
tabulate_same f g zero same = refl
tabulate_same f g (suc n) same = ap₂ (λ l c. l ++ (c ∷ [])) (tabulate_same f g n (λ i lt. same i (omega arith))) (same n (omega arith))

-- from the first on
pub tabulate_first : {A : Type 0} (f : ℕ → A) (n : ℕ) → tabulate f (suc n) ≡ f 0 ∷ tabulate (λ i. f (suc i)) n
tabulate_first f zero = refl
tabulate_first f (suc n) = ap (λ l. l ++ (f (suc n) ∷ [])) (tabulate_first f n)

-- from the other end
pub tabulate_reverse : {A : Type 0} (f g : ℕ → A) (n : ℕ) → ((i : ℕ) → i < n → g i ≡ f (n - 1 - i)) → tabulate g n ≡ reverse (tabulate f n)
tabulate_reverse f g zero back = refl
tabulate_reverse f g (suc n) back =
    let ends : suc n - 1 - n ≡ 0 = omega arith in
    ap₂ (λ l c. l ++ (c ∷ []))
    (tabulate_reverse (λ i. f (suc i)) g n (λ i lt. let e : suc n - 1 - i ≡ suc (n - 1 - i) = omega arith in back i (omega arith) ∙ ap f e))
    (back n (omega arith) ∙ ap f ends)
    ∙ sym (reverse-cons (f 0) (tabulate (λ i. f (suc i)) n)) ∙ ap reverse (sym (tabulate_first f n))
