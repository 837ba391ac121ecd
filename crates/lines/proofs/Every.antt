-- What holds of each member of a list, of some member, of every two. Assumes nothing.
use mathlib.Core.Path.{◌≡◌}
use mathlib.Core.Bool.{Bool, true, ◌&&◌}
use mathlib.Core.List.{List, [], ◌∷◌, ◌++◌}
use Prim.Native.Nat.{ℕ, zero, suc, ◌<◌}
use native.Mathlib.Omega.{arith}
use lib.ListN.{length, get_or}
use Rattle.cells.proofs.Touching.{and_both}

-- each member
pub data Each {A : Type 0} (P : A → Type 0) : List A → Type 0 where
  no_more : Each P []
  also : {x : A} {l : List A} → P x → Each P l → Each P (x ∷ l)

-- some member
pub data Some {A : Type 0} (P : A → Type 0) : List A → Type 0 where
  this_one : {x : A} {l : List A} → P x → Some P (x ∷ l)
  a_later : {x : A} {l : List A} → Some P l → Some P (x ∷ l)

-- each member with every later one
pub data Pairs {A : Type 0} (R : A → A → Type 0) : List A → Type 0 where
  no_pair : Pairs R []
  and_then : {x : A} {l : List A} → Each (R x) l → Pairs R l → Pairs R (x ∷ l)

module _ {A : Type 0} where
  pub each_map : {P Q : A → Type 0} → ((x : A) → P x → Q x) → {l : List A} → Each P l → Each Q l
  each_map f no_more = no_more
  each_map f (also {x} h t) = also (f x h) (each_map f t)

  pub some_map : {P Q : A → Type 0} → ((x : A) → P x → Q x) → {l : List A} → Some P l → Some Q l
  some_map f (this_one {x} h) = this_one (f x h)
  some_map f (a_later h) = a_later (some_map f h)

  pub each_append : {P : A → Type 0} {l k : List A} → Each P l → Each P k → Each P (l ++ k)
  each_append no_more g = g
  each_append (also h t) g = also h (each_append t g)

  pub some_left : {P : A → Type 0} {l : List A} (k : List A) → Some P l → Some P (l ++ k)
  some_left k (this_one h) = this_one h
  some_left k (a_later h) = a_later (some_left k h)

  pub some_right : {P : A → Type 0} (l : List A) {k : List A} → Some P k → Some P (l ++ k)
  some_right [] h = h
  some_right (x ∷ l) h = a_later (some_right l h)

  pub pairs_append : {R : A → A → Type 0} {l k : List A} → Pairs R l → Pairs R k → Each (λ x. Each (R x) k) l → Pairs R (l ++ k)
  pairs_append no_pair g c = g
  pairs_append (and_then h t) g (also c d) = and_then (each_append h c) (pairs_append t g d)

  -- of each, and of every two
  pub pairs_with : {P : A → Type 0} {R S : A → A → Type 0} → ((x y : A) → P x → P y → R x y → S x y) → {l : List A} → Each P l → Pairs R l → Pairs S l
  pairs_with f no_more no_pair = no_pair
  pairs_with {P} {R} {S} f (also {x} h t) (and_then g r) = and_then (with_each t g) (pairs_with f t r)
    where
      with_each : {l : List A} → Each P l → Each (R x) l → Each (S x) l
      with_each no_more no_more = no_more
      with_each (also {x = y} k t) (also g r) = also (f x y h k g) (with_each t r)

  pub each_cross : {P Q : A → Type 0} {R : A → A → Type 0} → ((x y : A) → P x → Q y → R x y) → {l k : List A} → Each P l → Each Q k → Each (λ x. Each (R x) k) l
  each_cross f no_more g = no_more
  each_cross f (also {x} h t) g = also (each_map (λ y. f x y h) g) (each_cross f t g)

  -- by index
  pub each_at : {P : A → Type 0} {l : List A} → Each P l → (d : A) (i : ℕ) → i < length l → P (get_or l i d)
  each_at no_more d i lt = absurd (omega arith)
  each_at (also h t) d zero lt = h
  each_at (also h t) d (suc i) lt = each_at t d i (omega arith)

  pub some_at : {P : A → Type 0} {l : List A} (d : A) → Some P l → (i : ℕ) × (i < length l) × P (get_or l i d)
  some_at d (this_one h) = (0, omega arith, h)
  some_at d (a_later h) =
      let (i, lt, g) = some_at d h in
      (suc i, omega arith, g)

  pub pairs_at : {R : A → A → Type 0} {l : List A} → Pairs R l → (d : A) (i j : ℕ) → i < j → j < length l → R (get_or l i d) (get_or l j d)
  pairs_at no_pair d i j lt most = absurd (omega arith)
  pairs_at (and_then h t) d i zero lt most = absurd (omega arith)
  pairs_at (and_then h t) d zero (suc j) lt most = each_at h d j (omega arith)
  pairs_at (and_then h t) d (suc i) (suc j) lt most = pairs_at t d i j (omega arith) (omega arith)

  -- by a test
  abbrev pub all : (A → Bool) → List A → Bool
  all f [] = true
  all f (x ∷ l) = f x && all f l

  abbrev pub all_pairs : (A → A → Bool) → List A → Bool
  all_pairs f [] = true
  all_pairs f (x ∷ l) = all (f x) l && all_pairs f l

  pub each_by : (f : A → Bool) (l : List A) → all f l ≡ true → Each (λ x. f x ≡ true) l
  each_by f [] h = no_more
  each_by f (x ∷ l) h = let (p, q) = and_both (f x) (all f l) h in also p (each_by f l q)

  pub pairs_by : (f : A → A → Bool) (l : List A) → all_pairs f l ≡ true → Pairs (λ x y. f x y ≡ true) l
  pairs_by f [] h = no_pair
  pairs_by f (x ∷ l) h = let (p, q) = and_both (all (f x) l) (all_pairs f l) h in and_then (each_by (f x) l p) (pairs_by f l q)
