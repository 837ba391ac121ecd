-- Laws of sums. Assumes nothing.
use Prim.Native.Nat.{ℕ, zero, suc, ◌+◌, ◌-◌, ◌*◌, ◌%◌, ◌^◌, ◌≤◌, ◌<◌}
use native.Mathlib.Nat.{eq-or-lt_of_le, mul-suc, add-zero, add-suc, pow-suc, mul-le-mul_right}
use native.Mathlib.Numerals.{add-one}
use native.Mathlib.Omega.{arith}
use mathlib.Core.Path.{◌≡◌, refl, sym, ap, ap₂, ◌∙◌}
use mathlib.Core.Bool.{Bool, true, false}
use mathlib.Core.Logic.{◌⊎◌, inl, inr}
use lib.Count.{ones, ones_cat}
use lib.Pow.{pow-add, high}
use lib.Dec.{eqb}
use borrow.Author.Tests.{eq-eqb, ne_eqb}
use Rattle.bricks.specs.Sums.{sum, digit, count, number_of, bit}

-- ---- sums

pub sum_none : (f : ℕ → ℕ) → sum f 0 ≡ 0
unfolding sum
sum_none f = refl

pub sum_more : (f : ℕ → ℕ) (n : ℕ) → sum f (n + 1) ≡ sum f n + f n
unfolding sum
sum_more f n = rw (add-one n)

-- a sum that grows by its next number
pub sum_grows : (f : ℕ → ℕ) (n t v : ℕ) → t ≡ sum f n → v ≡ f n → t + v ≡ sum f (n + 1)
sum_grows f n t v e h = ap₂ (λ (a b : ℕ). a + b) e h ∙ sym (sum_more f n)

pub sum_same : (f g : ℕ → ℕ) (n : ℕ) → ((k : ℕ) → k < n → f k ≡ g k) → sum f n ≡ sum g n
unfolding sum
sum_same f g zero h = refl
sum_same f g (suc n) h = ap₂ (λ (a b : ℕ). a + b) (sum_same f g n (λ k l. h k (omega arith))) (h n (omega arith))

-- a sum of sums
pub sum_plus : (f g : ℕ → ℕ) (n : ℕ) → sum (λ k. f k + g k) n ≡ sum f n + sum g n
unfolding sum
sum_plus f g zero = refl
sum_plus f g (suc n) = omega (arith, sum_plus f g n)

pub sum_zero : (f : ℕ → ℕ) (n : ℕ) → ((k : ℕ) → k < n → f k ≡ 0) → sum f n ≡ 0
unfolding sum
sum_zero f zero h = refl
sum_zero f (suc n) h = omega (arith, sum_zero f n (λ k l. h k (omega arith)), h n (omega arith))

-- the first a numbers, then the next b
pub sum_cat : (f : ℕ → ℕ) (a b : ℕ) → sum f (a + b) ≡ sum f a + sum (λ k. f (a + k)) b
unfolding sum
sum_cat f a zero = ap (sum f) (add-zero a) ∙ omega arith
sum_cat f a (suc b) = ap (sum f) (add-suc a b) ∙ omega (arith, sum_cat f a b)

-- nothing is added past n
pub sum_past : (f : ℕ → ℕ) (n m : ℕ) → n ≤ m → ((k : ℕ) → n ≤ k → k < m → f k ≡ 0) → sum f m ≡ sum f n
sum_past f n m le h =
    let parts : m ≡ n + (m - n) = omega arith in
    ap (sum f) parts ∙ sum_cat f n (m - n) ∙ omega (arith, sum_zero (λ k. f (n + k)) (m - n) (λ k l. h (n + k) (omega arith) (omega arith)))

-- b groups of a numbers
pub sum_groups : (f : ℕ → ℕ) (a b : ℕ) → sum f (a * b) ≡ sum (λ j. sum (λ i. f (i + a * j)) a) b
unfolding sum
sum_groups f a zero = let none : a * 0 ≡ 0 = omega arith in ap (sum f) none
sum_groups f a (suc b) =
    ap (sum f) (mul-suc a b) ∙ sum_cat f (a * b) a
    ∙ ap₂ (λ (s t : ℕ). s + t) (sum_groups f a b) (sum_same (λ i. f (a * b + i)) (λ i. f (i + a * b)) a (λ i l. ap f (omega arith)))

-- the order of two sums does not matter
pub sum_swap : (f : ℕ → ℕ → ℕ) (a b : ℕ) → sum (λ j. sum (λ i. f i j) a) b ≡ sum (λ i. sum (λ j. f i j) b) a
unfolding sum
sum_swap f a zero = sym (sum_zero (λ i. sum (λ j. f i j) 0) a (λ k l. refl))
sum_swap f a (suc b) =
    ap (λ (s : ℕ). s + sum (λ i. f i b) a) (sum_swap f a b) ∙ sym (sum_plus (λ i. sum (λ j. f i j) b) (λ i. f i b) a)

-- f and g differ at i alone
pub sum_moved : (f g : ℕ → ℕ) (n i : ℕ) → i < n → ((k : ℕ) → k < n → (k ≡ i → ⊥) → f k ≡ g k) → sum f n + g i ≡ sum g n + f i
unfolding sum
sum_moved f g zero i h same = absurd (omega arith)
sum_moved f g (suc n) i h same = go (eq-or-lt_of_le {n = i} {m = n} (omega arith)) (λ l. sum_moved f g n i l (λ k b ne. same k (omega arith) ne))
  where
    go : (i ≡ n) ⊎ (i < n) → (i < n → sum f n + g i ≡ sum g n + f i) → sum f n + f n + g i ≡ sum g n + g n + f i
    go (inl e) ih =
        let below : sum f n ≡ sum g n = sum_same f g n (λ k l. same k (omega arith) (λ q. omega arith)) in
        let fs : f i ≡ f n = ap f e in
        let gs : g i ≡ g n = ap g e in
        omega arith
    go (inr l) ih = let here : f n ≡ g n = same n (omega arith) (λ q. omega arith) in omega (arith, ih l)

-- t holds of i alone
pub sum_single : (t : ℕ → Bool) (f : ℕ → ℕ) (n i : ℕ) → i < n → ((k : ℕ) → t k ≡ eqb k i) → sum (λ k. digit (t k) * f k) n ≡ f i
sum_single t f n i lt is =
    let none = sum_zero (λ k. 0) n (λ k _. refl) in
    let only = sum_moved (λ k. digit (t k) * f k) (λ k. 0) n i lt (λ k _ ne. rw (is k, ne_eqb k i ne) (omega arith)) in
    let here : digit (t i) * f i ≡ f i = rw (is i, eq-eqb i i refl) (omega arith) in
    omega arith

-- numbers of at most c each
pub sum_most : (f : ℕ → ℕ) (c n : ℕ) → ((k : ℕ) → f k ≤ c) → sum f n ≤ c * n
unfolding sum
sum_most f c zero h = omega arith
sum_most f c (suc n) h = omega (arith, sum_most f c n h, h n)

pub sum_le : (f g : ℕ → ℕ) (n : ℕ) → ((k : ℕ) → f k ≤ g k) → sum f n ≤ sum g n
unfolding sum
sum_le f g zero h = omega arith
sum_le f g (suc n) h = omega (arith, sum_le f g n h, h n)

-- ---- numbers by their digits

pub digit_small : (t : Bool) → digit t ≤ 1
digit_small true = omega arith
digit_small false = omega arith

pub number_small : (p : ℕ → Bool) (k : ℕ) → number_of p k < 2 ^ k
unfolding sum
number_small p zero = omega arith
number_small p (suc k) =
    let top : digit (p k) * 2 ^ k ≤ 1 * 2 ^ k = mul-le-mul_right (2 ^ k) (digit_small (p k)) in
    rw (pow-suc 2 k) (omega (arith, number_small p k))

-- the same bits, and no bits
pub number_same : (p q : ℕ → Bool) (k : ℕ) → ((b : ℕ) → b < k → p b ≡ q b) → number_of p k ≡ number_of q k
number_same p q k h = sum_same _ _ k (λ b l. ap (λ (t : Bool). digit t * 2 ^ b) (h b l))

no_bit : (t : Bool) (w : ℕ) → t ≡ false → digit t * w ≡ 0
no_bit t w e = rw e (omega arith)

pub number_past : (p : ℕ → Bool) (j k : ℕ) → j ≤ k → ((b : ℕ) → j ≤ b → b < k → p b ≡ false) → number_of p k ≡ number_of p j
number_past p j k le h = sum_past _ j k le (λ b ge l. no_bit (p b) (2 ^ b) (h b ge l))

-- the number of ones is the number of bits that are set
pub ones_number : (p : ℕ → Bool) (k : ℕ) → ones (number_of p k) ≡ count p k
unfolding sum ones
ones_number p zero = refl
ones_number p (suc k) =
    let split : number_of p k + digit (p k) * 2 ^ k ≡ digit (p k) * 2 ^ k + number_of p k = omega arith in
    ap ones split ∙ ones_cat k (digit (p k)) (number_of p k) (number_small p k)
    ∙ omega (arith, ones_number p k, ones_digit (p k))
  where
    ones_digit : (t : Bool) → ones (digit t) ≡ digit t
    ones_digit true = refl
    ones_digit false = refl

-- the digits of b more bits stand above the first a
pub number_cat : (p : ℕ → Bool) (a b : ℕ) → number_of p (a + b) ≡ number_of p a + number_of (λ i. p (a + i)) b * 2 ^ a
unfolding sum
number_cat p a zero = ap (number_of p) (add-zero a) ∙ omega arith
number_cat p a (suc b) = ap (number_of p) (add-suc a b) ∙ rw (pow-add 2 a b) (omega (arith, number_cat p a b))

-- the lowest bit of it, and so each
number_odd : (p : ℕ → Bool) (k : ℕ) → number_of p (1 + k) % 2 ≡ digit (p 0)
unfolding sum
number_odd p k = let low = digit_small (p 0) in omega (arith, number_cat p 1 k)

is_digit : (t : Bool) → eqb (digit t) 1 ≡ t
is_digit true = refl
is_digit false = refl

pub bit_number : (p : ℕ → Bool) (k b : ℕ) → b < k → bit (number_of p k) b ≡ p b
bit_number p k b h =
    let r : ℕ = k - (b + 1) in
    let above : ℕ = number_of (λ i. p (b + i)) (1 + r) in
    let parts : k ≡ b + (1 + r) = omega arith in
    let is : number_of p k ≡ above * 2 ^ b + number_of p b = ap (number_of p) parts ∙ omega (arith, number_cat p b (1 + r)) in
    ap (λ (m : ℕ). bit m b) is
    ∙ ap (λ (q : ℕ). eqb (q % 2) 1) (high above b (number_small p b))
    ∙ ap (λ (d : ℕ). eqb d 1) (number_odd (λ i. p (b + i)) r)
    ∙ is_digit (p (b + 0)) ∙ ap p (add-zero b)
