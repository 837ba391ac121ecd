-- Sums over boxes: of a grid, of its rows, and of the bricks that part it. Assumes nothing.
use Prim.Native.Nat.{ℕ, ◌+◌, ◌*◌, ◌≤◌, ◌<◌}
use native.Mathlib.Omega.{arith}
use mathlib.Core.Path.{◌≡◌, sym, ◌∙◌}
use mathlib.Core.Bool.{Bool, true, false}
use Rattle.bricks.specs.Sums.{sum, digit}
use Rattle.bricks.proofs.Sums.{sum_same, sum_zero, sum_past, sum_groups, sum_swap}

-- the sum of g over the box of a by b by c
unfoldable pub sum3 : (ℕ → ℕ → ℕ → ℕ) → ℕ → ℕ → ℕ → ℕ
sum3 g a b c = sum (λ z. sum (λ y. sum (λ x. g x y z) a) b) c

pub sum3_same :
    (g h : ℕ → ℕ → ℕ → ℕ) (a b c : ℕ) → ((x y z : ℕ) → x < a → y < b → z < c → g x y z ≡ h x y z) → sum3 g a b c ≡ sum3 h a b c
unfolding sum3
sum3_same g h a b c same = sum_same _ _ c (λ z hz. sum_same _ _ b (λ y hy. sum_same _ _ a (λ x hx. same x y z hx hy hz)))

-- the numbers below a·b·c, x fastest, then y, then z
pub sum_grid : (f : ℕ → ℕ) (a b c : ℕ) → sum f (a * (b * c)) ≡ sum3 (λ x y z. f (x + a * (y + b * z))) a b c
unfolding sum3
sum_grid f a b c = sum_groups f a (b * c) ∙ sum_groups (λ r. sum (λ x. f (x + a * r)) a) b c

-- g is nothing past the box of a by b by c, so the larger box has the same sum
pub sum3_past :
    (g : ℕ → ℕ → ℕ → ℕ) (a b c a' b' c' : ℕ) → a ≤ a' → b ≤ b' → c ≤ c' → ((x y z : ℕ) → a ≤ x → g x y z ≡ 0) → ((x y z : ℕ) → b ≤ y → g x y z ≡ 0) →
    ((x y z : ℕ) → c ≤ z → g x y z ≡ 0) → sum3 g a' b' c' ≡ sum3 g a b c
unfolding sum3
sum3_past g a b c a' b' c' la lb lc nx ny nz =
    sum_same _ _ c' (λ z hz. sum_same _ _ b' (λ y hy. sum_past (λ x. g x y z) a a' la (λ x h _. nx x y z h))
    ∙ sum_past (λ y. sum (λ x. g x y z) a) b b' lb (λ y h _. sum_zero _ a (λ x l. ny x y z h)))
    ∙ sum_past (λ z. sum (λ y. sum (λ x. g x y z) a) b) c c' lc (λ z h _. sum_zero _ b (λ y m. sum_zero _ a (λ x l. nz x y z h)))

-- rows of m, in b groups of a: the groups first
sum_deep : (f : ℕ → ℕ → ℕ) (a b m : ℕ) → sum (λ y. sum (λ i. f i y) m) (a * b) ≡ sum (λ j. sum (λ i. sum (λ d. f i (d + a * j)) a) m) b
sum_deep f a b m =
    sum_groups (λ y. sum (λ i. f i y) m) a b ∙ sum_same _ _ b (λ j h. sum_swap (λ i d. f i (d + a * j)) m a)

-- a box of k·a by k·b by k·c is parted into a·b·c boxes of k by k by k
pub sum3_parted :
    (g : ℕ → ℕ → ℕ → ℕ) (k a b c : ℕ) →
    sum3 g (k * a) (k * b) (k * c) ≡ sum3 (λ i j l. sum3 (λ x y z. g (x + k * i) (y + k * j) (z + k * l)) k k k) a b c
unfolding sum3
sum3_parted g k a b c =
    sum_same _ _ (k * c) (λ z hz.
    sum_same _ _ (k * b) (λ y hy. sum_groups (λ x. g x y z) k a) ∙ sum_deep (λ i y. row i y z) k b a)
    ∙ sum_deep (λ j z. sum (λ i. wall i j z) a) k c b
    ∙ sum_same _ _ c (λ l hl. sum_same _ _ b (λ j hj. sum_swap (λ i d. wall i j (d + k * l)) a k))
  where
    row : ℕ → ℕ → ℕ → ℕ
    row i y z = sum (λ x. g (x + k * i) y z) k

    wall : ℕ → ℕ → ℕ → ℕ
    wall i j z = sum (λ y. row i (y + k * j) z) k

-- all of it, or nothing
all_of : (t : ℕ) → digit true * t ≡ t
all_of t = omega arith

none_of : (t : ℕ) → digit false * t ≡ 0
none_of t = omega arith

pub sum3_times : (b : Bool) (g : ℕ → ℕ → ℕ → ℕ) (a c d : ℕ) → sum3 (λ x y z. digit b * g x y z) a c d ≡ digit b * sum3 g a c d
unfolding sum3
sum3_times true g a c d = sum3_same _ g a c d (λ x y z _ _ _. all_of (g x y z)) ∙ sym (all_of (sum3 g a c d))
sum3_times false g a c d =
    sum_zero _ d (λ z _. sum_zero _ c (λ y _. sum_zero _ a (λ x _. none_of (g x y z)))) ∙ sym (none_of (sum3 g a c d))
