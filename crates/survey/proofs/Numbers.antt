-- The number of a cell: an axis has a cell that has q exactly when 0 ≤ q ≤ count, which is when q is not outside, and it alone has it: below the count
-- the n with n ≤ q < n + 1, at the count the last. Assumes nothing.
use Prim.Native.Nat.{ℕ, zero, suc, ◌+◌, ◌-◌, ◌^◌, ◌≤◌, ◌<◌}
use native.Mathlib.Nat.{eq-or-lt_of_le}
use native.Mathlib.Omega.{arith}
use native.Mathlib.Numerals.{add-one}
use mathlib.Core.Path.{◌≡◌, refl, sym, subst, ◌∙◌}
use mathlib.Core.Bool.{Bool, true, false, cond}
use mathlib.Core.Logic.{◌↔◌, ◌⊎◌, inl, inr}
use lib.Ieee.{Float, le, lt, is_nan, to_unsigned}
use Rattle.cells.proofs.Touching.{and_both}
use Rattle.survey.specs.Quotient.{as_f64, outside, in_cell, on_far_face, number_below, cell_number, Has}
use Rattle.survey.specs.Search.{Inside}
use Rattle.survey.proofs.Tests.{clash, true_unless, false_unless, neither}
use Rattle.survey.proofs.Order.{compared, not_below, not_above, at_most_is, below_at_most, equal_at_most}
use Rattle.survey.proofs.Whole.{whole_no_nan, whole_ordered, at_least, less_than, whole_part}

-- n ≤ q < n + 1 and its two sides
sides : (q : Float) (n : ℕ) → in_cell q n ≡ true → (le (as_f64 n) q ≡ true) × (lt q (as_f64 (n + 1)) ≡ true)
sides q n h = and_both (le (as_f64 n) q) (lt q (as_f64 (n + 1))) h

in_cell_of : (q : Float) (n : ℕ) → le (as_f64 n) q ≡ true → lt q (as_f64 (n + 1)) ≡ true → in_cell q n ≡ true
in_cell_of q n from upto = rw (from, upto)

-- there is only one such number
pub one_number : (q : Float) (m n : ℕ) → m < 2 ^ 53 → n < 2 ^ 53 → in_cell q m ≡ true → in_cell q n ≡ true → m ≡ n
one_number q m n r s h k =
    let a : m < n + 1 = whole_ordered q m (n + 1) (omega arith) (omega arith) (sides q m h).0 (sides q n k).1 in
    let b : n < m + 1 = whole_ordered q n (m + 1) (omega arith) (omega arith) (sides q n k).0 (sides q m h).1 in
    omega arith

-- it is the whole part of q
pub number_whole_part : (q : Float) (n : ℕ) → n < 2 ^ 32 → in_cell q n ≡ true → to_unsigned 32 q ≡ n
number_whole_part q n r h = whole_part q n r (sides q n h).0 (sides q n h).1

-- the search below the count picks it
below_found : (count n : ℕ) (q : Float) → count ≤ 2 ^ 53 → n < count → in_cell q n ≡ true → number_below count q ≡ n
unfolding number_below
below_found zero n q r l h = absurd (omega arith)
below_found (suc k) n q r l h = go (in_cell q k) refl (λ below. below_found k n q (omega arith) below h)
  where
    go : (b : Bool) → in_cell q k ≡ b → (n < k → number_below k q ≡ n) → cond b k (number_below k q) ≡ n
    go true e rest = one_number q k n (omega arith) (omega arith) e h
    go false e rest = rest (lower (eq-or-lt_of_le l) e)
      where
        lower : (suc n ≡ suc k) ⊎ (suc n < suc k) → in_cell q k ≡ false → n < k
        lower (inl p) e = clash (subst (λ (m : ℕ). in_cell q m ≡ true) (let z : n ≡ k = omega arith in z) h) e
        lower (inr p) e = omega arith

-- where 0 ≤ q < count, there is such a number below the count
number_there : (q : Float) (count : ℕ) → count ≤ 2 ^ 53 → le (as_f64 0) q ≡ true → lt q (as_f64 count) ≡ true → (n : ℕ) × (n < count) × (in_cell q n ≡ true)
number_there q zero r from upto = absurd (let z : 0 < 0 = whole_ordered q 0 0 (omega arith) (omega arith) from upto in omega arith)
number_there q (suc m) r from upto = go (lt q (as_f64 m)) refl (number_there q m (omega arith) from)
  where
    go : (b : Bool) → lt q (as_f64 m) ≡ b → (lt q (as_f64 m) ≡ true → (n : ℕ) × (n < m) × (in_cell q n ≡ true)) → (n : ℕ) × (n < suc m) × (in_cell q n ≡ true)
    go true e lower = let (n, l, i) = lower e in (n, omega arith, i)
    go false e lower = (
      m,
      omega arith,
      in_cell_of q m (at_least q m (omega arith) (compared (as_f64 0) q from) e)
          (subst (λ (k : ℕ). lt q (as_f64 k) ≡ true) (sym (add-one m)) upto),
    )

-- so the search gives it
pub below_in : (count : ℕ) (q : Float) → count ≤ 2 ^ 53 → le (as_f64 0) q ≡ true → lt q (as_f64 count) ≡ true →
    (number_below count q < count) × (in_cell q (number_below count q) ≡ true)
below_in count q r from upto =
    let (n, l, there) = number_there q count r from upto in
    rw (below_found count n q r l there) (l, there)

-- ---- the far face

-- the definition's number there, and off it
pub number_far : (count : ℕ) (q : Float) → on_far_face count q ≡ true → cell_number count q ≡ count - 1
unfolding cell_number
number_far count q e = rw e refl

pub number_off_face : (count : ℕ) (q : Float) → on_far_face count q ≡ false → cell_number count q ≡ number_below count q
unfolding cell_number
number_off_face count q e = rw e refl

-- a q below the count is not on it
pub off_face : (count : ℕ) (q : Float) → lt q (as_f64 count) ≡ true → on_far_face count q ≡ false
off_face count q h = false_unless (on_far_face count q) (λ e. clash h (not_above (as_f64 count) q (equal_at_most (as_f64 count) q e).0))

-- nor is one in a cell below the count
cell_off_face : (count n : ℕ) (q : Float) → count ≤ 2 ^ 53 → n < count → in_cell q n ≡ true → on_far_face count q ≡ false
cell_off_face count n q r l h =
    false_unless (on_far_face count q) (λ e.
    let z : count < n + 1 = whole_ordered q count (n + 1) r (omega arith) (equal_at_most (as_f64 count) q e).0 (sides q n h).1 in omega arith)

-- a number that is not above the count is below it, or on the far face
below_or_far : (count : ℕ) (q : Float) → count ≤ 2 ^ 53 → is_nan q ≡ false → lt (as_f64 count) q ≡ false →
    (lt q (as_f64 count) ≡ true) ⊎ (on_far_face count q ≡ true)
below_or_far count q r p h = go (on_far_face count q) refl
  where
    go : (b : Bool) → on_far_face count q ≡ b → (lt q (as_f64 count) ≡ true) ⊎ (on_far_face count q ≡ true)
    go true e = inr e
    go false e = inl (less_than q count r p (at_most_is (as_f64 count) q ∙ rw (h, e) refl))

-- ---- the cell that has q

-- the definition picks it
pub number_found : (count n : ℕ) (q : Float) → count ≤ 2 ^ 53 → n < count → Has count q n → cell_number count q ≡ n
number_found count n q r l (inl there) =
    number_off_face count q (cell_off_face count n q r l there) ∙ below_found count n q r l there
number_found count n q r l (inr (far, last)) = number_far count q far ∙ omega arith

-- a cell below the count that is not above q, and ends above q unless it is the last, has q
has_of : (count n : ℕ) (q : Float) → count ≤ 2 ^ 53 → lt (as_f64 count) q ≡ false → n < count → le (as_f64 n) q ≡ true
    → (n + 1 < count → lt q (as_f64 (n + 1)) ≡ true) → Has count q n
has_of count n q r within below from upto = go (eq-or-lt_of_le below)
  where
    last : n + 1 ≡ count → (lt q (as_f64 count) ≡ true) ⊎ (on_far_face count q ≡ true) → Has count q n
    last e (inl l) = inl (in_cell_of q n from (subst (λ (k : ℕ). lt q (as_f64 k) ≡ true) (sym e) l))
    last e (inr far) = inr (far, e)

    go : (suc n ≡ count) ⊎ (suc n < count) → Has count q n
    go (inl e) = last (omega arith) (below_or_far count q r (compared (as_f64 n) q from) within)
    go (inr l) = inl (in_cell_of q n from (upto (omega arith)))

-- ---- inside

-- the two tests of a q that is not outside
pub not_outside : (count : ℕ) (q : Float) → outside count q ≡ false → (lt q (as_f64 0) ≡ false) × (lt (as_f64 count) q ≡ false)
not_outside count q h = neither (lt q (as_f64 0)) (lt (as_f64 count) q) h

-- where 0 ≤ q and q is not above the count, some cell has q
has_there : (count : ℕ) (q : Float) → 0 < count → count ≤ 2 ^ 53 → le (as_f64 0) q ≡ true → lt (as_f64 count) q ≡ false →
    (n : ℕ) × (n < count) × Has count q n
has_there count q some r from within = go (below_or_far count q r (compared (as_f64 0) q from) within)
  where
    go : (lt q (as_f64 count) ≡ true) ⊎ (on_far_face count q ≡ true) → (n : ℕ) × (n < count) × Has count q n
    go (inl upto) = let (n, l, there) = number_there q count r from upto in (n, l, inl there)
    go (inr far) = (count - 1, omega arith, inr (far, omega arith))

-- the definition's number is below the count, and its cell has q
pub number_in : (count : ℕ) (q : Float) → Inside count q → (cell_number count q < count) × Has count q (cell_number count q)
number_in count q h =
    let l = h.small in
    let (n, below, has) = has_there count q h.some (omega arith) h.from (not_outside count q h.within).1 in
    rw (number_found count n q (omega arith) below has) (below, has)

-- the last number below the count that is not above q is the definition's number
pub number_last : (count n : ℕ) (q : Float) → Inside count q → n < count → le (as_f64 n) q ≡ true → (n + 1 < count → lt q (as_f64 (n + 1)) ≡ true) →
    cell_number count q ≡ n
number_last count n q h below from upto =
    let l = h.small in
    number_found count n q (omega arith) below (has_of count n q (omega arith) (not_outside count q h.within).1 below from upto)

-- ---- from 0 to the count

-- where q is on the far face, or some cell below the count has it, q is a number, not below 0 and not above the count
far_tests : (count : ℕ) (q : Float) → count ≤ 2 ^ 53 → on_far_face count q ≡ true →
    (is_nan q ≡ false) × (lt q (as_f64 0) ≡ false) × (lt (as_f64 count) q ≡ false)
far_tests count q r far =
    let (from, upto) = equal_at_most (as_f64 count) q far in (
      compared (as_f64 count) q from,
      false_unless _ (λ e. let z : count < 0 = whole_ordered q count 0 r (omega arith) from e in omega arith),
      not_above q (as_f64 count) upto,
    )

has_tests : (count n : ℕ) (q : Float) → count ≤ 2 ^ 53 → n < count → Has count q n →
    (is_nan q ≡ false) × (lt q (as_f64 0) ≡ false) × (lt (as_f64 count) q ≡ false)
has_tests count n q r l (inl there) =
    let (from, upto) = sides q n there in (
      compared (as_f64 n) q from,
      false_unless _ (λ e. let z : n < 0 = whole_ordered q n 0 (omega arith) (omega arith) from e in omega arith),
      false_unless _ (λ e. let z : count < n + 1 = whole_ordered q count (n + 1) r (omega arith) (below_at_most _ _ e) upto in omega arith),
    )
has_tests count n q r l (inr (far, last)) = far_tests count q r far

-- so q is not outside
pub far_not_outside : (count : ℕ) (q : Float) → count ≤ 2 ^ 53 → on_far_face count q ≡ true → outside count q ≡ false
far_not_outside count q r far = let (number, low, high) = far_tests count q r far in rw (low, high) refl

pub has_not_outside : (count n : ℕ) (q : Float) → count ≤ 2 ^ 53 → n < count → Has count q n → outside count q ≡ false
has_not_outside count n q r l h = let (number, low, high) = has_tests count n q r l h in rw (low, high) refl

-- a number is outside exactly when no cell below the count has it
pub outside_exactly : (count : ℕ) (q : Float) → 0 < count → count ≤ 2 ^ 53 → is_nan q ≡ false →
    (outside count q ≡ true) ↔ ((n : ℕ) → n < count → ¬ (Has count q n))
outside_exactly count q some r p = (none, lost)
  where
    none : outside count q ≡ true → (n : ℕ) → n < count → ¬ (Has count q n)
    none o n l h = clash o (has_not_outside count n q r l h)

    lost : ((n : ℕ) → n < count → ¬ (Has count q n)) → outside count q ≡ true
    lost h =
        true_unless (outside count q) (λ e.
        let (low, high) = not_outside count q e in
        let (n, l, has) = has_there count q some r (at_least q 0 (omega arith) p low) high in
        h n l has)

-- a cell below the count has q exactly when 0 ≤ q ≤ count
pub has_exactly : (count : ℕ) (q : Float) → 0 < count → count ≤ 2 ^ 53 →
    ((n : ℕ) × (n < count) × Has count q n) ↔ ((le (as_f64 0) q ≡ true) × (le q (as_f64 count) ≡ true))
has_exactly count q some r = (within, there)
  where
    within : (n : ℕ) × (n < count) × Has count q n → (le (as_f64 0) q ≡ true) × (le q (as_f64 count) ≡ true)
    within (n, l, h) =
        let (number, low, high) = has_tests count n q r l h in
        (at_least q 0 (omega arith) number low, not_below q (as_f64 count) number (whole_no_nan count r) high)

    there : (le (as_f64 0) q ≡ true) × (le q (as_f64 count) ≡ true) → (n : ℕ) × (n < count) × Has count q n
    there (from, upto) = has_there count q some r from (not_above q (as_f64 count) upto)

-- below the count, the cell that has q is the one where it lies
pub has_below : (count n : ℕ) (q : Float) → lt q (as_f64 count) ≡ true → Has count q n → in_cell q n ≡ true
has_below count n q upto (inl there) = there
has_below count n q upto (inr (far, last)) = clash far (off_face count q upto)
