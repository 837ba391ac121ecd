-- Laws of step space, over variable axes. Assumes nothing.
use mathlib.Core.Path.{◌≡◌, refl, fun_ext}
use mathlib.Core.Logic.{◌⊎◌, inl, inr}
use Prim.Native.Nat.{ℕ, zero, suc, ◌+◌, ◌≤◌, ◌<◌}
use native.Mathlib.Omega.{arith}
use native.Mathlib.Decide.{dec_lt}
use Rattle.lines.specs.Steps.{Axis, X, Y, Z, Steps, total, same, stepped, after_steps}

-- two axes are one, or differ
pub data Cmp (a : Axis) : Axis → Type 0 where
  here : Cmp a a
  other : {b : Axis} → same a b ≡ 0 → same b a ≡ 0 → Cmp a b

pub cmp : (a b : Axis) → Cmp a b
cmp X X = here
cmp X Y = other refl refl
cmp X Z = other refl refl
cmp Y X = other refl refl
cmp Y Y = here
cmp Y Z = other refl refl
cmp Z X = other refl refl
cmp Z Y = other refl refl
cmp Z Z = here

pub same_self : (a : Axis) → same a a ≡ 1
same_self X = refl
same_self Y = refl
same_self Z = refl

pub lt_or_ge : (i k : ℕ) → (i < k) ⊎ (k ≤ i)
lt_or_ge i k = elim (dec_lt i k) [ yes h ↦ inl h | no h ↦ inr (omega arith) ]

-- a step along n, read at any axis
abbrev pub bump : Steps → Axis → Steps
bump t n a = t a + same n a

-- it stays within what it is within, where a step is left
pub bump_within : (N t : Steps) (n : Axis) → t n < N n → ((a : Axis) → t a ≤ N a) → (a : Axis) → bump t n a ≤ N a
bump_within N t n h le a = go (cmp n a) (le a)
  where
    go : {a : Axis} → Cmp n a → t a ≤ N a → bump t n a ≤ N a
    go here le = omega (arith, same_self n)
    go (other e f) le = omega arith

pub stepped_bump : (t : Steps) (n : Axis) → stepped t n ≡ bump t n
unfolding stepped
stepped_bump t n = fun_ext at_axis
  where
    at_axis : (a : Axis) → stepped t n a ≡ bump t n a
    at_axis X = refl
    at_axis Y = refl
    at_axis Z = refl

pub walk_start : (next : Steps → Axis) (a : Axis) → after_steps next 0 a ≡ 0
unfolding after_steps
walk_start next X = refl
walk_start next Y = refl
walk_start next Z = refl

pub walk_suc : (next : Steps → Axis) (n : ℕ) → after_steps next (suc n) ≡ bump (after_steps next n) (next (after_steps next n))
unfolding after_steps
walk_suc next n = stepped_bump (after_steps next n) (next (after_steps next n))

pub total_bump : (t : Steps) (n : Axis) → total (bump t n) ≡ total t + 1
total_bump t X = omega arith
total_bump t Y = omega arith
total_bump t Z = omega arith

pub total_lt : (s t : Steps) (a : Axis) → ((b : Axis) → s b ≤ t b) → s a < t a → total s < total t
total_lt s t X le lt = omega (arith, le Y, le Z)
total_lt s t Y le lt = omega (arith, le X, le Z)
total_lt s t Z le lt = omega (arith, le X, le Y)

-- after n steps n faces are crossed
pub walk_total : (next : Steps → Axis) (n : ℕ) → total (after_steps next n) ≡ n
walk_total next zero = omega (arith, walk_start next X, walk_start next Y, walk_start next Z)
walk_total next (suc n) = rw (walk_suc next n) (omega (arith, total_bump (after_steps next n) (next (after_steps next n)), walk_total next n))

-- where something is left in all, it is left on some axis
pub open_axis : (t N : Steps) → total t < total N → (a : Axis) × (t a < N a)
open_axis t N lt = elim (dec_lt (t X) (N X)) [ yes h ↦ (X, h) | no k ↦ elim (dec_lt (t Y) (N Y)) [ yes h ↦ (Y, h) | no l ↦ (Z, omega arith) ] ]
