-- Step space: between two ends, a place is how many faces were crossed on each axis. Assumes nothing.
pub use Rattle.cells.specs.declared.Axis.{Axis}
pub use Rattle.cells.specs.declared.Axis.TheVariants.{X, Y, Z}
use Rattle.std.specs.Prelude.{ℕ, zero, suc, ◌+◌}

-- a number for each axis
abbrev pub PerAxis : Type 0
PerAxis = Axis → ℕ

-- how many faces were crossed on each
abbrev pub Steps : Type 0
Steps = PerAxis

-- i on x, j on y, k on z
abbrev pub at : (i j k : ℕ) → Steps
at i j k X = i
at i j k Y = j
at i j k Z = k

-- the sum over the axes
abbrev pub total : Steps → ℕ
total t = t X + t Y + t Z

-- 1 where the two axes are the same, else 0
abbrev pub same : Axis → Axis → ℕ
same X X = 1
same X Y = 0
same X Z = 0
same Y X = 0
same Y Y = 1
same Y Z = 0
same Z X = 0
same Z Y = 0
same Z Z = 1

-- one step further along n
unfoldable pub stepped : Steps → Axis → Steps
stepped t n = at (t X + same n X) (t Y + same n Y) (t Z + same n Z)

-- the place after n steps, each along the axis that `next` gives
unfoldable pub after_steps : (Steps → Axis) → ℕ → Steps
unfolding stepped
after_steps next zero = at 0 0 0
after_steps next (suc n) =
    let t : Steps = after_steps next n in
    stepped t (next t)
