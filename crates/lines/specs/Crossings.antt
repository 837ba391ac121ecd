-- Crossings of faces, each at a fraction of the way, and the order in which a line makes them. Assumes nothing.
use Rattle.std.specs.Prelude.{ℕ, ◌+◌, ◌-◌, ◌*◌, ◌≤◌, ◌<◌, ◌≡◌, ◌≢◌, Bool, true, cond, not, ◌&&◌, ◌||◌, ltb, eqb}
use Rattle.lines.specs.Steps.{Axis, X, Y, Z, PerAxis, Steps, same, after_steps}

-- On each axis: how many faces are crossed, and at which fractions of the way. Crossing i of an axis, i from 0 to count - 1, lies at
-- (first + step·i) / lower. Of equal fractions the axis of the smaller rank goes first.
pub record Course : Type 0 where
  pub count : PerAxis
  pub first : PerAxis
  pub step : ℕ
  pub lower : PerAxis
  pub rank : PerAxis

-- the upper number of the fraction of crossing i of a
abbrev pub upper : Course → Axis → ℕ → ℕ
upper c a i = c.first a + c.step * i

-- crossing i of a comes before crossing j of b: its fraction, compared by products, is smaller, or equal and a goes first
unfoldable pub before : Course → Axis → ℕ → Axis → ℕ → Bool
before c a i b j =
    let x : ℕ = upper c a i * c.lower b in
    let y : ℕ = upper c b j * c.lower a in
    ltb x y || (eqb x y && ltb (c.rank a) (c.rank b))

-- at place t the axis a has a crossing left
abbrev pub has_more : Course → Steps → Axis → Bool
has_more c t a = ltb (t a) (c.count a)

-- of two axes, the one whose next crossing comes first; an axis with none left gives way
unfoldable pub sooner : Course → Steps → Axis → Axis → Axis
unfolding before
sooner c t a b = cond (has_more c t a && (not (has_more c t b) || before c a (t a) b (t b))) a b

-- the axis of the next crossing: of those not made yet, the one that comes first
unfoldable pub next : Course → Steps → Axis
unfolding sooner
next c t = sooner c t X (sooner c t Y Z)

-- the place after the first n crossings in that order
unfoldable pub place : Course → ℕ → Steps
unfolding next after_steps
place c n = after_steps (next c) n

-- ---- what is said of places

-- each crossing made comes before each one not made
pub record InOrder (c : Course) (t : Steps) : Type 0 where
  pub fits : (a : Axis) → t a ≤ c.count a
  pub order : (a b : Axis) (i j : ℕ) → i < t a → t b ≤ j → j < c.count b → before c a i b j ≡ true

-- of the crossings last made on each axis, that of n is the last
pub record LastMade (c : Course) (t : Steps) (n : Axis) : Type 0 where
  pub some : 0 < t n
  pub last : (b : Axis) → same n b ≡ 0 → 0 < t b → before c b (t b - 1) n (t n - 1) ≡ true

-- no two crossings of different axes lie at equal fractions
pub record TieFree (c : Course) : Type 0 where
  pub none : (a b : Axis) (i j : ℕ) → same a b ≡ 0 → i < c.count a → j < c.count b → upper c a i * c.lower b ≢ upper c b j * c.lower a

-- just the crossings at fractions up to and including n over d are made
pub record MadeUpto (c : Course) (n d : ℕ) (t : Steps) : Type 0 where
  pub made : (a : Axis) (i : ℕ) → i < t a → (i < c.count a) × (upper c a i * d ≤ n * c.lower a)
  pub rest : (a : Axis) (i : ℕ) → i < c.count a → t a ≤ i → n * c.lower a < upper c a i * d
