-- The cells of a tie as the code passes them: whatever it moves by steps, it is moved to the cells that the definition visits, in their order, and behind
-- the tie at the end. Assumes nothing.
use mathlib.Core.Path.{◌≡◌, refl, sym, ◌∙◌, subst}
use mathlib.Core.Bool.{Bool, true, false, cond}
use mathlib.Core.List.{List, [], ◌∷◌}
use Prim.Native.Nat.{◌+◌, ◌*◌, ◌≤◌, ◌<◌}
use native.Mathlib.Omega.{arith}
use lib.ListN.{length}
use Rattle.lines.specs.declared.Tie.{Tie}
use Rattle.lines.specs.declared.Tie.TheVariants.{One, Two, Three}
use Rattle.lines.specs.Steps.{Axis, X, Y, Z, Steps, at, total}
use Rattle.lines.specs.Crossings.{Course}
use Rattle.lines.specs.Touching.{tied, tie_steps, tie_of, next_tie, further, ways, visits_by, visited}
use Rattle.lines.proofs.Steps.{bump}
use Rattle.lines.proofs.Merge.{Within}
use Rattle.lines.proofs.Fractions.{Good}
use Rattle.lines.proofs.Ways.{further_on, by_axis}
use Rattle.lines.proofs.Touching.{passed, passed_on, passed_within, some_tie}
use Rattle.touching.specs.Passing.{of_tie, tie_end, CanTie, tie_size, tie_faces}

-- two lists, member by member
pub data Together {A B : Type 0} (R : A → B → Type 0) : List A → List B → Type 0 where
  neither : Together R [] []
  both : {x : A} {y : B} {l : List A} {k : List B} → R x y → Together R l k → Together R (x ∷ l) (y ∷ k)

-- where what is moved belongs to a place, by R, and a step along an axis that has a crossing left takes it to the next place
module _ {S : Type 0} (D : Steps) (R : Steps → S → Type 0) (go : Axis → S → S)
    (step : (t : Steps) (s : S) (n : Axis) → R t s → t n < D n → R (bump t n) (go n s)) where
  -- at the same place
  lands : (t w u : Steps) {s : S} → u X ≡ t X + w X → u Y ≡ t Y + w Y → u Z ≡ t Z + w Z → R u s → R (further t w) s
  lands t w u {s} x y z r = subst (λ v. R v s) (by_axis u (further t w) at_axis) r
    where
      at_axis : (a : Axis) → u a ≡ further t w a
      at_axis X = x ∙ sym (further_on t w X)
      at_axis Y = y ∙ sym (further_on t w Y)
      at_axis Z = z ∙ sym (further_on t w Z)

  abbrev bits : (x y z : Bool) → Steps
  bits x y z = at (cond x 1 0) (cond y 1 0) (cond z 1 0)

  -- the cells, and what is behind them
  abbrev Passes : Steps → S → (x y z : Bool) → Type 0
  Passes t s x y z =
      Together (λ v s. R (visited v) s) (visits_by t (bits x y z) ways) (of_tie go (tie_of x y z) s) ×
      R (further t (bits x y z)) (tie_end go (tie_of x y z) s)

  module _ (t : Steps) (s : S) (r : R t s) where
    at_x : t X < D X → R (bump t X) (go X s)
    at_x = step t s X r

    at_y : t Y < D Y → R (bump t Y) (go Y s)
    at_y = step t s Y r

    at_z : t Z < D Z → R (bump t Z) (go Z s)
    at_z = step t s Z r

    at_yz : t Y < D Y → t Z < D Z → R (bump (bump t Y) Z) (go Z (go Y s))
    at_yz y z = step (bump t Y) (go Y s) Z (at_y y) (omega arith)

    at_yx : t Y < D Y → t X < D X → R (bump (bump t Y) X) (go X (go Y s))
    at_yx y x = step (bump t Y) (go Y s) X (at_y y) (omega arith)

    at_zx : t Z < D Z → t X < D X → R (bump (bump t Z) X) (go X (go Z s))
    at_zx z x = step (bump t Z) (go Z s) X (at_z z) (omega arith)

    at_yzx : t Y < D Y → t Z < D Z → t X < D X → R (bump (bump (bump t Y) Z) X) (go X (go Z (go Y s)))
    at_yzx y z x = step (bump (bump t Y) Z) (go Z (go Y s)) X (at_yz y z) (omega arith)

    by_x : t X < D X → R (further t (at 1 0 0)) (go X s)
    by_x x = lands t (at 1 0 0) (bump t X) refl refl refl (at_x x)

    by_y : t Y < D Y → R (further t (at 0 1 0)) (go Y s)
    by_y y = lands t (at 0 1 0) (bump t Y) refl refl refl (at_y y)

    by_z : t Z < D Z → R (further t (at 0 0 1)) (go Z s)
    by_z z = lands t (at 0 0 1) (bump t Z) refl refl refl (at_z z)

    by_yz : t Y < D Y → t Z < D Z → R (further t (at 0 1 1)) (go Z (go Y s))
    by_yz y z = lands t (at 0 1 1) (bump (bump t Y) Z) (omega arith) (omega arith) (omega arith) (at_yz y z)

    by_yx : t Y < D Y → t X < D X → R (further t (at 1 1 0)) (go X (go Y s))
    by_yx y x = lands t (at 1 1 0) (bump (bump t Y) X) (omega arith) (omega arith) (omega arith) (at_yx y x)

    by_zx : t Z < D Z → t X < D X → R (further t (at 1 0 1)) (go X (go Z s))
    by_zx z x = lands t (at 1 0 1) (bump (bump t Z) X) (omega arith) (omega arith) (omega arith) (at_zx z x)

    by_yzx : t Y < D Y → t Z < D Z → t X < D X → R (further t (at 1 1 1)) (go X (go Z (go Y s)))
    by_yzx y z x = lands t (at 1 1 1) (bump (bump (bump t Y) Z) X) (omega arith) (omega arith) (omega arith) (at_yzx y z x)

    passes : (x y z : Bool) → t X + cond x 1 0 ≤ D X → t Y + cond y 1 0 ≤ D Y → t Z + cond z 1 0 ≤ D Z → 0 < total (bits x y z) → Passes t s x y z
    passes false true false _ y _ some = let h = by_y (omega arith) in (both h neither, h)
    passes false false true _ _ z some = let h = by_z (omega arith) in (both h neither, h)
    passes true false false x _ _ some = let h = by_x (omega arith) in (both h neither, h)
    passes false true true _ y z some =
        let h = by_yz (omega arith) (omega arith) in
        (both (by_y (omega arith)) (both (by_z (omega arith)) (both h neither)), h)
    passes true true false x y _ some =
        let h = by_yx (omega arith) (omega arith) in
        (both (by_y (omega arith)) (both (by_x (omega arith)) (both h neither)), h)
    passes true false true x _ z some =
        let h = by_zx (omega arith) (omega arith) in
        (both (by_z (omega arith)) (both (by_x (omega arith)) (both h neither)), h)
    passes true true true x y z some =
        let hx : t X < D X = omega arith in
        let hy : t Y < D Y = omega arith in
        let hz : t Z < D Z = omega arith in
        let h = by_yzx hy hz hx in (
          both (by_y hy) (both (by_z hz) (both (by_x hx) (both (by_yz hy hz) (both (by_yx hy hx) (both (by_zx hz hx) (both h neither)))))),
          h,
        )
    passes false false false _ _ _ some = absurd (omega arith)

    -- wherever it steps from, it belongs to a place
    steps_from : (x y z : Bool) → t X + cond x 1 0 ≤ D X → t Y + cond y 1 0 ≤ D Y → t Z + cond z 1 0 ≤ D Z → 0 < total (bits x y z) →
        CanTie (λ u. (v : Steps) × R v u) go (tie_of x y z) s
    steps_from false true false _ y _ some = (t, r)
    steps_from false false true _ _ z some = (t, r)
    steps_from true false false x _ _ some = (t, r)
    steps_from false true true _ y z some = ((t, r), (bump t Y, at_y (omega arith)))
    steps_from true true false x y _ some = ((t, r), (bump t Y, at_y (omega arith)))
    steps_from true false true x _ z some = ((t, r), (bump t Z, at_z (omega arith)))
    steps_from true true true x y z some =
        ((t, r), (bump t Y, at_y (omega arith)), (bump t Z, at_z (omega arith)), (bump (bump t Y) Z, at_yz (omega arith) (omega arith)))
    steps_from false false false _ _ _ some = absurd (omega arith)

  -- ---- at a place of a line

  module _ (c : Course) (good : Good c) (count : c.count ≡ D) (t : Steps) (s : S) (r : R t s) (wi : Within D t) (lt : total t < total D) where
    ahead : (a : Axis) → t a + tie_steps c t a ≤ D a
    ahead a = omega (arith, passed_on c t a, subst (λ N. passed c t a ≤ N a) count (passed_within c good t (subst (λ N. Within N t) (sym count) wi) a))

    some : 0 < total (tie_steps c t)
    some = some_tie c good t (subst (λ N. Within N t) (sym count) wi) (subst (λ N. total t < total N) (sym count) lt)

    pub tie_passes :
        Together (λ v s. R (visited v) s) (visits_by t (tie_steps c t) ways) (of_tie go (next_tie c t) s) × R (passed c t) (tie_end go (next_tie c t) s)
    unfolding tie_steps
    tie_passes = passes t s r (tied c t X) (tied c t Y) (tied c t Z) (ahead X) (ahead Y) (ahead Z) some

    pub tie_steps_from : CanTie (λ u. (v : Steps) × R v u) go (next_tie c t) s
    unfolding tie_steps
    tie_steps_from = steps_from t s r (tied c t X) (tied c t Y) (tied c t Z) (ahead X) (ahead Y) (ahead Z) some

pub can_map : {S : Type 0} {P Q : S → Type 0} (go : Axis → S → S) → ((u : S) → P u → Q u) → (tie : Tie) (s : S) → CanTie P go tie s → CanTie Q go tie s
can_map go f (One n) s h = f s h
can_map go f (Two a b) s h = (f s h.0, f (go a s) h.1)
can_map go f Three s h = (f s h.0, f (go Y s) h.1, f (go Z s) h.2, f (go Z (go Y s)) h.3)

-- as many cells and as many faces
module _ (c : Course) (good : Good c) (t : Steps) (wi : Within c.count t) (lt : total t < total c.count) where
  size_by : (x y z : Bool) → 0 < total (at (cond x 1 0) (cond y 1 0) (cond z 1 0)) →
      (length (visits_by t (at (cond x 1 0) (cond y 1 0) (cond z 1 0)) ways) ≡ tie_size (tie_of x y z)) ×
      (total (at (cond x 1 0) (cond y 1 0) (cond z 1 0)) ≡ tie_faces (tie_of x y z))
  size_by false true false h = (refl, refl)
  size_by false false true h = (refl, refl)
  size_by true false false h = (refl, refl)
  size_by false true true h = (refl, refl)
  size_by true true false h = (refl, refl)
  size_by true false true h = (refl, refl)
  size_by true true true h = (refl, refl)
  size_by false false false h = absurd (omega arith)

  pub tie_counts : (length (visits_by t (tie_steps c t) ways) ≡ tie_size (next_tie c t)) × (total (tie_steps c t) ≡ tie_faces (next_tie c t))
  unfolding tie_steps
  tie_counts = size_by (tied c t X) (tied c t Y) (tied c t Z) (some_tie c good t wi lt)

-- at least one face, at least as many cells, no more than seven for a face, and seven in all
pub tie_few : (tie : Tie) → (1 ≤ tie_faces tie) × (tie_size tie ≤ 7 * tie_faces tie) × (tie_faces tie ≤ tie_size tie) × (tie_size tie ≤ 7)
tie_few (One n) = (omega arith, omega arith, omega arith, omega arith)
tie_few (Two a b) = (omega arith, omega arith, omega arith, omega arith)
tie_few Three = (omega arith, omega arith, omega arith, omega arith)
