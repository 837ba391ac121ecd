-- The ways through a tie, in step space: how many steps lead where, and which of the ways are among the tie's steps. Knows nothing of fractions.
-- Assumes nothing.
use mathlib.Core.Path.{◌≡◌, refl, sym, ap, fun_ext}
use mathlib.Core.Logic.{◌⊎◌, inl, inr}
use mathlib.Core.Bool.{Bool, true, false, cond}
use mathlib.Core.List.{List, [], ◌∷◌}
use Prim.Native.Nat.{ℕ, ◌+◌, ◌*◌, ◌≤◌, ◌<◌}
use native.Mathlib.Omega.{arith}
use lib.Dec.{ltb, leb}
use lib.ListN.{length}
use borrow.Author.Tests.{ltb-true, ltb-false, leb-true, le-leb}
use Rattle.cells.proofs.Touching.{and_both}
use Rattle.lines.specs.Steps.{Axis, X, Y, Z, Steps, at, total}
use Rattle.lines.specs.Touching.{further, ways, among, Visit, visits_by, first_axis}
use Rattle.lines.proofs.Steps.{lt_or_ge}
use Rattle.lines.proofs.Every.{Each, no_more, also, Some, this_one, a_later, Pairs, no_pair, and_then, each_map, each_by, pairs_by}

-- ---- steps

pub further_on : (t s : Steps) (a : Axis) → further t s a ≡ t a + s a
unfolding further
further_on t s X = refl
further_on t s Y = refl
further_on t s Z = refl

pub total_further : (t s : Steps) → total (further t s) ≡ total t + total s
total_further t s = omega (arith, further_on t s X, further_on t s Y, further_on t s Z)

-- the same number on each axis
pub at_even : (n : ℕ) (a : Axis) → at n n n a ≡ n
at_even n X = refl
at_even n Y = refl
at_even n Z = refl

pub by_axis : (s t : Steps) → ((a : Axis) → s a ≡ t a) → s ≡ t
by_axis s t e = fun_ext e

-- every number of the one is at most the other's, or one is larger
pub each_or_one : (s t : Steps) → ((a : Axis) → t a ≤ s a) ⊎ ((a : Axis) × (s a < t a))
each_or_one s t = go (lt_or_ge (s X) (t X)) (lt_or_ge (s Y) (t Y)) (lt_or_ge (s Z) (t Z))
  where
    all : t X ≤ s X → t Y ≤ s Y → t Z ≤ s Z → (a : Axis) → t a ≤ s a
    all p q r X = p
    all p q r Y = q
    all p q r Z = r

    go : (s X < t X) ⊎ (t X ≤ s X) → (s Y < t Y) ⊎ (t Y ≤ s Y) → (s Z < t Z) ⊎ (t Z ≤ s Z) → ((a : Axis) → t a ≤ s a) ⊎ ((a : Axis) × (s a < t a))
    go (inl h) y z = inr (X, h)
    go (inr p) (inl h) z = inr (Y, h)
    go (inr p) (inr q) (inl h) = inr (Z, h)
    go (inr p) (inr q) (inr r) = inl (all p q r)

-- where there are steps, there are some on the first of their axes
pub first_has : (s : Steps) → 0 < total s → 0 < s (first_axis s)
first_has s some = go (ltb 0 (s Y)) (ltb 0 (s Z)) refl refl
  where
    go : (y z : Bool) → ltb 0 (s Y) ≡ y → ltb 0 (s Z) ≡ z → 0 < s (cond y Y (cond z Z X))
    go true z e f = ltb-true 0 (s Y) e
    go false true e f = ltb-true 0 (s Z) f
    go false false e f = omega (arith, ltb-false 0 (s Y) e, ltb-false 0 (s Z) f)

-- ---- the ways

-- each has a step
ways_go : Each (λ s. 0 < total s) ways
ways_go = each_map (λ s h. ltb-true 0 (total s) h) (each_by (λ s. ltb 0 (total s)) ways refl)

-- by the number of steps, then y before z before x
abbrev pub code : Steps → ℕ
code s = 10 * total s + s Z + 2 * s X

-- they rise, so no two are the same
ways_rise : Pairs (λ s w. ltb (code s) (code w) ≡ true) ways
ways_rise = pairs_by (λ s w. ltb (code s) (code w)) ways refl

-- whatever steps there are, one at most on an axis, they are one of the ways
pub way_in : (s : Steps) → ((a : Axis) → s a ≤ 1) → 0 < total s → Some (λ w. w ≡ s) ways
way_in s one some = go (bit (s X) (one X)) (bit (s Y) (one Y)) (bit (s Z) (one Z))
  where
    bit : (n : ℕ) → n ≤ 1 → (n ≡ 0) ⊎ (n ≡ 1)
    bit n h = elim (lt_or_ge 0 n) [ inl p ↦ inr (omega arith) | inr p ↦ inl (omega arith) ]

    is : (i j k : ℕ) → s X ≡ i → s Y ≡ j → s Z ≡ k → at i j k ≡ s
    is i j k x y z = by_axis (at i j k) s at_axis
      where
        at_axis : (a : Axis) → at i j k a ≡ s a
        at_axis X = sym x
        at_axis Y = sym y
        at_axis Z = sym z

    go : (s X ≡ 0) ⊎ (s X ≡ 1) → (s Y ≡ 0) ⊎ (s Y ≡ 1) → (s Z ≡ 0) ⊎ (s Z ≡ 1) → Some (λ w. w ≡ s) ways
    go (inl x) (inl y) (inl z) = absurd (omega arith)
    go (inl x) (inr y) (inl z) = this_one (is 0 1 0 x y z)
    go (inl x) (inl y) (inr z) = a_later (this_one (is 0 0 1 x y z))
    go (inr x) (inl y) (inl z) = a_later (a_later (this_one (is 1 0 0 x y z)))
    go (inl x) (inr y) (inr z) = a_later (a_later (a_later (this_one (is 0 1 1 x y z))))
    go (inr x) (inr y) (inl z) = a_later (a_later (a_later (a_later (this_one (is 1 1 0 x y z)))))
    go (inr x) (inl y) (inr z) = a_later (a_later (a_later (a_later (a_later (this_one (is 1 0 1 x y z))))))
    go (inr x) (inr y) (inr z) = a_later (a_later (a_later (a_later (a_later (a_later (this_one (is 1 1 1 x y z)))))))

-- ---- those of a tie

never : false ≡ true → ⊥
never f = let z : ◌≡◌ {A = ℕ} 1 0 = ap (λ b. cond b 0 1) f in omega arith

-- a cell to which steps lead from t, some of them, each among e
pub record LeadsFrom (t e : Steps) (v : Visit) : Type 0 where
  pub from : v.from ≡ t
  pub some : 0 < total v.by
  pub among : (a : Axis) → v.by a ≤ e a

among_all : (s e : Steps) → among s e ≡ true → (a : Axis) → s a ≤ e a
among_all s e h =
    let (x, yz) = and_both (leb (s X) (e X)) _ h in
    let (y, z) = and_both (leb (s Y) (e Y)) _ yz in
    by x y z
  where
    by : leb (s X) (e X) ≡ true → leb (s Y) (e Y) ≡ true → leb (s Z) (e Z) ≡ true → (a : Axis) → s a ≤ e a
    by x y z X = leb-true _ _ x
    by x y z Y = leb-true _ _ y
    by x y z Z = leb-true _ _ z

all_among : (s e : Steps) → ((a : Axis) → s a ≤ e a) → among s e ≡ true
all_among s e h = simp (le-leb (s X) (e X) (h X), le-leb (s Y) (e Y) (h Y), le-leb (s Z) (e Z) (h Z))

module _ (t e : Steps) where
  -- what is said of a way, said of the cell that it leads to
  abbrev Got : (Steps → Type 0) → Visit → Type 0
  Got P v = (v.from ≡ t) × P v.by × ((a : Axis) → v.by a ≤ e a)

  abbrev Both : (Steps → Steps → Type 0) → Visit → Visit → Type 0
  Both R v w = R v.by w.by

  -- the cells of a way that is among e or not, and of others behind it
  abbrev Put : Bool → Steps → List Steps → List Visit
  Put b s l = cond b (record { from = t; by = s } ∷ visits_by t e l) (visits_by t e l)

  -- each that is visited has what its way has, and is among e
  by_each : {P : Steps → Type 0} (l : List Steps) → Each P l → Each (Got P) (visits_by t e l)
  by_each [] no_more = no_more
  by_each {P} (s ∷ l) (also h k) = go (among s e) refl (by_each l k)
    where
      go : (b : Bool) → among s e ≡ b → Each (Got P) (visits_by t e l) → Each (Got P) (Put b s l)
      go true f r = also (refl, h, among_all s e f) r
      go false f r = r

  -- and with every later one
  by_kept : {P : Steps → Type 0} (l : List Steps) → Each P l → Each (λ v. P v.by) (visits_by t e l)
  by_kept l h = each_map (λ v g. g.1) (by_each l h)

  by_pairs : {R : Steps → Steps → Type 0} (l : List Steps) → Pairs R l → Pairs (Both R) (visits_by t e l)
  by_pairs [] no_pair = no_pair
  by_pairs {R} (s ∷ l) (and_then h k) = go (among s e) (by_pairs l k)
    where
      go : (b : Bool) → Pairs (Both R) (visits_by t e l) → Pairs (Both R) (Put b s l)
      go true r = and_then (by_kept l h) r
      go false r = r

  -- each of them is visited where it is among e
  by_some : (l : List Steps) (s : Steps) → ((a : Axis) → s a ≤ e a) → Some (λ w. w ≡ s) l → Some (λ v. v ≡ record { from = t; by = s }) (visits_by t e l)
  by_some [] s h x'' = elim x'' [ ]
  by_some (w ∷ l) s h (this_one is) = go (among w e) (all_among w e (λ a. omega (arith, h a, on_axis is a)))
    where
      on_axis : {w s : Steps} → w ≡ s → (a : Axis) → w a ≡ s a
      on_axis is a = λ i. is i a

      go : (b : Bool) → b ≡ true → Some (λ v. v ≡ record { from = t; by = s }) (Put b w l)
      go true f = this_one (λ i. record { from = t; by = is i })
      go false f = absurd (never f)
  by_some (w ∷ l) s h (a_later is) = go (among w e) (by_some l s h is)
    where
      go : (b : Bool) → Some (λ v. v ≡ record { from = t; by = s }) (visits_by t e l) → Some (λ v. v ≡ record { from = t; by = s }) (Put b w l)
      go true r = a_later r
      go false r = r

  -- so it is with all ways through the tie
  pub tie_each : Each (LeadsFrom t e) (visits_by t e ways)
  tie_each = each_map (λ v g. record { from = g.0; some = g.1; among = g.2 }) (by_each ways ways_go)

  -- no two of them are the same
  pub tie_pairs : Pairs (λ v w. ltb (code v.by) (code w.by) ≡ true) (visits_by t e ways)
  tie_pairs = by_pairs ways ways_rise

  -- and every choice of the tie's steps is there
  pub tie_some : (s : Steps) → ((a : Axis) → e a ≤ 1) → ((a : Axis) → s a ≤ e a) → 0 < total s →
      Some (λ v. v ≡ record { from = t; by = s }) (visits_by t e ways)
  tie_some s one le some = by_some ways s le (way_in s (λ a. omega (arith, le a, one a)) some)

-- seven cells for three steps, three for two, one for one
pub tie_length : (t : Steps) (x y z : Bool) →
    let e : Steps = at (cond x 1 0) (cond y 1 0) (cond z 1 0) in
    3 * length (visits_by t e ways) ≤ 7 * total e
tie_length t true true true = omega arith
tie_length t true true false = omega arith
tie_length t true false true = omega arith
tie_length t true false false = omega arith
tie_length t false true true = omega arith
tie_length t false true false = omega arith
tie_length t false false true = omega arith
tie_length t false false false = omega arith
