-- The touching line in step space, for every course whose ends lie inside their cells: which crossings tie, that just the cells that the segment
-- touches are visited, each once, and in the order in which it comes to them. Assumes nothing.
use mathlib.Core.Path.{◌≡◌, refl, sym, ap, ◌∙◌}
use mathlib.Core.Logic.{⊎_elim}
use mathlib.Core.Bool.{Bool, true, false, cond, not, ◌||◌}
use Prim.Native.Nat.{ℕ, zero, suc, ◌+◌, ◌-◌, ◌*◌, ◌≤◌, ◌<◌}
use native.Mathlib.Omega.{arith, by_contra}
use native.Mathlib.Nat.{mul-le-mul_left, mul-le-mul_right}
use lib.Dec.{leb}
use borrow.Author.Tests.{ltb-true, lt-ltb, leb-true, le-leb}
use Rattle.cells.proofs.Touching.{and_both}
use Rattle.lines.specs.Steps.{Axis, X, Y, Z, Steps, at, total, same}
use Rattle.lines.specs.Crossings.{Course, upper, has_more, next}
use Rattle.lines.specs.Touching.{no_later, tied, tie_steps, further, ways, visits_by, visits_from, visits}
use Rattle.lines.specs.Touching.{visited}
use Rattle.lines.proofs.Steps.{Cmp, here, other, cmp, lt_or_ge}
use Rattle.lines.proofs.Merge.{Within, Next, Choice}
use Rattle.lines.proofs.Fractions.{Before, Good, InClosedSteps, chain_le, next_rule}
use Rattle.lines.proofs.Every.{Some, this_one, a_later}
use Rattle.lines.proofs.Every.{some_map, some_left, some_right}
use Rattle.lines.proofs.Ways.{further_on, total_further, by_axis, each_or_one, tie_some}

-- ---- which axes tie

module _ (c : Course) (t : Steps) where
  -- the next crossing of a is there, and none that is left lies at a smaller fraction
  pub record Leading (a : Axis) : Type 0 where
    pub has : t a < c.count a
    pub first : (b : Axis) → t b < c.count b → upper c a (t a) * c.lower b ≤ upper c b (t b) * c.lower a

  pub tied_leads : (a : Axis) → tied c t a ≡ true → Leading a
  unfolding tied
  tied_leads a h =
      let (more, xyz) = and_both (has_more c t a) _ h in
      let (x, yz) = and_both (no_later c t a X) _ xyz in
      let (y, z) = and_both (no_later c t a Y) (no_later c t a Z) yz in
      record { has = ltb-true _ _ more; first = by x y z }
    where
      one : (b : Axis) → no_later c t a b ≡ true → t b < c.count b → upper c a (t a) * c.lower b ≤ upper c b (t b) * c.lower a
      one b e lt = leb-true _ _ (sym (ap (λ m. not m || leb (upper c a (t a) * c.lower b) (upper c b (t b) * c.lower a)) (lt-ltb _ _ lt)) ∙ e)

      by : no_later c t a X ≡ true → no_later c t a Y ≡ true → no_later c t a Z ≡ true → (b : Axis) → t b < c.count b →
          upper c a (t a) * c.lower b ≤ upper c b (t b) * c.lower a
      by x y z X = one X x
      by x y z Y = one Y y
      by x y z Z = one Z z

  pub leads_tied : (a : Axis) → Leading a → tied c t a ≡ true
  unfolding tied
  leads_tied a h = simp (lt-ltb _ _ h.has, one X, one Y, one Z)
    where
      one : (b : Axis) → no_later c t a b ≡ true
      one b = go (has_more c t b) refl
        where
          go : (m : Bool) → has_more c t b ≡ m → (not m || leb (upper c a (t a) * c.lower b) (upper c b (t b) * c.lower a)) ≡ true
          go true e = le-leb _ _ (h.first b (ltb-true _ _ e))
          go false e = refl

  -- the steps of the tie: one along each axis that ties, none along the others
  pub tie_on : (a : Axis) → tie_steps c t a ≡ cond (tied c t a) 1 0
  unfolding tie_steps
  tie_on X = refl
  tie_on Y = refl
  tie_on Z = refl

  pub tie_most : (a : Axis) → tie_steps c t a ≤ 1
  tie_most a = rw (tie_on a) (go (tied c t a))
    where
      go : (b : Bool) → cond b 1 0 ≤ 1
      go true = omega arith
      go false = omega arith

  pub tie_leads : (a : Axis) → 0 < tie_steps c t a → Leading a
  tie_leads a some = go (tied c t a) refl
    where
      go : (b : Bool) → tied c t a ≡ b → Leading a
      go true e = tied_leads a e
      go false e =
          let none : tie_steps c t a ≡ 0 = tie_on a ∙ ap (λ b. cond b 1 0) e in
          absurd (omega arith)

  pub leads_tie : (a : Axis) → Leading a → tie_steps c t a ≡ 1
  leads_tie a h = tie_on a ∙ ap (λ b. cond b 1 0) (leads_tied a h)

  -- where all steps of the tie are made
  abbrev pub passed : Steps
  passed = further t (tie_steps c t)

  pub passed_on : (a : Axis) → passed a ≡ t a + tie_steps c t a
  passed_on = further_on t (tie_steps c t)

module _ (c : Course) (good : Good c) where
  -- the axis that goes next ties: so wherever a crossing is left, some axis does
  pub next_leads : (t : Steps) → Within c.count t → total t < total c.count → Leading c t (next c t)
  unfolding Choice Next Before
  next_leads t wi lt =
      let nx = next_rule c good t wi lt in
      record { has = nx.0; first = λ b more. leads b more (cmp (next c t) b) (nx.1 b) }
    where
      leads : (b : Axis) → t b < c.count b → Cmp (next c t) b → (same (next c t) b ≡ 0 → t b < c.count b → Before c (next c t) (t (next c t)) b (t b)) →
          upper c (next c t) (t (next c t)) * c.lower b ≤ upper c b (t b) * c.lower (next c t)
      leads b more here f = omega arith
      leads b more (other e e') f = omega (arith, f e more)

  pub some_tie : (t : Steps) → Within c.count t → total t < total c.count → 0 < total (tie_steps c t)
  some_tie t wi lt = on (next c t) (leads_tie c t (next c t) (next_leads t wi lt))
    where
      on : (a : Axis) → tie_steps c t a ≡ 1 → 0 < total (tie_steps c t)
      on X e = omega arith
      on Y e = omega arith
      on Z e = omega arith

  pub passed_within : (t : Steps) → Within c.count t → Within c.count (passed c t)
  passed_within t wi a =
      ⊎_elim (λ some. omega (arith, passed_on c t a, tie_most c t a, (tie_leads c t a some).has)) (λ none. omega (arith, passed_on c t a, wi a))
      (lt_or_ge 0 (tie_steps c t a))

  pub some_lower : (a : Axis) (i : ℕ) → i < c.count a → 0 < c.lower a
  some_lower a i p = omega (arith, good.inside a p)

  -- an axis whose next crossing lies at no greater a fraction than one that ties does tie
  pub leads_too : (t : Steps) (a b : Axis) → Leading c t a → t b < c.count b → upper c b (t b) * c.lower a ≤ upper c a (t a) * c.lower b → Leading c t b
  leads_too t a b l left le =
      record {
        has = left;
        first = λ d more.
            chain_le (upper c b (t b)) (upper c a (t a)) (upper c d (t d)) (c.lower b) (c.lower a) (c.lower d) (some_lower a (t a) l.has) le
            (l.first d more);
      }

  -- ---- places that the segment touches

  -- each crossing made lies at a fraction no greater than each one not made
  abbrev pub Close : Steps → Type 0
  Close t = (a b : Axis) (i j : ℕ) → i < t a → t b ≤ j → j < c.count b → upper c a i * c.lower b ≤ upper c b j * c.lower a

  pub further_up : (a : Axis) (i j : ℕ) → i ≤ j → upper c a i ≤ upper c a j
  further_up a i j le = omega (arith, mul-le-mul_left c.step le)

  pub next_up : (a : Axis) (i j : ℕ) → i < j → upper c a i + c.step ≤ upper c a j
  next_up a i j lt = omega (arith, mul-le-mul_left c.step lt)

  pub closed_close : (n d : ℕ) (t : Steps) → 0 < d → InClosedSteps c n d t → Close t
  closed_close n d t some h a b i j p q r =
      chain_le (upper c a i) n (upper c b j) (c.lower a) d (c.lower b) some
      (omega (arith, h.from a, mul-le-mul_right d (next_up a i (t a) p)))
      (omega (arith, h.upto b, mul-le-mul_right d (further_up b (t b) j q)))

  pub closed_within : (n d : ℕ) (t : Steps) → 0 < d → n ≤ d → InClosedSteps c n d t → Within c.count t
  closed_within n d t some le h a =
      by_contra (t a) (c.count a) (λ p.
      let beyond : suc (c.lower a) + c.step ≤ upper c a (t a) = omega (arith, good.ends a, next_up a (c.count a) (t a) p) in
      omega (arith, h.from a, mul-le-mul_right d beyond, mul-le-mul_left (c.lower a) le))

  -- from a place behind it, it is reached within the tie, or not before the whole tie is passed
  tie_or_later : (u t : Steps) → Within c.count t → ((a : Axis) → u a ≤ t a) → Close t → (b : Axis) → passed c u b < t b → (a : Axis) → passed c u a ≤ t a
  tie_or_later u t wi le close b more a =
      by_contra (passed c u a) (t a) (λ less.
      let l : Leading c u a = tie_leads c u a (omega (arith, passed_on c u a, le a)) in
      let stays : t a ≡ u a = omega (arith, passed_on c u a, le a, tie_most c u a) in
      let left : u b < c.count b = omega (arith, passed_on c u b, wi b) in
      let over : upper c b (t b - 1) * c.lower a ≤ upper c a (u a) * c.lower b = close b a (t b - 1) (u a) (omega arith) (omega arith) l.has in
      let first : upper c a (u a) * c.lower b ≤ upper c b (u b) * c.lower a = l.first b left in
      ⊎_elim (λ in_tie. twice u t b a in_tie l over first more) (λ out. never u t b a out l left over first more) (lt_or_ge 0 (tie_steps c u b)))
    where
      -- where b ties, its second crossing comes later than a's first
      twice :
          (u t : Steps) (b a : Axis) → 0 < tie_steps c u b → Leading c u a → upper c b (t b - 1) * c.lower a ≤ upper c a (u a) * c.lower b →
          upper c a (u a) * c.lower b ≤ upper c b (u b) * c.lower a → passed c u b < t b → ⊥
      twice u t b a in_tie l over first more =
          let up : upper c b (u b) + c.step ≤ upper c b (t b - 1) = next_up b (u b) (t b - 1) (omega (arith, passed_on c u b)) in
          omega (arith, mul-le-mul_right (c.lower a) up, mul-le-mul_right (c.lower a) good.steps, some_lower a (u a) l.has)

      -- where it does not, its first does
      never :
          (u t : Steps) (b a : Axis) → tie_steps c u b ≤ 0 → Leading c u a → u b < c.count b → upper c b (t b - 1) * c.lower a ≤ upper c a (u a) * c.lower b →
          upper c a (u a) * c.lower b ≤ upper c b (u b) * c.lower a → passed c u b < t b → ⊥
      never u t b a out l left over first more =
          let up : upper c b (u b) ≤ upper c b (t b - 1) = further_up b (u b) (t b - 1) (omega (arith, passed_on c u b)) in
          omega (arith, leads_tie c u b (leads_too u a b l left (omega (arith, mul-le-mul_right (c.lower a) up))))

  -- so it is among the cells of the ties from there on
  pub complete_from :
      (ties : ℕ) (u t : Steps) → Within c.count u → Within c.count t → ((a : Axis) → u a ≤ t a) → Close t → total u < total t →
      total c.count ≤ total u + ties → Some (λ v. visited v ≡ t) (visits_from c ties u)
  unfolding visits_from
  complete_from zero u t wu wt le close lt enough = absurd (omega (arith, wt X, wt Y, wt Z))
  complete_from (suc ties) u t wu wt le close lt enough =
      ⊎_elim
      (λ inside. some_left (visits_from c ties (passed c u)) (some_map (λ v e. ap visited e ∙ here_is)
      (tie_some u (tie_steps c u) (λ a. t a - u a) (tie_most c u) (λ a. omega (arith, inside a, passed_on c u a))
      (omega (arith, le X, le Y, le Z)))))
      (λ (b, more).
      let beyond = tie_or_later u t wt le close b more in
      some_right (visits_by u (tie_steps c u) ways)
      (complete_from ties (passed c u) t (passed_within u wu) wt beyond close (all_less b more beyond)
      (omega (arith, total_further u (tie_steps c u), some_tie u wu (omega (arith, wt X, wt Y, wt Z))))))
      (each_or_one (passed c u) t)
    where
      here_is : further u (λ a. t a - u a) ≡ t
      here_is = by_axis _ t (λ a. omega (arith, further_on u (λ a. t a - u a) a, le a))

      all_less : (b : Axis) → passed c u b < t b → ((a : Axis) → passed c u a ≤ t a) → total (passed c u) < total t
      all_less X more h = omega (arith, h Y, h Z)
      all_less Y more h = omega (arith, h X, h Z)
      all_less Z more h = omega (arith, h X, h Y)

  pub complete : (t : Steps) → Within c.count t → Close t → Some (λ v. visited v ≡ t) (visits c)
  unfolding visits
  complete t wi close =
      ⊎_elim
      (λ some. a_later (complete_from (total c.count) (at 0 0 0) t (none c.count) wi (none t) close some (omega arith)))
      (λ zero. this_one (by_axis _ t (start zero)))
      (lt_or_ge 0 (total t))
    where
      none : (s : Steps) (a : Axis) → at 0 0 0 a ≤ s a
      none s X = omega arith
      none s Y = omega arith
      none s Z = omega arith

      start : total t ≤ 0 → (a : Axis) → further (at 0 0 0) (at 0 0 0) a ≡ t a
      start z X = omega (arith, further_on (at 0 0 0) (at 0 0 0) X)
      start z Y = omega (arith, further_on (at 0 0 0) (at 0 0 0) Y)
      start z Z = omega (arith, further_on (at 0 0 0) (at 0 0 0) Z)
