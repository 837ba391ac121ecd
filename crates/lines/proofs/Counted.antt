-- How many cells a touching line has: at most seven for three crossings, so many where every tie is one of three, and those of the 6-line where no two
-- crossings tie. Assumes nothing.
use mathlib.Core.Path.{◌≡◌, refl, sym, ap, ap₂, ◌∙◌}
use mathlib.Core.Logic.{⊎_elim}
use mathlib.Core.List.{[], ◌∷◌, ◌++◌, map}
use Prim.Native.Nat.{ℕ, zero, suc, ◌+◌, ◌-◌, ◌*◌, ◌≤◌, ◌<◌}
use native.Mathlib.Omega.{arith, by_contra, both_ways}
use native.Mathlib.Numerals.{add-one}
use lib.ListN.{length, length-append}
use Rattle.cells.specs.declared.Cell.{Cell}
use Rattle.cells.specs.Tabulate.{tabulate}
use Rattle.cells.proofs.Tabulate.{tabulate_first, tabulate_same}
use Rattle.lines.specs.Steps.{Axis, X, Y, Z, Steps, at, total, same}
use Rattle.lines.specs.Crossings.{Course, next, place, TieFree}
use Rattle.lines.specs.Preference.{Preference}
use Rattle.lines.specs.Lines.{differences, cell_of, centres, six_cell, six_line}
use Rattle.lines.specs.Touching.{tied, tie_steps, further, ways, visits_by, visits_from, visits, visit_cell, crossings, touching_line}
use Rattle.lines.proofs.Steps.{Cmp, here, other, cmp, lt_or_ge, same_self, bump}
use Rattle.lines.proofs.Merge.{Within}
use Rattle.lines.proofs.Fractions.{Good, place_start, place_suc, place_on, place_total}
use Rattle.lines.proofs.Centres.{centres_good}
use Rattle.lines.proofs.Cells.{six_is, six_line_is}
use Rattle.lines.proofs.Ways.{further_on, total_further, at_even, by_axis, tie_length}
use Rattle.lines.proofs.Touching.{Leading, passed, passed_on, tie_leads, leads_tie, next_leads, passed_within}
use Rattle.lines.proofs.Touched.{touching_is}

-- ---- the most

module _ (c : Course) (good : Good c) where
  tie_count : (u : Steps) → 3 * length (visits_by u (tie_steps c u) ways) ≤ 7 * total (tie_steps c u)
  unfolding tie_steps
  tie_count u = tie_length u (tied c u X) (tied c u Y) (tied c u Z)

  count_from : (ties : ℕ) (u : Steps) → Within c.count u → 3 * length (visits_from c ties u) + 7 * total u ≤ 7 * total c.count
  unfolding visits_from
  count_from zero u wi = omega (arith, wi X, wi Y, wi Z)
  count_from (suc ties) u wi =
      omega (
        arith,
        length-append (visits_by u (tie_steps c u) ways) (visits_from c ties (passed c u)),
        tie_count u,
        total_further u (tie_steps c u),
        count_from ties (passed c u) (passed_within c good u wi),
      )

  pub count_most : 3 * length (visits c) ≤ 3 + 7 * total c.count
  unfolding visits
  count_most = omega (arith, count_from (total c.count) (at 0 0 0) none)
    where
      none : (a : Axis) → at 0 0 0 a ≤ c.count a
      none X = omega arith
      none Y = omega arith
      none Z = omega arith

-- ---- ties of three alone

module _ (r : Preference) (D : Steps) (m : ℕ) (even : (a : Axis) → D a ≡ m) where
  abbrev C : Course
  C = centres r D

  all_tie : (u : Steps) (i : ℕ) → ((a : Axis) → u a ≡ i) → i < m → tie_steps C u ≡ at 1 1 1
  all_tie u i is lt = by_axis (tie_steps C u) (at 1 1 1) (λ a. leads_tie C u a (leads a) ∙ sym (at_even 1 a))
    where
      leads : (a : Axis) → Leading C u a
      leads a = record { has = omega (arith, is a, even a); first = λ b more. rw (is a, is b, even a, even b) (omega arith) }

  none_ties : (u : Steps) → ((a : Axis) → u a ≡ m) → tie_steps C u ≡ at 0 0 0
  none_ties u is = by_axis (tie_steps C u) (at 0 0 0) (λ a. omega (arith, at_even 0 a, by_contra (tie_steps C u a) 0 (λ some. over a (tie_leads C u a some))))
    where
      over : (a : Axis) → Leading C u a → ⊥
      over a l = omega (arith, l.has, is a, even a)

  even_from : (ties : ℕ) (u : Steps) (i : ℕ) → ((a : Axis) → u a ≡ i) → i ≤ m → m ≤ i + ties → length (visits_from C ties u) ≡ 7 * (m - i)
  unfolding visits_from
  even_from zero u i is le enough = omega arith
  even_from (suc ties) u i is le enough =
      length-append (visits_by u (tie_steps C u) ways) (visits_from C ties (passed C u)) ∙ ⊎_elim (on (even_from ties (passed C u) (i + 1)))
      (done (even_from ties (passed C u) i)) (lt_or_ge i m)
    where
      on : (((a : Axis) → passed C u a ≡ i + 1) → i + 1 ≤ m → m ≤ i + 1 + ties → length (visits_from C ties (passed C u)) ≡ 7 * (m - (i + 1))) → i < m →
          length (visits_by u (tie_steps C u) ways) + length (visits_from C ties (passed C u)) ≡ 7 * (m - i)
      on below lt =
          let e = all_tie u i is lt in
          let seven : length (visits_by u (tie_steps C u) ways) ≡ 7 = ap (λ s. length (visits_by u s ways)) e in
          let rest = below (λ a. omega (arith, passed_on C u a, is a, ap (λ s. s a) e, at_even 1 a)) (omega arith) (omega arith) in
          omega arith

      done : (((a : Axis) → passed C u a ≡ i) → i ≤ m → m ≤ i + ties → length (visits_from C ties (passed C u)) ≡ 7 * (m - i)) → m ≤ i →
          length (visits_by u (tie_steps C u) ways) + length (visits_from C ties (passed C u)) ≡ 7 * (m - i)
      done below ge =
          let e = none_ties u (λ a. omega (arith, is a)) in
          let none : length (visits_by u (tie_steps C u) ways) ≡ 0 = ap (λ s. length (visits_by u s ways)) e in
          let rest = below (λ a. omega (arith, passed_on C u a, is a, ap (λ s. s a) e, at_even 0 a)) le (omega arith) in
          omega arith

  pub even_count : length (visits C) ≡ 7 * m + 1
  unfolding visits
  even_count = omega (arith, even_from (total D) (at 0 0 0) 0 (at_even 0) (omega arith) (omega (arith, even X, even Y, even Z)))

-- ---- no ties

-- one step along an axis
abbrev along : Axis → Steps
along n = at (same n X) (same n Y) (same n Z)

along_on : (n a : Axis) → along n a ≡ same n a
along_on n X = refl
along_on n Y = refl
along_on n Z = refl

-- where one axis ties there is one cell
one_way : (t : Steps) (n : Axis) → visits_by t (along n) ways ≡ record { from = t; by = along n } ∷ []
one_way t X = refl
one_way t Y = refl
one_way t Z = refl

module _ (r : Preference) (p q : Cell) (free : TieFree (centres r (differences p q))) where
  abbrev E : Steps
  E = differences p q

  abbrev six : Course
  six = centres r E

  -- the next axis of the 6-line ties, and no other does
  alone : (m : ℕ) → m < total E → (a : Axis) → tie_steps (crossings p q) (place six m) a ≡ same (next six (place six m)) a
  alone m lt a = go (cmp n a)
    where
      t : Steps
      t = place six m

      n : Axis
      n = next six t

      leads : Leading six t n
      leads = next_leads six (centres_good r E) t (place_on six (centres_good r E) m (omega arith)).1 (omega (arith, place_total six m))

      here_leads : Leading (crossings p q) t n
      here_leads = record { has = leads.has; first = leads.first }

      go : {a : Axis} → Cmp n a → tie_steps (crossings p q) t a ≡ same n a
      go here = leads_tie (crossings p q) t n here_leads ∙ sym (same_self n)
      go {a} (other e f) =
          omega (
            arith,
            e,
            by_contra (tie_steps (crossings p q) t a) 0 (λ some.
                let l = tie_leads (crossings p q) t a some in
                free.none a n (t a) (t n) f l.has leads.has (both_ways _ _ (l.first n leads.has) (leads.first a l.has))),
          )

  tie_is : (m : ℕ) → m < total E → tie_steps (crossings p q) (place six m) ≡ along (next six (place six m))
  tie_is m lt = by_axis _ _ (λ a. alone m lt a ∙ sym (along_on (next six (place six m)) a))

  next_place : (m : ℕ) → m < total E → passed (crossings p q) (place six m) ≡ place six (suc m)
  next_place m lt =
      by_axis _ _ (λ a. passed_on (crossings p q) (place six m) a ∙ ap (λ k. place six m a + k) (alone m lt a)) ∙ sym (place_suc six m)

  line_from : (ties m : ℕ) → m + ties ≡ total E →
      map (visit_cell p q) (visits_from (crossings p q) ties (place six m)) ≡ tabulate (λ i. six_cell r p q (suc m + i)) ties
  unfolding visits_from
  line_from zero m e = refl
  line_from (suc ties) m e =
      let lt : m < total E = omega arith in
      let t : Steps = place six m in
      ap₂ (λ s u. map (visit_cell p q) (visits_by t s ways ++ visits_from (crossings p q) ties u)) (tie_is m lt) (next_place m lt)
      ∙ ap (λ l. map (visit_cell p q) (l ++ visits_from (crossings p q) ties (place six (suc m)))) (one_way t (next six t))
      ∙ ap₂ ◌∷◌ (ap (cell_of p q) (by_axis _ _ (λ a. stepped a ∙ ap (λ u. u a) (sym (place_suc six m)))) ∙ sym (six_is r p q (suc m))
      ∙ ap (six_cell r p q) (omega arith))
      (line_from ties (suc m) (omega arith)
      ∙ tabulate_same _ _ ties (λ i b. let k : suc (suc m) + i ≡ suc m + suc i = omega arith in ap (six_cell r p q) k))
      ∙ sym (tabulate_first (λ i. six_cell r p q (suc m + i)) ties)
    where
      stepped : (a : Axis) → further (place six m) (along (next six (place six m))) a ≡ bump (place six m) (next six (place six m)) a
      stepped a = further_on (place six m) (along (next six (place six m))) a ∙ ap (λ k. place six m a + k) (along_on (next six (place six m)) a)

  -- the touching line is the 6-line
  pub tie_free_line : touching_line p q ≡ six_line r p q
  unfolding visits
  tie_free_line =
      touching_is p q
      ∙ ap₂ ◌∷◌ (ap (cell_of p q) (by_axis _ _ (λ a. further_on (at 0 0 0) (at 0 0 0) a ∙ none a)) ∙ sym (six_is r p q 0))
      (ap (λ u. map (visit_cell p q) (visits_from (crossings p q) (total E) u)) (by_axis (at 0 0 0) (place six 0) (λ a. at_even 0 a ∙ sym (place_start six a)))
      ∙ line_from (total E) 0 (omega arith)
      ∙ tabulate_same _ _ (total E) (λ i b. let k : suc 0 + i ≡ suc i = omega arith in ap (six_cell r p q) k))
      ∙ sym (tabulate_first (six_cell r p q) (total E)) ∙ ap (tabulate (six_cell r p q)) (sym (add-one (total E))) ∙ sym (six_line_is r p q)
    where
      none : (a : Axis) → at 0 0 0 a + at 0 0 0 a ≡ place six 0 a
      none a = omega (arith, at_even 0 a, place_start six a)
