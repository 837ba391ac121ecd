-- The touching line as cells: it has just the cells of the lattice whose closed cube meets the segment, each once, in the order in which the segment
-- comes to them; so it has every cell of the 6-line, whatever the order of preference, and its last one is Q. Assumes nothing.
use mathlib.Core.Path.{◌≡◌, refl, sym, ap, ap₂, ◌∙◌, subst}
use mathlib.Core.Logic.{⊎_elim}
use mathlib.Core.List.{◌∷◌, map}
use Prim.Native.Nat.{ℕ, zero, suc, ◌-◌, ◌*◌, ◌≤◌, ◌<◌}
use native.Mathlib.Omega.{arith, by_contra, both_ways}
use lib.ListN.{length, get_or, length-map, get_or-map}
use Rattle.cells.specs.declared.Cell.{Cell}
use Rattle.cells.specs.Touching.{on}
use Rattle.lines.specs.Steps.{Axis, X, Y, Z, Steps, at, total}
use Rattle.lines.specs.Crossings.{Course}
use Rattle.lines.specs.Preference.{Preference, y_z_x}
use Rattle.lines.specs.Lines.{differences, cell_of, six_cell}
use Rattle.lines.specs.Segment.{Share, InClosed}
use Rattle.lines.specs.Touching.{Visit, visits_from, visits, visited, visit_cell, crossings, touching_line, visit_upper, visit_lower}
use Rattle.lines.proofs.Steps.{lt_or_ge}
use Rattle.lines.proofs.Fractions.{Good, InClosedSteps}
use Rattle.lines.proofs.Centres.{centres_good}
use Rattle.lines.proofs.Towards.{Passed, closed_passed}
use Rattle.lines.proofs.Cells.{same_cell, cell_on, cell_start, cell_end, cell_tells, closed_cell, six_end, six_touched}
use Rattle.lines.proofs.Every.{each_at, some_at, pairs_at}
use Rattle.lines.proofs.Ways.{further_on, at_even, by_axis}
use Rattle.lines.proofs.Touching.{closed_close, closed_within, complete}
use Rattle.lines.proofs.Visits.{Visiting, visiting_from, full_start, Met, Precedes, all_met, all_precede}

module _ (p q : Cell) where
  abbrev D : Steps
  D = differences p q

  abbrev C : Course
  C = crossings p q

  abbrev G : Good C
  G = centres_good y_z_x D

  abbrev pub start : Visit
  start = record { from = at 0 0 0; by = at 0 0 0 }

  -- visit number i
  abbrev pub visit : ℕ → Visit
  visit i = get_or (visits C) i start

  pub start_cell : visit_cell p q start ≡ p
  start_cell = cell_start p q (visited start) (λ a. omega (arith, further_on (at 0 0 0) (at 0 0 0) a, at_even 0 a))

  pub touching_is : touching_line p q ≡ map (visit_cell p q) (visits C)
  unfolding touching_line
  touching_is = refl

  -- P, and the cells of the ties
  pub touching_parts : touching_line p q ≡ p ∷ map (visit_cell p q) (visits_from C (total D) (at 0 0 0))
  unfolding visits
  touching_parts = touching_is ∙ ap (λ c. c ∷ map (visit_cell p q) (visits_from C (total D) (at 0 0 0))) start_cell

  pub touching_length : length (touching_line p q) ≡ length (visits C)
  touching_length = ap length touching_is ∙ length-map (visits C) (visit_cell p q)

  pub touching_at : (i : ℕ) → get_or (touching_line p q) i p ≡ visit_cell p q (visit i)
  touching_at i = ap₂ (λ l d. get_or l i d) touching_is (sym start_cell) ∙ get_or-map (visit_cell p q) (visits C) i start

  -- each but the first is of a tie
  pub visiting_at : (i : ℕ) → 0 < i → i < length (touching_line p q) → Visiting C G (at 0 0 0) (visit i)
  unfolding visits
  visiting_at zero some lt = absurd (omega arith)
  visiting_at (suc i) some lt =
      each_at (visiting_from C G (total D) (at 0 0 0) (full_start C G)) start i
      (let l : suc i < length (visits C) = subst (λ n. suc i < n) touching_length lt in omega arith)

  -- ---- between the lattice and step space

  closed_place : (k d : ℕ) (c : Cell) → 0 < d → InClosed p q k d c → (t : Steps) × InClosedSteps C k d t × (cell_of p q t ≡ c)
  closed_place k d c some h = (
    t,
    record { from = λ a. omega (arith, (passed a).from); upto = λ a. omega (arith, (passed a).upto) },
    same_cell (cell_of p q t) c (λ a. cell_on p q t a ∙ sym (passed a).is),
  )
    where
      passed : (a : Axis) → Passed (on p a) (on q a) (on c a) k d 0
      passed a = closed_passed (on p a) (on q a) (on c a) k d some (h.from a) (h.upto a)

      t : Steps
      t a = (passed a).t

  closed_steps : (k d : ℕ) (t : Steps) → 0 < d → InClosed p q k d (cell_of p q t) → InClosedSteps C k d t
  closed_steps k d t some h =
      let (s, inside, is) = closed_place k d (cell_of p q t) some h in
      subst (InClosedSteps C k d) (by_axis s t (cell_tells p q s t is)) inside

  -- ---- just the cells that are touched

  pub touched_in : (k d : ℕ) (c : Cell) → Share k d → InClosed p q k d c → (i : ℕ) × (i < length (touching_line p q)) × (get_or (touching_line p q) i p ≡ c)
  touched_in k d c s h =
      let (t, inside, is) = closed_place k d c s.some h in
      let (i, lt, at-t) = some_at start (complete C G t (closed_within C G k d t s.some s.most inside) (closed_close C G k d t s.some inside)) in
      (i, subst (λ n. i < n) (sym touching_length) lt, touching_at i ∙ ap (cell_of p q) at-t ∙ is)

  module _ (i : ℕ) (lt : i < length (touching_line p q)) where
    met : Met C G (visit i)
    met = each_at (all_met C G) start i (subst (λ n. i < n) touching_length lt)

    -- its fraction is a share of the way, it is touched there, and nowhere before
    pub share_at : Share (visit_upper C (visit i)) (visit_lower C (visit i))
    share_at = record { some = met.some; most = met.most }

    pub touched_at : InClosed p q (visit_upper C (visit i)) (visit_lower C (visit i)) (get_or (touching_line p q) i p)
    touched_at = rw (touching_at i) (closed_cell y_z_x p q (visit_upper C (visit i)) (visit_lower C (visit i)) (visited (visit i)) met.touched)

    pub first_at : (k d : ℕ) → 0 < d → InClosed p q k d (get_or (touching_line p q) i p) → visit_upper C (visit i) * d ≤ k * visit_lower C (visit i)
    first_at k d some h = met.earliest k d (closed_steps k d (visited (visit i)) some (subst (InClosed p q k d) (touching_at i) h))

  -- ---- in order, each once

  precedes : (i j : ℕ) → i < j → j < length (touching_line p q) → Precedes C G (visit i) (visit j)
  precedes i j lt most = pairs_at (all_precede C G) start i j lt (subst (λ n. j < n) touching_length most)

  pub never_falls : (i j : ℕ) → i ≤ j → j < length (touching_line p q) →
      visit_upper C (visit i) * visit_lower C (visit j) ≤ visit_upper C (visit j) * visit_lower C (visit i)
  never_falls i j le most = ⊎_elim (λ lt. (precedes i j lt most).order) itself (lt_or_ge i j)
    where
      itself : j ≤ i → visit_upper C (visit i) * visit_lower C (visit j) ≤ visit_upper C (visit j) * visit_lower C (visit i)
      itself ge = let e : i ≡ j = omega arith in rw e (omega arith)

  pub all_different : (i j : ℕ) → i < length (touching_line p q) → j < length (touching_line p q) →
      get_or (touching_line p q) i p ≡ get_or (touching_line p q) j p → i ≡ j
  all_different i j li lj e =
      both_ways i j (by_contra i j (λ lt. (precedes j i lt li).apart (λ a. sym (places a)))) (by_contra j i (λ lt. (precedes i j lt lj).apart places))
    where
      places : (a : Axis) → visited (visit i) a ≡ visited (visit j) a
      places = cell_tells p q (visited (visit i)) (visited (visit j)) (sym (touching_at i) ∙ e ∙ touching_at j)

  -- ---- every 6-line

  pub has_six : (r : Preference) (n : ℕ) → n ≤ total D → (i : ℕ) × (i < length (touching_line p q)) × (get_or (touching_line p q) i p ≡ six_cell r p q n)
  has_six r n le =
      let (k, d, s, h) = six_touched r p q n le in
      touched_in k d (six_cell r p q n) s h

  -- ---- the last cell

  -- so it has Q, and behind Q no crossing is left
  pub ends_at : get_or (touching_line p q) (length (touching_line p q) - 1) p ≡ q
  ends_at =
      let (i, lt, is) = has_six y_z_x (total D) (omega arith) in
      let at-q = is ∙ six_end y_z_x p q in
      let last : i ≡ length (touching_line p q) - 1 = both_ways i (length (touching_line p q) - 1) (omega arith)
      (by_contra (length (touching_line p q) - 1) i (λ less. earlier i less at-q)) in
      subst (λ j. get_or (touching_line p q) j p ≡ q) last at-q
    where
      earlier : (i : ℕ) → i < length (touching_line p q) - 1 → get_or (touching_line p q) i p ≡ q → ⊥
      earlier i less at-q =
          let all = cell_tells p q (visited (visit i)) D (sym (touching_at i) ∙ at-q ∙ sym (cell_end p q D (λ a. refl))) in
          omega (arith, (precedes i (length (touching_line p q) - 1) less (omega arith)).unfinished, all X, all Y, all Z)
