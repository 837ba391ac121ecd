-- From tie to tie: what a loop keeps, whatever it moves and whatever it does with the cells. K says of the cells that are left what is still to come.
-- Assumes nothing.
use mathlib.Core.Path.{◌≡◌, refl, sym, ap, ◌∙◌, subst}
use mathlib.Core.List.{List, [], ◌++◌}
use Prim.Native.Nat.{ℕ, zero, suc, ◌+◌, ◌≤◌, ◌<◌}
use native.Mathlib.Omega.{arith, by_contra}
use Rattle.lines.specs.declared.Tie.{Tie}
use Rattle.lines.specs.Steps.{Axis, X, Y, Z, Steps, at, total}
use Rattle.lines.specs.Crossings.{Course}
use Rattle.lines.specs.Preference.{y_z_x}
use Rattle.lines.specs.Lines.{centres}
use Rattle.lines.specs.Touching.{tie_steps, next_tie, ways, Visit, visits_by, visits_from}
use Rattle.lines.proofs.Steps.{bump}
use Rattle.lines.proofs.Fractions.{Good}
use Rattle.lines.proofs.Centres.{centres_good}
use Rattle.lines.proofs.Ways.{further_on, total_further, at_even, by_axis}
use Rattle.lines.proofs.Touching.{tie_leads, passed}
use Rattle.lines.proofs.Visits.{Full, full_start, full_passed}
use Rattle.touching.specs.Passing.{tie_end, tie_faces}
use Rattle.touching.proofs.Group.{tie_passes, tie_counts, tie_few}

-- after the last crossing a tie has no cells
no_more_from : (c : Course) (ties : ℕ) (t : Steps) → ((a : Axis) → c.count a ≤ t a) → visits_from c ties t ≡ []
unfolding visits_from
no_more_from c zero t none = refl
no_more_from c (suc ties) t none =
    let e : tie_steps c t ≡ at 0 0 0 = by_axis (tie_steps c t) (at 0 0 0) (λ a. omega (arith, at_even 0 a, by_contra (tie_steps c t a) 0 (left a))) in
    ap (λ s. visits_by t s ways ++ visits_from c ties (passed c t)) e ∙ no_more_from c ties (passed c t) (λ a. omega (arith, none a, further_on t (tie_steps c t) a))
  where
    left : (a : Axis) → 0 < tie_steps c t a → ⊥
    left a some = omega (arith, (tie_leads c t a some).has, none a)

module _ {S : Type 0} (D : Steps) (R : Steps → S → Type 0) (go : Axis → S → S)
    (step : (t : Steps) (s : S) (n : Axis) → R t s → t n < D n → R (bump t n) (go n s)) where
  abbrev C : Course
  C = centres y_z_x D

  abbrev G : Good C
  G = centres_good y_z_x D

  -- between two ties, m faces behind it
  pub record AtTie (K : List Visit → Type 0) (s : S) (m : ℕ) : Type 0 where
    pub t : Steps
    pub ties : ℕ
    pub belongs : R t s
    pub full : Full C G t
    pub made : m ≡ total t
    pub enough : total D ≤ m + ties
    pub rest : K (visits_from C ties t)

  pub at_start : (K : List Visit → Type 0) (s : S) → R (at 0 0 0) s → K (visits_from C (total D) (at 0 0 0)) → AtTie K s 0
  at_start K s r k = record { t = at 0 0 0; ties = total D; belongs = r; full = full_start C G; made = refl; enough = omega arith; rest = k }

  -- where a crossing is left, the cells of the next tie come first
  pub rest_is : (K : List Visit → Type 0) (s : S) (m : ℕ) (h : AtTie K s m) → m < total D →
      (more : List Visit) × (visits_from C h.ties h.t ≡ visits_by h.t (tie_steps C h.t) ways ++ more)
  unfolding visits_from
  rest_is K s m h lt = by h.ties h.enough
    where
      by : (ties : ℕ) → total D ≤ m + ties → (more : List Visit) × (visits_from C ties h.t ≡ visits_by h.t (tie_steps C h.t) ways ++ more)
      by zero enough = absurd (omega arith)
      by (suc ties) enough = (visits_from C ties (passed C h.t), refl)

  pub at_next :
      (K K' : List Visit → Type 0) (s : S) (m : ℕ) (h : AtTie K s m) → m < total D → (tie : Tie) → tie ≡ next_tie C h.t →
      ((more : List Visit) → K (visits_by h.t (tie_steps C h.t) ways ++ more) → K' more) → AtTie K' (tie_end go tie s) (m + tie_faces tie)
  unfolding visits_from
  at_next K K' s m h lt tie is then = go_on h.ties h.enough h.rest
    where
      lt_total : total h.t < total D
      lt_total = omega (arith, h.made)

      go_on : (ties : ℕ) → total D ≤ m + ties → K (visits_from C ties h.t) → AtTie K' (tie_end go tie s) (m + tie_faces tie)
      go_on zero enough k = absurd (omega arith)
      go_on (suc ties) enough k =
          let (size, faces) = tie_counts C G h.t h.full.within lt_total in
          let many : tie_faces tie ≡ total (tie_steps C h.t) = ap tie_faces is ∙ sym faces in
          record {
            t = passed C h.t;
            ties = ties;
            belongs = subst (λ u. R (passed C h.t) (tie_end go u s)) (sym is)
                (tie_passes D R go step C G refl h.t s h.belongs h.full.within lt_total).1;
            full = full_passed C G h.t h.full;
            made = omega (arith, h.made, total_further h.t (tie_steps C h.t));
            enough = omega (arith, tie_few tie);
            rest = then (visits_from C ties (passed C h.t)) k;
          }

  pub at_end : (K : List Visit → Type 0) (s : S) (m : ℕ) (h : AtTie K s m) → total D ≤ m → K []
  at_end K s m h le = subst K (no_more_from C h.ties h.t (λ a. omega (arith, last a))) h.rest
    where
      last : (a : Axis) → h.t a ≡ D a
      last X = omega (arith, h.made, h.full.within X, h.full.within Y, h.full.within Z)
      last Y = omega (arith, h.made, h.full.within X, h.full.within Y, h.full.within Z)
      last Z = omega (arith, h.made, h.full.within X, h.full.within Y, h.full.within Z)
