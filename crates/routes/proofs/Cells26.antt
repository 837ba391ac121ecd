-- The spot of a cell of the 26-line, and the faces from there to the next one. Assumes nothing.
use mathlib.Core.Path.{◌≡◌, sym, ap, ◌∙◌, subst, fun_ext}
use mathlib.Core.Bool.{Bool}
use Prim.Native.Nat.{ℕ, ◌+◌, ◌≤◌, ◌<◌}
use native.Mathlib.Omega.{arith}
use Rattle.lines.specs.Steps.{X, Y, Z, Steps, total}
use Rattle.lines.specs.Crossings.{place}
use Rattle.lines.specs.Lines.{differences, longest, place_26, number_26}
use Rattle.lines.specs.Decisions.{values, raised}
use Rattle.lines.proofs.Centres.{is_place_26, moved_start, moved_end, longest_most}
use Rattle.lines.proofs.Signs.{raised_back}
use Rattle.cells.specs.declared.Each.{Each}
use Rattle.tripod.specs.Tripod.{LongMoves, moves_on}
use Rattle.routes.specs.declared.Route.{Route}
use Rattle.routes.specs.declared.Spot.{Spot}
use Rattle.routes.specs.Route.{preference, course, SpotAt}

module _ (k : Route) where
  abbrev D : Steps
  D = differences k.p k.q

  -- the spot of 26-line cell m is that of its number
  pub at_26 : (m : ℕ) (s : Spot) → m ≤ longest D → SpotAt k (place (course k) (number_26 k.p k.q m)) s → SpotAt k (place_26 D m) s
  at_26 m s le = subst (λ t. SpotAt k t s) (sym (fun_ext (is_place_26 D (preference k) m le)))

  pub from_26 : (m : ℕ) (s : Spot) → m ≤ longest D → SpotAt k (place_26 D m) s → SpotAt k (place (course k) (number_26 k.p k.q m)) s
  from_26 m s le = subst (λ t. SpotAt k t s) (fun_ext (is_place_26 D (preference k) m le))

  -- raised, its values are those of figure 6
  pub figure_6_values : (m : ℕ) (s : Spot) → m ≤ longest D → SpotAt k (place (course k) (number_26 k.p k.q m)) s →
      raised k.order s.e ≡ values D (place_26 D m)
  figure_6_values m s le h = ap (raised k.order) (at_26 m s le h).value ∙ raised_back k.order (values D (place_26 D m))

  -- P has number 0, and Q the last one
  pub first_26 : number_26 k.p k.q 0 ≡ 0
  first_26 = omega (arith, moved_start (longest D) (D X), moved_start (longest D) (D Y), moved_start (longest D) (D Z))

  pub last_26 : number_26 k.p k.q (longest D) ≡ total D
  last_26 = omega (
    arith,
    moved_end (longest D) (D X) (longest_most D X),
    moved_end (longest D) (D Y) (longest_most D Y),
    moved_end (longest D) (D Z) (longest_most D Z),
  )

  -- so many faces lie before the next
  pub faces_between :
      (m : ℕ) (s : Spot) (r : Each Bool) → m < longest D → SpotAt k (place (course k) (number_26 k.p k.q m)) s → LongMoves D (raised k.order s.e) r →
      number_26 k.p k.q (m + 1) ≡ number_26 k.p k.q m + total (moves_on r)
  faces_between m s r lt h moves =
      let value = figure_6_values m s (omega arith) h in
      omega (arith, moves.go_on m lt value X, moves.go_on m lt value Y, moves.go_on m lt value Z)
