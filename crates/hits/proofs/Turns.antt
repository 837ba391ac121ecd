-- The turns of the two walks: all faces of the route at once, or from one cell of the 26-line to the next. Assumes nothing.
use mathlib.Core.Path.{◌≡◌, refl, sym, ap, ap₂, ◌∙◌, subst}
use mathlib.Core.Logic.{⊎_elim}
use mathlib.Core.Bool.{Bool, true, false}
use mathlib.Core.List.{List}
use Prim.Native.Nat.{ℕ, zero, suc, ◌+◌, ◌-◌, ◌≤◌, ◌<◌}
use native.Mathlib.Omega.{arith}
use native.Mathlib.Nat.{eq-or-lt_of_le}
use lib.ListN.{length}
use borrow.Author.Tests.{ne_eqb}
use Rattle.cells.specs.declared.Start.{Start}
use Rattle.cells.specs.Manners.{is_tested}
use Rattle.lines.specs.Steps.{Axis, X, Y, Z, Steps, at, total}
use Rattle.lines.specs.Lines.{differences, longest, place_26, six_cell, number_26}
use Rattle.lines.specs.Decisions.{raised}
use Rattle.lines.proofs.Centres.{within_26, grows_26}
use Rattle.lines.proofs.Cells.{six_at_26}
use Rattle.cells.specs.declared.Each.{Each}
use Rattle.tripod.proofs.Laws.{place_small}
use Rattle.tripod.specs.Tripod.{steps, SmallTripod, LongMoves, moves_on}
use Rattle.grids.specs.Grid.{byte_of, solid, clear}
use Rattle.walks.proofs.Runs.{by_one}
use Rattle.walks.specs.Numbers.{OnWay}
use Rattle.walks.proofs.Numbers.{go_rises}
use Rattle.walks.proofs.Testing.{no_hit, start_test}
use Rattle.walks.proofs.Long.{go_long, go_face, go_between}
use Rattle.routes.specs.declared.Route.{Route}
use Rattle.routes.specs.declared.Spot.{Spot}
use Rattle.runs.specs.declared.RunRoute.{RunRoute}
use Rattle.runs.specs.declared.RunSpot.{RunSpot}
use Rattle.runs.specs.declared.Run.{Run}
use Rattle.runs.specs.Run.{run_route, run_spot, spot_back, SmallDue, cell_left, run_cell, Running, CanRun, ClearTo, Ran}
use Rattle.runs.proofs.Along.{run_starts, run_ends, values_back, dues_small}
use Rattle.walks.specs.declared.Walker.TheVariants.{Adaptive}
use Rattle.hits.specs.declared.Turn.{Turn}
use Rattle.hits.specs.declared.Reach.{Reach}
use Rattle.routes.specs.Route.{Planned, preference, SpotAt, raised_spot, lowered_spot, HasByte, byte_there, byte_of_spot}
use Rattle.hits.specs.Found.{last, conduct_of, hits, going, Walking, Stops, Outcome, Crossing, Walked, At26, Outcome26, CanGo, Reached}
use Rattle.hits.proofs.Walking.{walk_starts, walk_byte, goes_on}
use Rattle.routes.proofs.Spots.{spot_byte, can_cross, short_at as plan-short}
use Rattle.routes.proofs.Cells26.{at_26, from_26, figure_6_values, faces_between}

-- ---- what a turn came to

pub outcome_stopped : (from : Start) (l : List ℕ) (k : Route) (next : ℕ → ℕ) (m : ℕ) (t : Bool) (s : Spot) (r : ℕ) → Outcome from l k next m t s r → t ≡ true →
    Stops from l k next (record { spot = s; reads = r })
outcome_stopped from l k next m true s r o e = o
outcome_stopped from l k next m false s r o e = absurd (let z : ◌≡◌ {A = ℕ} 0 1 = cc in omega arith)

pub outcome_walking : (from : Start) (l : List ℕ) (k : Route) (next : ℕ → ℕ) (m : ℕ) (t : Bool) (s : Spot) (r : ℕ) → Outcome from l k next m t s r → t ≡ false →
    Walking from l k next m r s
outcome_walking from l k next m true s r o e = absurd (let z : ◌≡◌ {A = ℕ} 0 1 = cc in omega arith)
outcome_walking from l k next m false s r o e = o

-- a turn of the adaptive walk
module _ (from : Start) (l : List ℕ) (k : Route) (r : Reach) (outcome : Outcome26 from l k r) where
  pub turn_stopped : r.hit ≡ true → Stops from l k (going l k Adaptive) (record { spot = r.spot; reads = r.reads })
  turn_stopped = outcome_stopped from l k _ _ r.hit r.spot r.reads outcome

  pub turn_walking : r.hit ≡ false → Walking from l k (going l k Adaptive) (number_26 k.p k.q (cell_left k r.left)) r.reads r.spot
  turn_walking = outcome_walking from l k _ _ r.hit r.spot r.reads outcome

module _ (from : Start) (bytes : ℕ) (k : Route) (plan : Planned bytes k) (l : List ℕ) where
  abbrev D : Steps
  D = differences k.p k.q

  abbrev at_number : ℕ → ℕ
  at_number m = number_26 k.p k.q m

  abbrev go : ℕ → ℕ
  go = going l k Adaptive

  -- the plain walk crosses every face
  pub all_faces : (s : Spot) (faces : ℕ) → SpotAt k (at 0 0 0) s → faces ≡ last l k → Crossing from l k (is_tested from) s 0 faces suc 0
  all_faces s faces h e =
      record {
        rises = by_one (last l k);
        fits = omega arith;
        one = λ j lo hi. refl;
        walking = walk_starts from bytes k plan l suc s h;
        test = λ some. start_test (conduct_of from k) k.n l k.p k.q;
      }

  -- ---- from 26-line cell m, which is not the last

  -- the next one lies on the route
  next_within : (m : ℕ) → m < longest D → at_number (m + 1) ≤ last l k
  next_within m lt = let w = within_26 D (m + 1) (omega arith) in omega (arith, w X, w Y, w Z)

  module _ (tested : Bool) (left : ℕ) (s : Spot) (reads : ℕ) (here : At26 from l k tested s reads left) where
    abbrev m : ℕ
    m = cell_left k left

    below : m < longest D
    below = omega (arith, here.some, here.most)

    -- over clear cells, a long step from each
    runs_on : (n : ℕ) → m + n ≤ longest D → ClearTo l k m (m + n) → OnWay (hits from l k) (last l k) go (at_number (m + n)) (reads + n)
    runs_on zero le cl =
        subst (λ j. OnWay (hits from l k) (last l k) go (at_number j) (reads + 0)) (omega arith)
        (subst (OnWay (hits from l k) (last l k) go (at_number m)) (omega arith) here.walking.on)
    runs_on (suc n) le cl =
        let j : ℕ = m + n in
        let lt : j < longest D = omega arith in
        let on = runs_on n (omega arith) (λ i ge less. cl i ge (omega arith)) in
        let e = goes_on from bytes k plan l go (go_rises (preference k) k.n l k.p k.q) (at_number j) (reads + n) on
        (no_hit (conduct_of from k) k.n l k.p k.q (at_number j) (ap solid (zero_at lt)))
        (omega (arith, grows_26 D j lt, next_within j lt)) in
        subst (λ i. OnWay (hits from l k) (last l k) go (at_number i) (reads + suc n)) (omega arith)
        (subst (OnWay (hits from l k) (last l k) go (at_number (j + 1))) (omega arith)
        (subst (λ i. OnWay (hits from l k) (last l k) go i (reads + n + 1)) (go_long (preference k) k.n l k.p k.q j lt (ap clear (zero_at lt))) e))
      where
        zero_at : m + n < longest D → byte_of k.n l (six_cell (preference k) k.p k.q (at_number (m + n))) ≡ 0
        zero_at lt = sym (ap (byte_of k.n l) (six_at_26 (preference k) k.p k.q (m + n) (omega arith))) ∙ cl (m + n) (omega arith) (omega arith)

    pub clear_turn :
        (u : Axis) (e : ℕ) → e < left → ClearTo l k m (cell_left k e) →
        Walking from l k go (at_number (cell_left k e)) (reads + (left - e)) (lowered_spot k.order (spot_back u D (run_cell k u (cell_left k e))))
    clear_turn u e fewer cl =
        let is : m + (left - e) ≡ cell_left k e = omega (arith, here.most) in
        record {
          spot = from_26 k (cell_left k e) (lowered_spot k.order (spot_back u D (run_cell k u (cell_left k e))))
              (omega arith) (run_ends bytes k plan u (cell_left k e));
          on =
              subst (λ j. OnWay (hits from l k) (last l k) go (at_number j) (reads + (left - e))) is
              (runs_on (left - e) (omega arith) (subst (ClearTo l k m) (sym is) cl));
        }

    module _ (r : Each Bool) (moves : LongMoves D (raised k.order s.e) r) where
      -- else the faces between, one at a time
      pub near_faces : (byte_of_spot l s ≡ 0 → ⊥) → Crossing from l k tested s reads (total (moves_on r)) go (at_number m)
      near_faces not-zero =
          record {
            rises = go_rises (preference k) k.n l k.p k.q;
            fits = omega (arith, between, next_within m below);
            one = λ j lo hi. ⊎_elim (λ e. subst (λ i. go i ≡ suc i) e first)
                (λ lt. go_between (preference k) k.n l k.p k.q m j below lt (omega (arith, between)) (omega (arith, between, next_within m below)))
                (eq-or-lt_of_le {n = at_number m} {m = j} lo);
            walking = here.walking;
            test = λ some. here.test;
          }
        where
          between : at_number (m + 1) ≡ at_number m + total (moves_on r)
          between = faces_between k m s r below here.walking.spot moves

          first : go (at_number m) ≡ suc (at_number m)
          first = go_face (preference k) k.n l k.p k.q (at_number m)
              (sym (ap clear (walk_byte from bytes k plan l go (at_number m) s here.walking.spot)) ∙ ne_eqb (byte_of_spot l s) 0 not-zero)

      pub near_turn : (t : Turn) → (byte_of_spot l s ≡ 0 → ⊥) → Walked l k tested s reads (total (moves_on r)) t →
          Outcome from l k go (at_number (cell_left k (left - 1))) t.hit t.spot t.reads
      near_turn t not-zero w =
          subst (λ j. Outcome from l k go j t.hit t.spot t.reads)
          (sym (faces_between k m s r below here.walking.spot moves) ∙ ap at_number next_left) (w.leads from go (at_number m) (near_faces not-zero))
        where
          next_left : m + 1 ≡ cell_left k (left - 1)
          next_left = omega (arith, here.some, here.most)

-- ---- what a turn is given

module _ (l : List ℕ) (k : Route) (u : Axis) (tested : Bool) (s : Spot) (reads left : ℕ) (c : CanGo l k u tested s reads left) where
  abbrev E : Steps
  E = differences k.p k.q

  abbrev here : ℕ
  here = cell_left k left

  spot_26 : SpotAt k (place_26 E here) s
  spot_26 = at_26 k here s (omega arith) c.at.walking.spot

  pub turn_byte : HasByte (length l) s.at
  turn_byte = spot_byte (length l) k c.plan (place_26 E here) s (within_26 E here (omega arith)) spot_26

  pub turn_small : SmallTripod s.e
  turn_small = (can_cross (length l) k c.plan (place_26 E here) s (within_26 E here (omega arith)) spot_26).values

  -- the values of figure 6 too
  pub turn_raised_small : SmallTripod (raised k.order s.e)
  turn_raised_small =
      rw (figure_6_values k here s (omega arith) c.at.walking.spot)
      (place_small E (place_26 E here) (plan-short (length l) k c.plan) (within_26 E here (omega arith)))

  -- the axis is a longest one of the ends' own differences
  long_there : E u ≡ longest E
  long_there = subst (λ F. F u ≡ longest F) c.plan.is c.long

  -- a run may start there
  module _ (h : RunRoute) (is : h ≡ run_route k u) (a : RunSpot) (begins : a ≡ run_spot u (steps k.d) (raised_spot k.order s)) where
    pub run_begins : Running l h a left k u
    run_begins =
        record {
          plan = c.plan;
          long = long_there;
          route = is;
          most = c.at.most;
          at = begins ∙ ap (λ F. run_spot u F (raised_spot k.order s)) c.plan.is ∙ run_starts (length l) k c.plan u here s spot_26;
        }

    pub can_run : byte_of_spot l s ≡ 0 → CanRun l h a left
    can_run zero-there =
        record {
          k = k;
          u = u;
          running = run_begins;
          some = c.at.some;
          clear = ap (byte_there l) (ap (λ r. r.at) run_begins.at ∙ sym spot_26.index) ∙ zero-there;
        }

    module _ (r : Run) (ran : Ran l h a left r) where
      -- where it ended
      end_is : r.spot ≡ run_cell k u (cell_left k r.left)
      end_is = (ran.leads k u run_begins).0

      pub end_small : SmallDue r.spot
      end_small = subst SmallDue (sym end_is) (dues_small (length l) k c.plan u (cell_left k r.left) (omega arith))

      -- with the values of figure 6, which may be lowered
      pub end_values_small : SmallTripod (spot_back u (steps k.d) r.spot).e
      end_values_small =
          subst (λ v. SmallTripod v.e) (sym (ap₂ (spot_back u) c.plan.is end_is))
          (rw (values_back (length l) k c.plan u (cell_left k r.left))
          (place_small E (place_26 E (cell_left k r.left)) (plan-short (length l) k c.plan) (within_26 E (cell_left k r.left) (omega arith))))

      -- and leads there
      pub run_leads :
          (t : Spot) → t ≡ lowered_spot k.order (spot_back u (steps k.d) r.spot) →
          Reached l k tested s reads left (record { spot = t; reads = reads + (left - r.left); hit = false; left = r.left })
      run_leads t e =
          record {
            fewer = ran.fewer;
            outcome = λ from at.
                subst (Walking from l k (going l k Adaptive) (number_26 k.p k.q (cell_left k r.left)) (reads + (left - r.left)))
                (sym (e ∙ ap₂ (λ F a. lowered_spot k.order (spot_back u F a)) c.plan.is end_is))
                (clear_turn from (length l) k c.plan l tested left s reads at u r.left ran.fewer (ran.leads k u run_begins).1);
          }
