-- The adaptive walk's step from a number of the 6-line, which leads as many faces on as the code crosses; and the cell of the 26-line that comes next.
-- Assumes nothing.
use mathlib.Core.Path.{◌≡◌, refl, sym, ap, ◌∙◌, subst}
use mathlib.Core.Logic.{◌≢◌}
use mathlib.Core.Bool.{Bool, true, false, cond, ◌&&◌}
use mathlib.Core.List.{List}
use Prim.Native.Nat.{ℕ, zero, suc, ◌+◌, ◌-◌, ◌≤◌, ◌<◌}
use native.Mathlib.Omega.{arith}
use native.Mathlib.Numerals.{add-one}
use lib.Dec.{eqb}
use lib.ListN.{length}
use borrow.Author.Tests.{eqb-true, eqb-false}
use Rattle.lines.specs.Steps.{X, Y, Z, Steps, total}
use Rattle.lines.specs.Crossings.{place}
use Rattle.lines.specs.Lines.{differences, longest, six_cell, place_26, number_26}
use Rattle.lines.specs.Decisions.{raised}
use Rattle.lines.proofs.Centres.{within_26, grows_26}
use Rattle.cells.specs.declared.Each.{Each}
use Rattle.tripod.specs.Tripod.{SmallTripod, LongMoves, moves_on}
use Rattle.tripod.proofs.Laws.{place_small}
use Rattle.grids.specs.Grid.{byte_of, clear}
use Rattle.walks.specs.declared.Walker.TheVariants.{Adaptive}
use Rattle.walks.specs.Numbers.{last_number}
use Rattle.walks.proofs.Long.{go_long, go_face, go_between}
use Rattle.routes.specs.declared.Route.{Route}
use Rattle.routes.specs.declared.Spot.{Spot}
use Rattle.routes.specs.Route.{Planned, preference, course, SpotAt, byte_of_spot}
use Rattle.routes.proofs.Spots.{six_byte, short_at}
use Rattle.routes.proofs.Cells26.{figure_6_values, faces_between, first_26, last_26}
use Rattle.hits.specs.Found.{going}
use Rattle.trails.specs.declared.Stand.{Stand}
use Rattle.trails.specs.Standing.{Before26, Ahead26, StandsAt, to_cross}

module _ (k : Route) where
  abbrev D : Steps
  D = differences k.p k.q

  abbrev N : ℕ
  N = last_number k.p k.q

  abbrev number : ℕ → ℕ
  number m = number_26 k.p k.q m

  -- the walk starts on a cell of the 26-line
  pub starts_on : Before26 k 0 0
  starts_on = record { next = 0; most = omega arith; there = sym (first_26 k); past = λ m e. absurd (omega arith) }

  -- where s is no cell of the 26-line, what was left is ahead
  pub ahead_off : (s left : ℕ) → Before26 k s left → 0 < left → Ahead26 k s left left
  ahead_off s left b some = by b.next b.most b.there b.past
    where
      by : (next : ℕ) → next ≤ longest D → s + left ≡ number next → ((m : ℕ) → next ≡ m + 1 → number m < s) → Ahead26 k s left left
      by zero most there past = absurd (omega (arith, first_26 k))
      by (suc m) most there past =
          record {
            from = m;
            below = omega arith;
            on = λ none. absurd (omega arith);
            off = λ any. past m (omega arith);
            some = some;
            there = there ∙ ap number (sym (add-one m));
          }

  -- from a cell of the 26-line that is not Q, the faces of the long step
  module _ (s : ℕ) (lt : s < N) (b : Before26 k s 0) where
    here_26 : s ≡ number b.next
    here_26 = omega (arith, b.there)

    below_26 : b.next < longest D
    below_26 =
        let ne : b.next ≢ longest D = λ e. omega (arith, here_26, ap number e, last_26 k) in
        omega (arith, b.most)

    spot_26 : (spot : Spot) → SpotAt k (place (course k) s) spot → SpotAt k (place (course k) (number b.next)) spot
    spot_26 spot = subst (λ m. SpotAt k (place (course k) m) spot) here_26

    pub ahead_on : (spot : Spot) (r : Each Bool) → SpotAt k (place (course k) s) spot → LongMoves D (raised k.order spot.e) r →
        Ahead26 k s 0 (total (moves_on r))
    ahead_on spot r h moves =
        let between = faces_between k b.next spot r below_26 (spot_26 spot h) moves in
        record {
          from = b.next;
          below = below_26;
          on = λ none. here_26;
          off = λ any. absurd (omega arith);
          some = omega (arith, grows_26 D b.next below_26);
          there = omega (arith, here_26);
        }

    -- its values, raised, may be added
    pub raised_small : (bytes : ℕ) → Planned bytes k → (spot : Spot) → SpotAt k (place (course k) s) spot → SmallTripod (raised k.order spot.e)
    raised_small bytes plan spot h =
        rw (figure_6_values k b.next spot b.most (spot_26 spot h))
        (place_small D (place_26 D b.next) (short_at bytes k plan) (within_26 D b.next b.most))

  -- the next cell of the 26-line lies on the line
  pub ahead_within : (s left ahead : ℕ) → Ahead26 k s left ahead → s + ahead ≤ N
  ahead_within s left ahead a =
      let w = within_26 D (a.from + 1) (omega (arith, a.below)) in
      omega (arith, a.there, w X, w Y, w Z)

  -- at most none is none
  pub none_left : (s left : ℕ) → left ≤ 0 → Before26 k s left → Before26 k s 0
  none_left s left none = let e : left ≡ 0 = omega arith in subst (Before26 k s) e

  -- some of the faces ahead crossed
  pub crossed_some : (s left ahead faces : ℕ) → Ahead26 k s left ahead → 0 < faces → faces ≤ ahead → Before26 k (s + faces) (ahead - faces)
  crossed_some s left ahead faces a some few =
      record {
        next = a.from + 1;
        most = omega (arith, a.below);
        there = omega (arith, a.there);
        past = λ m e. let is : m ≡ a.from = omega arith in subst (λ i. number i < s + faces) (sym is) (since left a.on a.off);
      }
    where
      since : (left : ℕ) → (left ≡ 0 → s ≡ number a.from) → (0 < left → number a.from < s) → number a.from < s + faces
      since zero on off = omega (arith, on refl)
      since (suc left) on off = omega (arith, off (omega arith))

module _ (l : List ℕ) (k : Route) (plan : Planned (length l) k) where
  abbrev M : ℕ
  M = last_number k.p k.q

  abbrev go : ℕ → ℕ
  go = going l k Adaptive

  -- how many faces the code crosses, by its two tests
  few_of : (b c : Bool) (ahead : ℕ) → 0 < ahead → (0 < cond (b && c) ahead 1) × (cond (b && c) ahead 1 ≤ ahead)
  few_of true true ahead some = (some, omega arith)
  few_of true false ahead some = (omega arith, omega arith)
  few_of false c ahead some = (omega arith, omega arith)

  module _ (s : ℕ) (lt : s < M) (t : Stand) (ahead : ℕ) (h : SpotAt k (place (course k) s) t.spot) (a : Ahead26 k s t.left ahead) where
    pub crosses_some : (0 < to_cross l t ahead) × (to_cross l t ahead ≤ ahead)
    crosses_some = few_of (eqb t.left 0) (clear (byte_of_spot l t.spot)) ahead a.some

    -- the step leads so many faces on
    goes : go s ≡ s + to_cross l t ahead
    goes = by (eqb t.left 0) refl (clear (byte_of_spot l t.spot)) refl
      where
        byte : clear (byte_of_spot l t.spot) ≡ clear (byte_of k.n l (six_cell (preference k) k.p k.q s))
        byte = ap clear (six_byte (length l) k plan l s t.spot h)

        by : (b : Bool) → eqb t.left 0 ≡ b → (c : Bool) → clear (byte_of_spot l t.spot) ≡ c → go s ≡ s + cond (b && c) ahead 1
        by true e true f =
            let is = a.on (eqb-true t.left 0 e) in
            ap go is ∙ go_long (preference k) k.n l k.p k.q a.from a.below
            (ap (λ m. clear (byte_of k.n l (six_cell (preference k) k.p k.q m))) (sym is) ∙ sym byte ∙ f)
            ∙ sym a.there
        by true e false f = go_face (preference k) k.n l k.p k.q s (sym byte ∙ f) ∙ sym (add-one s)
        by false e c f =
            let ne : t.left ≢ 0 = eqb-false t.left 0 e in
            let some : 0 < t.left = omega arith in
            go_between (preference k) k.n l k.p k.q a.from s a.below (a.off some) (omega (arith, a.there, a.some)) lt ∙ sym (add-one s)

  -- and there it stands
  pub stands_there : (s : ℕ) → s < M → (t r : Stand) (ahead : ℕ) → SpotAt k (place (course k) s) t.spot → Ahead26 k s t.left ahead →
      SpotAt k (place (course k) (s + to_cross l t ahead)) r.spot → r.left ≡ ahead - to_cross l t ahead → StandsAt k (go s) r
  stands_there s lt t r ahead h a spot left =
      let (some, few) = crosses_some s lt t ahead h a in
      subst (λ m. StandsAt k m r) (sym (goes s lt t ahead h a))
      (record { spot = spot; beside = subst (Before26 k (s + to_cross l t ahead)) (sym left) (crossed_some k s t.left ahead (to_cross l t ahead) a some few) })
