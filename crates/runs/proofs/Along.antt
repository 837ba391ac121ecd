-- A run along its route: the long step leads from 26-line cell to 26-line cell, every sum on the way fits, every cell has its byte, and a run goes
-- from a spot to a spot. Assumes nothing.
use mathlib.Core.Path.{◌≡◌, refl, sym, ap, ap₂, ◌∙◌, subst, fun_ext}
use mathlib.Core.Logic.{⊎_elim}
use mathlib.Core.Bool.{Bool, true, false, cond}
use mathlib.Core.List.{List}
use Prim.Native.Nat.{ℕ, ◌+◌, ◌-◌, ◌*◌, ◌≤◌, ◌<◌}
use native.Mathlib.Omega.{arith}
use native.Mathlib.Nat.{eq-or-lt_of_le}
use lib.IntN.{ℤ, pos, ◌+ℤ◌, ◌-ℤ◌}
use lib.Signed.{le_z}
use lib.ListN.{length}
use Rattle.cells.specs.Small.{Small}
use Rattle.cells.proofs.Signed.{up, dn, same_number, one_sided, sum_is, diff_is}
use Rattle.cells.proofs.Machine.{nat_small, parts_small}
use Rattle.lines.specs.Steps.{Axis, X, Y, Z, Steps}
use Rattle.lines.specs.Lines.{differences, cell_of, longest, place_26, cell_26}
use Rattle.lines.specs.Decisions.{values, doubled, decision, lowered, raised}
use Rattle.lines.proofs.Centres.{within_26}
use Rattle.lines.proofs.Cells.{is_26}
use Rattle.lines.proofs.Signs.{raised_back}
use Rattle.tripod.proofs.Laws.{decision_small}
use Rattle.tripod.proofs.Leap.{where_to, where_at}
use Rattle.grids.specs.Grid.{byte_of, byte_index}
use Rattle.routes.specs.declared.Route.{Route}
use Rattle.routes.specs.declared.Spot.{Spot}
use Rattle.routes.specs.Route.{stride, strides, stride_on, Planned, preference, SpotAt, raised_spot, lowered_spot, HasByte, byte_there}
use Rattle.routes.proofs.Spots.{short_at, index_next, spot_byte, byte_is, can_cross}
use Rattle.runs.specs.declared.RunRoute.{RunRoute}
use Rattle.runs.specs.declared.RunSpot.{RunSpot}
use Rattle.runs.specs.Run.{v_of, w_of, twice_on, sides_by, run_route, due_on, run_spot, spot_back, by_sign, long_step}
use Rattle.runs.specs.Run.{SmallDue, SmallRoute, CanStep, index_26, cell_left, run_cell, Running, ClearTo, Ran}
use Rattle.runs.proofs.Due.{nothing_more, turned, turned_back, taken_back, due_small}
use Rattle.runs.proofs.Due.{goes, after_v, after_w, leads_to, v_moves, w_moves, third_by_v, third_by_w}

-- a stride is so small that the sum of two is
module _ (p q : ℤ) (w : ℕ) (most : w ≤ 1048576) where
  pub stride_most : (up (stride p q w) ≤ 1048576) × (dn (stride p q w) ≤ 1048576)
  stride_most = go (le_z p q)
    where
      go : (t : Bool) → (up (cond t (pos w) (pos 0 -ℤ pos w)) ≤ 1048576) × (dn (cond t (pos w) (pos 0 -ℤ pos w)) ≤ 1048576)
      go true = (most, omega arith)
      go false =
          let s = diff_is (pos 0) (pos w) in
          let o = one_sided (pos 0 -ℤ pos w) in
          (omega arith, omega arith)

sum_small : (a b : ℤ) → (up a ≤ 1048576) × (dn a ≤ 1048576) → (up b ≤ 1048576) × (dn b ≤ 1048576) → Small (a +ℤ b)
sum_small a b ha hb =
    let s = sum_is a b in
    let o = one_sided (a +ℤ b) in
    parts_small (a +ℤ b) (omega arith) (omega arith)

difference_small : (m n : ℕ) → m ≤ 32766 → n ≤ 32766 → Small (pos m -ℤ pos n)
difference_small m n h k =
    let s = diff_is (pos m) (pos n) in
    let o = one_sided (pos m -ℤ pos n) in
    parts_small (pos m -ℤ pos n) (omega arith) (omega arith)

twice_is : (D : Steps) → twice_on (doubled D) ≡ (λ a. pos (2 * D a))
twice_is D = fun_ext at_axis
  where
    at_axis : (a : Axis) → twice_on (doubled D) a ≡ pos (2 * D a)
    at_axis X = refl
    at_axis Y = refl
    at_axis Z = refl

-- two moves one after another, or their sum at once
at_once : (i x y : ℤ) → i +ℤ (x +ℤ y) ≡ (i +ℤ x) +ℤ y
at_once i x y = same_number _ _ (omega (arith, sum_is i (x +ℤ y), sum_is x y, sum_is (i +ℤ x) y, sum_is i x))

module _ (bytes : ℕ) (k : Route) (plan : Planned bytes k) where
  abbrev D : Steps
  D = differences k.p k.q

  abbrev index_of : Steps → ℕ
  index_of t = byte_index k.n (cell_of k.p k.q t)

  abbrev by : Axis → ℤ
  by n = stride_on (strides k.n k.p k.q) n

  abbrev twice : Axis → ℤ
  twice a = pos (2 * D a)

  -- the route of its runs, from the ends
  abbrev run_there : Axis → RunRoute
  run_there u = sides_by by twice u

  pub route_is : (u : Axis) → run_route k u ≡ run_there u
  route_is u = ap₂ (λ s d. sides_by (stride_on s) d u) plan.moves (ap twice_on plan.twice ∙ twice_is D)

  -- a spot of any place, with the values of figure 6, and the one of the route
  abbrev values_there : Steps → Spot
  values_there t = record { at = pos (index_of t); e = values D t }

  abbrev spot_there : Steps → Spot
  spot_there t = lowered_spot k.order (values_there t)

  is_spot : (t : Steps) → SpotAt k t (spot_there t)
  is_spot t = record { index = refl; value = refl }

  index_small : (t : Steps) → ((a : Axis) → t a ≤ D a) → Small (pos (index_of t))
  index_small t le = (can_cross bytes k plan t (spot_there t) le (is_spot t)).at

  pub route_small : SmallRoute k
  route_small =
      let c = can_cross bytes k plan (place_26 D 0) (spot_there (place_26 D 0)) (within_26 D 0 (omega arith)) (is_spot (place_26 D 0)) in
      record { x = c.x; y = c.y; z = c.z; twice = c.twice }

  by_most : (a : Axis) → (up (by a) ≤ 1048576) × (dn (by a) ≤ 1048576)
  by_most X = stride_most k.p.x k.q.x 1 (omega arith)
  by_most Y = stride_most k.p.y k.q.y k.n.nx (omega (arith, plan.shaped.x.most))
  by_most Z = stride_most k.p.z k.q.z (k.n.nx * k.n.ny) plan.shaped.layer_most

  by_small : (a : Axis) → Small (by a)
  by_small a = let m = by_most a in parts_small (by a) (omega arith) (omega arith)

  twice_small : (a : Axis) → Small (twice a)
  twice_small a = nat_small (2 * D a) (omega (arith, short_at bytes k plan a))

  less_small : (a b : Axis) → Small (twice a -ℤ twice b)
  less_small a b = difference_small (2 * D a) (2 * D b) (omega (arith, short_at bytes k plan a)) (omega (arith, short_at bytes k plan b))

  back_small : (a : Axis) → Small (pos 0 -ℤ twice a)
  back_small a = difference_small 0 (2 * D a) (omega arith) (omega (arith, short_at bytes k plan a))

  none_small : Small (pos 0)
  none_small = nat_small 0 (omega arith)

  -- the byte's place after a step that is made where it is asked for
  index_where :
      (go : Bool) (n : Axis) (t : Steps) → ((a : Axis) → where_to go n t a ≤ D a) →
      pos (index_of t) +ℤ cond go (by n) (pos 0) ≡ pos (index_of (where_to go n t))
  index_where true n t le = index_next bytes k plan t n le
  index_where false n t le = nothing_more (pos (index_of t))

  -- and after one along u before it
  index_with :
      (go : Bool) (u n : Axis) (t : Steps) → ((a : Axis) → where_to go n (where_to true u t) a ≤ D a) →
      pos (index_of t) +ℤ cond go (by u +ℤ by n) (by u) ≡ pos (index_of (where_to go n (where_to true u t)))
  index_with true u n t le =
      at_once (pos (index_of t)) (by u) (by n)
      ∙ ap (λ i. i +ℤ by n) (index_next bytes k plan t u (λ a. omega (arith, le a, where_at true n (where_to true u t) a)))
      ∙ index_next bytes k plan (where_to true u t) n le
  index_with false u n t le = index_next bytes k plan t u le

  module _ (u : Axis) (long : D u ≡ longest D) (m : ℕ) (lt : m < longest D) where
    abbrev v : Axis
    v = v_of u

    abbrev w : Axis
    w = w_of u

    abbrev t : Steps
    t = place_26 D m

    abbrev t_v : Steps
    t_v = after_v D u long m lt

    within_t : (a : Axis) → t a ≤ D a
    within_t = within_26 D m (omega arith)

    within_w : (a : Axis) → after_w D u long m lt a ≤ D a
    within_w a = omega (arith, leads_to D u long m lt a, within_26 D (m + 1) (omega arith) a)

    within_v : (a : Axis) → t_v a ≤ D a
    within_v a = omega (arith, within_w a, where_at (goes D u long m lt w) w t_v a)

    index_v : pos (index_26 k m) +ℤ by_sign (due_on D t u v) (by u +ℤ by v) (by u) ≡ pos (index_of t_v)
    index_v = index_with (goes D u long m lt v) u v t within_v

    -- so it leads to the next cell
    step_there : long_step (run_there u) (run_cell k u m) ≡ run_cell k u (m + 1)
    step_there =
        (λ i. record {
          at = (ap (λ z. z +ℤ by_sign (due_on D t u w) (by w) (pos 0)) index_v ∙ index_where (goes D u long m lt w) w t_v within_w) i;
          v = sym (v_moves D u long m lt) i;
          w = sym (w_moves D u long m lt) i;
          wv = (ap (λ z. z +ℤ by_sign (due_on D t u w) (twice v) (pos 0)) (sym (third_by_v D u long m lt)) ∙ sym (third_by_w D u long m lt)) i;
        })
        ∙ ap (λ s. record { at = pos (index_of s); v = due_on D s u v; w = due_on D s u w; wv = decision D s w v }) (fun_ext (leads_to D u long m lt))

    pub step_next : long_step (run_route k u) (run_cell k u m) ≡ run_cell k u (m + 1)
    step_next = ap (λ h. long_step h (run_cell k u m)) (route_is u) ∙ step_there

    -- and every sum fits
    due_at : (b : Axis) → Small (due_on D t u b)
    due_at b = due_small D t u b (short_at bytes k plan) within_t

    third_at : (s : Steps) → ((a : Axis) → s a ≤ D a) → Small (decision D s w v)
    third_at s le = decision_small D s (short_at bytes k plan) le w v

    pub can_step : CanStep (run_route k u) (run_cell k u m)
    can_step =
        subst (λ h. CanStep h (run_cell k u m)) (sym (route_is u))
        (record {
          v = record {
            stay = record { at = by_small u; due = twice_small v; wv = none_small };
            go = record { at = sum_small (by u) (by v) (by_most u) (by_most v); due = less_small v u; wv = back_small w };
            from = record { at = index_small t within_t; due = due_at v; wv = third_at t within_t };
          };
          w = record {
            stay = record { at = none_small; due = twice_small w; wv = none_small };
            go = record { at = by_small w; due = less_small w u; wv = twice_small v };
            from = record {
              at = subst Small (sym index_v) (index_small t_v within_v);
              due = due_at w;
              wv = subst Small (third_by_v D u long m lt) (third_at t_v within_v);
            };
          };
        })

  -- ---- at 26-line cell m

  module _ (u : Axis) (m : ℕ) (le : m ≤ longest D) where
    pub run_byte : HasByte bytes (run_cell k u m).at
    run_byte = spot_byte bytes k plan (place_26 D m) (spot_there (place_26 D m)) (within_26 D m le) (is_spot (place_26 D m))

    pub run_byte_is : (cells : List ℕ) → byte_there cells (run_cell k u m).at ≡ byte_of k.n cells (cell_26 k.p k.q m)
    run_byte_is cells =
        byte_is bytes k plan cells (place_26 D m) (spot_there (place_26 D m)) (is_spot (place_26 D m))
        ∙ ap (byte_of k.n cells) (sym (is_26 (preference k) k.p k.q m))

    -- what is due may be added
    pub dues_small : SmallDue (run_cell k u m)
    dues_small = record { v = on_axis (v_of u); w = on_axis (w_of u) }
      where
        on_axis : (b : Axis) → Small (due_on D (place_26 D m) u b)
        on_axis b = due_small D (place_26 D m) u b (short_at bytes k plan) (within_26 D m le)

  -- a spot of 26-line cell m, as a cell of a run
  pub run_starts : (u : Axis) (m : ℕ) (s : Spot) → SpotAt k (place_26 D m) s → run_spot u D (raised_spot k.order s) ≡ run_cell k u m
  run_starts u m s h =
      ap₂ (λ i e. run_spot u D (record { at = i; e = e })) h.index
      (ap (raised k.order) h.value ∙ raised_back k.order (values D (place_26 D m))) ∙ from u
    where
      t : Steps
      t = place_26 D m

      from : (u : Axis) → run_spot u D (values_there (place_26 D m)) ≡ run_cell k u m
      from X = refl
      from Y = λ i. record { at = pos (index_26 k m); v = turned D t Y Z i; w = turned D t Y X i; wv = decision D t X Z }
      from Z = λ i. record { at = pos (index_26 k m); v = due_on D t Z Y; w = turned D t Z X i; wv = decision D t X Y }

  -- and back
  pub values_back : (u : Axis) (m : ℕ) → (spot_back u D (run_cell k u m)).e ≡ values D (place_26 D m)
  values_back u m = by u
    where
      t : Steps
      t = place_26 D m

      by : (u : Axis) → (spot_back u D (run_cell k u m)).e ≡ values D (place_26 D m)
      by X = λ i. record { xy = taken_back D t X Y i; xz = taken_back D t X Z i; zy = decision D t Z Y }
      by Y = λ i. record { xy = turned_back D t Y X i; xz = decision D t X Z; zy = turned_back D t Y Z i }
      by Z = λ i. record { xy = decision D t X Y; xz = turned_back D t Z X i; zy = taken_back D t Z Y i }

  pub run_ends : (u : Axis) (m : ℕ) → SpotAt k (place_26 D m) (lowered_spot k.order (spot_back u D (run_cell k u m)))
  run_ends u m = record { index = at u; value = ap (lowered k.order) (values_back u m) }
    where
      at : (u : Axis) → (spot_back u D (run_cell k u m)).at ≡ pos (index_26 k m)
      at X = refl
      at Y = refl
      at Z = refl

-- ---- a run on its way

-- so many long steps are left
pub record Follows (cells : List ℕ) (h : RunRoute) (start : RunSpot) (from left : ℕ) (s : RunSpot) : Type 0 where
  pub most : left ≤ from
  pub clear : from ≤ left → byte_there cells s.at ≡ 0
  pub leads :
      (k : Route) (u : Axis) → Running cells h start from k u →
      (s ≡ run_cell k u (cell_left k left)) × ClearTo cells k (cell_left k from) (cell_left k left)

module _ (cells : List ℕ) (h : RunRoute) (start : RunSpot) (from : ℕ) where
  -- it starts
  pub not_begun : byte_there cells start.at ≡ 0 → Follows cells h start from from start
  not_begun zero-there = record { most = omega arith; clear = λ le. zero-there; leads = λ k u r. (r.at, λ j ge less. absurd (omega arith)) }

  module _ (left : ℕ) (s : RunSpot) (w : Follows cells h start from left s) where
    module _ {k : Route} {u : Axis} (r : Running cells h start from k u) where
      within : cell_left k left ≤ longest (differences k.p k.q)
      within = omega arith

      below : 0 < left → cell_left k left < longest (differences k.p k.q)
      below some = omega (arith, w.most, r.most)

      one_less : 0 < left → cell_left k left + 1 ≡ cell_left k (left - 1)
      one_less some = omega (arith, w.most, r.most)

    -- every sum of a step from there fits, and there is a byte
    pub steps_on : {k : Route} {u : Axis} → Running cells h start from k u → 0 < left → CanStep h s
    steps_on {k} {u} r some =
        subst (CanStep h) (sym (w.leads k u r).0)
        (subst (λ g. CanStep g (run_cell k u (cell_left k left))) (sym r.route)
        (can_step (length cells) k r.plan u r.long (cell_left k left) (below r some)))

    pub byte_on : {k : Route} {u : Axis} → Running cells h start from k u → HasByte (length cells) s.at
    byte_on {k} {u} r =
        subst (λ z. HasByte (length cells) z.at) (sym (w.leads k u r).0)
        (run_byte (length cells) k r.plan u (cell_left k left) (within r))

    -- a clear cell leads on
    pub one_step : 0 < left → byte_there cells s.at ≡ 0 → Follows cells h start from (left - 1) (long_step h s)
    one_step some zero-there =
        record {
          most = omega (arith, w.most);
          clear = λ le. absurd (omega (arith, w.most));
          leads = λ k u r. (
            ap₂ long_step r.route (w.leads k u r).0 ∙ step_next (length cells) k r.plan u r.long (cell_left k left) (below r some)
                ∙ ap (run_cell k u) (one_less r some),
            λ j ge less.
                ⊎_elim (λ e. subst (λ i. byte_of k.n cells (cell_26 k.p k.q i) ≡ 0) (sym e) (zero_here r)) (λ before. (w.leads k u r).1 j ge before)
                (eq-or-lt_of_le {n = j} {m = cell_left k left} (omega (arith, one_less r some))),
          );
        }
      where
        zero_here : {k : Route} {u : Axis} → Running cells h start from k u → byte_of k.n cells (cell_26 k.p k.q (cell_left k left)) ≡ 0
        zero_here {k} {u} r =
            sym (run_byte_is (length cells) k r.plan u (cell_left k left) (within r) cells)
            ∙ ap (λ z. byte_there cells z.at) (sym (w.leads k u r).0) ∙ zero-there

    -- it stops at a cell that is not clear, or at the last
    pub stopped : left < from → Ran cells h start from (record { spot = s; left = left })
    stopped fewer = record { fewer = fewer; leads = w.leads }
