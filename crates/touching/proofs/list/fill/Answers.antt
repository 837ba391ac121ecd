-- `touching::list::fill` meets its contract: the invariant: the spot is that of a place between two ties, and the cells up to it are stored. The measure is how
-- many crossings are left. Assumes nothing.
use mathlib.Core.Path.{◌≡◌, refl, sym, ap, ◌∙◌, subst}
use mathlib.Core.List.{map}
use Prim.Native.Nat.{ℕ, ◌+◌, ◌-◌, ◌*◌, ◌≤◌, ◌<◌}
use native.Mathlib.Omega.{arith}
use lib.ListN.{length}
use Rattle.cells.specs.declared.Cell.{Cell}
use Rattle.lines.specs.declared.Order.TheVariants.{Yzx}
use Rattle.lines.specs.declared.Tie.TheVariants.{One}
use Rattle.lines.specs.Steps.{X, Y, Z, at, total}
use Rattle.lines.specs.Preference.{order_of}
use Rattle.lines.specs.Lines.{differences}
use Rattle.lines.specs.Touching.{touching_line, visits_from, visits, visit_cell, crossings}
use Rattle.lines.proofs.Cells.{limited_difference}
use Rattle.lines.proofs.Touched.{touching_length}
use Rattle.tripod.specs.Tripod.{NextTie}
use Rattle.lists.specs.Kept.{SixSpotAt, put3}
use Rattle.touching.specs.Listing.{put_cells, CanPut, Put}
use Rattle.touching.proofs.Group.{tie_few}
use Rattle.touching.proofs.Filling.{one_put, put_first, Filling, filling_start, filling_long, faces_most, cells_most, filling_can, filling_next, filling_end}
use Rattle.touching.proofs.list.fill.Goals as goal
use Rattle.touching.proofs.list.fill.Goals.{After-first_spot-s, After-put_tie-past, In-One, In-loop-m}

-- P is visited
some_visit : (p q : Cell) → 1 ≤ length (visits (crossings p q))
unfolding visits
some_visit p q = omega arith

-- there is room for the visits
room : (p q : Cell) (n : ℕ) → 3 * length (touching_line p q) ≤ n → 3 * length (visits (crossings p q)) ≤ n
room p q n = subst (λ k. 3 * k ≤ n) (touching_length p q)

pub put-requires : goal.put-requires
put-requires c = let s = c.args.segment in omega (arith, room s.p s.q _ c.requires, some_visit s.p s.q)

-- the loop starts at P
spot : (c : After-first_spot-s) → let s = c.args.segment in SixSpotAt Yzx s.p s.q (at 0 0 0) c.first_spot-s.result
unfolding order_of
spot c = c.first_spot-s.ensures

pub loop-m-init : goal.loop-m-init
loop-m-init c =
    let first = spot ((goal.at.loop-m-init c).After-first_spot-s) in (omega arith, λ way. filling_start _ _ _ way _ _ first)

-- a turn begins before the last crossing
below : (c : In-loop-m) →
    let s = c.args.segment in
    c.loop-m.m < total (differences s.p s.q)
below c = subst (λ n. c.loop-m.m < n) (c.total-crossings.ensures ∙ ap total c.args.segment.measured.is) c.loop-m-test.true

-- there is room for the next tie
can : (c : In-loop-m) → CanPut (length c.loop-m.out) (3 * (c.loop-m.m + c.loop-m.more)) c.six_way_of-w.result c.loop-m.s
can c =
    let s = c.args.segment in
    let f = c.loop-m.invariant.1 c.six_way_of-w.ensures in
    let long = filling_long _ _ _ _ _ _ _ _ _ f _ _ _ refl ∙ c.put.auto.out in
    let enough = room s.p s.q _ c.requires in
    filling_can _ _ _ _ _ _ _ _ _ f (below c) s.measured.p_in s.measured.q_in (omega arith)

-- ---- a tie of one axis
one : (c : In-One) → NextTie c.loop-m.s.e (One c.in-One.n)
one c = subst (NextTie _) c.in-One.is c.next_tie.ensures

pub crossed-s-requires : goal.crossed-s-requires
crossed-s-requires c =
    let earlier = goal.at.crossed-s-requires c in
    ((can earlier.In-loop-m).fits _ (one earlier.In-One)).1

pub put-requires-in-One : goal.put-requires-in-One
put-requires-in-One c =
    let earlier = goal.at.put-requires-in-One c in
    omega (arith, ((can earlier.In-loop-m).fits _ (one earlier.In-One)).0, c.loop-m.invariant.0)

pub loop-m-preserved-in-One : goal.loop-m-preserved-in-One
loop-m-preserved-in-One c =
    let earlier = goal.at.loop-m-preserved-in-One c in
    let at-is = c.loop-m.invariant.0 in
    let one_more : c.loop-m.m + c.loop-m.more + 1 ≡ c.loop-m.m + 1 + c.loop-m.more = omega arith in (
      omega arith,
      λ way.
          subst (Filling _ _ _ way _ _ c.crossed-s.result (c.loop-m.m + 1)) one_more
          (filling_next _ _ _ way _ _ _ _ _ (c.loop-m.invariant.1 way) (below earlier.In-loop-m) _ _
          (one_put _ _ _ _ _ _ _ (one earlier.In-One) c.crossed-s.ensures (c.put-in-One.ensures ∙ ap (λ j. put3 c.loop-m.out j c.crossed-s.result.at) at-is))),
    )

-- ---- a tie of more
pub put_tie-past-requires : goal.put_tie-past-requires
put_tie-past-requires c =
    subst (λ j. CanPut (length c.loop-m.out) j c.six_way_of-w.result c.loop-m.s) (sym c.loop-m.invariant.0)
    (can ((goal.at.put_tie-past-requires c).In-loop-m))

-- its cells are stored
turned : (c : After-put_tie-past) →
    Put c.loop-m.out (3 * (c.loop-m.m + c.loop-m.more)) c.six_way_of-w.result c.loop-m.s c.put_tie-past.result
    c.put_tie-past.new.out
turned c =
    subst (λ j. Put c.loop-m.out j c.six_way_of-w.result c.loop-m.s c.put_tie-past.result
    c.put_tie-past.new.out) c.loop-m.invariant.0 c.put_tie-past.ensures

-- how many cells there are then, at most
most : (c : After-put_tie-past) →
    let s = c.args.segment in
    c.loop-m.m < total (differences s.p s.q) →
    (c.loop-m.m + c.loop-m.more + c.put_tie-past.result.cells ≤ 114682) × (c.put_tie-past.result.faces ≤ c.put_tie-past.result.cells) ×
    (1 ≤ c.put_tie-past.result.faces) × (c.loop-m.m + c.put_tie-past.result.faces ≤ 49149)
most c below =
    let k = c.args.segment.measured in
    let f = filling_next _ _ _ _ _ _ _ _ _ (c.loop-m.invariant.1 c.six_way_of-w.ensures) below _ _ (turned c) in
    let short = limited_difference _ _ k.p_in k.q_in in
    let few = tie_few c.put_tie-past.ensures.tie in
    let a = c.put_tie-past.ensures.cells in
    let b = c.put_tie-past.ensures.faces in
    (cells_most _ _ _ _ _ _ _ _ _ f k.p_in k.q_in, omega arith, omega arith, omega (arith, faces_most _ _ _ _ _ _ _ _ _ f, short X, short Y, short Z))

pub overflow_add-more : goal.overflow_add-more
overflow_add-more c =
    let earlier = goal.at.overflow_add-more c in
    record { fits = omega (arith, most earlier.After-put_tie-past (below earlier.In-loop-m)) }

pub loop-m-preserved : goal.loop-m-preserved
loop-m-preserved c =
    let earlier = goal.at.loop-m-preserved c in
    let m = c.loop-m.m in
    let more = c.loop-m.more in
    let r' = c.put_tie-past.result in
    let most = most earlier.After-put_tie-past (below earlier.In-loop-m) in
    let same : m + more + r'.cells ≡ m + r'.faces + (more + (r'.cells - r'.faces)) = omega arith in (
      omega (arith, c.loop-m.invariant.0),
      λ way.
          subst (Filling _ _ _ way _ _ r'.behind (m + r'.faces)) same
          (filling_next _ _ _ way _ _ _ _ _ (c.loop-m.invariant.1 way) (below earlier.In-loop-m) _ _ (turned earlier.After-put_tie-past)),
    )

pub overflow_add-result : goal.overflow_add-result
overflow_add-result c =
    let k = c.args.segment.measured in
    record { fits = omega (arith, cells_most _ _ _ _ _ _ _ _ _ (c.loop-m.invariant.1 c.six_way_of-w.ensures) k.p_in k.q_in) }

pub returns : goal.returns
returns c =
    let s = c.args.segment in
    let rest = visits_from (crossings s.p s.q) (total (differences s.p s.q)) (at 0 0 0) in
    let all = c.total-crossings.ensures ∙ ap total s.measured.is in
    let (is, many) = filling_end _ _ _ _ _ _ _ _ _ (c.loop-m.invariant.1 c.six_way_of-w.ensures) (subst (λ n. n ≤ c.loop-m.m) all c.loop-m-test.false) in (
      is ∙ ap (λ out. put_cells out 3 (map (visit_cell s.p s.q) rest)) c.put.ensures ∙ put_first s.p s.q c.args.out.now c.requires,
      many ∙ sym (touching_length s.p s.q),
    )
