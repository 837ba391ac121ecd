-- `refills::refill_box` meets its contract: tested, then filled, then the masks anew; each way out is a law. Assumes nothing.
use Prim.Native.Nat.{ℕ, ◌≤◌}
use native.Mathlib.Omega.{arith}
use mathlib.Core.Path.{◌≡◌, sym, ap, ◌∙◌}
use mathlib.Core.Bool.{false}
use Rattle.grids.specs.Grid.{size}
use Rattle.grids.proofs.Shapes.{shaped}
use Rattle.refills.specs.Boxes.{brick_of}
use Rattle.refills.specs.Rows.{agreed}
use Rattle.refills.specs.Refills.{ones_in, differs_in, bad_total}
use Rattle.refills.proofs.Boxes.{box_of}
use Rattle.refills.proofs.Agreeing.{some_differs}
use Rattle.refills.proofs.Keeping.{total_fits}
use Rattle.refills.proofs.Changing.{sum_of, sum_of_most, ones_anew, refused_mask, refused_total, accepted, box_differs, box_agrees, box_refilled, box_remasked}
use Rattle.std.proofs.lemmas.Result.{err_from_is_err_and}
use Rattle.refills.proofs.refill_box.Goals as goal
use Rattle.refills.proofs.refill_box.Goals.{After-bad_total, After-same_box, Else-bad_total}

-- what the test of the masks answered, in words of the box
answer :
    (c : After-same_box) → let a = c.args in
    c.same_box.result ≡ agreed (some_differs a.n a.cells.now a.masks.now (brick_of a.c.lo) (brick_of a.c.hi))
    (sum_of a.n a.c.lo a.c.hi (box_of a.n a.c c.requires.inside.0) a.cells.now)
answer c = rw (c.bricks-b.ensures.0, c.bricks-b.ensures.1) at c.same_box.ensures

-- what the test of the total answered, by the number of cells
judged : (c : After-bad_total) →
    let a = c.args in c.bad_total.result ≡ bad_total
    a.total c.in_ok-old.old (size a.n)
judged c =
    c.bad_total.ensures ∙ ap (λ (k : ℕ). bad_total c.args.total c.in_ok-old.old k) (shaped _ _ c.requires.shaped).bytes_are

-- the masks agree, and the ones are those of the masks
agree :
    (c : After-bad_total) → let a = c.args in
    (differs_in a.n a.c.lo a.c.hi a.cells.now a.masks.now ≡ false)
    × (c.in_ok-old.old ≡ ones_in a.n a.c.lo a.c.hi a.masks.now)
agree c =
    let a = c.args in
    let box = box_of a.n a.c c.requires.inside.0 in
    let answered : c.same_box.result ≡ agreed (some_differs a.n a.cells.now a.masks.now (brick_of a.c.lo) (brick_of a.c.hi))
    (sum_of a.n a.c.lo a.c.hi box a.cells.now) = rw (c.bricks-b.ensures.0, c.bricks-b.ensures.1) at c.same_box.ensures in
    box_agrees a.n a.c.lo a.c.hi box a.cells.now a.masks.now _ (sym c.in_ok-old.ensures.ok_part ∙ answered)

-- past both tests the total lies between those ones and the number of cells
fits : (c : Else-bad_total) → let a = c.args in
    (c.in_ok-old.old ≤ a.total) × (a.total ≤ size a.n)
fits c =
    let is : c.bad_total.result ≡ bad_total c.args.total c.in_ok-old.old (size c.args.n) =
    c.bad_total.ensures ∙ ap (λ (k : ℕ). bad_total c.args.total c.in_ok-old.old k) (shaped _ _ c.requires.shaped).bytes_are in
    total_fits _ _ _ (sym is ∙ c.if-bad_total.false)

pub returns-in_err-old : goal.returns-in_err-old
returns-in_err-old c =
    let a = c.args in
    let none = box_differs a.n a.c.lo a.c.hi (box_of a.n a.c c.requires.inside.0) a.cells.now a.masks.now
    (sym c.in_err-old.ensures.ok_part ∙ answer ((goal.at.returns-in_err-old c).After-same_box)) in
    let p = err_from_is_err_and c.from_residual.result c.from_residual.ensures.1 in
    rw (p.1, p.2, c.in_err-old.ensures.value, c.in_err-old.ensures.ok_part) (refused_mask a.n a.c.lo a.c.hi a.byte a.cells.now a.masks.now a.total none)

pub returns-then-bad_total : goal.returns-then-bad_total
returns-then-bad_total c =
    let earlier = goal.at.returns-then-bad_total c in
    let a = c.args in
    refused_total a.n a.c.lo a.c.hi a.byte a.cells.now a.masks.now a.total _ (agree earlier.After-bad_total).1 (sym (judged earlier.After-bad_total)
    ∙ c.if-bad_total.true)

pub fill_box-requires : goal.fill_box-requires
fill_box-requires c =
    (c.requires.inside.0, (shaped _ _ c.requires.shaped).bytes_are)

pub overflow_add-result : goal.overflow_add-result
overflow_add-result c =
    let a = c.args in
    let s = shaped _ _ c.requires.shaped in
    let new = rw (c.bricks-b.ensures.0, c.bricks-b.ensures.1) at c.fill_brick_box-new.ensures.value in
    let most = sum_of_most a.n a.c.lo a.c.hi (box_of a.n a.c c.requires.inside.0) c.fill_box.new.cells in
    let few = fits ((goal.at.overflow_add-result c).Else-bad_total) in
    omega (arith, s.size_most)

pub returns : goal.returns
returns c =
    let earlier = goal.at.returns c in
    let a = c.args in
    let box = box_of a.n a.c c.requires.inside.0 in
    let new = rw (c.bricks-b.ensures.0, c.bricks-b.ensures.1) at c.fill_brick_box-new.ensures in
    let anew = box_remasked a.n a.c.lo a.c.hi box a.cells.now a.masks.now _ _ new.box_filled in
    let (none, old) = agree earlier.After-bad_total in
    accepted a.n a.c.lo a.c.hi a.byte a.cells.now a.masks.now a.total _ _ _ _ none old
    (sym (judged earlier.After-bad_total) ∙ c.if-bad_total.false)
    (box_refilled a.n a.c.lo a.c.hi box a.cells.now a.masks.now a.byte _ c.fill_box.ensures) anew
    (new.value ∙ ones_anew a.n a.c.lo a.c.hi box _ a.masks.now c.requires.inside.1 ∙ ap (ones_in a.n a.c.lo a.c.hi) (sym anew))
