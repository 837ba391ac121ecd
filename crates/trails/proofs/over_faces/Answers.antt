-- `trails::over_faces` meets its contract: the invariant: with j faces crossed the spot is that of the number j further on. Assumes nothing.
use mathlib.Core.Path.{◌≡◌, sym, subst}
use Prim.Native.Nat.{◌+◌}
use native.Mathlib.Omega.{arith}
use Rattle.lines.specs.Crossings.{place}
use Rattle.routes.specs.Route.{course, SpotAt}
use Rattle.routes.proofs.Spots.{can_cross, place_within, six_turn}
use Rattle.trails.proofs.over_faces.Goals as goal

pub crossed-s-requires : goal.crossed-s-requires
crossed-s-requires c =
    let h = c.requires in
    can_cross _ c.args.k h.plan _ _ (place_within _ c.args.k h.plan (h.number + c.loop.counter) (omega (arith, h.fits)))
    (c.loop.invariant h.number h.fits h.at)

pub loop-preserved : goal.loop-preserved
loop-preserved c =
    let k = c.args.k in
    λ m fits at.
    let e : m + c.loop.counter + 1 ≡ m + (c.loop.counter + 1) = omega arith in
    subst (λ i. SpotAt k (place (course k) i) c.crossed-s.result) e
    (subst (SpotAt k (place (course k) (m + c.loop.counter + 1))) (sym c.crossed-s.ensures)
    (six_turn _ k c.requires.plan (m + c.loop.counter) c.loop.s _ (omega (arith, c.loop-test.true)) (c.loop.invariant m fits at)
    c.next_face.ensures))

pub returns : goal.returns
returns c =
    let k = c.args.k in
    let faces = c.args.faces in
    let e : c.loop.counter ≡ faces = omega (arith, c.loop-test.false) in
    record { leads = λ m fits at. subst (λ j. SpotAt k (place (course k) (m + j)) c.loop.s) e (c.loop.invariant m fits at) }
