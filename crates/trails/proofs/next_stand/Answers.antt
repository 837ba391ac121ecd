-- `trails::next_stand` meets its contract: as many faces are crossed as the step has, and those behind them are left. Assumes nothing.
use mathlib.Core.Path.{◌≡◌, sym, ap, subst}
use Prim.Native.Nat.{◌+◌, ◌-◌, ◌≤◌}
use native.Mathlib.Omega.{arith}
use Rattle.lines.specs.Crossings.{place}
use Rattle.routes.specs.Route.{course, SpotAt}
use Rattle.routes.proofs.Spots.{spot_byte, place_within}
use Rattle.trails.specs.Standing.{Ahead26, to_cross}
use Rattle.trails.proofs.Steps26.{crosses_some, ahead_within, stands_there}
use Rattle.trails.proofs.next_stand.Goals as goal
use Rattle.trails.proofs.next_stand.Goals.{After-faces_ahead-ahead, After-to_cross-faces}

pub to_cross-faces-requires : goal.to_cross-faces-requires
to_cross-faces-requires c =
    let k = c.args.lane.route in
    let h = c.requires in
    spot_byte _ k h.plan _ _ (place_within _ k h.plan h.number (omega (arith, h.below))) h.at.spot

-- what lies ahead of the number that is asked for
ahead : (c : After-faces_ahead-ahead) → Ahead26 c.args.lane.route c.requires.number c.args.t.left c.faces_ahead-ahead.result
ahead c = let h = c.requires in c.faces_ahead-ahead.ensures.leads h.number h.below h.at

-- the faces to cross are some of it
few : (c : After-to_cross-faces) → Ahead26 c.args.lane.route c.requires.number c.args.t.left c.faces_ahead-ahead.result →
    c.to_cross-faces.result ≤ c.faces_ahead-ahead.result
few c ahead =
    let h = c.requires in
    subst (λ n. n ≤ c.faces_ahead-ahead.result) (sym c.to_cross-faces.ensures)
    (crosses_some c.args.lane.cells.now c.args.lane.route h.plan h.number h.below c.args.t _ h.at.spot ahead).1

pub over_faces-requires : goal.over_faces-requires
over_faces-requires c =
    let earlier = goal.at.over_faces-requires c in
    let h = c.requires in
    record {
      bytes = _;
      plan = h.plan;
      number = h.number;
      at = h.at.spot;
      fits = omega (arith, few earlier.After-to_cross-faces (ahead earlier.After-faces_ahead-ahead), ahead_within c.args.lane.route h.number _ _ (ahead earlier.After-faces_ahead-ahead));
    }

pub overflow_sub-result : goal.overflow_sub-result
overflow_sub-result c =
    let earlier = goal.at.overflow_sub-result c in
    omega (arith, few earlier.After-to_cross-faces (ahead earlier.After-faces_ahead-ahead))

pub returns : goal.returns
returns c =
    let k = c.args.lane.route in
    let l = c.args.lane.cells.now in
    let t = c.args.t in
    let many : c.to_cross-faces.result ≡ to_cross l t c.faces_ahead-ahead.result = c.to_cross-faces.ensures in
    record {
      leads = λ n lt at.
          let a = c.faces_ahead-ahead.ensures.leads n lt at in
          let few = (crosses_some l k c.requires.plan n lt t _ at.spot a).1 in
          stands_there l k c.requires.plan n lt t _ c.faces_ahead-ahead.result at.spot a
          (subst (λ faces. SpotAt k (place (course k) (n + faces)) c.over_faces.result) many
          (c.over_faces.ensures.leads n (omega (arith, many, ahead_within k n _ _ a)) at.spot))
          (ap (λ faces. c.faces_ahead-ahead.result - faces) many);
    }
