-- `routes::crossed` meets its contract: small numbers have a sum that is read back as it is. Assumes nothing.
use mathlib.Core.Path.{◌≡◌, sym, ap, ◌∙◌}
use lib.IntN.{ℤ, ◌+ℤ◌}
use Rattle.cells.specs.Small.{Small}
use Rattle.cells.proofs.Machine.{held, sum_held}
use Rattle.lines.specs.Steps.{Axis, X, Y, Z}
use Rattle.lines.specs.declared.Tripod.{Tripod}
use Rattle.lines.specs.Decisions.{moved_values}
use Rattle.routes.specs.declared.Route.{Route}
use Rattle.routes.specs.declared.Spot.{Spot}
use Rattle.routes.specs.Route.{stride_on, crossed_spot}
use Rattle.routes.proofs.crossed.Goals as goal
use Rattle.routes.proofs.crossed.Goals.{in-X, in-Y, in-Z}

-- where the axis is a, and its stride was read
by : (k : Route) (s : Spot) {n : Axis} (a : Axis) {v : ℤ} {e : Tripod} → Small s.at → Small (stride_on k.strides a) → n ≡ a →
    v ≡ held (stride_on k.strides a) → e ≡ moved_values k.twice n s.e →
    ◌≡◌ {A = Spot} (record { at = held (held s.at +ℤ v); e = e }) (crossed_spot k n s)
by k s a at stride is read values =
    let sum = ap (λ v. held (held s.at +ℤ v)) read ∙ sum_held s.at (stride_on k.strides a) at stride
    ∙ ap (λ b. s.at +ℤ stride_on k.strides b) (sym is) in
    λ i. record { at = sum i; e = values i }

pub returns : goal.returns
returns c =
    let k = c.args.k in
    let s = c.args.s in
    let h = c.requires in
    elim c.match-n.branch [
      | in-X w ↦ by k s X h.at h.x w.in-X.is w.stride-is c.moved.ensures
      | in-Y w ↦ by k s Y h.at h.y w.in-Y.is w.stride-is c.moved.ensures
      | in-Z w ↦ by k s Z h.at h.z w.in-Z.is w.stride-is c.moved.ensures
    ]
