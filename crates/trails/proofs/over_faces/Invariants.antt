use Prim.Native.Nat.{ℕ, ◌+◌, ◌≤◌}
use Rattle.lines.specs.Crossings.{place}
use Rattle.walks.specs.Numbers.{last_number}
use Rattle.routes.specs.Route.{course, SpotAt}
use Rattle.trails.proofs.over_faces.Given as goal

abbrev pub invariant-loop : goal.invariant-loop
invariant-loop l =
    (m : ℕ) → m + l.faces ≤ last_number l.k.p l.k.q → SpotAt l.k (place (course l.k) m) l.initial.s →
    SpotAt l.k (place (course l.k) (m + l.counter)) l.s
